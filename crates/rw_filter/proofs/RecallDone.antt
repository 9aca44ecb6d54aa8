-- A block that was read, and then written as an extent of the file's own.
use Rattle.std.specs.Prelude.{◌≡◌, ◌≤◌, ◌<◌, ◌+◌, ◌-◌, ◌*◌, ℕ, false, min, T, List, length, take, drop, Option, Some, None, refl}
use Rattle.std.proofs.Common.{sym, ◌∙◌, ap, arith}
use Rattle.std.specs.Ordering.{nat_cmp}
use Rattle.std.specs.FinMap.{find, put, is_sorted}
use Rattle.vdisk.specs.declared.disk.Disk.{Ghosts}
use Rattle.cluster_space.specs.States.{free_in, deferred_in}
use Rattle.plain_volume.specs.Volume.{bytes_of, lost_where, is_within}
use Rattle.table_records.specs.Keys.{pair_cmp}
use Rattle.table_records.specs.Next.{sorted_typed}
use Rattle.table_records.specs.Tables.{file_codec}
use Rattle.table_records.specs.declared.records.FileRecord.{FileRecord}
use Rattle.volume_inside.specs.Changes.{with_block}
use Rattle.volume_inside.specs.Named.{clusters_of}
use Rattle.volume_inside.specs.Typed.{Typed}
use Rattle.volume_inside.specs.View.{file_cells, view}
use Rattle.volume_tables.specs.Ends.{unstaged_in}
use Rattle.volume_tables.specs.Pending.{pending_of}
use Rattle.volume_tables.specs.Reads.{ReadsOnly}
use Rattle.volume_tables.specs.Sound.{IsSound}
use Rattle.volume_tables.specs.Tables.{tables_now, inside_now, view_now, disk_of, stopped}
use Rattle.volume_tables.specs.declared.tables.Tables.{Tables}
use Rattle.volume_tables.proofs.Answers.{as_true}
use Rattle.volume_tables.proofs.Mapped.{maps_read}
use Rattle.volume_tables.proofs.Rereads.{same_inside}
use Rattle.volume_files.specs.Insides.{id_written}
use Rattle.volume_files.specs.Lengths.{length_in}
use Rattle.volume_files.specs.Writing.{IsWritten}
use Rattle.volume_files.proofs.Written.{sound_refused}
use Rattle.rw_filter.specs.Recalling.{block_count, lost_there, with_recalled, shown_bytes, IsRecalled}
use Rattle.rw_filter.proofs.Recalled.{put_again, reaches_no_more, inside_recalled, view_same}

module _ {D : Type 0} {d : Ghosts D} where
  sorted_files : (t : Tables D d) → T (is_sorted nat_cmp (tables_now t).files)
  sorted_files t = sorted_typed file_codec t.log.map (as_true t.contents.sorted)

  module _ (t u : Tables D d) (reads : ReadsOnly t u) where
    pub sound_read : IsSound t → stopped t ≡ false → IsSound u
    sound_read sound running = sound_refused t u sound running reads.leaves.clusters reads.now
        (λ runs. λ i. free_in (reads.states i) + deferred_in (reads.states i) + length (clusters_of (reads.now i)))
        (maps_read t u reads sound.maps)

    pub waits_read : pending_of u ≡ pending_of t
    waits_read = λ i. record {
      epoch = reads.leaves.epoch i;
      place = reads.leaves.place i;
      staged = reads.staged i;
      unstaged = unstaged_in (reads.ends i);
      free = free_in (reads.states i);
      worn = reads.leaves.worn i;
    }

    module _ (s : Tables D d) (file index count start : ℕ) (found : FileRecord)
        (there : find nat_cmp file (tables_now t).files ≡ Some found) (place : start ≡ 4096 * index)
        (is_count : count ≡ block_count (tables_now t) file index) (some : 0 < count)
        (bytes : List ℕ)
        (long : length bytes ≡ count) where
      counts : count ≡ min 4096 (found.length - 4096 * index)
      counts = is_count ∙ ap (λ (n : ℕ). min 4096 (n - 4096 * index)) (ap length_in there)

      same_files : IsWritten file start (start + length bytes) (tables_now u) (tables_now s)
          → (tables_now s).files ≡ (tables_now t).files
      same_files written =
          let found_there : find nat_cmp file (tables_now u).files ≡ Some found =
          ap (λ (q : Typed). find nat_cmp file q.files) reads.now ∙ there in
          let low : start + length bytes ≤ found.length = omega (arith, place, long, counts, some) in
          written.files found found_there
          ∙ (λ i. put nat_cmp file (reaches_no_more found (start + length bytes) low i) (reads.now i).files)
          ∙ put_again file found (tables_now t).files (sorted_files t) there

      pub recalled_done : IsWritten file start (start + length bytes) (tables_now u) (tables_now s)
          → IsRecalled file index (tables_now t) (tables_now s)
      recalled_done written = record {
        rest = written.extents.rest
            ∙ (λ i. record (reads.now i) { files = same_files written i; extents = (tables_now s).extents });
        others = λ k differ.
            written.extents.others k
            (λ touched.
            let block : k.1 ≡ index = omega (arith, touched.1, touched.2, place, long, counts) in
            differ (λ i. (touched.0 i, block i)))
            ∙ ap (λ (q : Typed). find pair_cmp k q.extents) reads.now;
        there = written.extents.touched (file, index)
            (refl, omega (arith, place), omega (arith, place, long, some));
      }

      module _ (read : bytes ≡ bytes_of (take count (drop start (file_cells (inside_now t) file)))) where
        shown_is : bytes ≡ shown_bytes (file_cells (inside_now t) file) index (block_count (tables_now t) file index)
        shown_is = read ∙ (λ i. bytes_of (take (is_count i) (drop (place i) (file_cells (inside_now t) file))))

        put_block : inside_now s ≡ id_written file start bytes (inside_now u)
            → inside_now s ≡ with_block (file, index) bytes (inside_now t)
        put_block written =
            written
            ∙ (λ i. id_written file (place i) bytes (same_inside t u reads i))
            ∙ inside_recalled (tables_now t) (disk_of t).image file index found there (sorted_files t) bytes
            (omega (arith, long, some)) (long ∙ counts)

        pub inside_done : inside_now s ≡ id_written file start bytes (inside_now u)
            → inside_now s ≡ with_recalled (tables_now t) file index (inside_now t)
        inside_done written =
            put_block written ∙ ap (λ (bs : List ℕ). with_block (file, index) bs (inside_now t)) shown_is

        pub view_done : lost_where (is_within start count) 0 (file_cells (inside_now t) file) ≡ None
            → inside_now s ≡ id_written file start bytes (inside_now u) → view_now s ≡ view_now t
        view_done whole written =
            ap view (put_block written)
            ∙ view_same (tables_now t) (disk_of t).image file index count found there counts bytes
            (read ∙ (λ i. bytes_of (take count (drop (place i) (file_cells (inside_now t) file)))))
            (sym (λ i. lost_where (is_within (place i) count) 0 (file_cells (inside_now t) file)) ∙ whole)

  -- what a read tells of the first lost cell
  pub lost_is : (t : Tables D d) (file index n start : ℕ) → start ≡ 4096 * index
      → n ≡ block_count (tables_now t) file index → (lost : Option ℕ)
      → lost_where (is_within start n) 0 (file_cells (inside_now t) file) ≡ lost
      → lost_there (tables_now t) (inside_now t) file index ≡ lost
  lost_is t file index n start place is_n lost is =
      sym (λ i. lost_where (is_within (place i) (is_n i)) 0 (file_cells (inside_now t) file)) ∙ is
