-- What another length of a file answers and leaves.
use Rattle.std.specs.Prelude.{◌≡◌, ◌≤◌, ◌<◌, ℕ, Bool, false, not, List, Option, Some, None, IsSomeAnd, Ok}
use Rattle.std.proofs.Common.{sym, ◌∙◌, ap, subst, arith}
use Rattle.std.specs.Ordering.{nat_cmp}
use Rattle.std.specs.FinMap.{find, nat_cmp-IsAntisymmetric}
use Rattle.std.proofs.lemmas.Bool.{le-ltb}
use Rattle.groundwork.specs.declared.limits.TheConstants.{LAST_ID}
use Rattle.vdisk.specs.declared.disk.Disk.{Ghosts}
use Rattle.byte_map.specs.Words.{bytes_cmp}
use Rattle.plain_volume.specs.Step.{Outcome, plain, after, left_by, at_file, refuse_if, set_length}
use Rattle.plain_volume.specs.Volume.{resized, with_file as with_cells}
use Rattle.plain_volume.specs.declared.call.Call.TheVariants.{SetLength}
use Rattle.plain_volume.specs.declared.call.Reply.TheVariants as reply
use Rattle.plain_volume.specs.declared.call.Fault.TheVariants.{BadName, TooLarge}
use Rattle.plain_volume.specs.declared.limits.TheConstants.{MOST_BYTES_OF_A_FILE}
use Rattle.table_records.specs.Keys.{single_cmp}
use Rattle.table_records.specs.declared.records.VolumeRecord.{VolumeRecord}
use Rattle.table_records.specs.declared.records.FileRecord.{FileRecord}
use Rattle.volume_inside.specs.Entries.{each_found}
use Rattle.volume_inside.specs.Inside.{Inside, inside_at}
use Rattle.volume_inside.specs.Layout.{data_clusters}
use Rattle.volume_inside.specs.Rules.{id_after, next_id_of, IsVolumeRecord, FileHolds, RulesHold}
use Rattle.volume_inside.specs.Typed.{Typed}
use Rattle.volume_inside.specs.View.{file_cells, view}
use Rattle.volume_tables.specs.Tables.{tables_now, inside_now, view_now, disk_of, clusters_in, stopped}
use Rattle.volume_tables.specs.declared.tables.Tables.{Tables}
use Rattle.volume_tables.specs.Sound.{IsSound}
use Rattle.volume_tables.specs.Stages.{Stages}
use Rattle.volume_files.specs.Found.{IsFileOf}
use Rattle.volume_files.specs.Lengths.{resized_in}
use Rattle.volume_files.specs.Needs.{length_needs}
use Rattle.volume_files.proofs.Pending.{found_same}
use Rattle.volume_files.proofs.Counted.{extents_in_order}
use Rattle.volume_files.proofs.CutCells.{view_resized}
use Rattle.volume_files.proofs.CutExtents.{rules_resized}
use Rattle.volume_files.proofs.Found.{names_in_order}
use Rattle.volume_files.proofs.FileMaps.{maps_resized}

-- the id of a file was drawn
pub small_id : (n : ℕ) (t : Typed) → RulesHold n t → (id : ℕ) (file : FileRecord)
    → find nat_cmp id t.files ≡ Some file → id ≤ LAST_ID
small_id n t rules id file found =
    let holds = each_found nat_cmp nat_cmp-IsAntisymmetric (FileHolds (next_id_of t)) id file t.files found rules.files in
    by (find single_cmp tt t.volume) rules.records.volume holds.drawn
  where
    by : (o : Option VolumeRecord) → IsSomeAnd o IsVolumeRecord → id < id_after o → id ≤ LAST_ID
    by None some drawn = absurd (omega (arith, drawn))
    by (Some v) some drawn = (let last = some.last_id in omega (arith, drawn, last))

-- the file of a name is one, and so is what another length of it stages
pub records_same : {D : Type 0} {d : Ghosts D} (t : Tables D d) (name : List ℕ) (len a b : ℕ) (f g : FileRecord)
    → IsFileOf t name a f → IsFileOf t name b g
    → (length_needs (tables_now t) a f.length len).records ≡ (length_needs (tables_now t) b g.length len).records
records_same t name len a b f g one two =
    let id : a ≡ b = found_same (sym one.named ∙ two.named) in
    let file : f ≡ g = found_same (sym one.there ∙ ap (λ (x : ℕ). find nat_cmp x (tables_now t).files) id ∙ two.there) in
    λ i. (length_needs (tables_now t) (id i) (file i).length len).records

module _ {D : Type 0} {d : Ghosts D} (t : Tables D d) (name : List ℕ) (len id : ℕ) (file : FileRecord)
    (is : IsFileOf t name id file) where
  pub outcome_found : plain (view_now t) (SetLength name len) ≡ set_length name len (view_now t)
      (file_cells (inside_now t) id)
  outcome_found = λ i. refuse_if (not (is.lawful i)) BadName (at_file (is.cells i) (set_length name len (view_now t)))

  pub answered : len ≤ MOST_BYTES_OF_A_FILE → plain (view_now t) (SetLength name len)
      ≡ Ok (reply.Done, with_cells name (resized len (file_cells (inside_now t) id)) (view_now t))
  answered few = outcome_found ∙ ap (λ (b : Bool). refuse_if b (TooLarge MOST_BYTES_OF_A_FILE)
      (Ok (reply.Done, with_cells name (resized len (file_cells (inside_now t) id)) (view_now t))))
      (le-ltb MOST_BYTES_OF_A_FILE len few)

  -- what is staged where there is room
  module _ (u s : Tables D d) (now : tables_now u ≡ tables_now t) (inside : inside_now u ≡ inside_now t)
      (sound : IsSound u)
      (runs : stopped u ≡ false) (few : len ≤ MOST_BYTES_OF_A_FILE) (bytes : ℕ) (staged : Stages bytes u s)
      (changed : tables_now s ≡ resized_in id file len (tables_now u)) where
    there : find nat_cmp id (tables_now u).files ≡ Some file
    there = ap (λ (q : Typed). find nat_cmp id q.files) now ∙ is.there

    pub sound_resized : IsSound s
    sound_resized =
        let rules : RulesHold (clusters_in s) (tables_now s) =
        subst (λ (p : ℕ × Typed). RulesHold p.0 p.1) (λ i. (sym staged.leaves.clusters i, sym changed i))
        (rules_resized id len (tables_now u) (clusters_in u) sound.rules (extents_in_order u u) file there few) in
        record {
          rules = rules;
          maps = maps_resized u s id len file there changed staged.image staged.leaves.tells sound.maps;
          counted = λ run. staged.counts ∙ sound.counted runs ∙ ap data_clusters (sym staged.leaves.clusters);
        }

    pub view_left : view_now s ≡ after (view_now t) (SetLength name len) reply.Done
    view_left =
        (λ i. view (inside_at (changed i) (staged.image i)))
        ∙ view_resized (clusters_in u) (tables_now u) (disk_of u).image sound.rules id len file there name
        (names_in_order u)
        (ap (λ (q : Typed). find bytes_cmp name q.names) now ∙ is.named)
        ∙ ap (λ (i : Inside). with_cells name (resized len (file_cells i id)) (view i)) inside
        ∙ sym (ap (λ (o : Outcome). left_by o (view_now t) reply.Done) (answered few))
