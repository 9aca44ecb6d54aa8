-- What is wanting for a call is told by the state of its volume.
use Rattle.std.specs.Prelude.{◌≡◌, ◌+◌, ◌-◌, ◌*◌, ◌/◌, ◌%◌, ◌&&◌, ℕ, Bool, true, false, not, cond, nat_eq}
use Rattle.std.specs.Prelude.{nat_lt, List, [], ◌∷◌}
use Rattle.std.specs.Prelude.{zero, suc, length, Option, Some, None, IsSome, refl}
use Rattle.std.specs.FinMap.{find}
use Rattle.std.specs.Option.{option_map}
use Rattle.std.specs.Ordering.{eq_by_cmp}
use Rattle.std.proofs.Common.{inl, inr, ⊎_elim, ap, sym, ◌∙◌, subst, arith, length-append, length-take}
use Rattle.vdisk.specs.Ranges.{length-part}
use Rattle.vdisk.specs.declared.disk.Disk.{Ghosts}
use Rattle.byte_map.specs.Words.{bytes_cmp}
use Rattle.plain_volume.specs.Step.{plain}
use Rattle.plain_volume.specs.declared.call.Call.{Call}
use Rattle.plain_volume.specs.declared.call.Call.TheVariants.{Create, Write, SetLength, Rename, Delete, Read, Digest}
use Rattle.plain_volume.specs.declared.call.Call.TheVariants.{Stat, Next, Flush}
use Rattle.plain_volume.specs.declared.call.Fault.{Fault}
use Rattle.plain_volume.specs.declared.call.Fault.TheVariants.{Worn, TableFull, Full}
use Rattle.plain_volume.specs.declared.call.Reply.{Reply}
use Rattle.table_records.specs.Codecs.{typed}
use Rattle.table_records.specs.Keys.{pair_cmp}
use Rattle.table_records.specs.Tables.{result_codec}
use Rattle.table_records.specs.declared.jobs.JobKind.{JobKind}
use Rattle.table_records.specs.declared.chunk_records.Place.{Place}
use Rattle.table_records.specs.declared.records.Extent.{Extent}
use Rattle.table_records.specs.declared.records.ResultRecord.{ResultRecord}
use Rattle.volume_inside.specs.ChunkTables.{ChunkTables, CopyKey, PageKey}
use Rattle.volume_inside.specs.Chunks.{copies_of}
use Rattle.volume_inside.specs.Pages.{page_clusters}
use Rattle.volume_inside.specs.Entries.{Each, each_weaker}
use Rattle.volume_inside.specs.Inside.{cluster_bytes, block_of, blocks_of, pages_in, inside_at, places_told, pages_told}
use Rattle.volume_inside.specs.Layout.{half_bytes, data_clusters}
use Rattle.volume_inside.specs.Named.{extent_clusters, clusters_of}
use Rattle.volume_inside.specs.Rules.{next_id_of, ExtentHolds}
use Rattle.volume_inside.specs.Typed.{Typed, FileBlock}
use Rattle.volume_tables.specs.Log.{log_now}
use Rattle.volume_tables.specs.Sizes.{tables_bytes}
use Rattle.volume_tables.specs.Tables.{tables_now, inside_now, checkpoint_of, would_wear, disk_of, clusters_in, view_now}
use Rattle.volume_tables.specs.Sound.{IsSound}
use Rattle.volume_tables.specs.declared.tables.Tables.{Tables}
use Rattle.volume_tables.proofs.Measured.{measured}
use Rattle.volume_tables.specs.Wants.{Needs, wanting, has_room, free_of, last_id, IsReplied, IsRepliedOrMemory}
use Rattle.volume_files.specs.Lengths.{for_file, length_of, length_wants}
use Rattle.volume_files.specs.Needs.{create_needs, rename_needs, delete_needs, write_needs, length_needs}
use Rattle.volume_files.specs.Needs.{missing, one_if_none, names_more, first_touched, touched}
use Rattle.volume_files.specs.Writing.{write_wants}
use Rattle.rw_filter.specs.Beside.{ReadsBeside}
use Rattle.volume_core.specs.States.{extents_told, tables_told, left_in, wanting_in, write_wants_in, length_wants_in}
use Rattle.volume_core.specs.States.{state_at, wants_in}
use Rattle.volume_core.specs.Moves.{ReadsABlock}
use Rattle.volume_core.specs.Wants.{IsWant}

-- ---- extents that are told by their blocks

-- a block of an extent has the extent's valid bytes
abbrev IsSized : List ℕ → FileBlock → Extent → Type 0
IsSized image k e = length (block_of e image) ≡ e.valid

lawful_sized : (n : ℕ) (t : Typed) (image : List ℕ) → length image ≡ 4096 * n → (k : FileBlock) (e : Extent)
    → ExtentHolds n t.files k e → IsSized image k e
lawful_sized n t image size k e holds =
    let low = holds.in_data.within in
    let whole = length-part (4096 * e.cluster) 4096 image (omega (arith, low, size)) in
    omega (arith, holds.in_cluster, whole, length-take e.valid (cluster_bytes e.cluster image))

told_length : (es : List (FileBlock × Extent)) (image : List ℕ)
    → length (extents_told (blocks_of es image)) ≡ length es
told_length [] image = refl
told_length (e ∷ es) image = ap (λ (n : ℕ). suc n) (told_length es image)

places_length : (t : ChunkTables) (ps : List (CopyKey × Place)) (image : List ℕ)
    → length (places_told (copies_of t ps image)) ≡ length ps
places_length t [] image = refl
places_length t (p ∷ ps) image = ap (λ (n : ℕ). suc n) (places_length t ps image)

pages_length : (es : List (PageKey × ℕ)) → length (pages_told (pages_in es)) ≡ length es
pages_length [] = refl
pages_length (e ∷ es) = ap (λ (n : ℕ). suc n) (pages_length es)

blocks_count : (es : List (FileBlock × Extent)) (image : List ℕ)
    → length (blocks_of es image) ≡ length (extent_clusters es)
blocks_count [] image = refl
blocks_count (e ∷ es) image = ap (λ (n : ℕ). suc n) (blocks_count es image)

pages_count : (es : List (PageKey × ℕ)) → length (pages_in es) ≡ length (page_clusters es)
pages_count [] = refl
pages_count (e ∷ es) = ap (λ (n : ℕ). suc n) (pages_count es)

clusters_count : (t : Typed) (image : List ℕ)
    → length (blocks_of t.extents image) + length (pages_in t.chunks.clusters) ≡ length (clusters_of t)
clusters_count t image =
    let blocks = blocks_count t.extents image in
    let pages = pages_count t.chunks.clusters in
    omega (arith, blocks, pages, length-append (extent_clusters t.extents) (page_clusters t.chunks.clusters))

abbrev valid_of : Option Extent → Option ℕ
valid_of o = option_map (λ (e : Extent). e.valid) o

found_told : (k : FileBlock) (es : List (FileBlock × Extent)) (image : List ℕ) → Each (IsSized image) es
    → valid_of (find pair_cmp k (extents_told (blocks_of es image))) ≡ valid_of (find pair_cmp k es)
found_told k [] image sized = refl
found_told k (e ∷ es) image sized =
    elim (eq_by_cmp pair_cmp k e.0) as (λ b.
    valid_of (cond b (Some (record { cluster = 0; valid = length (block_of e.1 image) }))
    (find pair_cmp k (extents_told (blocks_of es image))))
    ≡ valid_of (cond b (Some e.1) (find pair_cmp k es))) [
      | true ↦ ap (λ (n : ℕ). Some n) sized.0
      | false ↦ found_told k es image sized.1
    ]

-- an extent that is there is told
there_told : (k : FileBlock) (es : List (FileBlock × Extent)) (image : List ℕ) → Each (IsSized image) es
    → IsSome (find pair_cmp k es) → IsSome (find pair_cmp k (extents_told (blocks_of es image)))
there_told k es image sized =
    by (find pair_cmp k es) (find pair_cmp k (extents_told (blocks_of es image))) (found_told k es image sized)
  where
    by : (a b : Option Extent) → valid_of b ≡ valid_of a → IsSome a → IsSome b
    by (Some e) (Some f) same there = refl
    by (Some e) None same there = absurd (cc)
    by None b same there = absurd (cc)

-- whether there is an extent, and whether it is cut, is told by its valid bytes
none_by_valid : (o : Option Extent) → one_if_none (valid_of o) ≡ one_if_none o
none_by_valid None = refl
none_by_valid (Some e) = refl

abbrev cut_by : ℕ → Option ℕ → Bool
cut_by rest None = false
cut_by rest (Some valid) = nat_lt 0 rest && nat_lt rest valid

cut_by_valid : (rest : ℕ) (o : Option Extent) → cut_by rest (valid_of o) ≡ names_more rest o
cut_by_valid rest None = refl
cut_by_valid rest (Some e) = refl

module _ (t : Typed) (image : List ℕ) (sized : Each (IsSized image) t.extents) where
  missing_told : (file first n : ℕ) → missing (tables_told (inside_at t image)) file first n
      ≡ missing t file first n
  missing_told file first zero = refl
  missing_told file first (suc n) =
      let here : one_if_none (find pair_cmp (file, first) (extents_told (blocks_of t.extents image)))
      ≡ one_if_none (find pair_cmp (file, first) t.extents) =
      sym (none_by_valid (find pair_cmp (file, first) (extents_told (blocks_of t.extents image))))
      ∙ ap one_if_none (found_told (file, first) t.extents image sized)
      ∙ none_by_valid (find pair_cmp (file, first) t.extents) in
      λ i. here i + missing_told file (first + 1) n i

  cut_told : (rest : ℕ) (k : FileBlock) → names_more rest (find pair_cmp k (extents_told (blocks_of t.extents image)))
      ≡ names_more rest (find pair_cmp k t.extents)
  cut_told rest k =
      sym (cut_by_valid rest (find pair_cmp k (extents_told (blocks_of t.extents image))))
      ∙ ap (cut_by rest) (found_told k t.extents image sized)
      ∙ cut_by_valid rest (find pair_cmp k t.extents)

  pub write_told : (file at count : ℕ) → write_needs (tables_told (inside_at t image)) file at count
      ≡ write_needs t file at count
  write_told file at count = λ i. record {
    draws = false;
    grows = 24 * missing_told file (first_touched at) (touched at count) i;
    records = 38 + 55 * touched at count;
    clusters = touched at count;
  }

  pub length_told : (file old len : ℕ) → length_needs (tables_told (inside_at t image)) file old len
      ≡ length_needs t file old len
  length_told file old len = λ i. record {
    draws = false;
    grows = 0;
    records = 38 + cond (nat_lt len old) (31 + cond (cut_told (len % 4096) (file, len / 4096) i) 24 0) 0;
    clusters = 0;
  }

for_file_alike : (o : Option ℕ) (a b : ℕ → Option Fault) → ((id : ℕ) → a id ≡ b id) → for_file o a ≡ for_file o b
for_file_alike None a b same = refl
for_file_alike (Some id) a b same = same id

module _ {D : Type 0} {d : Ghosts D} where
  -- the file that a name has in the tables
  abbrev pub file_of : Tables D d → List ℕ → Option ℕ
  file_of t name = find bytes_cmp name (tables_now t).names

  -- what the tables want for each call
  abbrev pub tables_want : Tables D d → Call → Option Fault
  tables_want t (Create name) = wanting t (create_needs name)
  tables_want t (Write name at bytes) =
      for_file (file_of t name) (λ file. write_wants t file at bytes)
  tables_want t (SetLength name len) = length_wants t name len
  tables_want t (Rename from to) = wanting t (rename_needs from to)
  tables_want t (Delete name) = wanting t (delete_needs name)
  tables_want t Flush = cond (would_wear t) (Some Worn) None
  tables_want t (Read name at count) = None
  tables_want t (Digest name) = None
  tables_want t (Stat name) = None
  tables_want t (Next after) = None

  pub left_told : (t : Tables D d) → left_in (state_at t) ≡ free_of t
  left_told t = ap (λ (n : ℕ). data_clusters (clusters_in t) - n)
      (clusters_count (tables_now t) (disk_of t).image)

  module _ (t : Tables D d) (sound : IsSound t) where
    pub sized : Each (IsSized (disk_of t).image) (tables_now t).extents
    sized =
        each_weaker (ExtentHolds (clusters_in t) (tables_now t).files) (IsSized (disk_of t).image) (tables_now t).extents
        (lawful_sized (clusters_in t) (tables_now t) (disk_of t).image t.size) sound.rules.extents

    pub checkpoint_told : tables_bytes (tables_told (inside_now t)) ≡ checkpoint_of t
    checkpoint_told =
        let four : length (typed result_codec (log_now t.log)) ≡ 4 =
        ap (λ (es : List (JobKind × ResultRecord)). length es) t.contents.ends_there in
        omega (
          arith,
          (measured (log_now t.log) t.contents.spelled).1,
          four,
          told_length (tables_now t).extents (disk_of t).image,
          places_length (tables_now t).chunks (tables_now t).chunks.places (disk_of t).image,
          pages_length (tables_now t).chunks.clusters,
        )

    wanting_told : (n : Needs) → wanting_in (state_at t) n ≡ wanting t n
    wanting_told n = λ i.
        cond (n.draws && nat_eq (next_id_of (tables_now t)) last_id) (Some Worn)
        (cond (nat_lt (half_bytes (clusters_in t)) (checkpoint_told i + n.grows)) (Some TableFull)
        (cond (nat_lt (left_told t i) n.clusters) (Some (Full n.clusters (left_told t i)))
        (cond (not (has_room t n) && would_wear t) (Some Worn) None)))

    write_wants_told : (file at : ℕ) (bytes : List ℕ)
        → write_wants_in (state_at t) file at bytes ≡ write_wants t file at bytes
    write_wants_told file at [] = refl
    write_wants_told file at (b ∷ bytes) =
        wanting_told (write_needs (tables_told (inside_now t)) file at (length (b ∷ bytes)))
        ∙ ap (wanting t)
        (write_told (tables_now t) (disk_of t).image sized file at (length (b ∷ bytes)))

    length_wants_told : (file len : ℕ) → length_wants_in (state_at t) file len
        ≡ wanting t (length_needs (tables_now t) file (length_of (tables_now t) file) len)
    length_wants_told file len =
        let old = length_of (tables_now t) file in
        wanting_told (length_needs (tables_told (inside_now t)) file old len)
        ∙ ap (wanting t) (length_told (tables_now t) (disk_of t).image sized file old len)

    -- WHAT IS WANTING IS TOLD BY THE STATE
    pub wants_told : (call : Call) → wants_in (state_at t) call ≡ tables_want t call
    wants_told (Create name) = wanting_told (create_needs name)
    wants_told (Write name at bytes) =
        for_file_alike (file_of t name) _ _
        (λ file. write_wants_told file at bytes)
    wants_told (SetLength name len) =
        for_file_alike (file_of t name) _ _ (λ file. length_wants_told file len)
    wants_told (Rename from to) = wanting_told (rename_needs from to)
    wants_told (Delete name) = wanting_told (delete_needs name)
    wants_told Flush = refl
    wants_told (Read name at count) = refl
    wants_told (Digest name) = refl
    wants_told (Stat name) = refl
    wants_told (Next after) = refl

    -- a reply by what the tables want is one by what the state wants
    pub replied_told : (call : Call) (before now : ℕ) (given : Reply)
        → IsReplied (plain (view_now t) call) (tables_want t call) before now given
        → IsReplied (plain (view_now t) call) (wants_in (state_at t) call) before now given
    replied_told call before now given =
        subst (λ (w : Option Fault). IsReplied (plain (view_now t) call) w before now given) (sym (wants_told call))

    pub replied_told_too : (call : Call) (before now : ℕ) (given : Reply)
        → IsRepliedOrMemory (plain (view_now t) call) (tables_want t call) before now given
        → IsRepliedOrMemory (plain (view_now t) call) (wants_in (state_at t) call) before now given
    replied_told_too call before now given =
        subst (λ (w : Option Fault). IsRepliedOrMemory (plain (view_now t) call) w before now given)
        (sym (wants_told call))

    pub want_told : (call : Call) → IsWant call (tables_want t call) → IsWant call (wants_in (state_at t) call)
    want_told call = subst (λ (w : Option Fault). IsWant call w) (sym (wants_told call))

    -- a block that a write reads first is there in the inside too
    pub reads_told : (name : List ℕ) (id at count : ℕ) → file_of t name ≡ Some id
        → ReadsBeside (tables_now t) id at count → ReadsABlock name at count (state_at t)
    reads_told name id at count named reads =
        record {
          id = id;
          named = named;
          reads = record {
            place = reads.place;
            beside = reads.beside;
            below = reads.below;
            there = ⊎_elim
                (λ is. inl (there_told (id, reads.place / 4096) (tables_now t).extents (disk_of t).image sized is))
                (λ covered. inr covered)
                reads.there;
          };
        }
