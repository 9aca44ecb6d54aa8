-- The maps of the bases of the tables now.
use Rattle.std.specs.Prelude.{◌≡◌, ◌<◌, ℕ, suc, T, List, length, Option, Some, None, IsTrue}
use Rattle.std.proofs.Common.{sym, ◌∙◌, ap, subst, arith}
use Rattle.std.specs.Ordering.{nat_cmp}
use Rattle.std.specs.FinMap.Entries.{is_sorted}
use Rattle.vdisk.specs.declared.disk.Disk.{Ghosts}
use Rattle.table_records.specs.Next.{sorted_typed}
use Rattle.table_records.specs.Tables.{file_codec}
use Rattle.table_records.specs.declared.records.FileRecord.{FileRecord}
use Rattle.row_reading.specs.Reading.{IsReadable}
use Rattle.volume_inside.specs.Bases.{Bases, bases_of}
use Rattle.volume_inside.specs.ChunkRules.{BaseHolds, MapsHold}
use Rattle.volume_inside.specs.ChunkTables.{ChunkTables}
use Rattle.volume_inside.specs.Entries.{Each}
use Rattle.volume_inside.specs.Typed.{Typed}
use Rattle.volume_inside.specs.Inside.{inside_at}
use Rattle.volume_tables.specs.Log.{log_now}
use Rattle.volume_tables.specs.Reads.{ReadsOnly, IsTold}
use Rattle.volume_tables.specs.Tables.{tables_now, inside_now, disk_of, next_after, HasMaps}
use Rattle.volume_tables.proofs.Ready.{files_ready}
use Rattle.volume_tables.proofs.Walked.{above, entries_left, walk_starts, walk_goes_on}
use Rattle.volume_tables.specs.declared.tables.Tables.{Tables}

-- ---- maps that stay

-- where the disk tells still what it holds, the maps are as they should be if they were so before
pub maps_then : {D : Type 0} {d : Ghosts D} (t u : Tables D d) → (disk_of u).tells ≡ (disk_of t).tells
    → (MapsHold (inside_now t) → MapsHold (inside_now u)) → HasMaps t → HasMaps u
maps_then t u tells stay maps told = stay (maps (sym tells ∙ told))

-- the same inside has the same maps
pub maps_same : {D : Type 0} {d : Ghosts D} (t u : Tables D d) → (disk_of u).tells ≡ (disk_of t).tells
    → inside_now u ≡ inside_now t → HasMaps t → HasMaps u
maps_same t u tells same maps = maps_then t u tells (subst MapsHold (sym same)) maps

-- the maps once the tables are these, over the same bytes
pub maps_changed : {D : Type 0} {d : Ghosts D} (t u : Tables D d) (q : Typed) → (disk_of u).tells ≡ (disk_of t).tells
    → tables_now u ≡ q → (disk_of u).image ≡ (disk_of t).image
    → (MapsHold (inside_now t) → MapsHold (inside_at q (disk_of t).image)) → HasMaps t → HasMaps u
maps_changed t u q tells now image stay maps =
    maps_then t u tells (λ hold. subst MapsHold (λ i. inside_at (sym now i) (sym image i)) (stay hold)) maps

-- as tables that are only read do
pub maps_read : {D : Type 0} {d : Ghosts D} (t u : Tables D d) → ReadsOnly t u → HasMaps t → HasMaps u
maps_read t u reads maps = maps_same t u reads.leaves.tells (λ i. inside_at (reads.now i) (reads.image i)) maps

-- where it is told what the stored tables are, the disk tells what it holds
pub tables_told : {D : Type 0} {d : Ghosts D} (t : Tables D d) → IsTold t → IsTrue (disk_of t).tells
tables_told t is = is.1.log.stands.told

-- ---- the maps of files, one after another

module _ (b : Bases) (files : List (ℕ × FileRecord)) (sorted : T (is_sorted nat_cmp files)) where
  starts : (next : Option (ℕ × FileRecord)) → next ≡ next_after nat_cmp None files → entries_left next files ≡ files
  starts next is =
      ap (λ (o : Option (ℕ × FileRecord)). entries_left o files) is ∙ walk_starts files sorted

  pub starts_held : (next : Option (ℕ × FileRecord)) → next ≡ next_after nat_cmp None files
      → Each (BaseHolds b) (entries_left next files) → Each (BaseHolds b) files
  starts_held next is left = subst (λ (es : List (ℕ × FileRecord)). Each (BaseHolds b) es) (starts next is) left

  pub starts_holds : (next : Option (ℕ × FileRecord)) → next ≡ next_after nat_cmp None files
      → Each (BaseHolds b) files → Each (BaseHolds b) (entries_left next files)
  starts_holds next is all = subst (λ (es : List (ℕ × FileRecord)). Each (BaseHolds b) es) (sym (starts next is)) all

  module _ (next later : Option (ℕ × FileRecord)) (id : ℕ) (file : FileRecord) (is : next ≡ Some (id, file)) where
    pub map_here : Each (BaseHolds b) (entries_left next files) → BaseHolds b id file
    map_here left =
        let both = subst (λ (o : Option (ℕ × FileRecord)). Each (BaseHolds b) (entries_left o files)) is left in both.0

    module _ (behind : later ≡ next_after nat_cmp (Some id) files) where
      rest : entries_left later files ≡ above id files
      rest = ap (λ (o : Option (ℕ × FileRecord)). entries_left o files) behind ∙ walk_goes_on id files sorted

      pub held_on : BaseHolds b id file → Each (BaseHolds b) (entries_left later files)
          → Each (BaseHolds b) (entries_left next files)
      held_on one left =
          subst (λ (o : Option (ℕ × FileRecord)). Each (BaseHolds b) (entries_left o files)) (sym is)
          (one, subst (λ (es : List (ℕ × FileRecord)). Each (BaseHolds b) es) rest left)

      pub holds_on : Each (BaseHolds b) (entries_left next files) → Each (BaseHolds b) (entries_left later files)
      holds_on left =
          let both = subst (λ (o : Option (ℕ × FileRecord)). Each (BaseHolds b) (entries_left o files)) is left in
          subst (λ (es : List (ℕ × FileRecord)). Each (BaseHolds b) es) (sym rest) both.1

      pub left_shorter : length (entries_left later files) < length (entries_left next files)
      left_shorter =
          let one : length (entries_left next files) ≡ suc (length (above id files)) =
          ap (λ (o : Option (ℕ × FileRecord)). length (entries_left o files)) is in
          omega (arith, one, ap (λ (es : List (ℕ × FileRecord)). length es) rest)

-- ---- what is told of tables goes on while they are only read

module _ {D : Type 0} {d : Ghosts D} (t u : Tables D d) (reads : ReadsOnly t u) where
  pub told_on : IsTold t → IsTold u
  told_on told = (told.0, reads.leaves.tables told.0 told.1)

  pub bases_on : bases_of (tables_now u) (disk_of u).image ≡ bases_of (tables_now t) (disk_of t).image
  bases_on = λ i. bases_of (reads.now i) (reads.image i)

  pub readable_on : IsReadable (tables_now t).chunks (disk_of t).image
      → IsReadable (tables_now u).chunks (disk_of u).image
  readable_on readable =
      subst (λ (p : ChunkTables × List ℕ). IsReadable p.0 p.1)
      (λ i. (let q : Typed = sym reads.now i in q.chunks, sym reads.image i)) readable

  pub base_from : (id : ℕ) (file : FileRecord) → BaseHolds (bases_of (tables_now u) (disk_of u).image) id file
      → BaseHolds (bases_of (tables_now t) (disk_of t).image) id file
  base_from id file holds = subst (λ (b : Bases). BaseHolds b id file) bases_on holds

  pub base_to : (id : ℕ) (file : FileRecord) → BaseHolds (bases_of (tables_now t) (disk_of t).image) id file
      → BaseHolds (bases_of (tables_now u) (disk_of u).image) id file
  base_to id file holds = subst (λ (b : Bases). BaseHolds b id file) (sym bases_on) holds

  pub next_on : (after : Option ℕ) (next : Option (ℕ × FileRecord)) → next ≡ next_after nat_cmp after (tables_now u).files
      → next ≡ next_after nat_cmp after (tables_now t).files
  next_on after next is = is ∙ ap (λ (q : Typed). next_after nat_cmp after q.files) reads.now

-- the files of tables are in the order of their ids
pub files_sorted : {D : Type 0} {d : Ghosts D} (t : Tables D d) → T (is_sorted nat_cmp (tables_now t).files)
files_sorted t = sorted_typed file_codec (log_now t.log) (files_ready t.contents).sorted
