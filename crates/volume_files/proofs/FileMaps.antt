-- The maps of bases, once files are set, made, dropped or named otherwise.
use Rattle.std.specs.Prelude.{◌≡◌, ◌≤◌, ◌/◌, ◌%◌, ◌==◌, nat_lt, ℕ, Bool, true, false, not, min, nat_eq, if◌then◌else◌, List, Option, Some, None, refl}
use Rattle.std.proofs.Common.{◌∙◌, ap, sym, subst, arith, eqb-true}
use Rattle.std.specs.Ordering.{nat_cmp}
use Rattle.std.specs.FinMap.{find, put, nat_cmp-IsAntisymmetric}
use Rattle.vdisk.specs.declared.disk.Disk.{Ghosts}
use Rattle.table_records.specs.Keys.{pair_cmp}
use Rattle.table_records.specs.declared.records.Extent.{Extent}
use Rattle.table_records.specs.declared.records.FileRecord.{FileRecord}
use Rattle.volume_inside.specs.Bases.{Bases, bases_of}
use Rattle.volume_inside.specs.Changes.{with_file, keep_extents}
use Rattle.volume_inside.specs.ChunkRules.{BaseHolds, MapsHold}
use Rattle.volume_inside.specs.Entries.{Each, each_found, each_put, each_where_key}
use Rattle.volume_inside.specs.Inside.{Inside, inside_at}
use Rattle.volume_inside.specs.Rules.{next_id_of}
use Rattle.volume_inside.specs.Typed.{Typed, FileBlock}
use Rattle.volume_inside.proofs.MapsKept.{base_shorter, base_none}
use Rattle.volume_tables.specs.Tables.{tables_now, inside_now, disk_of, HasMaps}
use Rattle.volume_tables.specs.declared.tables.Tables.{Tables}
use Rattle.volume_files.specs.Lengths.{cut_extent, cut_if, lies_behind, record_resized, resized_in, with_extent_if}
use Rattle.volume_files.specs.Names.{empty_file, with_new, without_name}

-- ---- the record of one file

-- a file that covers no more than it did, with the same map
module _ {D : Type 0} {d : Ghosts D} (t s : Tables D d) (id : ℕ) (was now : FileRecord) (es : List (FileBlock × Extent))
  where
    pub maps_with_file : find nat_cmp id (tables_now t).files ≡ Some was → now.covers ≤ was.covers
        → ((now.covers ≡ 0 → ⊥) → now.map_row ≡ was.map_row)
        → tables_now s ≡ with_file id now (record (tables_now t) { extents = es })
        → inside_at (tables_now t) (disk_of s).image ≡ inside_now t → (disk_of s).tells ≡ (disk_of t).tells
        → HasMaps t → HasMaps s
    maps_with_file found less same set frame tells maps told =
        let old : MapsHold (inside_now t) = maps (sym tells ∙ told) in
        let b : Bases = bases_of (tables_now t) (disk_of t).image in
        let files : List (ℕ × FileRecord) = put nat_cmp id now (tables_now t).files in
        let one : BaseHolds b id was =
        each_found nat_cmp nat_cmp-IsAntisymmetric (BaseHolds b) id was (tables_now t).files found old in
        let all : Each (BaseHolds b) files =
        each_put nat_cmp nat_cmp-IsAntisymmetric (BaseHolds b) id now (tables_now t).files
        (base_shorter b id id was now less same one) old in
        let there : Each (BaseHolds (bases_of (tables_now t) (disk_of s).image)) files =
        subst (λ (i : Inside). Each (BaseHolds i.bases) files) (sym frame) all in
        subst (λ (q : Typed). MapsHold (inside_at q (disk_of s).image)) (sym set) there

-- ---- another length

-- a cut changes extents alone
cut_rest : (c : Bool) (id len : ℕ) (t : Typed) → cut_if c id len t ≡ record t { extents = (cut_if c id len t).extents }
cut_rest false id len t = refl
cut_rest true id len t =
    by (cut_extent (len % 4096) (find pair_cmp (id, len / 4096) t.extents))
  where
    by : (o : Option Extent) → keep_extents (λ k. not (lies_behind id len k)) (with_extent_if (id, len / 4096) o t)
        ≡ record t {
          extents = (let q = keep_extents (λ k. not (lies_behind id len k)) (with_extent_if (id, len / 4096) o t) in
              q.extents);
        }
    by None = refl
    by (Some e) = refl

-- a shorter file covers no more, with the same map
resized_map : (len : ℕ) (file : FileRecord) → ((record_resized len file).covers ≡ 0 → ⊥)
    → (record_resized len file).map_row ≡ file.map_row
resized_map len file some = by (nat_eq (min file.covers len) 0) refl
  where
    by : (b : Bool) → nat_eq (min file.covers len) 0 ≡ b → (if b then 0 else file.map_row) ≡ file.map_row
    by true is = absurd (some (eqb-true (min file.covers len) 0 is))
    by false is = refl

module _ {D : Type 0} {d : Ghosts D} (t s : Tables D d) where
  pub maps_resized : (id len : ℕ) (file : FileRecord) → find nat_cmp id (tables_now t).files ≡ Some file
      → tables_now s ≡ resized_in id file len (tables_now t) → (disk_of s).image ≡ (disk_of t).image
      → (disk_of s).tells ≡ (disk_of t).tells → HasMaps t → HasMaps s
  maps_resized id len file found set image tells maps =
      let cut : Typed = cut_if (nat_lt len file.length) id len (tables_now t) in
      maps_with_file t s id file (record_resized len file) cut.extents found (omega arith) (resized_map len file)
      (set ∙ ap (λ (q : Typed). with_file id (record_resized len file) q)
      (cut_rest (nat_lt len file.length) id len (tables_now t)))
      (ap (λ (i : List ℕ). inside_at (tables_now t) i) image) tells maps

-- ---- files that are made, dropped and named otherwise

module _ (t : Typed) (image : List ℕ) (maps : MapsHold (inside_at t image)) where
  pub maps_new : (name : List ℕ) → MapsHold (inside_at (with_new name t) image)
  maps_new name =
      let b : Bases = bases_of t image in
      each_put nat_cmp nat_cmp-IsAntisymmetric (BaseHolds b) (next_id_of t) empty_file t.files
      (base_none b (next_id_of t) empty_file refl) maps

  pub maps_gone : (name : List ℕ) (id : ℕ) → MapsHold (inside_at (without_name name id t) image)
  maps_gone name id = each_where_key nat_cmp (BaseHolds (bases_of t image)) (λ x. not (x == id)) t.files maps
