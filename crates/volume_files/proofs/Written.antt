-- A file that bytes were written into.
use Rattle.std.specs.Prelude.{◌≡◌, ◌≤◌, ◌<◌, ◌+◌, ◌*◌, ◌/◌, ◌%◌, ℕ, Bool, true, false, cond, List, [], ◌∷◌}
use Rattle.std.specs.Prelude.{length, get_or, max, Option, Some, None, IsSome, Result, Ok, Err, OnErr, refl}
use Rattle.std.proofs.Common.{sym, ◌∙◌, ap, subst, arith, eqb-true}
use Rattle.std.proofs.lemmas.List.{get_or_past, length-take}
use Rattle.std.specs.Ordering.{nat_cmp, eq_by_cmp}
use Rattle.std.specs.Cmp.{nat_cmp_total, unsigned_tied}
use Rattle.std.specs.FinMap.{find, put, nat_cmp-IsAntisymmetric}
use Rattle.std.specs.FinMap.Entries.{find-put}
use Rattle.vdisk.specs.declared.disk.Disk.{Ghosts}
use Rattle.plain_volume.specs.Volume.{Cell, Byte, overwritten}
use Rattle.table_records.specs.Keys.{pair_cmp}
use Rattle.table_records.specs.declared.records.Extent.{Extent}
use Rattle.table_records.specs.declared.records.FileRecord.{FileRecord}
use Rattle.volume_inside.specs.Bases.{cell_of_record}
use Rattle.volume_inside.specs.ChunkRules.{MapRowHolds}
use Rattle.volume_inside.specs.Entries.{each_found, each_weaker}
use Rattle.volume_inside.specs.Inside.{inside_at, block_of, cluster_bytes}
use Rattle.volume_inside.specs.Layout.{data_clusters}
use Rattle.volume_inside.specs.Typed.{Typed, FileBlock}
use Rattle.volume_inside.specs.Changes.{with_file}
use Rattle.volume_inside.specs.View.{cell, cell_in, cells_or_none, file_cells}
use Rattle.volume_inside.specs.Rules.{next_id_of, RulesHold, FileHolds, ExtentHolds, LiesIn}
use Rattle.volume_inside.proofs.Cells.{map_same}
use Rattle.volume_inside.proofs.Lawfuls.{rules_with_file}
use Rattle.volume_tables.specs.Tables.{HasMaps}
use Rattle.volume_tables.specs.Tables.{tables_now, inside_now, disk_of, states_of, stopped}
use Rattle.volume_tables.specs.declared.tables.Tables.{Tables}
use Rattle.volume_tables.specs.Sound.{IsSound}
use Rattle.volume_files.specs.Writing.{named_bytes, laid_from, reaching, AreExtentsSet, IsWritten, LosesNone}
use Rattle.volume_tables.specs.Stages.{accounted}
use Rattle.volume_files.proofs.BlockSet.{found_file}
use Rattle.volume_files.proofs.Extents.{exact}
use Rattle.volume_files.proofs.Overwritten.{cells_overwritten}
use Rattle.volume_files.proofs.Taking.{told}
use Rattle.volume_files.proofs.Touched.{cell_named}

-- what always holds, also after a refusal
pub on_err_any : {A E P : Type 0} (r : Result A E) → P → OnErr r P
on_err_any (Ok a) holds = tt
on_err_any (Err e) holds = holds

-- ---- its record

module _ (n : ℕ) (t : Typed) (rules : RulesHold n t) (id to : ℕ) (was : FileRecord)
    (found : find nat_cmp id t.files ≡ Some was) where
  held_before : FileHolds (next_id_of t) id was
  held_before = each_found nat_cmp nat_cmp-IsAntisymmetric (FileHolds (next_id_of t)) id was t.files found rules.files

  pub grown_short : to ≤ 1073741824 → (reaching to was).length ≤ 1073741824
  grown_short short = omega (arith, held_before.short, short)

  pub rules_grown : to ≤ 1073741824 → RulesHold n (with_file id (reaching to was) t)
  rules_grown short =
      rules_with_file n t rules id was (reaching to was) found
      (record {
        some_id = held_before.some_id;
        drawn = held_before.drawn;
        short = grown_short short;
        cover = record {
          within = omega (arith, held_before.cover.within);
          no_map = held_before.cover.no_map;
          no_cover = held_before.cover.no_cover;
        };
      })
      (each_found nat_cmp nat_cmp-IsAntisymmetric (MapRowHolds t.chunks.rows) id was t.files found rules.map_rows)
      (each_weaker (ExtentHolds n t.files) (λ k e. k.0 ≡ id → 4096 * k.1 + e.valid ≤ (reaching to was).length) t.extents
      (λ k e holds same.
      let lies : 4096 * k.1 + e.valid ≤ was.length =
      subst (LiesIn k e) (ap (λ (x : ℕ). find nat_cmp x t.files) same ∙ found) holds.in_file in
      omega (arith, lies))
      rules.extents)

  -- zeros are behind its end
  pub zero_behind : (image : List ℕ) (p : ℕ) → was.length ≤ p → cell (inside_at t image) id was p ≡ Byte 0
  zero_behind image p past =
      cell_named t image id was p (find pair_cmp (id, p / 4096) t.extents)
      (λ low. absurd (omega (arith, low, past, held_before.cover.within))) refl
      ∙ ap Byte (by (find pair_cmp (id, p / 4096) t.extents) refl)
    where
      by : (o : Option Extent) → find pair_cmp (id, p / 4096) t.extents ≡ o
          → get_or (named_bytes o image) (p % 4096) 0 ≡ 0
      by None is = get_or_past [] (p % 4096) 0 (omega arith)
      by (Some e) is =
          let key : FileBlock = (id, p / 4096) in
          let holds = each_found pair_cmp exact (ExtentHolds n t.files) key e t.extents is rules.extents in
          let lies : 4096 * (p / 4096) + e.valid ≤ was.length = subst (LiesIn key e) found holds.in_file in
          let size = length-take e.valid (cluster_bytes e.cluster image) in
          get_or_past (block_of e image) (p % 4096) 0 (omega (arith, lies, size, past))

  -- the longer record shows the same cells
  pub same_cell : (image : List ℕ) (p : ℕ) → cell (inside_at t image) id (reaching to was) p ≡ cell
      (inside_at t image) id was p
  same_cell image p =
      let i = inside_at t image in
      ap (λ (x : Cell). cell_in (find pair_cmp (id, p / 4096) i.blocks) (p % 4096) x)
      (cell_of_record i.bases was (reaching to was) p refl (λ low. refl))

-- ---- its cells

found_beside_file : (x id : ℕ) (file : FileRecord) (files : List (ℕ × FileRecord)) → (x ≡ id → ⊥)
    → find nat_cmp x (put nat_cmp id file files) ≡ find nat_cmp x files
found_beside_file x id file files differ =
    find-put nat_cmp nat_cmp_total x id file files
    ∙ by (eq_by_cmp nat_cmp x id) (λ is. differ (eqb-true x id (sym (unsigned_tied x id) ∙ is)))
  where
    by : (t : Bool) → (t ≡ true → ⊥) → cond t (Some file) (find nat_cmp x files) ≡ find nat_cmp x files
    by true never = absurd (never refl)
    by false never = refl

module _ {D : Type 0} {d : Ghosts D} (t b s : Tables D d) (id at : ℕ) (grown : FileRecord)
    (set : tables_now s ≡ with_file id grown (tables_now b)) (image : (disk_of s).image ≡ (disk_of b).image) where
  pub cells_written : (n : ℕ) (was : FileRecord) (bytes : List ℕ) → RulesHold n (tables_now t)
      → find nat_cmp id (tables_now t).files ≡ Some was
      → grown ≡ reaching (at + length bytes) was → 0 < length bytes
      → ((p : ℕ) → p < grown.length → cell (inside_now b) id grown p ≡ laid_from (4096 * (at / 4096)) at bytes p
      (cell (inside_now t) id grown p))
      → file_cells (inside_now s) id ≡ overwritten at bytes (file_cells (inside_now t) id)
  cells_written n was [] rules found is some written = absurd (omega (arith, some))
  cells_written n was (x ∷ xs) rules found is some written =
      let bytes = x ∷ xs in
      let to : ℕ = at + length bytes in
      let q = tables_now t in
      let img = (disk_of t).image in
      let long : grown.length ≡ max was.length to = ap (λ (f : FileRecord). f.length) is in
      (λ i. cells_or_none (inside_at (set i) (image i)) id (find nat_cmp id (set i).files))
      ∙ ap (λ (o : Option FileRecord). cells_or_none (inside_at (with_file id grown (tables_now b))
      (disk_of b).image) id o) (found_file id grown (tables_now b).files)
      ∙ cells_overwritten (cell (inside_now t) id was) (cell (inside_now b) id grown) was.length grown.length at x xs
      long
      (zero_behind n q rules id to was found img)
      (λ p low. written p low ∙ ap (λ (y : Cell). laid_from (4096 * (at / 4096)) at bytes p y)
      (ap (λ (f : FileRecord). cell (inside_now t) id f p) is ∙ same_cell n q rules id to was found img p))
      ∙ ap (λ (o : Option FileRecord). overwritten at bytes (cells_or_none (inside_now t) id o)) (sym found)

  pub others_written : (tables_now b).files ≡ (tables_now t).files
      → ((other p : ℕ) (file : FileRecord) → (other ≡ id → ⊥)
      → cell (inside_now b) other file p ≡ cell (inside_now t) other file p)
      → (x : ℕ) → (x ≡ id → ⊥) → file_cells (inside_now s) x ≡ file_cells (inside_now t) x
  others_written files others x differ =
      (λ i. cells_or_none (inside_at (set i) (image i)) x (find nat_cmp x (set i).files))
      ∙ ap (λ (o : Option FileRecord). cells_or_none (inside_at (with_file id grown (tables_now b))
      (disk_of b).image) x o)
      (found_beside_file x id grown (tables_now b).files differ
      ∙ ap (λ (fs : List (ℕ × FileRecord)). find nat_cmp x fs) files)
      ∙ by (find nat_cmp x (tables_now t).files)
    where
      by : (o : Option FileRecord) → cells_or_none (inside_at (with_file id grown (tables_now b)) (disk_of b).image)
          x o ≡ cells_or_none (inside_now t) x o
      by None = refl
      by (Some file) = map_same (cell (inside_now b) x file) (cell (inside_now t) x file) 0 file.length
          (λ p low high. others x p file differ)

  -- ---- its tables

  pub tables_written : (was : FileRecord) (to : ℕ) → find nat_cmp id (tables_now t).files ≡ Some was
      → grown ≡ reaching to was
      → AreExtentsSet id (4096 * (at / 4096)) to (tables_now t) (tables_now b)
      → IsWritten id at to (tables_now t) (tables_now s)
  tables_written was to found is extents =
      let files : (tables_now b).files ≡ (tables_now t).files = ap (λ (q : Typed). q.files) extents.rest in
      let same : (tables_now s).extents ≡ (tables_now b).extents = ap (λ (q : Typed). q.extents) set in
      record {
        files = λ other there.
            let one : Some was ≡ Some other = sym found ∙ there in
            let it : was ≡ other = cc in
            ap (λ (q : Typed). q.files) set ∙ (λ i. put nat_cmp id
            ((is ∙ ap (λ (f : FileRecord). reaching to f) it) i) (files i));
        extents = record {
          rest = whole;
          others = λ k out. ap (λ (es : List (FileBlock × Extent)). find pair_cmp k es) same
              ∙ extents.others k (λ touched. out (touched.0, omega (arith, touched.1), touched.2));
          touched = λ k touched. subst (λ (es : List (FileBlock × Extent)). IsSome (find pair_cmp k es)) (sym same)
              (extents.touched k (touched.0, omega (arith, touched.1), touched.2));
        };
      }
    where
      whole : tables_now s ≡ record (record (tables_now t) { files = (tables_now s).files })
          { extents = (tables_now s).extents }
      whole =
          set ∙ ap (λ (q : Typed). with_file id grown q) extents.rest
          ∙ (λ i. record (record (tables_now t) { files = (files_is i) }) { extents = (extents_is i) })
        where
          files_is : put nat_cmp id grown (tables_now t).files ≡ (tables_now s).files
          files_is = sym (ap (λ (q : Typed). q.files) (set ∙ ap (λ (q : Typed). with_file id grown q) extents.rest))

          extents_is : (tables_now b).extents ≡ (tables_now s).extents
          extents_is = sym (ap (λ (q : Typed). q.extents) set)

  pub sound_written : IsSound t → stopped t ≡ false → s.clusters ≡ t.clusters → s.clusters ≡ b.clusters
      → RulesHold b.clusters (with_file id grown (tables_now b))
      → states_of s ≡ states_of b → (stopped s ≡ false → stopped b ≡ false) → LosesNone t b → HasMaps s → IsSound s
  sound_written sound running clusters after held states ran loses maps =
      let rules : RulesHold s.clusters (tables_now s) =
      subst (λ (p : ℕ × Typed). RulesHold p.0 p.1) (λ i. (sym after i, sym set i)) held in
      record {
        rules = rules;
        maps = maps;
        counted = λ runs.
            let count : accounted s ≡ accounted b = λ i. told (states i) (set i) in
            count ∙ loses (ran runs) ∙ sound.counted running ∙ ap (λ (n : ℕ). data_clusters n) (sym clusters);
      }

-- a call that was refused and changed no table
pub sound_refused : {D : Type 0} {d : Ghosts D} (t s : Tables D d) → IsSound t → stopped t ≡ false
    → s.clusters ≡ t.clusters → tables_now s ≡ tables_now t
    → LosesNone t s → HasMaps s → IsSound s
sound_refused t s sound running clusters same loses maps =
    let rules : RulesHold s.clusters (tables_now s) =
    subst (λ (p : ℕ × Typed). RulesHold p.0 p.1) (λ i. (sym clusters i, sym same i)) sound.rules in
    record {
      rules = rules;
      maps = maps;
      counted = λ runs. loses runs ∙ sound.counted running ∙ ap (λ (n : ℕ). data_clusters n) (sym clusters);
    }
