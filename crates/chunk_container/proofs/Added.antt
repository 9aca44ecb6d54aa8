-- A row that was added, once room was made.
use Rattle.std.specs.Prelude.{◌≡◌, ℕ, List, Some, Result, OnOk, OnErr, refl}
use Rattle.std.proofs.Common.{◌∙◌, ap, sym, subst, inl, inr}
use Rattle.std.proofs.lemmas.Result.{on_ok_weaker}
use Rattle.std.specs.FinMap.{find}
use Rattle.vdisk.specs.Ranges.{part}
use Rattle.vdisk.specs.declared.disk.Disk.{Ghosts}
use Rattle.plain_volume.specs.declared.call.Fault.{Fault}
use Rattle.table_records.specs.Keys.{pair_cmp}
use Rattle.table_records.specs.declared.chunk_records.Row.{Row}
use Rattle.table_records.specs.declared.chunk_records.Place.{Place}
use Rattle.volume_inside.specs.Bases.{Bases, bases_of}
use Rattle.volume_inside.specs.ChunkChanges.{Extends}
use Rattle.volume_inside.specs.ChunkRules.{MapsHold, PlaceOfHolds}
use Rattle.volume_inside.specs.Inside.{Inside, inside_at}
use Rattle.volume_inside.specs.Rules.{next_id_of, RulesHold}
use Rattle.volume_inside.specs.Typed.{Typed}
use Rattle.volume_inside.specs.View.{view}
use Rattle.volume_tables.specs.Tables.{tables_now, inside_now, view_now, disk_of, clusters_in}
use Rattle.volume_tables.specs.declared.tables.Tables.{Tables}
use Rattle.volume_tables.proofs.Answers.{ok_or_err}
use Rattle.chunk_container.specs.Bases.{bases_now, HasFirstCopy}
use Rattle.chunk_container.specs.Rows.{IsNewRow, with_new_row}
use Rattle.chunk_container.proofs.RowViews.{content_same, extends_new, view_new, copy_new}

module _ {D : Type 0} {d : Ghosts D} (t m p : Tables D d) (row : Row) (place : Place) (new : IsNewRow row)
    (fits : PlaceOfHolds (tables_now t).chunks.containers 0 place row) (now : tables_now m ≡ tables_now t)
    (inside : inside_now m ≡ inside_now t) (rules : RulesHold (clusters_in m) (tables_now m))
    (image : (disk_of p).image ≡ (disk_of m).image) (r : Result (Unit {0}) Fault)
    (ok : OnOk r (tables_now p ≡ with_new_row row place (tables_now m))) (err : OnErr r (tables_now p ≡ tables_now m)) where
  fits_now : PlaceOfHolds (tables_now m).chunks.containers 0 place row
  fits_now = subst (λ (q : Typed). PlaceOfHolds q.chunks.containers 0 place row) (sym now) fits

  pub extends_added : OnOk r (Extends (bases_now t) (bases_now p))
  extends_added = on_ok_weaker r (λ is.
      subst (λ (x : Bases × Bases). Extends x.0 x.1)
      (λ i. (ap (λ (j : Inside). j.bases) inside i, sym (λ k. bases_of (is k) (image k)) i))
      (extends_new (clusters_in m) (tables_now m) rules row place new fits_now (disk_of m).image)) ok

  pub view_added : MapsHold (inside_now m) → view_now p ≡ view_now t
  view_added maps = elim (ok_or_err r ok err) [
    | inl is ↦ (λ i. view (inside_at (is i) (image i)))
        ∙ view_new (clusters_in m) (tables_now m) rules row place new fits_now (disk_of m).image maps
        ∙ ap (λ (j : Inside). view j) inside
    | inr is ↦ (λ i. view (inside_at (is i) (image i))) ∙ ap (λ (j : Inside). view j) inside
  ]

-- the bytes of its first copy
pub copy_added : {D : Type 0} {d : Ghosts D} (t p : Tables D d) (row : Row) (place : Place) (id : ℕ)
    → inside_now p ≡ inside_at (with_new_row row place (tables_now t)) (disk_of t).image → id ≡ next_id_of (tables_now t)
    → HasFirstCopy id row place t p
copy_added t p row place id is drawn =
    ap (λ (i : Inside). find pair_cmp (id, 0) i.bases.copies) is
    ∙ ap (λ (x : ℕ). find pair_cmp (x, 0) (bases_of (with_new_row row place (tables_now t)) (disk_of t).image).copies) drawn
    ∙ copy_new (tables_now t) row place (disk_of t).image
    ∙ ap (λ (bytes : List ℕ). Some (part place.offset row.length bytes))
    (content_same (tables_now t).chunks (with_new_row row place (tables_now t)).chunks (disk_of t).image refl refl
    place.container)
