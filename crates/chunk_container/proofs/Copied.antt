-- A copy that was put, once room was made.
use Rattle.std.specs.Prelude.{◌≡◌, ℕ, Option, Some, None, IsSomeAnd, Result, OnOk, OnErr, refl}
use Rattle.std.proofs.Common.{◌∙◌, ap, sym, inl, inr}
use Rattle.std.specs.Ordering.{nat_cmp}
use Rattle.std.specs.FinMap.{find}
use Rattle.vdisk.specs.declared.disk.Disk.{Ghosts}
use Rattle.plain_volume.specs.declared.call.Fault.{Fault}
use Rattle.table_records.specs.Keys.{pair_cmp}
use Rattle.table_records.specs.Orders.{pair_total}
use Rattle.table_records.specs.declared.chunk_records.Row.{Row}
use Rattle.table_records.specs.declared.chunk_records.Place.{Place}
use Rattle.volume_inside.specs.Bases.{Bases, bases_of}
use Rattle.volume_inside.specs.Changes.{with_place}
use Rattle.volume_inside.specs.ChunkRules.{PlaceOfHolds}
use Rattle.volume_inside.specs.ChunkTables.{CopyKey}
use Rattle.volume_inside.specs.Chunks.{chunk}
use Rattle.volume_inside.specs.Inside.{Inside, inside_at}
use Rattle.volume_inside.specs.Typed.{Typed}
use Rattle.volume_tables.specs.Tables.{tables_now, inside_now, disk_of}
use Rattle.volume_tables.specs.declared.tables.Tables.{Tables}
use Rattle.volume_tables.proofs.Answers.{ok_or_err}
use Rattle.chunk_container.specs.Bases.{bases_now}
use Rattle.chunk_container.proofs.Finds.{found_other}
use Rattle.chunk_container.proofs.OneRow.{chunks_stay}
use Rattle.chunk_container.proofs.RowRules.{exact_keys}
use Rattle.chunk_container.proofs.RowViews.{copy_same}

module _ {D : Type 0} {d : Ghosts D} (t m p : Tables D d) (id copy : ℕ) (place : Place)
    (now : tables_now m ≡ tables_now t) (inside : inside_now m ≡ inside_now t)
    (image : (disk_of p).image ≡ (disk_of m).image) (stays : chunk (bases_now p) id ≡ chunk (bases_now t) id) where
  put_stay : (row : Row) → find nat_cmp id (tables_now m).chunks.rows ≡ Some row → row.redirect ≡ 0
      → tables_now p ≡ with_place (id, copy) place (tables_now m) → (x : ℕ)
      → chunk (bases_now p) x ≡ chunk (bases_now t) x
  put_stay row there own is x =
      let u : Typed = with_place (id, copy) place (tables_now m) in
      let last : bases_now p ≡ bases_of u (disk_of m).image = (λ i. bases_of (is i) (image i)) in
      let first : bases_now m ≡ bases_now t = ap (λ (i : Inside). i.bases) inside in
      ap (λ (b : Bases). chunk b x) last
      ∙ chunks_stay (bases_now m) (bases_of u (disk_of m).image) id row refl
      (λ y other differ. copy_same (tables_now m).chunks u.chunks (disk_of m).image refl refl y other refl
      (found_other pair_cmp pair_total (y, other) (id, copy) place (tables_now m).chunks.places
      (λ tie. differ (ap (λ (k : CopyKey). k.0) (exact_keys (y, other) (id, copy) tie)))))
      there own
      (sym (ap (λ (b : Bases). chunk b id) last) ∙ stays ∙ sym (ap (λ (b : Bases). chunk b id) first)) x
      ∙ ap (λ (b : Bases). chunk b x) first

  -- where the chunk of its row stays, all do
  pub copied_stay : IsSomeAnd (find nat_cmp id (tables_now t).chunks.rows)
      (PlaceOfHolds (tables_now t).chunks.containers copy place)
      → (r : Result (Unit {0}) Fault) → OnOk r (tables_now p ≡ with_place (id, copy) place (tables_now m))
      → OnErr r (tables_now p ≡ tables_now m) → (x : ℕ) → chunk (bases_now p) x ≡ chunk (bases_now t) x
  copied_stay fits r ok err x = by (find nat_cmp id (tables_now t).chunks.rows) refl fits
    where
      by : (o : Option Row) → find nat_cmp id (tables_now t).chunks.rows ≡ o
          → IsSomeAnd o (PlaceOfHolds (tables_now t).chunks.containers copy place)
          → chunk (bases_now p) x ≡ chunk (bases_now t) x
      by None at none = absurd none
      by (Some row) at holds = elim (ok_or_err r ok err) [
        | inl is ↦ put_stay row (ap (λ (q : Typed). find nat_cmp id q.chunks.rows) now ∙ at) holds.own is x
        | inr is ↦ ap (λ (i : Inside). chunk i.bases x) ((λ i. inside_at (is i) (image i)) ∙ inside)
      ]
