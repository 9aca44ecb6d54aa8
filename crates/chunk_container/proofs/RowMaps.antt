-- The maps of bases over a new row, and over a redirect.
use Rattle.std.specs.Prelude.{◌≡◌, ℕ, T, List, Option, IsSome, IsSomeAnd, Some, refl}
use Rattle.std.proofs.Common.{◌∙◌, ap, sym, subst, inl, inr}
use Rattle.std.specs.Ordering.{nat_cmp}
use Rattle.std.specs.Cmp.{nat_cmp_total}
use Rattle.std.specs.FinMap.{find, is_sorted}
use Rattle.std.proofs.lemmas.Bool.{cases_eq}
use Rattle.table_records.specs.declared.chunk_records.Row.{Row}
use Rattle.table_records.specs.declared.chunk_records.Place.{Place}
use Rattle.volume_inside.specs.ChunkRules.{IsMapRow, MapsHold, PlaceOfHolds}
use Rattle.volume_inside.specs.Inside.{inside_at}
use Rattle.volume_inside.specs.Mapping.{IsLike}
use Rattle.volume_inside.specs.Rules.{next_id_of, RulesHold}
use Rattle.volume_inside.specs.Typed.{Typed}
use Rattle.chunk_container.specs.Rows.{IsNewRow, IsRedirectable, with_new_row, redirected}
use Rattle.chunk_container.proofs.Finds.{found_put, some_and}
use Rattle.chunk_container.proofs.MapsLeft.{IsLikeIn, maps_stayed, same_like}
use Rattle.chunk_container.proofs.RowRules.{data_differs, place_other, row_other}
use Rattle.chunk_container.proofs.RowViews.{place_stays, row_stays}

pub maps_added : (n : ℕ) (t : Typed) (rules : RulesHold n t) (row : Row) (p : Place) (new : IsNewRow row)
    (fits : PlaceOfHolds t.chunks.containers 0 p row) (image : List ℕ)
    → MapsHold (inside_at t image) → MapsHold (inside_at (with_new_row row p t) image)
maps_added n t rules row p new fits image =
    maps_stayed n t (with_new_row row p t) image rules refl refl refl
    (λ id r is. same_like t (with_new_row row p t) id
    (row_stays n t rules row p new fits image id (subst IsSome (sym is) refl)) r is)
    (λ m is. (let there = some_and IsMapRow (find nat_cmp m t.chunks.rows) is in record {
      row = row_stays n t rules row p new fits image m there;
      copies = λ copy. place_stays n t rules row p new fits image m copy there;
    }))

pub maps_redirected : (n : ℕ) (t : Typed) (id to : ℕ) (row : Row) (rules : RulesHold n t)
    (may : IsRedirectable t.chunks.rows id to row) (sorted : T (is_sorted nat_cmp t.chunks.rows)) (image : List ℕ)
    → MapsHold (inside_at t image) → MapsHold (inside_at (redirected id to row t) image)
maps_redirected n t id to row rules may sorted image =
    maps_stayed n t (redirected id to row t) image rules refl refl refl like (λ m is.
    (let differ = data_differs t.chunks.rows m id row may.there may.kind is in record {
      row = row_other n (next_id_of t) t.chunks rules.chunks id to row may sorted m differ;
      copies = λ copy. place_other n (next_id_of t) t.chunks rules.chunks id to row may sorted m copy differ;
    }))
  where
    like : (x : ℕ) → IsLikeIn t (redirected id to row t) x
    like x r is = elim (cases_eq x id) [
      | inl same ↦
          let was : Some row ≡ Some r = sym may.there ∙ sym (ap (λ (y : ℕ). find nat_cmp y t.chunks.rows) same) ∙ is in
          let here : row ≡ r = cc in
          subst (λ (y : ℕ). IsSomeAnd (find nat_cmp y (redirected id to row t).chunks.rows) (IsLike r)) (sym same)
          (subst (λ (o : Option Row). IsSomeAnd o (IsLike r))
          (sym (found_put nat_cmp nat_cmp_total id (record row { redirect = to }) t.chunks.rows))
          (subst (λ (s : Row). IsLike s (record row { redirect = to })) here (refl, refl)))
      | inr differ ↦ same_like t (redirected id to row t) x
          (row_other n (next_id_of t) t.chunks rules.chunks id to row may sorted x differ) r is
    ]
