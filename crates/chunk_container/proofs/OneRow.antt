-- Chunks where the copies of one row have changed, and its chunk has not.
use Rattle.std.specs.Prelude.{◌≡◌, ℕ, true, false, Option, Some, None, nat_eq, if◌then◌else◌, refl}
use Rattle.std.proofs.Common.{◌∙◌, ap, sym, subst, inl, inr}
use Rattle.std.specs.Ordering.{nat_cmp}
use Rattle.std.specs.FinMap.{find}
use Rattle.std.proofs.lemmas.Bool.{cases_eq}
use Rattle.table_records.specs.Keys.{pair_cmp}
use Rattle.table_records.specs.Orders.{some_same}
use Rattle.table_records.specs.declared.chunk_records.Row.{Row}
use Rattle.volume_inside.specs.Chunks.{Bases, if_sound, or_else, own_chunk, own_or_none, chunk_or_none, chunk}
use Rattle.volume_inside.proofs.BaseSound.{own_is}

module _ (b c : Bases) (id : ℕ) (row : Row) (rows : c.rows ≡ b.rows)
    (copies : (x copy : ℕ) → (x ≡ id → ⊥) → find pair_cmp (x, copy) c.copies ≡ find pair_cmp (x, copy) b.copies)
    (there : find nat_cmp id b.rows ≡ Some row) (own : row.redirect ≡ 0) (stays : chunk c id ≡ chunk b id) where
  own_here : own_chunk c id row ≡ own_chunk b id row
  own_here =
      let there_now : find nat_cmp id c.rows ≡ Some row = ap (λ rs. find nat_cmp id rs) rows ∙ there in
      sym (own_is c id row there_now own) ∙ stays ∙ own_is b id row there own

  own_any : (x : ℕ) (o : Row) → find nat_cmp x b.rows ≡ Some o → own_chunk c x o ≡ own_chunk b x o
  own_any x o at = elim (cases_eq x id) [
    | inl same ↦
        let is : row ≡ o = some_same row o (sym there ∙ ap (λ (y : ℕ). find nat_cmp y b.rows) (sym same) ∙ at) in
        subst (λ (p : ℕ × Row). own_chunk c p.0 p.1 ≡ own_chunk b p.0 p.1) (λ i. (sym same i, is i)) own_here
    | inr differ ↦ λ i.
        or_else (if_sound o.digest (copies x 0 differ i)) (if_sound o.digest (copies x 1 differ i))
  ]

  target_any : (x : ℕ) (o : Option Row) → find nat_cmp x b.rows ≡ o → own_or_none c x o ≡ own_or_none b x o
  target_any x None at = refl
  target_any x (Some o) at = own_any x o at

  -- THE SAME CHUNK of the row leaves all chunks
  pub chunks_stay : (x : ℕ) → chunk c x ≡ chunk b x
  unfolding chunk
  chunks_stay x = ap (λ rs. chunk_or_none c x (find nat_cmp x rs)) rows ∙ by (find nat_cmp x b.rows) refl
    where
      by : (o : Option Row) → find nat_cmp x b.rows ≡ o → chunk_or_none c x o ≡ chunk_or_none b x o
      by None at = refl
      by (Some o) at =
          elim (nat_eq o.redirect 0) as (λ t. (if t then own_chunk c x o
          else own_or_none c o.redirect (find nat_cmp o.redirect c.rows))
          ≡ (if t then own_chunk b x o else own_or_none b o.redirect (find nat_cmp o.redirect b.rows))) [
            | true ↦ own_any x o at
            | false ↦ ap (λ rs. own_or_none c o.redirect (find nat_cmp o.redirect rs)) rows
                ∙ target_any o.redirect (find nat_cmp o.redirect b.rows) refl
          ]
