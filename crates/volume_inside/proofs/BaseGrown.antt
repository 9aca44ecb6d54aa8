-- What a row, a copy or a redirect that is put makes of chunks.
use Rattle.std.specs.Prelude.{◌≡◌, ◌⊎◌, ℕ, Bool, true, false, Option, Some, None, IsSome, nat_eq, if◌then◌else◌, refl}
use Rattle.std.proofs.Common.{◌∙◌, ap, sym, subst, inl, inr, eqb-true}
use Rattle.std.specs.Ordering.{nat_cmp}
use Rattle.std.specs.FinMap.{find}
use Rattle.std.proofs.lemmas.Bool.{cases_eq}
use Rattle.table_records.specs.declared.chunk_records.Row.{Row}
use Rattle.volume_inside.specs.ChunkChanges.{Extends, IsRedirected}
use Rattle.volume_inside.specs.Chunks.{Bases, if_sound, or_else, own_chunk, own_or_none, chunk_or_none, chunk}

not_zero : (n : ℕ) → nat_eq n 0 ≡ false → n ≡ 0 → ⊥
not_zero n other zero_n =
    let same : nat_eq n 0 ≡ true = ap (λ (x : ℕ). nat_eq x 0) zero_n in
    let clash : true ≡ false = sym same ∙ other in
    cc

module _ (b c : Bases) (e : Extends b c) where
  some_there : (id : ℕ) (row : Row) → find nat_cmp id b.rows ≡ Some row → IsSome (find nat_cmp id b.rows)
  some_there id row is = subst IsSome (sym is) refl

  own_stays : (id : ℕ) (row : Row) → find nat_cmp id b.rows ≡ Some row → own_chunk c id row ≡ own_chunk b id row
  own_stays id row is =
      let there = some_there id row is in
      λ i. or_else (if_sound row.digest (e.copies id 0 there i)) (if_sound row.digest (e.copies id 1 there i))

  -- MORE ROWS: the chunks that were there stay
  pub chunk_stays : (id : ℕ) → IsSome (find nat_cmp id b.rows) → chunk c id ≡ chunk b id
  unfolding chunk
  chunk_stays id there = by (find nat_cmp id b.rows) refl there
    where
      target : (row : Row) → find nat_cmp id b.rows ≡ Some row → (o : Option Row) → find nat_cmp row.redirect b.rows ≡ o
          → IsSome o → own_or_none c row.redirect (find nat_cmp row.redirect c.rows) ≡ own_or_none b row.redirect o
      target row is None at some = absurd (cc)
      target row is (Some to) at some =
          ap (λ (o : Option Row). own_or_none c row.redirect o) (e.rows row.redirect to at) ∙ own_stays row.redirect to at

      here : (row : Row) → find nat_cmp id b.rows ≡ Some row → (row.redirect ≡ 0) ⊎ IsSome (find nat_cmp row.redirect b.rows)
          → (t : Bool) → nat_eq row.redirect 0 ≡ t
          → (if t then own_chunk c id row else own_or_none c row.redirect (find nat_cmp row.redirect c.rows))
          ≡ (if t then own_chunk b id row else own_or_none b row.redirect (find nat_cmp row.redirect b.rows))
      here row is targets true own = own_stays id row is
      here row is (inl none) false own = absurd (not_zero row.redirect own none)
      here row is (inr some) false own = target row is (find nat_cmp row.redirect b.rows) refl some

      by : (o : Option Row) → find nat_cmp id b.rows ≡ o → IsSome o
          → chunk_or_none c id (find nat_cmp id c.rows) ≡ chunk_or_none b id o
      by None is some = absurd (cc)
      by (Some row) is some =
          ap (λ (o : Option Row). chunk_or_none c id o) (e.rows id row is) ∙ here row is (e.targets id row is) (nat_eq row.redirect 0) refl

-- ---- a redirect

pub is_zero : (n : ℕ) → n ≡ 0 → nat_eq n 0 ≡ true
is_zero n zero_n = ap (λ (x : ℕ). nat_eq x 0) zero_n

pub is_not_zero : (n : ℕ) → (n ≡ 0 → ⊥) → nat_eq n 0 ≡ false
is_not_zero n some = by (nat_eq n 0) (λ e. some (eqb-true n 0 e))
  where
    by : (t : Bool) → (t ≡ true → ⊥) → t ≡ false
    by true never = absurd (never refl)
    by false never = refl

module _ (b c : Bases) (id to : ℕ) (row target : Row) (r : IsRedirected b c id to row target) where
  own_other : (x : ℕ) (o : Row) → (x ≡ id → ⊥) → own_chunk c x o ≡ own_chunk b x o
  own_other x o differ = λ i. or_else (if_sound o.digest (r.copies x 0 differ i)) (if_sound o.digest (r.copies x 1 differ i))

  own_or_none_other : (x : ℕ) → (x ≡ id → ⊥) → own_or_none c x (find nat_cmp x c.rows) ≡ own_or_none b x (find nat_cmp x b.rows)
  own_or_none_other x differ = ap (λ (o : Option Row). own_or_none c x o) (r.rows x differ) ∙ by (find nat_cmp x b.rows)
    where
      by : (o : Option Row) → own_or_none c x o ≡ own_or_none b x o
      by None = refl
      by (Some o) = own_other x o differ

  at_id : chunk c id ≡ chunk b id
  unfolding chunk
  at_id =
      ap (λ (o : Option Row). chunk_or_none c id o) r.now
      ∙ ap (λ (t : Bool). if t then own_chunk c id (record row { redirect = to }) else own_or_none c to (find nat_cmp to c.rows))
      (is_not_zero to r.some_to)
      ∙ own_or_none_other to r.other
      ∙ ap (λ (o : Option Row). own_or_none b to o) r.target_is
      ∙ r.alike
      ∙ sym (ap (λ (t : Bool). if t then own_chunk b id row else own_or_none b row.redirect (find nat_cmp row.redirect b.rows))
      (is_zero row.redirect r.own))
      ∙ sym (ap (λ (o : Option Row). chunk_or_none b id o) r.was)

  at_other : (x : ℕ) → (x ≡ id → ⊥) → chunk c x ≡ chunk b x
  unfolding chunk
  at_other x differ = ap (λ (o : Option Row). chunk_or_none c x o) (r.rows x differ) ∙ by (find nat_cmp x b.rows) refl
    where
      by : (o : Option Row) → find nat_cmp x b.rows ≡ o → chunk_or_none c x o ≡ chunk_or_none b x o
      by None is = refl
      by (Some o) is =
          elim (nat_eq o.redirect 0) as (λ t. (if t then own_chunk c x o else own_or_none c o.redirect (find nat_cmp o.redirect c.rows))
          ≡ (if t then own_chunk b x o else own_or_none b o.redirect (find nat_cmp o.redirect b.rows))) [
            | true ↦ own_other x o differ
            | false ↦ own_or_none_other o.redirect (r.untargeted x o is)
          ]

  -- A REDIRECT between rows with the same bytes leaves each chunk
  pub redirect_stays : (x : ℕ) → chunk c x ≡ chunk b x
  redirect_stays x = elim (cases_eq x id) [
    | inl same ↦ ap (λ (y : ℕ). chunk c y) same ∙ at_id ∙ ap (λ (y : ℕ). chunk b y) (sym same)
    | inr differ ↦ at_other x differ
  ]
