-- The entries of a table whose keys are numbers, one after another.
use Rattle.std.specs.Prelude.{◌≡◌, ◌&&◌, ℕ, Bool, true, false, cond, T, List, [], ◌∷◌, Option, Some, None, refl}
use Rattle.std.proofs.Common.{sym, ◌∙◌, ap, subst}
use Rattle.std.specs.declared.cmp.Ordering.{Ordering}
use Rattle.std.specs.declared.cmp.Ordering.TheVariants.{Less, Equal, Greater}
use Rattle.std.specs.Ordering.{nat_cmp, is_lt, ordering_reverse}
use Rattle.std.specs.Cmp.{nat_cmp_total}
use Rattle.std.specs.FinMap.Entries.{where_key, below_all, is_sorted, is_sorted-where_key}
use Rattle.byte_map.specs.Words.{first_of, next_in}
use Rattle.groundwork.proofs.Orders.{is_less}
use Rattle.groundwork.proofs.Bools.{first_true, second_true, both_true}

-- ---- keys

not_self : (k : ℕ) → is_lt (nat_cmp k k) ≡ false
not_self k = by (nat_cmp k k) refl
  where
    by : (r : Ordering) → nat_cmp k k ≡ r → is_lt r ≡ false
    by Less is = absurd (let clash : Less ≡ Greater = sym is ∙ nat_cmp_total.antisymm k k ∙ ap ordering_reverse is in cc)
    by Equal is = refl
    by Greater is = refl

-- what is above a greater key is above this one
both_above : (a k x : ℕ) → nat_cmp a k ≡ Less → is_lt (nat_cmp k x) ≡ (is_lt (nat_cmp a x) && is_lt (nat_cmp k x))
both_above a k x less = by (nat_cmp k x) refl
  where
    ends : (b : Bool) → false ≡ (b && false)
    ends true = refl
    ends false = refl

    by : (r : Ordering) → nat_cmp k x ≡ r → is_lt r ≡ (is_lt (nat_cmp a x) && is_lt r)
    by Less is = ap (λ (s : Ordering). is_lt s && true) (sym (nat_cmp_total.trans a k x less is))
    by Equal is = ends (is_lt (nat_cmp a x))
    by Greater is = ends (is_lt (nat_cmp a x))

-- ---- entries

module _ {V : Type 0} where
  abbrev pub above : ℕ → List (ℕ × V) → List (ℕ × V)
  above k es = where_key nat_cmp (λ x. is_lt (nat_cmp k x)) es

  -- what is left of a walk whose next entry is this one
  abbrev pub entries_left : Option (ℕ × V) → List (ℕ × V) → List (ℕ × V)
  entries_left None es = []
  entries_left (Some e) es = e ∷ above e.0 es

  where_both : (p q : ℕ → Bool) (es : List (ℕ × V))
      → where_key nat_cmp (λ k. p k && q k) es ≡ where_key nat_cmp q (where_key nat_cmp p es)
  where_both p q [] = refl
  where_both p q (e ∷ es) =
      let rest = where_both p q es in
      elim (p e.0) as (λ b. cond (b && q e.0) (e ∷ where_key nat_cmp (λ k. p k && q k) es)
      (where_key nat_cmp (λ k. p k && q k) es)
      ≡ where_key nat_cmp q (cond b (e ∷ where_key nat_cmp p es) (where_key nat_cmp p es))) [
        | true ↦ ap (λ (l : List (ℕ × V)). cond (q e.0) (e ∷ l) l) rest
        | false ↦ rest
      ]

  kept_first : (p : ℕ → Bool) (e : ℕ × V) (es : List (ℕ × V)) → p e.0 ≡ true
      → where_key nat_cmp p (e ∷ es) ≡ e ∷ where_key nat_cmp p es
  kept_first p e es is = ap (λ (b : Bool). cond b (e ∷ where_key nat_cmp p es) (where_key nat_cmp p es)) is

  gone_first : (p : ℕ → Bool) (e : ℕ × V) (es : List (ℕ × V)) → p e.0 ≡ false
      → where_key nat_cmp p (e ∷ es) ≡ where_key nat_cmp p es
  gone_first p e es is = ap (λ (b : Bool). cond b (e ∷ where_key nat_cmp p es) (where_key nat_cmp p es)) is

  above_all : (k : ℕ) (es : List (ℕ × V)) → T (below_all nat_cmp k es) → above k es ≡ es
  above_all k [] low = refl
  above_all k (e ∷ es) low =
      kept_first (λ x. is_lt (nat_cmp k x)) e es (ap is_lt (is_less (nat_cmp k e.0) (first_true _ _ low)))
      ∙ ap (λ (l : List (ℕ × V)). e ∷ l) (above_all k es (second_true (is_lt (nat_cmp k e.0)) _ low))

  low_above : (k : ℕ) (es : List (ℕ × V)) → T (below_all nat_cmp k (above k es))
  low_above k [] = tt
  low_above k (e ∷ es) =
      let rest = low_above k es in
      elim (is_lt (nat_cmp k e.0)) as (λ t. is_lt (nat_cmp k e.0) ≡ t
      → T (below_all nat_cmp k (cond t (e ∷ above k es) (above k es)))) [
        | true ↦ λ t. both_true (is_lt (nat_cmp k e.0)) _ (subst (λ (s : Bool). T s) (sym t) tt) rest
        | false ↦ λ t. rest
      ] refl

  -- ---- a walk

  first_above : (e : ℕ × V) (es : List (ℕ × V)) → T (below_all nat_cmp e.0 es) → above e.0 (e ∷ es) ≡ es
  first_above e es low = gone_first (λ x. is_lt (nat_cmp e.0 x)) e es (not_self e.0) ∙ above_all e.0 es low

  -- from the first entry on
  pub walk_starts : (es : List (ℕ × V)) → T (is_sorted nat_cmp es) → entries_left (first_of es) es ≡ es
  walk_starts [] sorted = refl
  walk_starts (e ∷ es) sorted =
      ap (λ (l : List (ℕ × V)). e ∷ l) (first_above e es (first_true (below_all nat_cmp e.0 es) _ sorted))

  -- and from the one behind an entry
  pub walk_goes_on : (k : ℕ) (es : List (ℕ × V)) → T (is_sorted nat_cmp es)
      → entries_left (next_in nat_cmp k es) es ≡ above k es
  walk_goes_on k es sorted = by (above k es) refl
    where
      by : (l : List (ℕ × V)) → above k es ≡ l → entries_left (first_of l) es ≡ l
      by [] is = refl
      by (z ∷ zs) is =
          let order : T (is_sorted nat_cmp (z ∷ zs)) = subst (λ (l : List (ℕ × V)). T (is_sorted nat_cmp l)) is
          (is_sorted-where_key nat_cmp (λ x. is_lt (nat_cmp k x)) es sorted) in
          let less : nat_cmp k z.0 ≡ Less = is_less (nat_cmp k z.0) (first_true _ (below_all nat_cmp k zs)
          (subst (λ (l : List (ℕ × V)). T (below_all nat_cmp k l)) is (low_above k es))) in
          let alike : above z.0 es ≡ above z.0 (above k es) =
          (λ i. where_key nat_cmp (λ x. both_above k z.0 x less i) es)
          ∙ where_both (λ x. is_lt (nat_cmp k x)) (λ x. is_lt (nat_cmp z.0 x)) es in
          ap (λ (l : List (ℕ × V)). z ∷ l)
          (alike ∙ ap (λ (l : List (ℕ × V)). above z.0 l) is
          ∙ first_above z zs (first_true (below_all nat_cmp z.0 zs) _ order))
