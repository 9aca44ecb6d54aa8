-- A walk over the entries of a table, from each key to the next one.
use Rattle.std.specs.Prelude.{◌≡◌, ◌&&◌, Bool, true, false, cond, T, List, [], ◌∷◌, Option, Some, None, refl}
use Rattle.std.proofs.Common.{sym, ◌∙◌, ap, subst}
use Rattle.std.specs.declared.cmp.Ordering.{Ordering}
use Rattle.std.specs.declared.cmp.Ordering.TheVariants.{Less, Equal, Greater}
use Rattle.std.specs.Ordering.{is_lt, ordering_reverse}
use Rattle.std.specs.Cmp.{IsTotalOrder}
use Rattle.std.specs.FinMap.Entries.{where_key, below_all, is_sorted, is_sorted-where_key}
use Rattle.byte_map.specs.Words.{first_of, next_in}
use Rattle.groundwork.proofs.Orders.{is_less}
use Rattle.groundwork.proofs.Bools.{first_true, second_true, both_true}

module _ {K : Type 0} (cmp : K → K → Ordering) (total : IsTotalOrder cmp) where
  not_self : (k : K) → is_lt (cmp k k) ≡ false
  not_self k = by (cmp k k) refl
    where
      by : (r : Ordering) → cmp k k ≡ r → is_lt r ≡ false
      by Less is = absurd (let clash : Less ≡ Greater = sym is ∙ total.antisymm k k ∙ ap ordering_reverse is in cc)
      by Equal is = refl
      by Greater is = refl

  -- what is above a greater key is above this one
  both_above : (a k x : K) → cmp a k ≡ Less → is_lt (cmp k x) ≡ (is_lt (cmp a x) && is_lt (cmp k x))
  both_above a k x less = by (cmp k x) refl
    where
      ends : (b : Bool) → false ≡ (b && false)
      ends true = refl
      ends false = refl

      by : (r : Ordering) → cmp k x ≡ r → is_lt r ≡ (is_lt (cmp a x) && is_lt r)
      by Less is = ap (λ (s : Ordering). is_lt s && true) (sym (total.trans a k x less is))
      by Equal is = ends (is_lt (cmp a x))
      by Greater is = ends (is_lt (cmp a x))

module _ {K V : Type 0} (cmp : K → K → Ordering) (total : IsTotalOrder cmp) where
  abbrev pub above : K → List (K × V) → List (K × V)
  above k es = where_key cmp (λ x. is_lt (cmp k x)) es

  -- an entry, if there is one, and those behind it
  abbrev pub left : Option (K × V) → List (K × V) → List (K × V)
  left None es = []
  left (Some e) es = e ∷ where_key cmp (λ x. is_lt (cmp e.0 x)) es

  first_kept : (p : K → Bool) (e : K × V) (es : List (K × V)) → p e.0 ≡ true
      → where_key cmp p (e ∷ es) ≡ e ∷ where_key cmp p es
  first_kept p e es is = ap (λ (b : Bool). cond b (e ∷ where_key cmp p es) (where_key cmp p es)) is

  first_gone : (p : K → Bool) (e : K × V) (es : List (K × V)) → p e.0 ≡ false → where_key cmp p (e ∷ es) ≡ where_key cmp p es
  first_gone p e es is = ap (λ (b : Bool). cond b (e ∷ where_key cmp p es) (where_key cmp p es)) is

  all_above : (k : K) (es : List (K × V)) → T (below_all cmp k es) → above k es ≡ es
  all_above k [] low = refl
  all_above k (e ∷ es) low =
      first_kept (λ x. is_lt (cmp k x)) e es (ap is_lt (is_less (cmp k e.0) (first_true _ _ low)))
      ∙ ap (λ (l : List (K × V)). e ∷ l) (all_above k es (second_true (is_lt (cmp k e.0)) _ low))

  -- those above the first one are those behind it
  above_first : (e : K × V) (es : List (K × V)) → T (is_sorted cmp (e ∷ es)) → above e.0 (e ∷ es) ≡ es
  above_first e es sorted =
      first_gone (λ x. is_lt (cmp e.0 x)) e es (not_self cmp total e.0) ∙ all_above e.0 es (first_true _ _ sorted)

  pub left_first : (es : List (K × V)) → T (is_sorted cmp es) → left (first_of es) es ≡ es
  left_first [] sorted = refl
  left_first (e ∷ es) sorted = ap (λ (l : List (K × V)). e ∷ l) (above_first e es sorted)

  where_both : (p q : K → Bool) (es : List (K × V)) → where_key cmp (λ k. p k && q k) es ≡ where_key cmp q (where_key cmp p es)
  where_both p q [] = refl
  where_both p q (e ∷ es) =
      let rest = where_both p q es in
      elim (p e.0) as (λ b. cond (b && q e.0) (e ∷ where_key cmp (λ k. p k && q k) es) (where_key cmp (λ k. p k && q k) es)
      ≡ where_key cmp q (cond b (e ∷ where_key cmp p es) (where_key cmp p es))) [
        | true ↦ ap (λ (l : List (K × V)). cond (q e.0) (e ∷ l) l) rest
        | false ↦ rest
      ]

  low_above : (k : K) (es : List (K × V)) → T (below_all cmp k (above k es))
  low_above k [] = tt
  low_above k (e ∷ es) =
      let rest = low_above k es in
      elim (is_lt (cmp k e.0)) as (λ t. is_lt (cmp k e.0) ≡ t → T (below_all cmp k (cond t (e ∷ above k es) (above k es)))) [
        | true ↦ λ t. both_true (is_lt (cmp k e.0)) _ (subst (λ (s : Bool). T s) (sym t) tt) rest
        | false ↦ λ t. rest
      ] refl

  pub left_next : (k : K) (es : List (K × V)) → T (is_sorted cmp es) → left (next_in cmp k es) es ≡ above k es
  left_next k es sorted = by (above k es) refl
    where
      by : (up : List (K × V)) → above k es ≡ up → left (first_of up) es ≡ up
      by [] is = refl
      by (e ∷ up) is =
          let low = subst (λ (l : List (K × V)). T (below_all cmp k l)) is (low_above k es) in
          let less : cmp k e.0 ≡ Less = is_less (cmp k e.0) (first_true _ _ low) in
          let behind : above e.0 es ≡ above e.0 (above k es) =
          (λ i. where_key cmp (λ x. both_above cmp total k e.0 x less i) es)
          ∙ where_both (λ x. is_lt (cmp k x)) (λ x. is_lt (cmp e.0 x)) es in
          ap (λ (l : List (K × V)). e ∷ l) (behind ∙ ap (λ (l : List (K × V)). above e.0 l) is
          ∙ above_first e up (subst (λ (l : List (K × V)). T (is_sorted cmp l)) is
          (is_sorted-where_key cmp (λ x. is_lt (cmp k x)) es sorted)))
