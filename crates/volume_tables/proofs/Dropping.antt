-- The entries of a range of keys, one after another, where keys are pairs of numbers.
use Rattle.std.specs.Prelude.{◌≡◌, ◌<◌, ◌&&◌, ℕ, Bool, true, false, cond, T, List, [], ◌∷◌, Option, Some, None, refl}
use Rattle.std.proofs.Common.{sym, ◌∙◌, ap, subst}
use Rattle.std.specs.declared.cmp.Ordering.{Ordering}
use Rattle.std.specs.declared.cmp.Ordering.TheVariants.{Less, Equal, Greater}
use Rattle.std.specs.Ordering.{nat_cmp, is_lt, is_le, is_eq, ordering_then, ordering_reverse, MatchOrdering}
use Rattle.std.specs.Cmp.{ranks}
use Rattle.std.specs.FinMap.Entries.{find, where_key, below_all, is_sorted, is_sorted-where_key}
use Rattle.byte_map.specs.Words.{first_of, next_in}
use Rattle.table_records.specs.Changes.{is_in_range, is_under}
use Rattle.table_records.specs.Keys.{pair_cmp}
use Rattle.groundwork.proofs.Orders.{is_less}
use Rattle.groundwork.proofs.Bools.{first_true, second_true, both_true}
use Rattle.table_records.specs.Orders.{pair_total}
use Rattle.volume_tables.specs.Dropped.{entries_in, entries_above}

abbrev Key : Type 0
Key = ℕ × ℕ

abbrev Entries : Type 0 → Type 0
Entries V = List (Key × V)

-- ---- keys

nat_exact : (x y : ℕ) → nat_cmp x y ≡ Equal → x ≡ y
nat_exact x y is = by (nat_cmp x y) (ranks x y) is
  where
    by : (r : Ordering) → MatchOrdering r (x < y) (x ≡ y) (y < x) → r ≡ Equal → x ≡ y
    by Less h e = absurd (cc)
    by Equal h e = h
    by Greater h e = absurd (cc)

pair_exact : (a b : Key) → pair_cmp a b ≡ Equal → a ≡ b
pair_exact a b is = by (nat_cmp a.0 b.0) (ranks a.0 b.0) is
  where
    by : (r : Ordering) → MatchOrdering r (a.0 < b.0) (a.0 ≡ b.0) (b.0 < a.0)
        → ordering_then r (nat_cmp a.1 b.1) ≡ Equal → a ≡ b
    by Less h e = absurd (cc)
    by Equal h e = λ i. (h i, nat_exact a.1 b.1 e i)
    by Greater h e = absurd (cc)

not_self : (k : Key) → is_lt (pair_cmp k k) ≡ false
not_self k = by (pair_cmp k k) refl
  where
    by : (r : Ordering) → pair_cmp k k ≡ r → is_lt r ≡ false
    by Less is = absurd (let clash : Less ≡ Greater = sym is ∙ pair_total.antisymm k k ∙ ap ordering_reverse is in cc)
    by Equal is = refl
    by Greater is = refl

-- what is above a greater key is above this one
both_above : (a k x : Key) → pair_cmp a k ≡ Less
    → is_lt (pair_cmp k x) ≡ (is_lt (pair_cmp a x) && is_lt (pair_cmp k x))
both_above a k x less = by (pair_cmp k x) refl
  where
    ends : (b : Bool) → false ≡ (b && false)
    ends true = refl
    ends false = refl

    by : (r : Ordering) → pair_cmp k x ≡ r → is_lt r ≡ (is_lt (pair_cmp a x) && is_lt r)
    by Less is = ap (λ (s : Ordering). is_lt s && true) (sym (pair_total.trans a k x less is))
    by Equal is = ends (is_lt (pair_cmp a x))
    by Greater is = ends (is_lt (pair_cmp a x))

-- what is behind one that is past the end of a range is past it
under_stays : (to : Option Key) (k x : Key) → is_under pair_cmp to k ≡ false → pair_cmp k x ≡ Less
    → is_under pair_cmp to x ≡ false
under_stays None k x past less = absurd (let clash : true ≡ false = past in cc)
under_stays (Some t) k x past less = by (pair_cmp x t) refl
  where
    by : (r : Ordering) → pair_cmp x t ≡ r → is_lt r ≡ false
    by Less is = sym (ap is_lt (pair_total.trans k x t less is)) ∙ past
    by Equal is = refl
    by Greater is = refl

-- ---- entries

module _ {V : Type 0} where
  -- ---- lists of entries by their keys

  where_both : (p q : Key → Bool) (es : Entries V)
      → where_key pair_cmp (λ k. p k && q k) es ≡ where_key pair_cmp q (where_key pair_cmp p es)
  where_both p q [] = refl
  where_both p q (e ∷ es) =
      let rest = where_both p q es in
      elim (p e.0) as (λ b. cond (b && q e.0) (e ∷ where_key pair_cmp (λ k. p k && q k) es)
      (where_key pair_cmp (λ k. p k && q k) es)
      ≡ where_key pair_cmp q (cond b (e ∷ where_key pair_cmp p es) (where_key pair_cmp p es))) [
        | true ↦ ap (λ (l : Entries V). cond (q e.0) (e ∷ l) l) rest
        | false ↦ rest
      ]

  where_alike : (p q : Key → Bool) → ((k : Key) → p k ≡ q k) → (es : Entries V)
      → where_key pair_cmp p es ≡ where_key pair_cmp q es
  where_alike p q alike es = λ i. where_key pair_cmp (λ k. alike k i) es

  all_gone : (es : Entries V) → where_key pair_cmp (λ k. false) es ≡ []
  all_gone [] = refl
  all_gone (e ∷ es) = all_gone es

  -- an entry whose key passes a test, or fails it
  kept_first : (p : Key → Bool) (e : Key × V) (es : Entries V) → p e.0 ≡ true
      → where_key pair_cmp p (e ∷ es) ≡ e ∷ where_key pair_cmp p es
  kept_first p e es is = ap (λ (b : Bool). cond b (e ∷ where_key pair_cmp p es) (where_key pair_cmp p es)) is

  gone_first : (p : Key → Bool) (e : Key × V) (es : Entries V) → p e.0 ≡ false
      → where_key pair_cmp p (e ∷ es) ≡ where_key pair_cmp p es
  gone_first p e es is = ap (λ (b : Bool). cond b (e ∷ where_key pair_cmp p es) (where_key pair_cmp p es)) is

  above_all : (k : Key) (es : Entries V) → T (below_all pair_cmp k es)
      → where_key pair_cmp (λ x. is_lt (pair_cmp k x)) es ≡ es
  above_all k [] low = refl
  above_all k (e ∷ es) low =
      kept_first (λ x. is_lt (pair_cmp k x)) e es (ap is_lt (is_less (pair_cmp k e.0) (first_true _ _ low)))
      ∙ ap (λ (l : Entries V). e ∷ l) (above_all k es (second_true (is_lt (pair_cmp k e.0)) _ low))

  from_all : (k : Key) (es : Entries V) → T (below_all pair_cmp k es)
      → where_key pair_cmp (λ x. is_le (pair_cmp k x)) es ≡ es
  from_all k [] low = refl
  from_all k (e ∷ es) low =
      kept_first (λ x. is_le (pair_cmp k x)) e es (ap is_le (is_less (pair_cmp k e.0) (first_true _ _ low)))
      ∙ ap (λ (l : Entries V). e ∷ l) (from_all k es (second_true (is_lt (pair_cmp k e.0)) _ low))

  low_above : (k : Key) (es : Entries V) → T
      (below_all pair_cmp k (where_key pair_cmp (λ x. is_lt (pair_cmp k x)) es))
  low_above k [] = tt
  low_above k (e ∷ es) =
      let rest = low_above k es in
      elim (is_lt (pair_cmp k e.0)) as (λ t. is_lt (pair_cmp k e.0) ≡ t
      → T (below_all pair_cmp k (cond t (e ∷ where_key pair_cmp (λ x. is_lt (pair_cmp k x)) es)
      (where_key pair_cmp (λ x. is_lt (pair_cmp k x)) es)))) [
        | true ↦ λ t. both_true (is_lt (pair_cmp k e.0)) _ (subst (λ (s : Bool). T s) (sym t) tt) rest
        | false ↦ λ t. rest
      ] refl

  -- ---- the end of a range

  none_under : (to : Option Key) (k : Key) (es : Entries V) → is_under pair_cmp to k ≡ false
      → T (below_all pair_cmp k es)
      → where_key pair_cmp (λ x. is_under pair_cmp to x) es ≡ []
  none_under to k [] past low = refl
  none_under to k (e ∷ es) past low =
      gone_first (λ x. is_under pair_cmp to x) e es
      (under_stays to k e.0 past (is_less (pair_cmp k e.0) (first_true _ _ low)))
      ∙ none_under to k es past (second_true (is_lt (pair_cmp k e.0)) _ low)

  -- ---- the next entry of a range

  module _ (a : Key) (to : Option Key) (es : Entries V) (sorted : T (is_sorted pair_cmp es)) where
    higher : Entries V
    higher = where_key pair_cmp (λ x. is_lt (pair_cmp a x)) es

    under_higher : entries_above a to es ≡ where_key pair_cmp (λ x. is_under pair_cmp to x)
        (where_key pair_cmp (λ x. is_lt (pair_cmp a x)) es)
    under_higher = where_both (λ x. is_lt (pair_cmp a x)) (λ x. is_under pair_cmp to x) es

    module _ (z : Key × V) (zs : Entries V)
        (is : where_key pair_cmp (λ x. is_lt (pair_cmp a x)) es ≡ z ∷ zs) where
      order : T (is_sorted pair_cmp (z ∷ zs))
      order = subst (λ (l : Entries V). T (is_sorted pair_cmp l)) is
          (is_sorted-where_key pair_cmp (λ x. is_lt (pair_cmp a x)) es sorted)

      low : T (below_all pair_cmp z.0 zs)
      low = first_true (below_all pair_cmp z.0 zs) _ order

      less : pair_cmp a z.0 ≡ Less
      less = is_less (pair_cmp a z.0) (first_true _ (below_all pair_cmp a zs)
          (subst (λ (l : Entries V). T (below_all pair_cmp a l)) is (low_above a es)))

      behind : where_key pair_cmp (λ x. is_lt (pair_cmp z.0 x)) es ≡ zs
      behind =
          where_alike (λ x. is_lt (pair_cmp z.0 x)) (λ x. is_lt (pair_cmp a x) && is_lt (pair_cmp z.0 x))
          (λ x. both_above a z.0 x less) es
          ∙ where_both (λ x. is_lt (pair_cmp a x)) (λ x. is_lt (pair_cmp z.0 x)) es
          ∙ ap (λ (l : Entries V). where_key pair_cmp (λ x. is_lt (pair_cmp z.0 x)) l) is
          ∙ gone_first (λ x. is_lt (pair_cmp z.0 x)) z zs (not_self z.0)
          ∙ above_all z.0 zs low

      here_left : is_under pair_cmp to z.0 ≡ true → z ∷ entries_above z.0 to es ≡ entries_above a to es
      here_left under =
          ap (λ (l : Entries V). z ∷ l) (where_both (λ x. is_lt (pair_cmp z.0 x)) (λ x. is_under pair_cmp to x) es
          ∙ ap (λ (l : Entries V). where_key pair_cmp (λ x. is_under pair_cmp to x) l) behind)
          ∙ sym (kept_first (λ x. is_under pair_cmp to x) z zs under)
          ∙ sym (ap (λ (l : Entries V). where_key pair_cmp (λ x. is_under pair_cmp to x) l) is)
          ∙ sym under_higher

      none_left : is_under pair_cmp to z.0 ≡ false → [] ≡ entries_above a to es
      none_left under =
          sym (none_under to z.0 zs under low)
          ∙ sym (gone_first (λ x. is_under pair_cmp to x) z zs under)
          ∙ sym (ap (λ (l : Entries V). where_key pair_cmp (λ x. is_under pair_cmp to x) l) is)
          ∙ sym under_higher

    pub next_left : (y : Key × V) → next_in pair_cmp a es ≡ Some y → is_under pair_cmp to y.0 ≡ true
        → y ∷ entries_above y.0 to es ≡ entries_above a to es
    next_left y next under = by (where_key pair_cmp (λ x. is_lt (pair_cmp a x)) es) refl next
      where
        by : (l : Entries V) → where_key pair_cmp (λ x. is_lt (pair_cmp a x)) es ≡ l → first_of l ≡ Some y
            → y ∷ entries_above y.0 to es ≡ entries_above a to es
        by [] is first = absurd (let clash : None ≡ Some y = first in cc)
        by (z ∷ zs) is first =
            let same : z ≡ y = cc in
            subst (λ (x : Key × V). is_under pair_cmp to x.0 ≡ true
            → x ∷ entries_above x.0 to es ≡ entries_above a to es) same (here_left z zs is) under

    pub next_past : (y : Key × V) → next_in pair_cmp a es ≡ Some y → is_under pair_cmp to y.0 ≡ false
        → [] ≡ entries_above a to es
    next_past y next under = by (where_key pair_cmp (λ x. is_lt (pair_cmp a x)) es) refl next
      where
        by : (l : Entries V) → where_key pair_cmp (λ x. is_lt (pair_cmp a x)) es ≡ l → first_of l ≡ Some y
            → [] ≡ entries_above a to es
        by [] is first = absurd (let clash : None ≡ Some y = first in cc)
        by (z ∷ zs) is first =
            let same : z ≡ y = cc in
            subst (λ (x : Key × V). is_under pair_cmp to x.0 ≡ false → [] ≡ entries_above a to es) same
            (none_left z zs is) under

    pub next_none : next_in pair_cmp a es ≡ None → [] ≡ entries_above a to es
    next_none next = by (where_key pair_cmp (λ x. is_lt (pair_cmp a x)) es) refl next
      where
        by : (l : Entries V) → where_key pair_cmp (λ x. is_lt (pair_cmp a x)) es ≡ l → first_of l ≡ None
            → [] ≡ entries_above a to es
        by [] is first = sym (ap (λ (l : Entries V). where_key pair_cmp (λ x. is_under pair_cmp to x) l) is)
            ∙ sym under_higher
        by (z ∷ zs) is first = absurd (let clash : Some z ≡ None = first in cc)

  -- ---- the first entry of a range

  lower_find : (k y : Key) (es : Entries V) → pair_cmp k y ≡ Less → T (below_all pair_cmp y es)
      → find pair_cmp k es ≡ None
  lower_find k y [] before rise = refl
  lower_find k y (e ∷ es) before rise =
      ap (λ (r : Ordering). cond (is_eq r) (Some e.1) (find pair_cmp k es))
      (pair_total.trans k y e.0 before (is_less (pair_cmp y e.0) (first_true _ _ rise)))
      ∙ lower_find k y es before (second_true (is_lt (pair_cmp y e.0)) _ rise)

  -- the entries from a key that is found on
  from_found : (k : Key) (o : V) (es : Entries V) → T (is_sorted pair_cmp es) → find pair_cmp k es ≡ Some o
      → where_key pair_cmp (λ x. is_le (pair_cmp k x)) es ≡ (k, o) ∷ where_key pair_cmp (λ x. is_lt (pair_cmp k x)) es
  from_found k o [] sorted found = absurd (let clash : None ≡ Some o = found in cc)
  from_found k o (e ∷ es) sorted found =
      by (pair_cmp k e.0) refl found (λ at. from_found k o es (second_true (below_all pair_cmp e.0 es) _ sorted) at)
    where
      low : T (below_all pair_cmp e.0 es)
      low = first_true (below_all pair_cmp e.0 es) _ sorted

      by : (r : Ordering) → pair_cmp k e.0 ≡ r → cond (is_eq r) (Some e.1) (find pair_cmp k es) ≡ Some o
          → (find pair_cmp k es ≡ Some o → where_key pair_cmp (λ x. is_le (pair_cmp k x)) es ≡ (k, o) ∷ where_key pair_cmp
          (λ x. is_lt (pair_cmp k x)) es)
          → where_key pair_cmp (λ x. is_le (pair_cmp k x)) (e ∷ es) ≡ (k, o) ∷ where_key pair_cmp
          (λ x. is_lt (pair_cmp k x)) (e ∷ es)
      by Less is at rest = absurd (let none = lower_find k e.0 es is low in let clash : Some o ≡ None = sym at
          ∙ none in cc)
      by Equal is at rest =
          let key : k ≡ e.0 = pair_exact k e.0 is in
          let value : e.1 ≡ o = cc in
          let mine : T (below_all pair_cmp k es) = subst (λ (x : Key). T (below_all pair_cmp x es)) (sym key) low in
          kept_first (λ x. is_le (pair_cmp k x)) e es (ap is_le is)
          ∙ ap (λ (l : Entries V). e ∷ l) (from_all k es mine)
          ∙ (λ i. (sym key i, value i) ∷ es)
          ∙ ap (λ (l : Entries V). (k, o) ∷ l) (sym (above_all k es mine)
          ∙ sym (gone_first (λ x. is_lt (pair_cmp k x)) e es (ap is_lt is)))
      by Greater is at rest =
          gone_first (λ x. is_le (pair_cmp k x)) e es (ap is_le is)
          ∙ rest at
          ∙ ap (λ (l : Entries V). (k, o) ∷ l) (sym (gone_first (λ x. is_lt (pair_cmp k x)) e es (ap is_lt is)))

  -- the entries from a key that is not found on are those above it
  from_absent : (k : Key) (es : Entries V) → find pair_cmp k es ≡ None
      → where_key pair_cmp (λ x. is_le (pair_cmp k x)) es ≡ where_key pair_cmp (λ x. is_lt (pair_cmp k x)) es
  from_absent k [] none = refl
  from_absent k (e ∷ es) none = by (pair_cmp k e.0) refl none (λ at. from_absent k es at)
    where
      by : (r : Ordering) → pair_cmp k e.0 ≡ r → cond (is_eq r) (Some e.1) (find pair_cmp k es) ≡ None
          → (find pair_cmp k es ≡ None → where_key pair_cmp (λ x. is_le (pair_cmp k x)) es ≡ where_key pair_cmp
          (λ x. is_lt (pair_cmp k x)) es)
          → where_key pair_cmp (λ x. is_le (pair_cmp k x)) (e ∷ es) ≡ where_key pair_cmp (λ x. is_lt (pair_cmp k x))
          (e ∷ es)
      by Less is at rest =
          kept_first (λ x. is_le (pair_cmp k x)) e es (ap is_le is)
          ∙ ap (λ (l : Entries V). e ∷ l) (rest at)
          ∙ sym (kept_first (λ x. is_lt (pair_cmp k x)) e es (ap is_lt is))
      by Equal is at rest = absurd (let clash : Some e.1 ≡ None = at in cc)
      by Greater is at rest =
          gone_first (λ x. is_le (pair_cmp k x)) e es (ap is_le is)
          ∙ rest at
          ∙ sym (gone_first (λ x. is_lt (pair_cmp k x)) e es (ap is_lt is))

  module _ (k : Key) (to : Option Key) (es : Entries V) where
    pub first_absent : find pair_cmp k es ≡ None → entries_above k to es ≡ entries_in k to es
    first_absent none =
        where_both (λ x. is_lt (pair_cmp k x)) (λ x. is_under pair_cmp to x) es
        ∙ sym (ap (λ (l : Entries V). where_key pair_cmp (λ x. is_under pair_cmp to x) l) (from_absent k es none))
        ∙ sym (where_both (λ x. is_le (pair_cmp k x)) (λ x. is_under pair_cmp to x) es)

    pub first_left : (o : V) → T (is_sorted pair_cmp es) → find pair_cmp k es ≡ Some o
        → is_under pair_cmp to k ≡ true
        → (k, o) ∷ entries_above k to es ≡ entries_in k to es
    first_left o sorted found under =
        ap (λ (l : Entries V). (k, o) ∷ l) (where_both (λ x. is_lt (pair_cmp k x)) (λ x. is_under pair_cmp to x) es)
        ∙ sym (kept_first (λ x. is_under pair_cmp to x) (k, o) (where_key pair_cmp (λ x. is_lt (pair_cmp k x)) es) under)
        ∙ sym (ap (λ (l : Entries V). where_key pair_cmp (λ x. is_under pair_cmp to x) l) (from_found k o es sorted found))
        ∙ sym (where_both (λ x. is_le (pair_cmp k x)) (λ x. is_under pair_cmp to x) es)

    pub first_past : is_under pair_cmp to k ≡ false → [] ≡ entries_in k to es
    first_past past = sym (where_alike (λ x. is_in_range pair_cmp k to x) (λ x. false) outside es ∙ all_gone es)
      where
        outside : (x : Key) → is_in_range pair_cmp k to x ≡ false
        outside x = by (pair_cmp k x) refl
          where
            by : (r : Ordering) → pair_cmp k x ≡ r → (is_le r && is_under pair_cmp to x) ≡ false
            by Less is = under_stays to k x past is
            by Equal is = subst (λ (y : Key). is_under pair_cmp to y ≡ false) (pair_exact k x is) past
            by Greater is = refl
