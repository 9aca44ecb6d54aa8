-- What is found, put and next at the place of a key, or where it would go.
use Rattle.std.specs.Prelude.{◌≡◌, ℕ, suc, ◌+◌, ◌<◌, ◌≤◌, T, Bool, true, false, List, [], ◌∷◌, ◌++◌, length, Option, option_map, Some, None, refl}
use Rattle.std.proofs.Common.{sym, ◌∙◌, ap, subst, arith, inl, inr}
use Rattle.std.specs.declared.cmp.Ordering.{Ordering}
use Rattle.std.specs.declared.cmp.Ordering.TheVariants.{Less, Equal, Greater}
use Rattle.std.specs.Ordering.{is_eq}
use Rattle.std.specs.FinMap.Entries.{put, find, is_sorted}
use Rattle.std.proofs.lemmas.Bool.{cases_lt}
use Rattle.std.proofs.lemmas.Map.Lookups.{exact_bytes}
use Rattle.byte_map.specs.Words.{Map, bytes_cmp, bytes_in, first_of, next_in}
use Rattle.byte_map.specs.Blocks.{joined, before, rest, NoneBelow, IsPlace, IsBoundFor, IsHeld, IsGap, pair_of, value_at, with_value}
use Rattle.byte_map.proofs.Order.{sorted_second, find_past, find_over, find_here, put_past, put_here, put_before, next_past, next_after, next_over}
use Rattle.byte_map.proofs.Joined.{parts, at_place, rest_end, bytes_in-append}

equal_from : (r : Ordering) → is_eq r ≡ true → r ≡ Equal
equal_from Less h = absurd (cc)
equal_from Equal h = refl
equal_from Greater h = absurd (cc)

-- a list by its first
from_first : (m : Map) (e : List ℕ × List ℕ) → Some e ≡ first_of m → (r : Map) × (m ≡ e ∷ r)
from_first [] e is = absurd (cc)
from_first (f ∷ m) e is = (m, let same : e ≡ f = cc in ap (λ (g : List ℕ × List ℕ). g ∷ m) (sym same))

from_none : (m : Map) → None ≡ first_of m → m ≡ []
from_none [] is = refl
from_none (f ∷ m) is = absurd (cc)

-- where there is a pair, the place is one of a block
pub in_list : (blocks : List Map) (b i : ℕ) (e : List ℕ × List ℕ) → Some e ≡ first_of (rest blocks b i) → b < length blocks
in_list blocks b i e is = elim (cases_lt b (length blocks)) [
  | inl less ↦ less
  | inr out ↦ absurd (let none = ap (λ (m : Map). first_of m) (rest_end blocks b i out) in cc)
]

-- a step of a walk
pub walked : (blocks : List Map) (b i : ℕ) (e : List ℕ × List ℕ) (key value : List ℕ) (r : Map) → IsPlace blocks b i → Some e ≡ first_of (rest blocks b i)
    → key ≡ e.0 → value ≡ e.1 → r ≡ rest blocks b (i + 1) → rest blocks b i ≡ (key, value) ∷ r
walked blocks b i e key value r place is k v left =
    let there = in_list blocks b i e is in
    let split = at_place blocks b i ([], []) there (place.inside there) in
    let first = is ∙ ap (λ (m : Map). first_of m) split in
    let here : e ≡ pair_of blocks b i = cc in
    let more : suc i ≡ i + 1 = omega arith in
    split ∙ ap (λ (f : List ℕ × List ℕ). f ∷ rest blocks b (suc i)) (sym here) ∙ ap (λ (n : ℕ). e ∷ rest blocks b n) more
    ∙ sym (λ t. (k t, v t) ∷ left t)

module _ (blocks : List Map) (k : List ℕ) (b i : ℕ) where
  whole : joined blocks ≡ before blocks b i ++ rest blocks b i
  whole = sym (parts blocks b i)

  rest_sorted : T (is_sorted bytes_cmp (joined blocks)) → T (is_sorted bytes_cmp (rest blocks b i))
  rest_sorted sorted = sorted_second (before blocks b i) (rest blocks b i) (subst (λ (m : Map). T (is_sorted bytes_cmp m)) whole sorted)

  module _ (bound : IsBoundFor blocks k b i) where
    pub held : (e : List ℕ × List ℕ) → Some e ≡ first_of (rest blocks b i) → is_eq (bytes_cmp e.0 k) ≡ true → IsHeld blocks k b i
    held e is same =
        let there = in_list blocks b i e is in
        let inside = bound.place.inside there in
        let first = is ∙ ap (λ (m : Map). first_of m) (at_place blocks b i ([], []) there inside) in
        let here : e ≡ pair_of blocks b i = cc in
        record {
          block = there;
          index = inside;
          key = ap (λ (g : List ℕ × List ℕ). g.0) (sym here) ∙ exact_bytes e.0 k (equal_from _ same);
          lesser = bound.lesser;
        }

    pub gap_before : T (is_sorted bytes_cmp (joined blocks)) → (e : List ℕ × List ℕ) → Some e ≡ first_of (rest blocks b i) → is_eq (bytes_cmp e.0 k) ≡ false → IsGap blocks k b i
    gap_before sorted e is other =
        let cut = from_first (rest blocks b i) e is in
        let others : NoneBelow k (e ∷ cut.0) = subst (NoneBelow k) cut.1 bound.others in
        record {
          place = bound.place;
          lesser = bound.lesser;
          others = bound.others;
          absent = ap (find bytes_cmp k) whole ∙ find_past k (before blocks b i) (rest blocks b i) bound.lesser ∙ ap (find bytes_cmp k) cut.1
              ∙ find_over k e cut.0 (subst (λ (m : Map). T (is_sorted bytes_cmp m)) cut.1 (rest_sorted sorted)) others.0 other;
        }

    pub gap_at_end : None ≡ first_of (rest blocks b i) → IsGap blocks k b i
    gap_at_end is = record {
      place = bound.place;
      lesser = bound.lesser;
      others = bound.others;
      absent = ap (find bytes_cmp k) whole ∙ find_past k (before blocks b i) (rest blocks b i) bound.lesser ∙ ap (find bytes_cmp k) (from_none (rest blocks b i) is);
    }

  module _ (here : IsHeld blocks k b i) where
    -- the pair there has the key
    keyed : rest blocks b i ≡ (k, value_at blocks b i) ∷ rest blocks b (suc i)
    keyed = at_place blocks b i ([], []) here.block here.index ∙ ap (λ (a : List ℕ). (a, value_at blocks b i) ∷ rest blocks b (suc i)) here.key

    pub find_held : find bytes_cmp k (joined blocks) ≡ Some (value_at blocks b i)
    find_held = ap (find bytes_cmp k) whole ∙ find_past k (before blocks b i) (rest blocks b i) here.lesser ∙ ap (find bytes_cmp k) keyed ∙ find_here k (value_at blocks b i) (rest blocks b (suc i))

    pub value_within : length (value_at blocks b i) ≤ bytes_in (joined blocks)
    value_within =
        let all = ap (λ (m : Map). bytes_in m) whole ∙ bytes_in-append (before blocks b i) (rest blocks b i) in
        let there = ap (λ (m : Map). bytes_in m) keyed in
        omega (arith, all, there)

    pub put_held : (v : List ℕ) → put bytes_cmp k v (joined blocks) ≡ with_value blocks b i v
    put_held v =
        ap (put bytes_cmp k v) whole ∙ put_past k v (before blocks b i) (rest blocks b i) here.lesser
        ∙ ap (λ (m : Map). before blocks b i ++ put bytes_cmp k v m) keyed
        ∙ ap (λ (m : Map). before blocks b i ++ m) (put_here k v (value_at blocks b i) (rest blocks b (suc i)))
        ∙ ap (λ (a : List ℕ). before blocks b i ++ (a, v) ∷ rest blocks b (suc i)) (sym here.key)

    pub next_held : T (is_sorted bytes_cmp (joined blocks)) → next_in bytes_cmp k (joined blocks) ≡ first_of (rest blocks b (suc i))
    next_held sorted =
        ap (next_in bytes_cmp k) whole ∙ next_past k (before blocks b i) (rest blocks b i) here.lesser ∙ ap (next_in bytes_cmp k) keyed
        ∙ next_after k (value_at blocks b i) (rest blocks b (suc i)) (subst (λ (m : Map). T (is_sorted bytes_cmp m)) keyed (rest_sorted sorted))

  module _ (gap : IsGap blocks k b i) where
    absent_behind : find bytes_cmp k (rest blocks b i) ≡ None
    absent_behind = sym (find_past k (before blocks b i) (rest blocks b i) gap.lesser) ∙ ap (find bytes_cmp k) (parts blocks b i) ∙ gap.absent

    pub put_gap : (v : List ℕ) → put bytes_cmp k v (joined blocks) ≡ before blocks b i ++ ((k, v) ∷ rest blocks b i)
    put_gap v =
        ap (put bytes_cmp k v) whole ∙ put_past k v (before blocks b i) (rest blocks b i) gap.lesser
        ∙ ap (λ (m : Map). before blocks b i ++ m) (put_before k v (rest blocks b i) gap.others absent_behind)

    next_there : (m : Map) → NoneBelow k m → find bytes_cmp k m ≡ None → next_in bytes_cmp k m ≡ first_of m
    next_there [] others new = refl
    next_there (e ∷ m) others new = next_over k e m others.0 (not_same (is_eq (bytes_cmp e.0 k)) refl)
      where
        not_same : (t : Bool) → is_eq (bytes_cmp e.0 k) ≡ t → t ≡ false
        not_same true is = absurd (
            let same = exact_bytes e.0 k (equal_from _ is) in
            let there = ap (λ (a : List ℕ). find bytes_cmp k ((a, e.1) ∷ m)) same ∙ find_here k e.1 m in cc)
        not_same false is = refl

    pub next_gap : next_in bytes_cmp k (joined blocks) ≡ first_of (rest blocks b i)
    next_gap = ap (next_in bytes_cmp k) whole ∙ next_past k (before blocks b i) (rest blocks b i) gap.lesser ∙ next_there (rest blocks b i) gap.others absent_behind

-- a pair that was lent in its parts
pub lent : (key value : List ℕ) (e : List ℕ × List ℕ) (m : Map) → key ≡ e.0 → value ≡ e.1 → Some e ≡ first_of m → Some (key, value) ≡ first_of m
lent key value e m k v is = (λ t. Some (k t, v t)) ∙ is

-- a value as long as the one that is there
pub as_long : (k v w : List ℕ) (m : Map) → find bytes_cmp k m ≡ Some w → option_map (length {A = ℕ}) (find bytes_cmp k m) ≡ Some (length v) → length w ≡ length v
as_long k v w m there same = let long = ap (λ (o : Option (List ℕ)). option_map (length {A = ℕ}) o) there in cc

-- a value that is there, as long as another
pub as_found : (k v : List ℕ) (m : Map) → option_map (length {A = ℕ}) (find bytes_cmp k m) ≡ Some (length v)
    → (w : List ℕ) × ((find bytes_cmp k m ≡ Some w) × (length w ≡ length v))
as_found k v m same = by (find bytes_cmp k m) refl same
  where
    by : (o : Option (List ℕ)) → find bytes_cmp k m ≡ o → option_map (length {A = ℕ}) o ≡ Some (length v)
        → (w : List ℕ) × ((find bytes_cmp k m ≡ Some w) × (length w ≡ length v))
    by None is long = absurd (cc)
    by (Some w) is long = (w, (is, cc))
