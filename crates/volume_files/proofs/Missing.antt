-- The blocks of a file that have no extent are those that are not counted among its extents.
use Rattle.std.specs.Prelude.{◌≡◌, ◌<◌, ◌&&◌, ◌+◌, ℕ, zero, suc, true, false, T, List, length, Option, Some, None, refl}
use Rattle.std.proofs.Common.{sym, ◌∙◌, ap, arith}
use Rattle.std.specs.declared.cmp.Ordering.{Ordering}
use Rattle.std.specs.declared.cmp.Ordering.TheVariants.{Less, Equal, Greater}
use Rattle.std.specs.Ordering.{nat_cmp, is_le, is_lt, ordering_then, MatchOrdering}
use Rattle.std.specs.Cmp.{nat_cmp_is, ranks}
use Rattle.std.specs.FinMap.{find, is_sorted}
use Rattle.std.specs.FinMap.Entries.{where_key}
use Rattle.table_records.specs.Changes.{is_under}
use Rattle.table_records.specs.Keys.{pair_cmp}
use Rattle.table_records.specs.declared.records.Extent.{Extent}
use Rattle.volume_inside.specs.Typed.{Typed, FileBlock}
use Rattle.volume_tables.specs.Dropped.{extents_in, extents_above}
use Rattle.volume_tables.proofs.Dropping.{first_absent, first_left, first_past}
use Rattle.volume_files.specs.Needs.{missing, one_if_none}

-- what is above a block is from the next one on
above_is_from : (a x : ℕ) → is_lt (nat_cmp a x) ≡ is_le (nat_cmp (a + 1) x)
above_is_from a x = by (nat_cmp a x) refl (ranks a x) (nat_cmp (a + 1) x) refl (ranks (a + 1) x)
  where
    by : (r : Ordering) → nat_cmp a x ≡ r → MatchOrdering r (a < x) (a ≡ x) (x < a)
        → (s : Ordering) → nat_cmp (a + 1) x ≡ s → MatchOrdering s (a + 1 < x) (a + 1 ≡ x) (x < a + 1)
        → is_lt (nat_cmp a x) ≡ is_le (nat_cmp (a + 1) x)
    by Less is h Less at k = ap is_lt is ∙ sym (ap is_le at)
    by Less is h Equal at k = ap is_lt is ∙ sym (ap is_le at)
    by Less is h Greater at k = absurd (omega (arith, h, k))
    by Equal is h Less at k = absurd (omega (arith, h, k))
    by Equal is h Equal at k = absurd (omega (arith, h, k))
    by Equal is h Greater at k = ap is_lt is ∙ sym (ap is_le at)
    by Greater is h Less at k = absurd (omega (arith, h, k))
    by Greater is h Equal at k = absurd (omega (arith, h, k))
    by Greater is h Greater at k = ap is_lt is ∙ sym (ap is_le at)

next_from : (f a : ℕ) (x : FileBlock) → is_lt (pair_cmp (f, a) x) ≡ is_le (pair_cmp (f, a + 1) x)
next_from f a x = by (nat_cmp f x.0)
  where
    by : (r : Ordering) → is_lt (ordering_then r (nat_cmp a x.1)) ≡ is_le (ordering_then r (nat_cmp (a + 1) x.1))
    by Less = refl
    by Equal = above_is_from a x.1
    by Greater = refl

from_next : (f a : ℕ) (to : Option FileBlock) (es : List (FileBlock × Extent))
    → extents_above (f, a) to es ≡ extents_in (f, a + 1) to es
from_next f a to es = λ i. where_key pair_cmp (λ x. next_from f a x i && is_under pair_cmp to x) es

under_later : (f a b : ℕ) → a < b → is_under pair_cmp (Some (f, b)) (f, a) ≡ true
under_later f a b less =
    ap (λ (r : Ordering). is_lt (ordering_then r (nat_cmp a b))) (sym (nat_cmp_is f f Equal refl))
    ∙ ap is_lt (sym (nat_cmp_is a b Less less))

not_under_itself : (f a b : ℕ) → a ≡ b → is_under pair_cmp (Some (f, b)) (f, a) ≡ false
not_under_itself f a b same =
    ap (λ (r : Ordering). is_lt (ordering_then r (nat_cmp a b))) (sym (nat_cmp_is f f Equal refl))
    ∙ ap is_lt (sym (nat_cmp_is a b Equal same))

module _ (t : Typed) (file : ℕ) (sorted : T (is_sorted pair_cmp t.extents)) where
  abbrev pub between : ℕ → ℕ → List (FileBlock × Extent)
  between a b = extents_in (file, a) (Some (file, b)) t.extents

  one_more : (a b : ℕ) → a < b
      → one_if_none (find pair_cmp (file, a) t.extents) + length (between a b) ≡ 1 + length (between (a + 1) b)
  one_more a b less = by (find pair_cmp (file, a) t.extents) refl
    where
      later : extents_above (file, a) (Some (file, b)) t.extents ≡ between (a + 1) b
      later = from_next file a (Some (file, b)) t.extents

      by : (o : Option Extent) → find pair_cmp (file, a) t.extents ≡ o
          → one_if_none o + length (between a b) ≡ 1 + length (between (a + 1) b)
      by None is =
          let all = ap (λ (es : List (FileBlock × Extent)). length es)
          (sym (first_absent (file, a) (Some (file, b)) t.extents is) ∙ later) in
          omega (arith, all)
      by (Some e) is =
          let all = ap (λ (es : List (FileBlock × Extent)). length es)
          (sym (first_left (file, a) (Some (file, b)) t.extents e sorted is (under_later file a b less))) in
          let rest = ap (λ (es : List (FileBlock × Extent)). length es) later in
          omega (arith, all, rest)

  pub missing_counted : (n a b : ℕ) → a + n ≡ b → missing t file a n + length (between a b) ≡ n
  missing_counted zero a b end =
      let none = ap (λ (es : List (FileBlock × Extent)). length es)
      (first_past (file, a) (Some (file, b)) t.extents (not_under_itself file a b (omega (arith, end)))) in
      omega (arith, none)
  missing_counted (suc n) a b end =
      let rest = missing_counted n (a + 1) b (omega (arith, end)) in
      omega (arith, rest, one_more a b (omega (arith, end)))
