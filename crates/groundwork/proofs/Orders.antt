-- What a comparison tells, and how rows and columns compare.
use Rattle.std.specs.Prelude.{◌≡◌, ◌+◌, ◌*◌, ◌<◌, ℕ, true, T, refl}
use Rattle.std.proofs.Common.{ap, arith}
use Rattle.std.specs.declared.cmp.Ordering.{Ordering}
use Rattle.std.specs.declared.cmp.Ordering.TheVariants.{Less, Equal, Greater}
use Rattle.std.specs.Ordering.{nat_cmp, ordering_then, is_lt, MatchOrdering}
use Rattle.std.specs.Cmp.{ranks, nat_cmp_is}
use Rattle.std.proofs.lemmas.Nat.{row_fits}

pub is_less : (r : Ordering) → T (is_lt r) → r ≡ Less
is_less Less h = refl
is_less Equal h = absurd h
is_less Greater h = absurd h

pub less_from : (r : Ordering) → is_lt r ≡ true → r ≡ Less
less_from Less h = refl
less_from Equal h = absurd (cc)
less_from Greater h = absurd (cc)

-- in one row the columns decide
columns : (a b c d w : ℕ) → a ≡ b → (r : Ordering) → MatchOrdering r (c < d) (c ≡ d) (d < c)
    → MatchOrdering r (a * w + c < b * w + d) (a * w + c ≡ b * w + d) (b * w + d < a * w + c)
columns a b c d w same Less h = let rows = ap (λ (k : ℕ). k * w) same in omega (arith, rows, h)
columns a b c d w same Equal h = let rows = ap (λ (k : ℕ). k * w) same in omega (arith, rows, h)
columns a b c d w same Greater h = let rows = ap (λ (k : ℕ). k * w) same in omega (arith, rows, h)

-- rows of one width compare first by the row, then by the column
pub rows_cmp : (a b c d w : ℕ) → c < w → d < w → ordering_then (nat_cmp a b) (nat_cmp c d) ≡ nat_cmp (a * w + c) (b * w + d)
rows_cmp a b c d w low high = by (nat_cmp a b) (ranks a b)
  where
    by : (r : Ordering) → MatchOrdering r (a < b) (a ≡ b) (b < a) → ordering_then r (nat_cmp c d) ≡ nat_cmp (a * w + c) (b * w + d)
    by Less h = nat_cmp_is (a * w + c) (b * w + d) Less (omega (arith, low, high, row_fits a w b w h (omega arith)))
    by Equal h = nat_cmp_is (a * w + c) (b * w + d) (nat_cmp c d) (columns a b c d w h (nat_cmp c d) (ranks c d))
    by Greater h = nat_cmp_is (a * w + c) (b * w + d) Greater (omega (arith, low, high, row_fits b w a w h (omega arith)))
