-- Where the rest of a file is cut: content-defined chunking with regression, after El-Shimi and others,
-- "Primary Data Deduplication: Large Scale Study and System Design" (2012). A place is a number of bytes
-- from the start of the rest; its print is that of the 48 bytes before it.
use Rattle.std.specs.Prelude.{ℕ, ◌+◌, ◌-◌, ◌%◌, ◌^◌, ◌<◌, ◌≤◌, ◌≡◌, ◌⊎◌, min, List, ◌++◌, length, slice_range}
use Rattle.regression_chunker.specs.Fingerprint.{print_of}

unfoldable pub print_at : List ℕ → ℕ → ℕ
print_at rest p = print_of (slice_range rest (p - 48) p)

-- the low k bits of the place's print are all 1
abbrev pub IsMatch : ℕ → List ℕ → ℕ → Type 0
IsMatch k rest p = print_at rest p % 2 ^ k ≡ 2 ^ k - 1

-- Of the places from `from` to `last`, both included: none matches; p is the first; p is the last.
abbrev pub NoMatch : ℕ → List ℕ → ℕ → ℕ → Type 0
NoMatch k rest from last = (q : ℕ) → from ≤ q → q ≤ last → ¬ (IsMatch k rest q)

abbrev pub IsFirstMatch : ℕ → List ℕ → ℕ → ℕ → ℕ → Type 0
IsFirstMatch k rest from last p =
    (from ≤ p) × (p ≤ last) × IsMatch k rest p × ((q : ℕ) → from ≤ q → q < p → ¬ (IsMatch k rest q))

abbrev pub IsLastMatch : ℕ → List ℕ → ℕ → ℕ → ℕ → Type 0
IsLastMatch k rest from last p =
    (from ≤ p) × (p ≤ last) × IsMatch k rest p × ((q : ℕ) → p < q → q ≤ last → ¬ (IsMatch k rest q))

-- the last place of a long rest that matches with k bits, or, if there is none, what is said else
abbrev pub LastOr : ℕ → List ℕ → (ℕ → Type 0) → ℕ → Type 0
LastOr k rest Else p = IsLastMatch k rest 32768 131072 p ⊎ (NoMatch k rest 32768 131072 × Else p)

-- the regression: the last place that matches with 15 bits; if none, with 14, 13, 12; if none, the greatest
abbrev pub IsRegression : List ℕ → ℕ → Type 0
IsRegression rest p = LastOr 15 rest (LastOr 14 rest (LastOr 13 rest (LastOr 12 rest (λ q. q ≡ 131072)))) p

-- the rest is cut at p: at the first full match, that is one with 16 bits; if there is none, at the end of
-- a rest that is not too long for a piece, and by the regression in a longer one
abbrev pub IsCut : List ℕ → ℕ → Type 0
IsCut rest p =
    IsFirstMatch 16 rest 32768 (min (length rest) 131072) p
    ⊎ (NoMatch 16 rest 32768 (min (length rest) 131072)
    × (((length rest ≤ 131072) × (p ≡ length rest)) ⊎ ((131072 < length rest) × IsRegression rest p)))

-- the start of a rest of n bytes holds a full match, or all the bytes that a cut may look at
abbrev pub IsEnough : List ℕ → ℕ → Type 0
IsEnough start n =
    ((p : ℕ) × (32768 ≤ p) × (p ≤ min (length start) 131072) × IsMatch 16 start p) ⊎ (min n 131072 ≤ length start)

-- the start alone decides the cut: it is enough, and whatever follows, the rest of n bytes is cut at p
abbrev pub Decides : List ℕ → ℕ → ℕ → Type 0
Decides start n p =
    IsEnough start n × ((more : List ℕ) → length start + length more ≡ n → IsCut (start ++ more) p)
