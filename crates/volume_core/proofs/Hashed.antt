-- Bytes of a file, piece by piece, and its first lost cell.
use Rattle.std.specs.Prelude.{◌≡◌, ◌≤◌, ◌<◌, ◌+◌, ◌&&◌, if◌then◌else◌, nat_le, nat_lt, ℕ, Bool, true, false, List, []}
use Rattle.std.specs.Prelude.{◌∷◌, ◌++◌, length, take, drop, Option, Some, None, refl}
use Rattle.std.proofs.Common.{sym, ap, ◌∙◌, take-add, arith, inl, inr}
use Rattle.std.proofs.lemmas.Bool.{cases_lt, le-ltb}
use Rattle.std.proofs.lemmas.Bool.Decides.{nat_tests}
use Rattle.plain_volume.specs.Volume.{Cell, Byte, Lost, bytes_of, lost_where, is_within}

bytes_of-append : (xs ys : List Cell) → bytes_of (xs ++ ys) ≡ bytes_of xs ++ bytes_of ys
bytes_of-append [] ys = refl
bytes_of-append (Byte b ∷ xs) ys = ap (λ (bs : List ℕ). b ∷ bs) (bytes_of-append xs ys)
bytes_of-append (Lost ∷ xs) ys = ap (λ (bs : List ℕ). 0 ∷ bs) (bytes_of-append xs ys)

-- a piece stands behind the bytes before it
pub piece_behind : (at count : ℕ) (cells : List Cell)
    → bytes_of (take (at + count) cells) ≡ bytes_of (take at cells) ++ bytes_of (take count (drop at cells))
piece_behind at count cells =
    ap bytes_of (take-add at count cells) ∙ bytes_of-append (take at cells) (take count (drop at cells))

-- places below one
abbrev pub below : ℕ → ℕ → Bool
below most p = nat_lt p most

is_below : (p q : ℕ) → p < q → nat_lt p q ≡ true
is_below p q low = grind (arith, nat_tests)

-- a test that fails at a place goes on behind it, and one that holds tells it
goes_on : (b : Bool) (n : ℕ) (rest : Option ℕ) → b ≡ false → (if b then Some n else rest) ≡ rest
goes_on b n rest is = ap (λ (x : Bool). if x then Some n else rest) is

tells : (b : Bool) (n : ℕ) (rest : Option ℕ) → b ≡ true → (if b then Some n else rest) ≡ Some n
tells b n rest is = ap (λ (x : Bool). if x then Some n else rest) is

-- where no cell below a place is lost, the first lost one below a further place is that of the piece between them
pub piece_lost : (at count n : ℕ) (cells : List Cell) → lost_where (below at) n cells ≡ None
    → lost_where (below (at + count)) n cells ≡ lost_where (is_within at count) n cells
piece_lost at count n [] none = refl
piece_lost at count n (Byte b ∷ cells) none = piece_lost at count (n + 1) cells none
piece_lost at count n (Lost ∷ cells) none = elim (cases_lt n at) [
  | inl low ↦ absurd (let told : None ≡ Some n = sym none
      ∙ tells (nat_lt n at) n (lost_where (below at) (n + 1) cells) (is_below n at low) in cc)
  | inr high ↦
      let rest = piece_lost at count (n + 1) cells
      (sym (goes_on (nat_lt n at) n (lost_where (below at) (n + 1) cells) (le-ltb n at high)) ∙ none) in
      let same : nat_lt n (at + count) ≡ is_within at count n = sym (ap (λ (b : Bool). b && nat_lt n (at + count)) (from n at high)) in
      λ i. if same i then Some n else rest i
]
  where
    from : (p q : ℕ) → q ≤ p → nat_le q p ≡ true
    from p q high = grind (arith, nat_tests)

-- none is told below a place that is not behind the cells
none_below : (most n : ℕ) (cells : List Cell) → most ≤ n → lost_where (below most) n cells ≡ None
none_below most n [] high = refl
none_below most n (Byte b ∷ cells) high = none_below most (n + 1) cells (omega (arith, high))
none_below most n (Lost ∷ cells) high =
    goes_on (nat_lt n most) n (lost_where (below most) (n + 1) cells) (le-ltb n most high)
    ∙ none_below most (n + 1) cells (omega (arith, high))

-- nothing is lost below the first place
pub none_at_first : (cells : List Cell) → lost_where (below 0) 0 cells ≡ None
none_at_first cells = none_below 0 0 cells (omega arith)

-- the first lost cell below a place is the first of all
pub first_of_all : (most n q : ℕ) (cells : List Cell) → lost_where (below most) n cells ≡ Some q
    → lost_where (λ p. true) n cells ≡ Some q
first_of_all most n q [] told = absurd (let clash : None ≡ Some q = told in cc)
first_of_all most n q (Byte b ∷ cells) told = first_of_all most (n + 1) q cells told
first_of_all most n q (Lost ∷ cells) told = elim (cases_lt n most) [
  | inl low ↦ sym (tells (nat_lt n most) n (lost_where (below most) (n + 1) cells) (is_below n most low)) ∙ told
  | inr high ↦ absurd (let clash : None ≡ Some q = sym (none_below most (n + 1) cells (omega (arith, high)))
      ∙ (sym (goes_on (nat_lt n most) n (lost_where (below most) (n + 1) cells) (le-ltb n most high)) ∙ told) in cc)
]

-- where none is lost below the end none is lost
pub none_of_all : (most n : ℕ) (cells : List Cell) → n + length cells ≤ most → lost_where (below most) n cells ≡ None
    → lost_where (λ p. true) n cells ≡ None
none_of_all most n [] all none = refl
none_of_all most n (Byte b ∷ cells) all none = none_of_all most (n + 1) cells (omega (arith, all)) none
none_of_all most n (Lost ∷ cells) all none = absurd (let told : None ≡ Some n = sym none
    ∙ tells (nat_lt n most) n (lost_where (below most) (n + 1) cells) (is_below n most (omega (arith, all))) in cc)
