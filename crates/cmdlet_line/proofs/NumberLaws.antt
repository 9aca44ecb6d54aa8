-- The digits of a number.
use Rattle.std.proofs.Common.{◌≡◌, ◌+◌, ◌-◌, ◌*◌, ◌^◌, ◌<◌, ◌≤◌, ℕ, Bool, true, false, cond, ◌&&◌, nat_le, nat_lt, List, [], ◌∷◌, Some, None, zero, suc, length, get_or, take, refl, arith, add-one}
use Rattle.std.proofs.Math.Nat.{pow-suc}
use Rattle.std.specs.List.{All, list_all}
use Rattle.std.specs.Char.{digit_value, is_ascii_digit}
use Rattle.std.specs.Str.Parse.{digits_value}
use Rattle.std.proofs.lemmas.Bool.Decides.{nat_tests}
use Rattle.std.proofs.lemmas.Int.Digits.{digits_value_more}
use Rattle.std.proofs.lemmas.List.Sums.{AllPass-from_list_all}
use Rattle.cmdlet_line.specs.Words.{is_numeral, number_in, within}
use Rattle.cmdlet_line.specs.Spelled.{IsNumber}

pub record Numeral (word : List ℕ) : Type 0 where
  pub some : 1 ≤ length word
  pub short : length word ≤ 20
  pub digits : list_all is_ascii_digit word ≡ true

pub numeral : (word : List ℕ) → is_numeral word ≡ true → Numeral word
numeral word is = record { some = grind arith; short = grind arith; digits = grind arith }

pub digit_at : (word : List ℕ) (i : ℕ) → list_all is_ascii_digit word ≡ true → i < length word
    → is_ascii_digit (get_or word i 0) ≡ true
digit_at word i digits below = AllPass-from_list_all is_ascii_digit word digits i 0 below

pub digit_range : (b : ℕ) → is_ascii_digit b ≡ true → (48 ≤ b) × (b ≤ 57)
digit_range b is = grind (arith, nat_tests)

pub value_more : (word : List ℕ) (i value : ℕ) → i < length word → is_ascii_digit (get_or word i 0) ≡ true
    → value ≡ digits_value 10 (take i word)
    → value * 10 + (get_or word i 0 - 48) ≡ digits_value 10 (take (i + 1) word)
value_more word i value inside digit so_far =
    let worth : digit_value (get_or word i 0) ≡ get_or word i 0 - 48 = grind (arith, nat_tests) in
    rw (digits_value_more 10 word i inside, worth, so_far)

pub small_more : (value digit i : ℕ) → value + 1 ≤ 10 ^ i → digit ≤ 57 → value * 10 + (digit - 48) + 1 ≤ 10 ^ (i + 1)
small_more value digit i small most =
    let next : 10 ^ (i + 1) ≡ 10 ^ i * 10 = rw (add-one, pow-suc) refl in
    let few : digit - 48 ≤ 9 = omega arith in
    omega arith

-- A number, both ways.

both_true : (t u : Bool) → (t && u) ≡ true → (t ≡ true) × (u ≡ true)
both_true true u e = (refl, e)
both_true false u e = cc

chosen : (t : Bool) (v n : ℕ) → cond t (Some v) None ≡ Some n → (t ≡ true) × (v ≡ n)
chosen true v n e = (refl, cc)
chosen false v n e = cc

chosen_within : (t : Bool) (least most v n : ℕ) → within least most (cond t (Some v) None) ≡ Some n
    → (t ≡ true) × ((nat_le least v && nat_le v most) ≡ true) × (v ≡ n)
chosen_within true least most v n e =
    let c = chosen (nat_le least v && nat_le v most) v n e in (refl, c.0, c.1)
chosen_within false least most v n e = cc

pub is_number : (least most n : ℕ) (word : List ℕ) → number_in least most word ≡ Some n → IsNumber least most n word
is_number least most n word e =
    let fitting : Bool = is_numeral word && nat_lt (digits_value 10 word) (2 ^ 64) in
    let c = chosen_within fitting least most (digits_value 10 word) n e in
    let parts = both_true (is_numeral word) (nat_lt (digits_value 10 word) (2 ^ 64)) c.0 in
    let range = both_true (nat_le least (digits_value 10 word)) (nat_le (digits_value 10 word) most) c.1 in
    let is = numeral word parts.0 in
    record {
      some = is.some;
      short = is.short;
      digits = λ k d below. digit_range (get_or word k d)
          (AllPass-from_list_all is_ascii_digit word is.digits k d below);
      worth = c.2;
      fits = let small = parts.1 in let same = c.2 in grind (arith, nat_tests);
      above = let low = range.0 in let same = c.2 in grind (arith, nat_tests);
      below = let high = range.1 in let same = c.2 in grind (arith, nat_tests);
    }

in_digits : (b : ℕ) → 48 ≤ b → b ≤ 57 → is_ascii_digit b ≡ true
in_digits b low high = grind (arith, nat_tests)

all_digits : (word : List ℕ) → All (λ b. (48 ≤ b) × (b ≤ 57)) word → list_all is_ascii_digit word ≡ true
all_digits [] all = refl
all_digits (b ∷ word) all =
    let first = all zero 0 (omega arith) in
    rw (in_digits b first.0 first.1) (all_digits word (λ k d below. all (suc k) d (omega arith)))

pub number_is : (least most n : ℕ) (word : List ℕ) → IsNumber least most n word → number_in least most word ≡ Some n
number_is least most n word is =
    let some : nat_le 1 (length word) ≡ true = let has = is.some in grind (arith, nat_tests) in
    let few : nat_le (length word) 20 ≡ true = let has = is.short in grind (arith, nat_tests) in
    let fits : nat_lt n (2 ^ 64) ≡ true = let has = is.fits in grind (arith, nat_tests) in
    let low : nat_le least n ≡ true = let has = is.above in grind (arith, nat_tests) in
    let high : nat_le n most ≡ true = let has = is.below in grind (arith, nat_tests) in
    rw (some, few, all_digits word is.digits, is.worth, fits, low, high) refl
