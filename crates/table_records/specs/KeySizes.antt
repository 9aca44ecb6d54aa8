-- The bytes of keys that are numbers, and of values of one length.
use Rattle.std.specs.Prelude.{◌≡◌, ◌+◌, ℕ, true, List, ◌∷◌, length, take, drop, Option, Some, None, refl}
use Rattle.std.proofs.Common.{ap, arith, eqb-true, length-take, length-drop}
use Rattle.byteorder.specs.Endian.{big_bytes}
use Rattle.byteorder.specs.Numbers.{length-bytes_high_first}
use Rattle.table_records.specs.Keys.{number_in, pair_in, number_key, pair_key, both}
use Rattle.table_records.specs.Orders.{behind_means, number_means}
use Rattle.table_records.specs.Values.{has_length}

-- of a table of this number, whose keys are numbers of so many bytes
pub number_size : (number n : ℕ) (b : List ℕ) (k : ℕ) → number_key number n b ≡ Some k → length b ≡ 1 + n
number_size number n b k is =
    let from = behind_means number (number_in n) b k is in
    let rest : length (big_bytes n k) ≡ length from.0 = ap (λ (l : List ℕ). length l)
    (number_means n from.0 k from.2).1 in
    let whole : length b ≡ length (number ∷ from.0) = ap (λ (l : List ℕ). length l) from.1 in
    omega (arith, rest, whole, length-bytes_high_first n k)

-- of a table of this number, whose keys are two numbers of so many bytes
pub pair_size : (number m n : ℕ) (b : List ℕ) (k : ℕ × ℕ) → pair_key number m n b ≡ Some k → length b ≡ 1 + (m + n)
pair_size number m n b k is =
    let from = behind_means number (pair_in m n) b k is in
    let rest = by from.0 (number_in m (take m from.0)) (number_in n (drop m from.0)) refl refl from.2 in
    let whole : length b ≡ length (number ∷ from.0) = ap (λ (l : List ℕ). length l) from.1 in
    omega (arith, rest, whole)
  where
    by : (b : List ℕ) (o p : Option ℕ) → number_in m (take m b) ≡ o → number_in n (drop m b) ≡ p → both o p ≡ Some k
        → length b ≡ m + n
    by b None p x y is = absurd (cc)
    by b (Some i) None x y is = absurd (cc)
    by b (Some i) (Some j) x y is =
        let low : length (big_bytes m i) ≡ length (take m b) = ap (λ (l : List ℕ). length l)
        (number_means m (take m b) i x).1 in
        let high : length (big_bytes n j) ≡ length (drop m b) = ap (λ (l : List ℕ). length l)
        (number_means n (drop m b) j y).1 in
        omega (
          arith,
          low,
          high,
          length-bytes_high_first m i,
          length-bytes_high_first n j,
          length-take m b,
          length-drop m b,
        )

-- of values of so many bytes
pub has_size : (n : ℕ) (b : List ℕ) → has_length n b ≡ true → length b ≡ n
has_size n b is = eqb-true (length b) n is
