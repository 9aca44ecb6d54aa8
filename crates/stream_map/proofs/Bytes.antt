-- The bytes that a number was read from are those that spell it.
use Rattle.std.specs.Prelude.{◌≡◌, ◌+◌, ◌<◌, ℕ, zero, suc, List, [], ◌∷◌, ◌++◌, length, get_or, take, drop}
use Rattle.std.proofs.Common.{sym, ◌∙◌, ap, arith, length-take, length-drop}
use Rattle.std.proofs.lemmas.List.{take-append-drop}
use Rattle.byteorder.specs.Endian.{big_bytes, big_number}
use Rattle.byteorder.specs.Numbers.{big_from-take}
use Rattle.groundwork.proofs.Bytes.{spelled_again}

pub byte_in_front : (n i : ℕ) (b : List ℕ) → ((k : ℕ) → get_or b k 0 < 256) → get_or (take n b) i 0 < 256
byte_in_front zero i b bytes = omega arith
byte_in_front (suc n) i [] bytes = omega arith
byte_in_front (suc n) zero (x ∷ b) bytes = bytes 0
byte_in_front (suc n) (suc i) (x ∷ b) bytes = byte_in_front n i b (λ k. bytes (suc k))

pub byte_behind : (n i : ℕ) (b : List ℕ) → ((k : ℕ) → get_or b k 0 < 256) → get_or (drop n b) i 0 < 256
byte_behind zero i b bytes = bytes i
byte_behind (suc n) i [] bytes = omega arith
byte_behind (suc n) i (x ∷ b) bytes = byte_behind n i b (λ k. bytes (suc k))

-- the same for two numbers, one after the other
pub spelled_pair : (n m : ℕ) (b : List ℕ) → length b ≡ n + m → ((i : ℕ) → get_or b i 0 < 256) → big_bytes n (big_number n b) ++ big_bytes m (big_number m (drop n b)) ≡ b
spelled_pair n m b size bytes =
    let front_size : length (take n b) ≡ n = omega (arith, size, length-take n b) in
    let back_size : length (drop n b) ≡ m = omega (arith, size, length-drop n b) in
    let front : big_bytes n (big_number n b) ≡ take n b =
    ap (λ (x : ℕ). big_bytes n x) (sym (big_from-take 0 n n b (omega arith))) ∙ spelled_again n (take n b) front_size (λ i. byte_in_front n i b bytes) in
    let back : big_bytes m (big_number m (drop n b)) ≡ drop n b = spelled_again m (drop n b) back_size (λ i. byte_behind n i b bytes) in
    (λ i. front i ++ back i) ∙ take-append-drop n b
