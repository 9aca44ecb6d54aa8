-- The print of a window, a fingerprint in the manner of Rabin (1981): the bits of the window, the
-- first byte's most significant bit first, are the coefficients of a polynomial over GF(2). The print
-- is its remainder modulo x^64 + x^4 + x^3 + x + 1. Bit k of the number is the coefficient of x^k.
use Rattle.std.specs.Prelude.{ℕ, zero, suc, ◌*◌, ◌/◌, ◌%◌, ◌^◌, ◌==◌, if◌then◌else◌, bit_xor, List, [], ◌∷◌}
use Rattle.std.specs.Int.{bit_at}

-- x times a remainder: one step of the division. 27 is x^4 + x^3 + x + 1.
unfoldable pub times_x : ℕ → ℕ
times_x v = if v / 2 ^ 63 == 0 then v * 2 % 2 ^ 64 else bit_xor (v * 2 % 2 ^ 64) 27

-- x^k times a remainder
unfoldable pub times_x_to : ℕ → ℕ → ℕ
times_x_to zero v = v
times_x_to (suc k) v = times_x (times_x_to k v)

-- the remainder v once the low k bits of b have followed, the highest first
unfoldable pub with_bits : ℕ → ℕ → ℕ → ℕ
with_bits zero v b = v
with_bits (suc k) v b = with_bits k (bit_xor (times_x v) (bit_at b k)) b

-- the remainder v once the bytes have followed
unfoldable pub print_after : ℕ → List ℕ → ℕ
print_after v [] = v
print_after v (b ∷ bs) = print_after (with_bits 8 v b) bs

abbrev pub print_of : List ℕ → ℕ
print_of window = print_after 0 window
