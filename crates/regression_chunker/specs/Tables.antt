-- What the tables hold by which a window moves on a byte at a time.
use Rattle.std.specs.Prelude.{ℕ, ◌*◌, ◌/◌, ◌%◌, ◌^◌, ◌<◌, ◌≡◌, bit_xor, List, slice_index}
use Rattle.regression_chunker.specs.Fingerprint.{times_x_to}

-- entry b is x^k times the byte b
abbrev pub IsTable : ℕ → List ℕ → Type 0
IsTable k t = (i : ℕ) → i < 256 → slice_index t i ≡ times_x_to k i

-- the print once a byte has come in and another has gone
abbrev pub push_of : ℕ → ℕ → ℕ → ℕ
push_of print new old =
    bit_xor (bit_xor (print * 2 ^ 8 % 2 ^ 64) (bit_xor new (times_x_to 384 old))) (times_x_to 64 (print / 2 ^ 56))

-- The complement of a print has all its 64 bits changed, so that bits that are 1 in the print are 0 in it.
abbrev pub complement_of : ℕ → ℕ
complement_of print = bit_xor print 0xffff_ffff_ffff_ffff

-- entry b is what a push changes in a complement turned by a byte, of which b is the byte that comes round:
-- its own complement falls out, and x^64 times that comes in
abbrev pub IsTurnTable : List ℕ → Type 0
IsTurnTable t = (i : ℕ) → i < 256 → slice_index t i ≡ bit_xor (times_x_to 64 (bit_xor i 0xff)) (bit_xor i 0xff)
