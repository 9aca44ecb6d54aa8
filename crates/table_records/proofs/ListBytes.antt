-- The size of a list of texts.
use Rattle.std.specs.Prelude.{◌≡◌, ◌≤◌, ◌<◌, ◌+◌, ◌*◌, ℕ, zero, suc, List, [], ◌∷◌, ◌++◌, length, get_or}
use Rattle.std.proofs.Common.{arith}
use Rattle.table_records.specs.Texts.{list_bytes}

pub list_bytes_append : (ts : List (List ℕ)) (t : List ℕ) → list_bytes (ts ++ t ∷ []) ≡ list_bytes ts + (length t + 2)
list_bytes_append [] t = omega arith
list_bytes_append (x ∷ ts) t = let rest = list_bytes_append ts t in omega (arith, rest)

-- each text takes two bytes at least
pub count_bytes : (ts : List (List ℕ)) → 2 * length ts ≤ list_bytes ts
count_bytes [] = omega arith
count_bytes (x ∷ ts) = let rest = count_bytes ts in omega (arith, rest)

-- no text is longer than the list
pub text_bytes_below : (ts : List (List ℕ)) (i : ℕ) → i < length ts → length (get_or ts i []) + 2 ≤ list_bytes ts
text_bytes_below [] i low = absurd (omega (arith, low))
text_bytes_below (x ∷ ts) zero low = omega arith
text_bytes_below (x ∷ ts) (suc i) low = let rest = text_bytes_below ts i (omega (arith, low)) in omega (arith, rest)
