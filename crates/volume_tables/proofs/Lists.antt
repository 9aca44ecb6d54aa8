-- Bytes at the front of a list.
use Rattle.std.specs.Prelude.{◌≡◌, ◌≤◌, ℕ, List, [], ◌∷◌, length, take, slice_set, refl}
use Rattle.std.proofs.Common.{arith}

-- the byte that was put at the front of some bytes
pub one_set : (out : List ℕ) (x : ℕ) → 32 ≤ length out → take 1 (slice_set out 0 x) ≡ x ∷ []
one_set [] x room = absurd (omega (arith, room))
one_set (y ∷ out) x room = refl
