-- What an index stands for: a list of pairs of a digest and the id that is held under it.
use Rattle.std.specs.Prelude.{◌≡◌, ◌⊎◌, ◌<◌, ◌≤◌, ℕ, List, Option, Some, None, IsSome, MatchOption, Contains}

-- a digest, and the id that is held under it
abbrev pub Pair : Type 0
Pair = List ℕ × ℕ

-- of each held id the digest of its pair is told, or nothing
abbrev pub Agrees : (ℕ → Option (List ℕ)) → List Pair → Type 0
Agrees tells pairs = (p : Pair) → Contains pairs p → (tells p.1 ≡ Some p.0) ⊎ (tells p.1 ≡ None)

-- the id is held under the digest, is above the bound, and is known
pub record IsKnown (tells : ℕ → Option (List ℕ)) (pairs : List Pair) (digest : List ℕ) (after id : ℕ) : Type 0 where
  pub above : after < id
  pub held : Contains pairs (digest, id)
  pub known : tells id ≡ Some digest

-- the answer of a search: the least known id above the bound, or None exactly where there is none
abbrev pub Finds : (ℕ → Option (List ℕ)) → List Pair → List ℕ → ℕ → Option ℕ → Type 0
Finds tells pairs digest after result = MatchOption result
    ((id : ℕ) → IsKnown tells pairs digest after id → ⊥)
    (λ id. IsKnown tells pairs digest after id × ((other : ℕ) → IsKnown tells pairs digest after other → id ≤ other))

-- the id is not held
abbrev pub IsFree : List Pair → ℕ → Type 0
IsFree pairs id = (digest : List ℕ) → Contains pairs (digest, id) → ⊥

-- kept is the pairs, of which some that are not known are left out
pub record Keeps (tells : ℕ → Option (List ℕ)) (pairs kept : List Pair) : Type 0 where
  pub only : (p : Pair) → Contains kept p → Contains pairs p
  pub each_known : (p : Pair) → Contains pairs p → IsSome (tells p.1) → Contains kept p
