-- What a table of slots stands for.
use Rattle.std.specs.Prelude.{◌≡◌, ◌<◌, ℕ, List, [], ◌∷◌, ◌++◌, Option, Some, None, cond, nat_lt, length, slice_index, Contains}
use Rattle.hash_index.specs.Pairs.{Pair}
use Rattle.hash_index.specs.Probe.{home_of, Reaches}

-- the slots, each an id or 0, and how many of them hold an id
pub record SlotTable : Type 0 where
  pub slots : List ℕ
  pub held : ℕ

-- each pair's id is reached from the home of its digest, each id in a slot is that of a pair, and they are counted
pub record SlotsStandFor (table : SlotTable) (pairs : List Pair) : Type 0 where
  pub least : (p : Pair) → Contains pairs p → 0 < p.1
  pub placed : (p : Pair) → Contains pairs p
      → Reaches (length table.slots) table.slots (home_of (length table.slots) p.0) p.1
  pub owned : (place : ℕ) → 0 < slice_index table.slots place
      → (digest : List ℕ) × Contains pairs (digest, slice_index table.slots place)
  pub counted : length pairs ≡ table.held

-- the pair of an id, where its digest is told
abbrev pub told_pair : Option (List ℕ) → ℕ → List Pair
told_pair None id = []
told_pair (Some digest) id = (digest, id) ∷ []

-- the pair of what a slot holds, where it is known
abbrev pub known_pair : (ℕ → Option (List ℕ)) → ℕ → List Pair
known_pair tells id = cond (nat_lt 0 id) (told_pair (tells id) id) []

-- the pairs of the slots that are known
abbrev pub known_pairs : (ℕ → Option (List ℕ)) → List ℕ → List Pair
known_pairs tells [] = []
known_pairs tells (id ∷ slots) = known_pair tells id ++ known_pairs tells slots
