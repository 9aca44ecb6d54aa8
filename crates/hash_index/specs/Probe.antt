-- A search among slots: from the home of a digest on, going round, up to the first empty slot. A slot is the id that
-- it holds, and 0 where it is empty.
use Rattle.std.specs.Prelude.{◌≡◌, ◌≢◌, ◌⊎◌, ◌<◌, ◌≤◌, ◌+◌, ◌-◌, ◌%◌, ℕ, List, Option, Some, None, Bool, cond, nat_lt, MatchOption, length, slice_index}
use Rattle.std.specs.Int.{from_be_bytes, w64}

-- the place that many steps from the home, going round
unfoldable pub around : ℕ → ℕ → ℕ → ℕ
around count home step = cond (nat_lt step (count - home)) (home + step) (step - (count - home))

-- the place where a search for a digest begins: the number that its first eight bytes spell, the high byte first,
-- wrapped to the count of slots
unfoldable pub home_of : ℕ → List ℕ → ℕ
home_of count digest = from_be_bytes w64 digest % count

-- what the slot that many steps from the home holds
abbrev pub slot_at : ℕ → List ℕ → ℕ → ℕ → ℕ
slot_at count slots home step = slice_index slots (around count home step)

-- whether a slot holds an id
abbrev pub is_used : ℕ → Bool
is_used id = nat_lt 0 id

-- the id stands that many steps from the home, and no slot before it is empty
pub record Reaches (count : ℕ) (slots : List ℕ) (home id : ℕ) : Type 0 where
  pub step : ℕ
  pub within : step < count
  pub there : slot_at count slots home step ≡ id
  pub filled : (j : ℕ) → j < step → slot_at count slots home j ≢ 0

-- the place is the first empty one from the home on
pub record IsVacancy (count : ℕ) (slots : List ℕ) (home place : ℕ) : Type 0 where
  pub step : ℕ
  pub within : step < count
  pub is_place : place ≡ around count home step
  pub empty : slice_index slots place ≡ 0
  pub filled : (j : ℕ) → j < step → slot_at count slots home j ≢ 0

-- the id is above the bound, and its digest is told
abbrev pub IsCandidate : (ℕ → Option (List ℕ)) → List ℕ → ℕ → ℕ → Type 0
IsCandidate tells digest after id = (after < id) × (tells id ≡ Some digest)

-- the least of the first n ids that are candidates, or None where there is none
abbrev pub IsLeast : (ℕ → ℕ) → (ℕ → Type 0) → ℕ → Option ℕ → Type 0
IsLeast ids C n result = MatchOption result
    ((j : ℕ) → j < n → C (ids j) → ⊥)
    (λ id. C id × ((j : ℕ) × (j < n) × (ids j ≡ id)) × ((j : ℕ) → j < n → C (ids j) → id ≤ ids j))

-- the least of those before, and of one id more
abbrev pub IsNearer : (ℕ → Type 0) → Option ℕ → ℕ → Option ℕ → Type 0
IsNearer C before id result = MatchOption result
    ((before ≡ None) × (C id → ⊥))
    (λ r. ((before ≡ Some r) ⊎ ((r ≡ id) × C id)) × (C id → r ≤ id) × ((least : ℕ) → before ≡ Some least → r ≤ least))

-- the least candidate that is reached from the home, and which stands in a slot; or None where there is none
abbrev pub FindsReached : (ℕ → Option (List ℕ)) → List ℕ → ℕ → List ℕ → ℕ → Option ℕ → Type 0
FindsReached tells slots home digest after result = MatchOption result
    ((id : ℕ) → IsCandidate tells digest after id → Reaches (length slots) slots home id → ⊥)
    (λ id. IsCandidate tells digest after id × ((place : ℕ) × (slice_index slots place ≡ id))
    × ((other : ℕ) → IsCandidate tells digest after other → Reaches (length slots) slots home other → id ≤ other))
