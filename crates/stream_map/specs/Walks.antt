-- A walk over the entries of a stream map.
use Rattle.std.specs.Prelude.{ℕ, ◌≡◌, ◌<◌, ◌≤◌, ◌+◌, ◌*◌, ◌%◌, List, [], ◌∷◌}
use Rattle.stream_map.specs.declared.limits.TheConstants.{ENTRY_BYTES, MOST_LENGTH}
use Rattle.stream_map.specs.declared.entry.Entry.{Entry}

-- the bytes of the map, the entries so far, and the bytes of the file that these cover
pub record Walked : Type 0 where
  pub total : ℕ
  pub count : ℕ
  pub covered : ℕ

-- a map has one entry at least, and whole entries only
abbrev pub IsMapLength : ℕ → Type 0
IsMapLength total = (0 < total) × (total % ENTRY_BYTES ≡ 0)

-- an entry stands for 1 to 131,072 bytes
abbrev pub IsLawful : Entry → Type 0
IsLawful entry = (0 < entry.length) × (entry.length ≤ MOST_LENGTH)

abbrev pub walk_of : ℕ → Walked
walk_of total = record { total = total; count = 0; covered = 0 }

abbrev pub after : Walked → Entry → Walked
after walk entry = record { total = walk.total; count = walk.count + 1; covered = walk.covered + entry.length }

-- the numbers of a walk fit one another
abbrev pub is_possible : ℕ → ℕ → ℕ → Type 0
is_possible total count covered = (ENTRY_BYTES * count ≤ total) × (covered ≤ MOST_LENGTH * count)

-- entries, handed one after the other, are all accepted and lead from one walk to another
abbrev pub Walks : Walked → List Entry → Walked → Type 0
Walks from [] to = to ≡ from
Walks from (entry ∷ entries) to = IsLawful entry × Walks (after from entry) entries to
