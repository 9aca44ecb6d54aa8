-- Which cells of files come from no base.
use Rattle.std.specs.Prelude.{◌≡◌, ◌≤◌, ◌<◌, ◌/◌, ℕ, true, List, [], ◌∷◌, length, Option, Some, None, IsSome}
use Rattle.std.specs.Ordering.{nat_cmp}
use Rattle.std.specs.FinMap.{find}
use Rattle.plain_volume.specs.Volume.{is_beside}
use Rattle.table_records.specs.Keys.{pair_cmp}
use Rattle.table_records.specs.declared.records.FileRecord.{FileRecord}
use Rattle.volume_inside.specs.declared.layout.TheConstants.{CLUSTER_BYTES}
use Rattle.volume_inside.specs.Typed.{Typed}

-- how many bytes of a file its base covers, if it is there
abbrev pub covered_in : Option FileRecord → ℕ
covered_in None = 0
covered_in (Some file) = file.covers

-- THE CONDITION at a place of the file of an id: if the file's base covers the place, the block has an extent
abbrev pub IsOwn : Typed → ℕ → ℕ → Type 0
IsOwn t id p = p < covered_in (find nat_cmp id t.files) → IsSome (find pair_cmp (id, p / CLUSTER_BYTES) t.extents)

-- of a read: so it is from one place on, up to another
abbrev pub AreOwn : Typed → ℕ → ℕ → ℕ → Type 0
AreOwn t id from to = (p : ℕ) → from ≤ p → p < to → IsOwn t id p

-- beside so many bytes: so it is in the blocks of the first and the last of them, where they do not lie
abbrev pub AreOwnBeside : Typed → ℕ → ℕ → ℕ → Type 0
AreOwnBeside t id at count = (p : ℕ) → is_beside at count p ≡ true → IsOwn t id p

-- of a write: so it is beside the bytes; no bytes ask for nothing
abbrev pub AreOwnAround : Typed → ℕ → ℕ → List ℕ → Type 0
AreOwnAround t id at [] = Unit {0}
AreOwnAround t id at (b ∷ bytes) = AreOwnBeside t id at (length (b ∷ bytes))
