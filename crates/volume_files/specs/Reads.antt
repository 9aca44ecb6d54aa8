-- The bytes of a file that comes from no base.
use Rattle.std.specs.Prelude.{◌/◌, ◌%◌, ℕ, List, get_or, Option, Some, None}
use Rattle.std.specs.FinMap.{find}
use Rattle.table_records.specs.Keys.{pair_cmp}
use Rattle.volume_inside.specs.declared.layout.TheConstants.{CLUSTER_BYTES}
use Rattle.volume_inside.specs.Inside.{Inside}

-- the byte at a place of a block: 0 behind the bytes that the block has, and where there is none
abbrev pub byte_in : Option (List ℕ) → ℕ → ℕ
byte_in None o = 0
byte_in (Some block) o = get_or block o 0

-- the byte at a place of a file
abbrev pub byte_at : Inside → ℕ → ℕ → ℕ
byte_at i id p = byte_in (find pair_cmp (id, p / CLUSTER_BYTES) i.blocks) (p % CLUSTER_BYTES)
