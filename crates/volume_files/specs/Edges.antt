-- What the blocks at the two edges of bytes hold before these are written into a file.
use Rattle.std.specs.Prelude.{◌≡◌, ◌≤◌, ◌<◌, ◌/◌, ◌%◌, ◌==◌, ℕ, true, get_or, IfSome, if◌then◌else◌}
use Rattle.std.specs.Ordering.{nat_cmp}
use Rattle.std.specs.FinMap.{find}
use Rattle.plain_volume.specs.Volume.{Byte, is_beside}
use Rattle.table_records.specs.declared.records.FileRecord.{FileRecord}
use Rattle.volume_inside.specs.declared.layout.TheConstants.{CLUSTER_BYTES}
use Rattle.volume_inside.specs.Inside.{Inside}
use Rattle.volume_inside.specs.View.{cell}
use Rattle.volume_files.specs.declared.edges.Edges.{Edges}

-- the byte of the edges at a place of one of the two blocks, of bytes from the place `at` on: where these touch one
-- block alone, it is of the first edge
abbrev pub edge_byte : Edges → ℕ → ℕ → ℕ
edge_byte edges at p =
    if p / CLUSTER_BYTES == at / CLUSTER_BYTES then get_or edges.first (p % CLUSTER_BYTES) 0
    else get_or edges.last (p % CLUSTER_BYTES) 0

-- beside n bytes at a place the edges have what the file has, and zeros behind its end
abbrev pub AreEdgesOf : Inside → ℕ → ℕ → ℕ → Edges → FileRecord → Type 0
AreEdgesOf i id at n edges file = (p : ℕ) → is_beside at n p ≡ true
    → (p < file.length → cell i id file p ≡ Byte (edge_byte edges at p)) × (file.length ≤ p → edge_byte edges at p ≡ 0)

-- THE EDGES of n bytes at a place of the file of an id, if it is there
abbrev pub AreEdges : Inside → ℕ → ℕ → ℕ → Edges → Type 0
AreEdges i id at n edges = IfSome (find nat_cmp id i.files) (AreEdgesOf i id at n edges)
