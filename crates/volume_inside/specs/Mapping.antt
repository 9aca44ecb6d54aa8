-- Words of the laws on the maps of bases.
use Rattle.std.specs.Prelude.{◌≡◌, ℕ, List, Some}
use Rattle.table_records.specs.declared.records.FileRecord.{FileRecord}
use Rattle.table_records.specs.declared.chunk_records.Row.{Row}
use Rattle.stream_map.specs.declared.entry.Entry.{Entry}
use Rattle.stream_map.specs.Pieces.{entries_in}
use Rattle.volume_inside.specs.Chunks.{Bases, chunk}
use Rattle.volume_inside.specs.ChunkRules.{AllEntries}

-- a row of the same kind and length
abbrev pub IsLike : Row → Row → Type 0
IsLike row other = (other.kind ≡ row.kind) × (other.length ≡ row.length)

-- each entry of the map of a file has P, where the map is not lost
abbrev pub HasEntries : Bases → (Entry → Type 0) → ℕ → FileRecord → Type 0
HasEntries b P id file = (map : List ℕ) → chunk b file.map_row ≡ Some map → AllEntries P (entries_in map)
