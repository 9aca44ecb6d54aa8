-- An entry of a stream map, and its bytes.
use Rattle.std.specs.Prelude.{ℕ, List, ◌++◌, drop}
use Rattle.byteorder.specs.Endian.{big_bytes, big_number}
use Rattle.stream_map.specs.declared.entry.Entry.{Entry}

-- the id in eight bytes, then the length in four, the highest byte of each first
abbrev pub bytes_of : Entry → List ℕ
bytes_of entry = big_bytes 8 entry.id ++ big_bytes 4 entry.length

-- the entry that the first twelve bytes spell
abbrev pub entry_of : List ℕ → Entry
entry_of bytes = record { id = big_number 8 bytes; length = big_number 4 (drop 8 bytes) }
