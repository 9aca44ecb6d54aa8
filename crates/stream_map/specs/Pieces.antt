-- The entries that bytes spell, and the pieces of a file that they stand for: piece after piece, from offset 0 on.
use Rattle.std.specs.Prelude.{ℕ, zero, suc, ◌≡◌, ◌<◌, ◌+◌, ◌-◌, ◌/◌, ◌^◌, List, [], ◌∷◌, ◌++◌, length, drop, Option, Some, None, nat_lt, if◌then◌else◌}
use Rattle.stream_map.specs.declared.limits.TheConstants.{ENTRY_BYTES}
use Rattle.stream_map.specs.declared.entry.Entry.{Entry}
use Rattle.stream_map.specs.Entries.{bytes_of, entry_of}

-- the numbers of an entry have eight and four bytes
abbrev pub Fits : Entry → Type 0
Fits entry = (entry.id < 256 ^ 8) × (entry.length < 256 ^ 4)

-- the bytes of a list of entries
abbrev pub spell : List Entry → List ℕ
spell [] = []
spell (entry ∷ entries) = bytes_of entry ++ spell entries

-- the first n entries that bytes spell
abbrev pub first_entries : ℕ → List ℕ → List Entry
first_entries zero bytes = []
first_entries (suc n) bytes = entry_of bytes ∷ first_entries n (drop ENTRY_BYTES bytes)

-- the entries that bytes spell; what is left at the end and is no whole entry counts for nothing
abbrev pub entries_in : List ℕ → List Entry
entries_in bytes = first_entries (length bytes / ENTRY_BYTES) bytes

-- the bytes of the file that entries cover; of the entries before a piece, the offset at which it begins
abbrev pub total_length : List Entry → ℕ
total_length [] = 0
total_length (entry ∷ entries) = entry.length + total_length entries

-- the entry that covers an offset of the file, and the offset in its piece
abbrev pub place_at : List Entry → ℕ → Option (Entry × ℕ)
place_at [] offset = None
place_at (entry ∷ entries) offset =
    if nat_lt offset entry.length then Some (entry, offset) else place_at entries (offset - entry.length)

-- an offset of the file lies in the piece of an entry, so many bytes behind its begin
abbrev pub Covers : List Entry → ℕ → Entry → ℕ → Type 0
Covers entries offset entry inside =
    (front : List Entry) × (rest : List Entry) × (entries ≡ front ++ entry ∷ rest)
    × (offset ≡ total_length front + inside) × (inside < entry.length)
