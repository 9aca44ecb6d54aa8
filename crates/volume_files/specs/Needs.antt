-- What each call asks for.
use Rattle.std.specs.Prelude.{◌+◌, ◌-◌, ◌*◌, ◌/◌, ◌%◌, ◌&&◌, ℕ, zero, suc, Bool, true, false, cond, nat_lt, List}
use Rattle.std.specs.Prelude.{[], ◌∷◌, length, Option, Some, None}
use Rattle.std.specs.FinMap.{find, put}
use Rattle.byte_map.specs.Words.{bytes_cmp, next_in}
use Rattle.table_records.specs.Keys.{pair_cmp}
use Rattle.table_records.specs.declared.records.Extent.{Extent}
use Rattle.volume_inside.specs.declared.layout.TheConstants.{CLUSTER_BYTES}
use Rattle.volume_inside.specs.Typed.{Typed}
use Rattle.volume_tables.specs.Wants.{Needs}

-- a new file: an id, a record of the file and one of its name; the record of the file may be taken back
abbrev pub create_needs : List ℕ → Needs
create_needs name = record { draws = true; grows = 52 + length name; records = 93 + length name; clusters = 0 }

-- another name: its record, before the old one is dropped
abbrev pub rename_needs : List ℕ → List ℕ → Needs
rename_needs from to = record {
  draws = false;
  grows = 14 + length to;
  records = 276 + (length from + length to);
  clusters = 0;
}

-- a name, a file and its extents are dropped
abbrev pub delete_needs : List ℕ → Needs
delete_needs name = record { draws = false; grows = 0; records = 316 + length name; clusters = 0 }

-- the clusters of a file that a range touches, and the first of them
abbrev pub first_touched : ℕ → ℕ
first_touched at = at / CLUSTER_BYTES

abbrev pub touched : ℕ → ℕ → ℕ
touched at count = (at + count - 1) / CLUSTER_BYTES + 1 - at / CLUSTER_BYTES

-- the clusters of a file that these bytes touch at a place
abbrev pub touched_at : ℕ → List ℕ → ℕ
touched_at at [] = 0
touched_at at (b ∷ bytes) = touched at (length (b ∷ bytes))

abbrev pub one_if_none : {V : Type 0} → Option V → ℕ
one_if_none None = 1
one_if_none (Some v) = 0

-- of n blocks of a file from one on, those that have no extent
abbrev pub missing : Typed → ℕ → ℕ → ℕ → ℕ
missing t file first zero = 0
missing t file first (suc n) = one_if_none (find pair_cmp (file, first) t.extents) + missing t file (first + 1) n

-- bytes in a file: each cluster that is touched is written anew and gets its extent, which may be taken back, as where
-- there is no memory for a later one; and the record of the file
abbrev pub write_needs : Typed → ℕ → ℕ → ℕ → Needs
write_needs t file at count = record {
  draws = false;
  grows = 24 * missing t file (first_touched at) (touched at count);
  records = 38 + 55 * touched at count;
  clusters = touched at count;
}

-- whether so many bytes of a block are fewer than its extent has
abbrev pub names_more : ℕ → Option Extent → Bool
names_more rest None = false
names_more rest (Some e) = nat_lt 0 rest && nat_lt rest e.valid

-- 24 where a file of this length is cut inside the bytes of an extent, which is then set anew
abbrev pub set_at_end : Typed → ℕ → ℕ → ℕ
set_at_end t file len = cond (names_more (len % CLUSTER_BYTES) (find pair_cmp (file, len / CLUSTER_BYTES) t.extents)) 24 0

-- another length: the record of the file, and, where it is shorter, the extents behind its end are dropped, and the one
-- at its end is set anew
abbrev pub length_needs : Typed → ℕ → ℕ → ℕ → Needs
length_needs t file old len = record {
  draws = false;
  grows = 0;
  records = 38 + cond (nat_lt len old) (31 + set_at_end t file len) 0;
  clusters = 0;
}

-- ---- how many bytes of records each call stages that is answered Ok

-- the bytes of a name, if there is one
abbrev pub next_name_bytes : {V : Type 0} → Option (List ℕ × V) → ℕ
next_name_bytes None = 0
next_name_bytes (Some e) = length e.0

-- a name of these is dropped: its record has the name and the one above it
abbrev pub drop_bytes : List (List ℕ × ℕ) → List ℕ → ℕ
drop_bytes names name = 7 + (length name + next_name_bytes (next_in bytes_cmp name names))

-- the records of a file, of its name and of the volume, whose next id has risen
abbrev pub create_bytes : List ℕ → ℕ
create_bytes name = 70 + length name

-- the new name is set, and then the old one dropped
abbrev pub rename_bytes : List (List ℕ × ℕ) → List ℕ → List ℕ → ℕ → ℕ
rename_bytes names from to id = 14 + (length to + drop_bytes (put bytes_cmp to id names) from)

-- a name, the record of a file and its extents are dropped
abbrev pub delete_bytes : List (List ℕ × ℕ) → List ℕ → ℕ
delete_bytes names name = 54 + drop_bytes names name

-- an extent of each cluster that is touched, and the record of the file
abbrev pub write_bytes : ℕ → ℕ → ℕ
write_bytes at count = 38 + 24 * touched at count
