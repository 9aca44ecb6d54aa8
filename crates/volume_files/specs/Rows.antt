-- Insides of small volumes, to be worked out by hand.
use Rattle.std.specs.Prelude.{ℕ, List, [], ◌∷◌, codes}
use Rattle.table_records.specs.declared.records.FileRecord.{FileRecord}
use Rattle.volume_inside.specs.Fresh.{fresh_settings}
use Rattle.volume_inside.specs.Inside.{Inside, inside_at}
use Rattle.volume_inside.specs.Typed.{typed_of}
use Rattle.volume_files.specs.Insides.{Blocks}

-- a file of so many bytes
abbrev pub file_of : ℕ → FileRecord
file_of length = record { length = length; map_row = 0; covers = 0 }

-- a file of so many bytes, so many of which come from the map in a row
abbrev pub based : ℕ → ℕ → ℕ → FileRecord
based length map_row covers = record { length = length; map_row = map_row; covers = covers }

-- a volume with these files and blocks that draws this id next
abbrev pub small_volume : ℕ → List (List ℕ × ℕ) → List (ℕ × FileRecord) → Blocks → Inside
small_volume next_id names files blocks = record (inside_at (typed_of []) []) {
  volume = (tt, record { version = 1; next_id = next_id }) ∷ [];
  names = names;
  files = files;
  blocks = blocks;
  settings = (tt, fresh_settings) ∷ [];
}

-- one file, `a`, of so many bytes
abbrev pub only_a : ℕ → Blocks → Inside
only_a length blocks = small_volume 2 ((codes "a", 1) ∷ []) ((1, file_of length) ∷ []) blocks

-- the files `a` and `c`
abbrev pub two_files : Inside
two_files = small_volume 3 ((codes "a", 1) ∷ (codes "c", 2) ∷ []) ((1, file_of 5) ∷ (2, file_of 2) ∷ [])
    (((1, 0), codes "hello") ∷ ((2, 0), codes "hi") ∷ [])
