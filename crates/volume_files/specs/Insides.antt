-- WHAT THE CALLS ON FILES DO TO AN INSIDE: each call is a function of what an image holds, with no place of an image.
-- Where there is no file of the name the inside is as it was.
use Rattle.std.specs.Prelude.{◌+◌, ◌-◌, ◌*◌, ◌/◌, ◌%◌, ◌==◌, ℕ, zero, suc, Bool, true, false, not, nat_lt, List, []}
use Rattle.std.specs.Prelude.{◌∷◌, length, map, take, min, max, Option, Some, None, if◌then◌else◌}
use Rattle.std.specs.List.{range_with_len}
use Rattle.std.specs.Ordering.{nat_cmp}
use Rattle.std.specs.FinMap.{find, put}
use Rattle.std.specs.FinMap.Entries.{where_key}
use Rattle.byte_map.specs.Words.{bytes_cmp}
use Rattle.plain_volume.specs.Volume.{Cell, Byte, Lost}
use Rattle.table_records.specs.Keys.{single_cmp, pair_cmp}
use Rattle.table_records.specs.declared.records.FileRecord.{FileRecord}
use Rattle.volume_inside.specs.declared.layout.TheConstants.{CLUSTER_BYTES}
use Rattle.volume_inside.specs.Typed.{FileBlock}
use Rattle.volume_inside.specs.Inside.{Inside}
use Rattle.volume_inside.specs.Rules.{id_after}
use Rattle.volume_inside.specs.View.{cell}
use Rattle.volume_files.specs.Lengths.{lies_behind, record_resized}
use Rattle.volume_files.specs.Names.{empty_file, is_other}
use Rattle.volume_files.specs.Needs.{first_touched, touched}
use Rattle.volume_files.specs.Writing.{laid, reaching}

-- the blocks of the files, each with its bytes
abbrev pub Blocks : Type 0
Blocks = List (FileBlock × List ℕ)

-- the id that is drawn next
abbrev pub next_id_in : Inside → ℕ
next_id_in i = id_after (find single_cmp tt i.volume)

-- the inside that a change of the file of an id leaves, if there is an id
abbrev pub of_id : Option ℕ → (ℕ → Inside) → Inside → Inside
of_id None change i = i
of_id (Some id) change i = change id

-- the inside that a change of a file's record leaves, if there is a record
abbrev pub of_record : Option FileRecord → (FileRecord → Inside) → Inside → Inside
of_record None change i = i
of_record (Some file) change i = change file

-- ---- names

-- one name more, of an empty file that has the next id
abbrev pub inside_created : List ℕ → Inside → Inside
inside_created name i = record i {
  volume = put single_cmp tt (record { version = 1; next_id = next_id_in i + 1 }) i.volume;
  names = put bytes_cmp name (next_id_in i) i.names;
  files = put nat_cmp (next_id_in i) empty_file i.files;
}

abbrev pub id_renamed : List ℕ → List ℕ → ℕ → Inside → Inside
id_renamed from to id i = record i { names = where_key bytes_cmp (is_other from) (put bytes_cmp to id i.names) }

-- the file of a name under another one, with its id, its record and its blocks
abbrev pub inside_renamed : List ℕ → List ℕ → Inside → Inside
inside_renamed from to i = of_id (find bytes_cmp from i.names) (λ id. id_renamed from to id i) i

abbrev pub id_deleted : List ℕ → ℕ → Inside → Inside
id_deleted name id i = record i {
  names = where_key bytes_cmp (is_other name) i.names;
  files = where_key nat_cmp (λ x. not (x == id)) i.files;
  blocks = where_key pair_cmp (λ k. not (k.0 == id)) i.blocks;
}

-- without a name, its file and its blocks
abbrev pub inside_deleted : List ℕ → Inside → Inside
inside_deleted name i = of_id (find bytes_cmp name i.names) (λ id. id_deleted name id i) i

-- ---- lengths

-- blocks with the bytes of one block cut to so many, if there is that block
abbrev pub cut_one : FileBlock → ℕ → Option (List ℕ) → Blocks → Blocks
cut_one k rest None blocks = blocks
cut_one k rest (Some bytes) blocks = put pair_cmp k (take rest bytes) blocks

-- the blocks of a file cut to its end: the one in which it ends keeps its bytes up to there, and those behind go
abbrev pub blocks_cut : ℕ → ℕ → Blocks → Blocks
blocks_cut id len blocks =
    where_key pair_cmp (λ k. not (lies_behind id len k))
    (cut_one (id, len / CLUSTER_BYTES) (len % CLUSTER_BYTES) (find pair_cmp (id, len / CLUSTER_BYTES) blocks) blocks)

abbrev pub blocks_cut_if : Bool → ℕ → ℕ → Blocks → Blocks
blocks_cut_if true id len blocks = blocks_cut id len blocks
blocks_cut_if false id len blocks = blocks

abbrev pub file_resized : ℕ → ℕ → FileRecord → Inside → Inside
file_resized id len file i = record i {
  files = put nat_cmp id (record_resized len file) i.files;
  blocks = blocks_cut_if (nat_lt len file.length) id len i.blocks;
}

-- the file of an id with another length; where that is shorter its blocks and its base are cut
abbrev pub id_resized : ℕ → ℕ → Inside → Inside
id_resized id len i = of_record (find nat_cmp id i.files) (λ file. file_resized id len file i) i

abbrev pub inside_resized : List ℕ → ℕ → Inside → Inside
inside_resized name len i = of_id (find bytes_cmp name i.names) (λ id. id_resized id len i) i

-- ---- bytes

-- the byte of a cell, and 0 of one that is lost
abbrev pub byte_of : Cell → ℕ
byte_of (Byte b) = b
byte_of Lost = 0

-- the byte at a place of a file with this record, and 0 behind its end
abbrev pub stood_at : Inside → ℕ → FileRecord → ℕ → ℕ
stood_at i id file p = if nat_lt p file.length then byte_of (cell i id file p) else 0

-- The bytes of a block of a file of so many bytes, once these were written at a place of the file: up to the file's
-- end each byte is written, or the one that stood there.
abbrev pub block_written : ℕ → ℕ → List ℕ → (ℕ → ℕ) → ℕ → List ℕ
block_written len at bytes stood index =
    map (λ o. laid at bytes (CLUSTER_BYTES * index + o) (stood (CLUSTER_BYTES * index + o)))
    (range_with_len 0 (min CLUSTER_BYTES (len - CLUSTER_BYTES * index)))

-- the blocks once so many of a file, from one on, were written
abbrev pub blocks_written : ℕ → ℕ → ℕ → List ℕ → (ℕ → ℕ) → ℕ → ℕ → Blocks → Blocks
blocks_written id len at bytes stood index zero blocks = blocks
blocks_written id len at bytes stood index (suc n) blocks =
    blocks_written id len at bytes stood (index + 1) n
    (put pair_cmp (id, index) (block_written len at bytes stood index) blocks)

abbrev pub with_blocks : Blocks → Inside → Inside
with_blocks blocks i = record i { blocks = blocks }

-- A file that reaches up to the end of these bytes at least, and each block that they touch, whole: what they leave of
-- it is what the file had there, also where that came from a base.
abbrev pub file_written : ℕ → ℕ → List ℕ → FileRecord → Inside → Inside
file_written id at bytes file i = record i {
  files = put nat_cmp id (reaching (at + length bytes) file) i.files;
  blocks = blocks_written id (max file.length (at + length bytes)) at bytes (stood_at i id file) (first_touched at)
      (touched at (length bytes)) i.blocks;
}

-- the file of an id with these bytes at a place; no bytes change nothing
abbrev pub id_written : ℕ → ℕ → List ℕ → Inside → Inside
id_written id at [] i = i
id_written id at (b ∷ bytes) i =
    of_record (find nat_cmp id i.files) (λ file. file_written id at (b ∷ bytes) file i) i

abbrev pub inside_written : List ℕ → ℕ → List ℕ → Inside → Inside
inside_written name at bytes i = of_id (find bytes_cmp name i.names) (λ id. id_written id at bytes i) i
