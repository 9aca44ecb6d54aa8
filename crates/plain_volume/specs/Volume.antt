-- A volume: its files by name, in byte order. A cell is a byte, or it is lost.
use Rattle.std.specs.Prelude.{◌≡◌, All, true, ◌&&◌, ◌||◌, ◌==◌, ◌+◌, ◌-◌, ◌/◌, ◌≤◌, ℕ, Bool, T, cond, not, nat_le, nat_lt, List, [], ◌∷◌, ◌++◌, length, map, take, drop, replicate, Option, Some, None, if◌then◌else◌}
use Rattle.std.specs.Ordering.{nat_cmp}
use Rattle.std.specs.Cmp.Lexicographic.{slice_cmp}
use Rattle.std.specs.FinMap.Entries.{find, put, where_key, is_sorted}
use Rattle.std.specs.Ordering.{eq_by_cmp, is_lt}
use Rattle.std.specs.List.{list_all}
use Rattle.std.specs.declared.cmp.Ordering.{Ordering}
use Rattle.plain_volume.specs.declared.limits.TheConstants.{MOST_FILES, MOST_BYTES_OF_A_FILE, MOST_BYTES_OF_A_NAME, BLOCK_BYTES}

pub data Cell : Type 0 where
  Byte : ℕ → Cell
  Lost : Cell

abbrev pub Cells : Type 0
Cells = List Cell

abbrev pub Volume : Type 0
Volume = List (List ℕ × List Cell)

-- names compare byte by byte, and a proper prefix is less
abbrev pub name_cmp : List ℕ → List ℕ → Ordering
name_cmp = slice_cmp nat_cmp

-- the cells of the file of this name, if there is one
abbrev pub cells_of : List ℕ → Volume → Option (List Cell)
cells_of name v = find name_cmp name v

-- the volume with these cells under this name, in the place of those that stood under it
abbrev pub with_file : List ℕ → List Cell → Volume → Volume
with_file name cells v = put name_cmp name cells v

-- the volume without the file of this name
abbrev pub without_file : List ℕ → Volume → Volume
without_file name v = where_key name_cmp (λ other. not (eq_by_cmp name_cmp name other)) v

-- no control character, no quotation mark and no delete character
abbrev pub is_lawful_byte : ℕ → Bool
is_lawful_byte b = nat_le 32 b && not (b == 34) && not (b == 127)

-- the names that a file may have
abbrev pub is_lawful : List ℕ → Bool
is_lawful name = nat_le 1 (length name) && nat_le (length name) MOST_BYTES_OF_A_NAME && list_all is_lawful_byte name

-- the texts that stand for names or for parts of them: they may be longer than a name
abbrev pub is_lawful_text : List ℕ → Bool
is_lawful_text text = nat_le 1 (length text) && list_all is_lawful_byte text

-- names are lawful and rise strictly, so they are distinct; the limits are kept
pub record IsLawfulVolume (v : Volume) : Type 0 where
  pub rising : T (is_sorted name_cmp v)
  pub lawful : All (λ file. is_lawful file.0 ≡ true) v
  pub short : All (λ file. length file.1 ≤ MOST_BYTES_OF_A_FILE) v
  pub few : length v ≤ MOST_FILES

-- the first n cells, with zeros behind a shorter file
abbrev pub resized : ℕ → List Cell → List Cell
resized n cells = take n cells ++ replicate (n - length cells) (Byte 0)

-- the cells with these bytes at this place, and zeros up to it behind a shorter file
abbrev pub overwritten : ℕ → List ℕ → List Cell → List Cell
overwritten at [] cells = cells
overwritten at (b ∷ bs) cells = resized at cells ++ map Byte (b ∷ bs) ++ drop (at + length (b ∷ bs)) cells

-- the place of the first lost cell that passes a test, counted from n
abbrev pub lost_where : (ℕ → Bool) → ℕ → List Cell → Option ℕ
lost_where test n [] = None
lost_where test n (Byte b ∷ cells) = lost_where test (n + 1) cells
lost_where test n (Lost ∷ cells) = if test n then Some n else lost_where test (n + 1) cells

-- a cell of a range
abbrev pub is_within : ℕ → ℕ → ℕ → Bool
is_within at len p = nat_le at p && nat_lt p (at + len)

-- a cell beside a written range, in the block of its first or last byte
abbrev pub is_beside : ℕ → ℕ → ℕ → Bool
is_beside at len p =
    (p / BLOCK_BYTES == at / BLOCK_BYTES || p / BLOCK_BYTES == (at + len - 1) / BLOCK_BYTES)
    && (nat_lt p at || nat_le (at + len) p)

-- the bytes of cells that are not lost
abbrev pub bytes_of : List Cell → List ℕ
bytes_of [] = []
bytes_of (Byte b ∷ cells) = b ∷ bytes_of cells
bytes_of (Lost ∷ cells) = 0 ∷ bytes_of cells

-- the least name above this one
abbrev pub next_above : List ℕ → Volume → Option (List ℕ)
next_above name [] = None
next_above name (f ∷ v) = cond (is_lt (name_cmp name f.0)) (Some f.0) (next_above name v)

-- the least name
abbrev pub first_name : Volume → Option (List ℕ)
first_name [] = None
first_name (f ∷ v) = Some f.0

-- bytes as cells
abbrev pub cells_from : List ℕ → List Cell
cells_from bytes = map Byte bytes
