-- Named bytes in the order of their names, and the volume that they are.
use Rattle.std.specs.Prelude.{◌≡◌, ◌+◌, ◌-◌, ◌<◌, ◌≤◌, true, Err, ℕ, List, [], ◌++◌, length, map, take, drop, replicate, slice_index_or}
use Rattle.std.specs.declared.cmp.Ordering.TheVariants.{Less}
use Rattle.plain_volume.specs.Volume.{Cell, Volume, name_cmp, is_lawful, cells_of, cells_from}
use Rattle.plain_volume.specs.Step.{Outcome, named, at_file}
use Rattle.plain_volume.specs.declared.call.Fault.{Fault}

-- a name and the bytes of its file
abbrev pub Named : Type 0
Named = List ℕ × List ℕ

-- one name is below another
abbrev pub IsBelow : List ℕ → List ℕ → Type 0
IsBelow a b = name_cmp a b ≡ Less

abbrev pub name_at : List Named → ℕ → List ℕ
name_at es i = let e = slice_index_or es i ([], []) in e.0

abbrev pub bytes_at : List Named → ℕ → List ℕ
bytes_at es i = let e = slice_index_or es i ([], []) in e.1

-- the names rise strictly
abbrev pub IsRising : List Named → Type 0
IsRising es = (i j : ℕ) → i < j → j < length es → IsBelow (name_at es i) (name_at es j)

-- a name belongs at a place: those before it are below, and those from it on are above
pub record BelongsAt (es : List Named) (name : List ℕ) (i : ℕ) : Type 0 where
  pub in_range : i ≤ length es
  pub before : (j : ℕ) → j < i → IsBelow (name_at es j) name
  pub from : (j : ℕ) → i ≤ j → j < length es → IsBelow name (name_at es j)

-- the bytes with others at a place, and zeros up to it behind shorter bytes
abbrev pub with_bytes_at : ℕ → List ℕ → List ℕ → List ℕ
with_bytes_at at bytes old = take at old ++ replicate (at - length old) 0 ++ bytes ++ drop (at + length bytes) old

abbrev pub volume_of : List Named → Volume
volume_of es = map (λ e. (e.0, cells_from e.1)) es

-- a lawful name has its file at a place
pub record IsFileAt (es : List Named) (name : List ℕ) (i : ℕ) : Type 0 where
  pub rising : IsRising es
  pub in_range : i < length es
  pub here : name_at es i ≡ name
  pub lawful : is_lawful name ≡ true

-- each call on the file of a name is refused so
abbrev pub RefusesFile : Volume → List ℕ → Fault → Type 0
RefusesFile v name fault = (rest : List Cell → Outcome) → named name (at_file (cells_of name v) rest) ≡ Err fault
