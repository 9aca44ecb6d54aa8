-- A base in the place of the blocks of a file.
use Rattle.std.specs.Prelude.{◌≡◌, ◌<◌, ℕ, Some, None}
use Rattle.std.specs.Ordering.{nat_cmp}
use Rattle.std.specs.FinMap.{find}
use Rattle.table_records.specs.Keys.{pair_cmp}
use Rattle.table_records.specs.declared.records.FileRecord.{FileRecord}
use Rattle.volume_inside.specs.Bases.{base_cell}
use Rattle.volume_inside.specs.Inside.{Inside}
use Rattle.volume_inside.specs.View.{cell, file_cells}

-- a file has no map only where nothing is covered
abbrev pub HasCover : ℕ → FileRecord → Type 0
HasCover id file = file.map_row ≡ 0 → file.covers ≡ 0

-- a file has its base in place of its blocks; all other files have the cells that they had
pub record IsJoined (i j : Inside) (id : ℕ) (was file : FileRecord) : Type 0 where
  pub names : j.names ≡ i.names
  pub there : find nat_cmp id i.files ≡ Some was
  pub now : find nat_cmp id j.files ≡ Some file
  pub length : file.length ≡ was.length
  pub no_blocks : (n : ℕ) → find pair_cmp (id, n) j.blocks ≡ None
  pub others : (x : ℕ) → (x ≡ id → ⊥) → file_cells j x ≡ file_cells i x
  pub spells : (p : ℕ) → p < was.length → base_cell j.bases file p ≡ cell i id was p
