-- Cells of a file that were read.
use Rattle.std.specs.Prelude.{◌≡◌, ◌≤◌, ◌<◌, ◌+◌, ℕ, List, slice_index}
use Rattle.plain_volume.specs.Volume.{Byte, Lost}
use Rattle.table_records.specs.declared.records.FileRecord.{FileRecord}
use Rattle.volume_inside.specs.Inside.{Inside}
use Rattle.volume_inside.specs.View.{cell}

-- so many cells of a file from a place on are these bytes
abbrev pub HasCells : Inside → ℕ → FileRecord → ℕ → ℕ → List ℕ → Type 0
HasCells i id file at n out = (k : ℕ) → k < n → cell i id file (at + k) ≡ Byte (slice_index out k)

-- the first cell of a file from a place up to another that is lost
pub record IsFirstLoss (i : Inside) (id : ℕ) (file : FileRecord) (from to q : ℕ) : Type 0 where
  pub behind : from ≤ q
  pub within : q < to
  pub lost : cell i id file q ≡ Lost
  pub before : (p : ℕ) → from ≤ p → p < q → cell i id file p ≡ Lost → ⊥
