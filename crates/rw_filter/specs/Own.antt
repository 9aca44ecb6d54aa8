-- Which cells of a file come from no base.
use Rattle.std.specs.Prelude.{◌≡◌, ◌≤◌, ◌<◌, ◌+◌, ◌/◌, ℕ, Bool, true, false, if◌then◌else◌, nat_lt, is_some, List, slice_index}
use Rattle.std.specs.Ordering.{nat_cmp}
use Rattle.std.specs.FinMap.{find}
use Rattle.plain_volume.specs.Volume.{Byte, Lost}
use Rattle.table_records.specs.Keys.{pair_cmp}
use Rattle.table_records.specs.declared.records.FileRecord.{FileRecord}
use Rattle.volume_inside.specs.declared.layout.TheConstants.{CLUSTER_BYTES}
use Rattle.volume_inside.specs.Inside.{Inside}
use Rattle.volume_inside.specs.Typed.{Typed}
use Rattle.volume_inside.specs.View.{cell}
use Rattle.volume_files.specs.Own.{covered_in}
use Rattle.rw_filter.specs.declared.runs.Run.{Run}

-- the cell at a place of a file comes from an extent, or no base covers it
abbrev pub is_own : Typed → ℕ → ℕ → Bool
is_own t id p =
    if nat_lt p (covered_in (find nat_cmp id t.files)) then is_some (find pair_cmp (id, p / CLUSTER_BYTES) t.extents) else true

-- so many cells from a place on, of at most so many that are wanted, are all own or all not
pub record IsRun (t : Typed) (id place most : ℕ) (run : Run) : Type 0 where
  pub some : 0 < run.count
  pub fits : run.count ≤ most
  pub alike : (k : ℕ) → k < run.count → is_own t id (place + k) ≡ run.own

-- the own cells of a file from a place on are these bytes
abbrev pub HasOwn : Typed → Inside → ℕ → FileRecord → ℕ → ℕ → List ℕ → Type 0
HasOwn t i id file at n out = (k : ℕ) → k < n → is_own t id (at + k) ≡ true
    → cell i id file (at + k) ≡ Byte (slice_index out k)

-- bytes at the places of the others stay
abbrev pub KeepsOthers : Typed → ℕ → ℕ → ℕ → List ℕ → List ℕ → Type 0
KeepsOthers t id at n old new = (k : ℕ) → k < n → is_own t id (at + k) ≡ false → slice_index new k ≡ slice_index old k

-- the cells of a file from a place on that its base has to give are these bytes
abbrev pub HasBase : Typed → Inside → ℕ → FileRecord → ℕ → ℕ → List ℕ → Type 0
HasBase t i id file at n out = (k : ℕ) → k < n → is_own t id (at + k) ≡ false
    → cell i id file (at + k) ≡ Byte (slice_index out k)

-- the first of them that is lost
pub record IsFirstHole (t : Typed) (i : Inside) (id : ℕ) (file : FileRecord) (at n q : ℕ) : Type 0 where
  pub behind : at ≤ q
  pub within : q < at + n
  pub lost : cell i id file q ≡ Lost
  pub before : (p : ℕ) → at ≤ p → p < q → is_own t id p ≡ false → cell i id file p ≡ Lost → ⊥

-- the same file, of which no cell comes from a base
abbrev pub without_base : FileRecord → FileRecord
without_base file = record { length = file.length; map_row = 0; covers = 0 }

-- the bytes of a file's record, as a call stages it
abbrev pub file_record_bytes : ℕ
file_record_bytes = 38
