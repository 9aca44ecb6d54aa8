-- Words of the reading of bases.
use Rattle.std.specs.Prelude.{◌≡◌, ◌≤◌, ◌<◌, ◌+◌, ◌-◌, ℕ, Bool, true, false, List, length, get_or, Option, Some, None}
use Rattle.plain_volume.specs.Volume.{Cell, Byte, Lost}
use Rattle.stream_map.specs.declared.entry.Entry.{Entry}
use Rattle.stream_map.specs.Pieces.{place_at}
use Rattle.vdisk.specs.Ranges.{part}
use Rattle.volume_inside.specs.BaseCells.{piece_cell, entry_cell}
use Rattle.volume_inside.specs.Chunks.{Bases}
use Rattle.volume_inside.specs.ChunkTables.{ChunkTables}
use Rattle.volume_inside.specs.Pages.{used_of, content}
use Rattle.row_reading.specs.declared.chunk_disk.ChunkDisk.{Ghosts}
use Rattle.row_reading.specs.declared.copies.Text.{Text}

-- what reads alone leave of tables of chunks over a disk
pub record ReadsAlone {S : Type 0} (d : Ghosts S) (old new : S) : Type 0 where
  pub chunks : d.chunks new ≡ d.chunks old
  pub image : d.image new ≡ d.image old
  pub tells : d.tells old → d.tells new
  pub from : d.is_from old new
  pub later : d.faults old ≤ d.faults new

-- the first place, if any, that is wanted from one place up to another
abbrev pub IsFirstIn : (ℕ → Type 0) → ℕ → ℕ → Option ℕ → Type 0
IsFirstIn IsWanted from to None = (p : ℕ) → from ≤ p → p < to → IsWanted p → ⊥
IsFirstIn IsWanted from to (Some first) =
    (from ≤ first) × (first < to) × IsWanted first × ((p : ℕ) → from ≤ p → p < first → IsWanted p → ⊥)

-- THE WANTED CELLS from `at` on, as many as `out` stands for, are bytes, those of `out`
abbrev pub AreReadFrom : (ℕ → Cell) → (ℕ → Type 0) → ℕ → List ℕ → Type 0
AreReadFrom cells IsWanted at out = (k : ℕ) → k < length out → IsWanted (at + k) → cells (at + k) ≡ Byte (get_or out k 0)

-- the same of those of them from one place up to another
abbrev pub AreRead : (ℕ → Cell) → (ℕ → Type 0) → ℕ → ℕ → ℕ → List ℕ → Type 0
AreRead cells IsWanted from to at out = (k : ℕ) → k < length out → from ≤ at + k → at + k < to → IsWanted (at + k)
    → cells (at + k) ≡ Byte (get_or out k 0)

-- what stands for the cells before a place is as it was
abbrev pub IsKeptBefore : ℕ → ℕ → List ℕ → List ℕ → Type 0
IsKeptBefore place at old new = (k : ℕ) → at + k < place → get_or new k 0 ≡ get_or old k 0

-- THE FIRST LOST CELL that is wanted, from one place up to another
pub record IsFirstLost (cells : ℕ → Cell) (IsWanted : ℕ → Type 0) (from to q : ℕ) : Type 0 where
  pub behind : from ≤ q
  pub within : q < to
  pub wanted : IsWanted q
  pub lost : cells q ≡ Lost
  pub before : (p : ℕ) → from ≤ p → p < q → IsWanted p → cells p ≡ Lost → ⊥

-- a place that is wanted, of those that so many bytes stand for
abbrev pub IsIn : (ℕ → Type 0) → ℕ → ℕ → ℕ → Type 0
IsIn IsWanted at n p = (at ≤ p) × (p < at + n) × IsWanted p

-- the cell at a place of the pieces of entries, of which the first begins at `begin`
abbrev pub cell_from : Bases → List Entry → ℕ → ℕ → Cell
cell_from b entries begin p = entry_cell b (place_at entries (p - begin))

-- bytes stand for the cells of a chunk from an offset in it on, or the chunk is lost
abbrev pub AreCellsOf : Option (List ℕ) → ℕ → Bool → List ℕ → Type 0
AreCellsOf chunk from true out = (k : ℕ) → k < length out → piece_cell chunk (from + k) ≡ Byte (get_or out k 0)
AreCellsOf chunk from false out = chunk ≡ None

-- the bytes that lie at a place of a container; none where there is no such place
abbrev pub bytes_of_text : ChunkTables → List ℕ → Option Text → Option (List ℕ)
bytes_of_text t image None = None
bytes_of_text t image (Some text) =
    Some (part text.place.offset text.length (content t text.place.container image))

-- they lie in what is used
abbrev pub IsTextWithin : ChunkTables → Option Text → Type 0
IsTextWithin t None = Unit {0}
IsTextWithin t (Some text) = text.place.offset + text.length ≤ used_of t.containers text.place.container
