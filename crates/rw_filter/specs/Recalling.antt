-- A covered block of a file that has no extent gets one of the file's own.
use Rattle.std.specs.Prelude.{◌≡◌, ◌⊎◌, ◌-◌, ◌*◌, ℕ, List, min, take, drop, Option, Some, None, IsSome, Result, Ok, Err}
use Rattle.std.specs.FinMap.{find}
use Rattle.vdisk.specs.declared.disk.Disk.{Ghosts}
use Rattle.plain_volume.specs.Volume.{Volume, Cells, bytes_of, lost_where, is_within}
use Rattle.plain_volume.specs.Step.{Outcome, unless_lost}
use Rattle.plain_volume.specs.declared.call.Reply.TheVariants as reply
use Rattle.plain_volume.specs.declared.call.Fault.{Fault}
use Rattle.plain_volume.specs.declared.call.Fault.TheVariants.{BadName, NoFile, Exists, OutsideFile, TooLarge, Worn}
use Rattle.plain_volume.specs.declared.call.Fault.TheVariants.{TableFull, Full, Failed, Damaged, Memory}
use Rattle.table_records.specs.Keys.{pair_cmp}
use Rattle.volume_inside.specs.declared.layout.TheConstants.{CLUSTER_BYTES}
use Rattle.volume_inside.specs.Changes.{with_block}
use Rattle.volume_inside.specs.Inside.{Inside}
use Rattle.volume_inside.specs.Typed.{Typed, FileBlock}
use Rattle.volume_inside.specs.View.{file_cells}
use Rattle.volume_tables.specs.Wants.{Needs, wanting, IsWanting}
use Rattle.volume_tables.specs.declared.tables.Tables.{Tables}
use Rattle.volume_files.specs.Lengths.{length_of}
use Rattle.volume_files.specs.Needs.{write_needs}

-- the place of a file at which a block begins
abbrev pub block_start : ℕ → ℕ
block_start index = CLUSTER_BYTES * index

-- how many bytes of a file a block has: all, or those up to the file's end
abbrev pub block_count : Typed → ℕ → ℕ → ℕ
block_count t file index = min CLUSTER_BYTES (length_of t file - block_start index)

-- what recalling a block asks for: what a write of its bytes does
abbrev pub recall_needs : Typed → ℕ → ℕ → Needs
recall_needs t file index = write_needs t file (block_start index) (block_count t file index)

-- WHAT RECALLING A BLOCK CHANGES IN THE TABLES: it has an extent now; no other extent is changed, and no other table.
pub record IsRecalled (file index : ℕ) (old new : Typed) : Type 0 where
  pub rest : new ≡ record old { extents = new.extents }
  pub others : (k : FileBlock) → (k ≡ (file, index) → ⊥) → find pair_cmp k new.extents ≡ find pair_cmp k old.extents
  pub there : IsSome (find pair_cmp (file, index) new.extents)

-- the first lost cell of so many of a file from where a block begins
abbrev pub lost_in_block : Cells → ℕ → ℕ → Option ℕ
lost_in_block cells index count = lost_where (is_within (block_start index) count) 0 cells

-- the same of all cells of the block
abbrev pub lost_there : Typed → Inside → ℕ → ℕ → Option ℕ
lost_there t i file index = lost_in_block (file_cells i file) index (block_count t file index)

-- the bytes of the block as so many cells of the file show them
abbrev pub shown_bytes : Cells → ℕ → ℕ → List ℕ
shown_bytes cells index count = bytes_of (take count (drop (block_start index) cells))

-- AN INSIDE once a block is recalled: it holds the bytes that its cells showed
abbrev pub with_recalled : Typed → ℕ → ℕ → Inside → Inside
with_recalled t file index i =
    with_block (file, index) (shown_bytes (file_cells i file) index (block_count t file index)) i

-- what recalling a block answers where nothing is wanting, and leaves: the same volume; a lost cell refuses it
abbrev pub recall : Option ℕ → Volume → Outcome
recall lost v = unless_lost lost (Ok (reply.Done, v))

-- What a result tells of the first lost cell: `Damaged` names it. Where the block was read there is none.
abbrev pub TellsLost : Option ℕ → Result (Unit {0}) Fault → Type 0
TellsLost lost (Ok done) = lost ≡ None
TellsLost lost (Err (Damaged place)) = lost ≡ Some place
TellsLost lost (Err Memory) = lost ≡ None
TellsLost lost (Err BadName) = Unit {0}
TellsLost lost (Err NoFile) = Unit {0}
TellsLost lost (Err Exists) = Unit {0}
TellsLost lost (Err (OutsideFile length)) = Unit {0}
TellsLost lost (Err (TooLarge most)) = Unit {0}
TellsLost lost (Err Worn) = Unit {0}
TellsLost lost (Err TableFull) = Unit {0}
TellsLost lost (Err (Full asked left)) = Unit {0}
TellsLost lost (Err Failed) = Unit {0}

-- a refusal that comes behind the wants, and is none of the device: a lost cell, or want of memory
abbrev pub IsLateRefusal : Fault → Type 0
IsLateRefusal fault = ((q : ℕ) × (fault ≡ Damaged q)) ⊎ (fault ≡ Memory)

module _ {D : Type 0} {d : Ghosts D} where
  -- WHY a recall is refused: what is wanting, or that the device failed; and where nothing is wanting, a lost cell, or
  -- want of memory
  abbrev pub IsRecallRefused : Tables D d → Tables D d → Needs → Fault → Type 0
  IsRecallRefused old new n fault = IsWanting old new n fault ⊎ ((wanting old n ≡ None) × IsLateRefusal fault)
