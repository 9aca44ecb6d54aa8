-- What is read of a file before bytes are written into it: the cells beside them, in the blocks that they touch in part.
use Rattle.std.specs.Prelude.{◌≡◌, ◌⊎◌, ◌≤◌, ◌<◌, ◌+◌, ◌*◌, ◌/◌, ℕ, true, List, length, slice_index, Some, IsSome}
use Rattle.std.specs.Ordering.{nat_cmp}
use Rattle.std.specs.FinMap.{find}
use Rattle.vdisk.specs.Causes.{Rose}
use Rattle.vdisk.specs.declared.disk.Disk.{Ghosts}
use Rattle.plain_volume.specs.Volume.{Byte, is_beside}
use Rattle.plain_volume.specs.declared.call.Fault.{Fault}
use Rattle.plain_volume.specs.declared.call.Fault.TheVariants.{TooLarge, Failed, Damaged, Memory}
use Rattle.plain_volume.specs.declared.limits.TheConstants.{MOST_BYTES_OF_A_CALL, MOST_BYTES_OF_A_FILE}
use Rattle.table_records.specs.Keys.{pair_cmp}
use Rattle.table_records.specs.declared.records.FileRecord.{FileRecord}
use Rattle.volume_inside.specs.declared.layout.TheConstants.{CLUSTER_BYTES}
use Rattle.volume_inside.specs.Inside.{Inside}
use Rattle.volume_inside.specs.Typed.{Typed}
use Rattle.volume_inside.specs.View.{cell}
use Rattle.volume_tables.specs.Tables.{disk_of}
use Rattle.volume_tables.specs.declared.tables.Tables.{Tables}
use Rattle.volume_files.specs.Lengths.{length_of}
use Rattle.volume_files.specs.Own.{covered_in}
use Rattle.volume_files.specs.Writing.{write_wants}

-- the file's cells from a place in a block of it up to another, as far as it reaches, are bytes of this block
abbrev pub HasPart : Inside → ℕ → FileRecord → ℕ → ℕ → ℕ → List ℕ → Type 0
HasPart i id file index from to block = (o : ℕ) → from ≤ o → o < to → CLUSTER_BYTES * index + o < file.length
    → cell i id file (CLUSTER_BYTES * index + o) ≡ Byte (slice_index block o)

-- the other bytes of the block are those of an older one
abbrev pub KeepsRest : FileRecord → ℕ → ℕ → ℕ → List ℕ → List ℕ → Type 0
KeepsRest file index from to old new = (o : ℕ)
    → (from ≤ o → o < to → CLUSTER_BYTES * index + o < file.length → ⊥) → slice_index new o ≡ slice_index old o

-- a block has an extent, or the base of its file, which covers so many bytes, reaches over this place of it
abbrev pub IsRead : Typed → ℕ → ℕ → ℕ → ℕ → Type 0
IsRead t id index covers place = IsSome (find pair_cmp (id, index) t.extents) ⊎ (place < covers)

-- beside so many bytes lies a cell of the file that an extent or the base gives, so it is read first
pub record ReadsBeside (t : Typed) (id at count : ℕ) : Type 0 where
  pub place : ℕ
  pub beside : is_beside at count place ≡ true
  pub below : place < length_of t id
  pub there : IsRead t id (place / CLUSTER_BYTES) (covered_in (find nat_cmp id t.files)) place

module _ {D : Type 0} {d : Ghosts D} where
  -- WHY A WRITE IS REFUSED: too many bytes, or too far behind; what is wanting; a lost cell beside them; that the device
  -- failed, which it counts; or want of memory
  abbrev pub IsWriteFault : Tables D d → Tables D d → ℕ → ℕ → List ℕ → Fault → Type 0
  IsWriteFault old new file at bytes fault =
      ((fault ≡ TooLarge MOST_BYTES_OF_A_CALL) × (MOST_BYTES_OF_A_CALL < length bytes))
      ⊎ (((fault ≡ TooLarge MOST_BYTES_OF_A_FILE) × (MOST_BYTES_OF_A_FILE < at + length bytes))
      ⊎ ((write_wants old file at bytes ≡ Some fault)
      ⊎ (((q : ℕ) × (fault ≡ Damaged q))
      ⊎ (((fault ≡ Failed) × Rose (disk_of old).faults (disk_of new).faults) ⊎ (fault ≡ Memory)))))
