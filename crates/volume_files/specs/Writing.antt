-- Bytes that are written into a file over the tables.
use Rattle.std.specs.Prelude.{◌≡◌, ◌≤◌, ◌&&◌, ◌<◌, ◌+◌, ◌-◌, ◌*◌, ◌/◌, ℕ, false, List, [], ◌∷◌, length, get_or, max}
use Rattle.std.specs.Prelude.{nat_le, Option, Some, None, IsSome, Result, OnOk, if◌then◌else◌}
use Rattle.std.specs.Ordering.{nat_cmp}
use Rattle.std.specs.FinMap.{find, put}
use Rattle.vdisk.specs.Ranges.{part}
use Rattle.vdisk.specs.declared.disk.Disk.{Ghosts}
use Rattle.cluster_space.specs.declared.run.Run.{Run}
use Rattle.cluster_space.specs.declared.state.State.{State}
use Rattle.cluster_space.specs.declared.state.State.TheVariants.{Free, Deferred}
use Rattle.cluster_space.specs.States.{IsIn}
use Rattle.plain_volume.specs.Volume.{Cell, Byte, is_within}
use Rattle.plain_volume.specs.declared.call.Fault.{Fault}
use Rattle.table_records.specs.Keys.{pair_cmp}
use Rattle.table_records.specs.declared.records.Extent.{Extent}
use Rattle.table_records.specs.declared.records.FileRecord.{FileRecord}
use Rattle.volume_inside.specs.declared.layout.TheConstants.{CLUSTER_BYTES}
use Rattle.volume_inside.specs.Typed.{Typed, FileBlock}
use Rattle.volume_inside.specs.Inside.{block_of, cluster_bytes}
use Rattle.volume_inside.specs.Layout.{IsDataCluster}
use Rattle.volume_tables.specs.Tables.{tables_now, stopped}
use Rattle.volume_tables.specs.declared.tables.Tables.{Tables}
use Rattle.volume_tables.specs.Pending.{IsPending}
use Rattle.volume_tables.specs.Stages.{accounted}
use Rattle.volume_tables.specs.Wants.{wanting}
use Rattle.volume_files.specs.Needs.{write_needs, write_bytes}

-- ---- bytes

-- the bytes that an extent names, or none
abbrev pub named_bytes : Option Extent → List ℕ → List ℕ
named_bytes None image = []
named_bytes (Some e) image = block_of e image

-- the byte at a place once these bytes were written at another; this one stood there
abbrev pub laid : ℕ → List ℕ → ℕ → ℕ → ℕ
laid at bytes p old = if is_within at (length bytes) p then get_or bytes (p - at) 0 else old

-- the same of a cell, where only bytes from a place on were written so far
abbrev pub laid_from : ℕ → ℕ → List ℕ → ℕ → Cell → Cell
laid_from from at bytes p old =
    if nat_le from p && is_within at (length bytes) p then Byte (get_or bytes (p - at) 0) else old

-- how many blocks there are from one on up to a place
abbrev pub blocks_up_to : ℕ → ℕ → ℕ
blocks_up_to to index = (to + (CLUSTER_BYTES - 1)) / CLUSTER_BYTES - index

-- ---- clusters that were written ahead, one for each block of a file from the one on that begins at `start`

-- each of so many blocks is filled by n bytes at a place of the file
abbrev pub AreFilled : ℕ → ℕ → ℕ → ℕ → Type 0
AreFilled start at n count =
    (k : ℕ) → k < count → (at ≤ start + CLUSTER_BYTES * k) × (start + CLUSTER_BYTES * k + CLUSTER_BYTES ≤ at + n)

-- each cluster of the run has its part of the bytes
abbrev pub AreAhead : ℕ → ℕ → List ℕ → Run → List ℕ → Type 0
AreAhead start at bytes run image =
    (k : ℕ) → k < run.count → cluster_bytes (run.first + k) image ≡ part (start + CLUSTER_BYTES * k - at) CLUSTER_BYTES bytes

-- a run without its first cluster
abbrev pub without_first : Run → Run
without_first run = record { first = run.first + 1; count = run.count - 1 }

-- a cluster has the block as it is once the bytes were written, where these stood in the file
abbrev pub HasLaid : ℕ → ℕ → List ℕ → (ℕ → ℕ) → List ℕ → ℕ → Type 0
HasLaid start at bytes stood image cluster =
    (o : ℕ) → o < CLUSTER_BYTES → get_or (cluster_bytes cluster image) o 0 ≡ laid at bytes (start + o) (stood (start + o))

-- ---- tables

-- the block of a key has a part of the bytes from one place up to another
abbrev pub IsTouched : ℕ → ℕ → ℕ → FileBlock → Type 0
IsTouched file from to k = (k.0 ≡ file) × (from < CLUSTER_BYTES * k.1 + CLUSTER_BYTES) × (CLUSTER_BYTES * k.1 < to)

-- an extent that can be read
pub record IsReadable (n : ℕ) (e : Extent) : Type 0 where
  pub in_cluster : e.valid ≤ CLUSTER_BYTES
  pub in_data : IsDataCluster n e.cluster

-- the record of a file that reaches up to a place at least
abbrev pub reaching : ℕ → FileRecord → FileRecord
reaching to file = record file { length = max file.length to }

-- Tables that differ in extents alone, and in those of the touched blocks alone, each of which has one.
pub record AreExtentsSet (file from to : ℕ) (old new : Typed) : Type 0 where
  pub rest : new ≡ record old { extents = new.extents }
  pub others : (k : FileBlock) → (IsTouched file from to k → ⊥) →
      find pair_cmp k new.extents ≡ find pair_cmp k old.extents
  pub touched : (k : FileBlock) → IsTouched file from to k → IsSome (find pair_cmp k new.extents)

-- WHAT A WRITE CHANGES IN THE TABLES: the file's record, and the extents of the blocks that it touches. A write of no
-- bytes changes nothing.
pub record IsWritten (file from to : ℕ) (old new : Typed) : Type 0 where
  pub files : (was : FileRecord) → find nat_cmp file old.files ≡ Some was →
      new.files ≡ put nat_cmp file (reaching to was) old.files
  pub extents : AreExtentsSet file from to (record old { files = new.files }) new

abbrev pub AreWritten : ℕ → ℕ → List ℕ → Typed → Typed → Type 0
AreWritten file at [] old new = new ≡ old
AreWritten file at (b ∷ bytes) old new = IsWritten file at (at + length (b ∷ bytes)) old new

-- ---- blocks that are read

-- bytes at a place of a file do not fill its block that begins at `start`, and that has bytes, which are read first
pub record IsReadFirst (start at count : ℕ) (was : Option Extent) : Type 0 where
  pub unfilled : (at ≤ start) × (start + CLUSTER_BYTES ≤ at + count) → ⊥
  pub there : IsSome was

-- so it is with one of the blocks from a place of the file on that the bytes touch
pub record ReadsFirst (file from at count : ℕ) (t : Typed) : Type 0 where
  pub index : ℕ
  pub touched : IsTouched file from (at + count) (file, index)
  pub read : IsReadFirst (CLUSTER_BYTES * index) at count (find pair_cmp (file, index) t.extents)

-- ---- clusters

-- no cluster becomes free, and one that is deferred stays so
pub record IsNoFreer (old new : List State) : Type 0 where
  pub free : (k : ℕ) → IsIn new k Free → IsIn old k Free
  pub deferred : (k : ℕ) → IsIn old k Deferred → IsIn new k Deferred

module _ {D : Type 0} {d : Ghosts D} where
  -- no cluster is lost, unless the volume is stopped
  abbrev pub LosesNone : Tables D d → Tables D d → Type 0
  LosesNone old new = stopped new ≡ false → accounted new ≡ accounted old

  -- what is wanting for a write
  abbrev pub write_wants : Tables D d → ℕ → ℕ → List ℕ → Option Fault
  write_wants t file at [] = None
  write_wants t file at (b ∷ bytes) = wanting t (write_needs (tables_now t) file at (length (b ∷ bytes)))

  -- what a write does to what waits for a commit: no bytes leave all as it was
  abbrev pub IsWritePending : ℕ → ℕ → List ℕ → Tables D d → Tables D d → Result (Unit {0}) Fault → Type 0
  IsWritePending file at [] old new result = OnOk result (new ≡ old)
  IsWritePending file at (b ∷ bytes) old new result = IsPending
      (write_needs (tables_now old) file at (length (b ∷ bytes))) (write_bytes at (length (b ∷ bytes))) old new result
