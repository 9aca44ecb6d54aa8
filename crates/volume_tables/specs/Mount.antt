-- Why an image is not mounted.
use Rattle.std.specs.Prelude.{◌≡◌, ◌⊎◌, ℕ, IsTrue, Ok, Err}
use Rattle.vdisk.specs.Disk.{DiskState}
use Rattle.vdisk.specs.Causes.{Rose}
use Rattle.vdisk.specs.declared.disk.Disk.{Ghosts}
use Rattle.meta_log.specs.Meta.{meta_of}
use Rattle.meta_log.specs.declared.fault.MetaFault.{MetaFault}
use Rattle.meta_log.specs.declared.fault.MetaFault.TheVariants as log
use Rattle.byte_map.specs.Words.{Map}
use Rattle.volume_inside.specs.Rules.{IsLeastBrokenOfTables}
use Rattle.volume_inside.specs.InsideOf.{Reading, InsideOf, HasVersion}
use Rattle.volume_inside.specs.Layout.{journal_at, half_bytes}
use Rattle.volume_tables.specs.Reads.{IsTold}
use Rattle.volume_tables.specs.Tables.{inside_now, disk_of}
use Rattle.volume_tables.specs.declared.tables.Tables.{Tables}
use Rattle.volume_inside.specs.ChunkRules.{MapsHold}
use Rattle.volume_inside.specs.declared.mount_fault.MountFault.{MountFault}
use Rattle.volume_inside.specs.declared.mount_fault.MountFault.TheVariants.{NotVolume, VersionUnknown, SizeDiffers, MetaDamaged, BadTable, Failed, Memory}

-- what the journal of an image of n clusters spells
abbrev pub read_meta : Reading
read_meta n = meta_of journal_at (half_bytes n)

-- where the disk tells its bytes, its image has no inside for this reason
abbrev pub HasReason : DiskState → MountFault → Type 0
HasReason s fault = IsTrue s.tells → InsideOf read_meta s.image (Err fault)

-- WHY A MOUNT IS REFUSED: the image has no inside, and this is the first reason; or the device failed, which it counts;
-- or memory was wanting
abbrev pub IsMountFault : DiskState → DiskState → MountFault → Type 0
IsMountFault old new NotVolume = HasReason old NotVolume
IsMountFault old new (SizeDiffers said size) = HasReason old (SizeDiffers said size)
IsMountFault old new (MetaDamaged half) = HasReason old (MetaDamaged half)
IsMountFault old new (VersionUnknown found) = HasReason old (VersionUnknown found)
IsMountFault old new (BadTable rule) = HasReason old (BadTable rule)
IsMountFault old new Failed = Rose old.faults new.faults
IsMountFault old new Memory = Unit {0}

-- the same of the superblock alone
abbrev pub IsFrontFault : DiskState → DiskState → MountFault → Type 0
IsFrontFault old new NotVolume = HasReason old NotVolume
IsFrontFault old new (SizeDiffers said size) = HasReason old (SizeDiffers said size)
IsFrontFault old new (MetaDamaged half) = ⊥
IsFrontFault old new (VersionUnknown found) = ⊥
IsFrontFault old new (BadTable rule) = ⊥
IsFrontFault old new Failed = Rose old.faults new.faults
IsFrontFault old new Memory = ⊥

-- why the journal of an image of n clusters is not opened
abbrev pub IsLogFault : ℕ → DiskState → DiskState → MountFault → Type 0
IsLogFault n old new NotVolume = ⊥
IsLogFault n old new (SizeDiffers said size) = ⊥
IsLogFault n old new (MetaDamaged half) = IsTrue old.tells → read_meta n old.image ≡ Err half
IsLogFault n old new (VersionUnknown found) = ⊥
IsLogFault n old new (BadTable rule) = ⊥
IsLogFault n old new Failed = Rose old.faults new.faults
IsLogFault n old new Memory = Unit {0}

-- why the tables of an image of n clusters are not opened, where its superblock and its size are right
abbrev pub IsInnerFault : ℕ → DiskState → DiskState → MountFault → Type 0
IsInnerFault n old new NotVolume = ⊥
IsInnerFault n old new (SizeDiffers said size) = ⊥
IsInnerFault n old new (MetaDamaged half) = IsTrue old.tells → read_meta n old.image ≡ Err half
IsInnerFault n old new (VersionUnknown found) =
    IsTrue old.tells → (m : Map) × (read_meta n old.image ≡ Ok m) × HasVersion found m
IsInnerFault n old new (BadTable rule) =
    IsTrue old.tells → (m : Map) × (read_meta n old.image ≡ Ok m) × ((found : ℕ) → HasVersion found m → ⊥)
    × IsLeastBrokenOfTables n m rule
IsInnerFault n old new Failed = Rose old.faults new.faults
IsInnerFault n old new Memory = Unit {0}

-- why tables that meet all other rules are not mounted: a map of a base is not as it should be, or the device failed
abbrev pub IsMapsFault : {D : Type 0} {d : Ghosts D} → Tables D d → DiskState → MountFault → Type 0
IsMapsFault t new fault =
    ((fault ≡ BadTable 12) × (IsTold t → MapsHold (inside_now t) → ⊥))
    ⊎ ((fault ≡ Failed) × Rose (disk_of t).faults new.faults)

-- what a refusal to open the journal is for a mount
abbrev pub mount_fault_of : MetaFault → MountFault
mount_fault_of log.GroupFull = Memory
mount_fault_of log.TableFull = Memory
mount_fault_of log.Worn = Memory
mount_fault_of (log.Damaged half) = MetaDamaged half
mount_fault_of log.Failed = Failed
mount_fault_of log.Memory = Memory
