-- What a format makes durable.
use Rattle.std.specs.Prelude.{◌≡◌, ◌⊎◌, ◌≤◌, ◌<◌, ◌+◌, ◌*◌, ℕ, List, [], ◌∷◌, length, Ok, Err}
use Rattle.std.specs.FinMap.Entries.{put}
use Rattle.byte_map.specs.Words.{Map, bytes_cmp}
use Rattle.meta_log.specs.Meta.{meta_of}
use Rattle.vdisk.specs.Causes.{Rose}
use Rattle.vdisk.specs.Disk.{DiskState, ChangedWithin, GrownTo}
use Rattle.volume_inside.specs.declared.layout.TheConstants.{CLUSTER_BYTES}
use Rattle.volume_inside.specs.Inside.{Inside}
use Rattle.volume_inside.specs.InsideOf.{InsideOf}
use Rattle.volume_inside.specs.Layout.{journal_at, half_bytes}
use Rattle.volume_inside.specs.View.{view}
use Rattle.volume_inside.specs.declared.mount_fault.MountFault.{MountFault}
use Rattle.volume_inside.specs.declared.mount_fault.MountFault.TheVariants.{NotVolume, VersionUnknown, SizeDiffers, MetaDamaged, BadTable, Failed, Memory}
use Rattle.volume_inside.specs.Fresh.{fresh_map, result_value}
use Rattle.volume_tables.specs.Mount.{read_meta}

-- a map with the results of jobs of which none has ended
abbrev pub with_results : Map → Map
with_results m =
    put bytes_cmp (10 ∷ 4 ∷ []) result_value (put bytes_cmp (10 ∷ 3 ∷ []) result_value
    (put bytes_cmp (10 ∷ 2 ∷ []) result_value (put bytes_cmp (10 ∷ 1 ∷ []) result_value m)))

-- the journal of an image spells the tables of a fresh volume, and all else is as it was
pub record SpellsFresh (at half : ℕ) (old c : List ℕ) : Type 0 where
  pub spells : meta_of at half c ≡ Ok fresh_map
  pub change : ChangedWithin at (2 * half) old c

-- what might have been left before, grown to n clusters at most and with any bytes in the first one
abbrev pub IsBegun : ℕ → DiskState → List ℕ → Type 0
IsBegun n old c =
    (d : List ℕ) × (e : List ℕ) × old.may_leave d × GrownTo (CLUSTER_BYTES * n) d e × ChangedWithin 0 CLUSTER_BYTES e c

-- the journal of an image of this size spells no map, or one without a file: no pair, or the tables of a fresh volume
pub record SpellsNoFile (at half bytes : ℕ) (c : List ℕ) : Type 0 where
  pub size : length c ≡ bytes
  pub spells : (meta_of at half c ≡ Err 2) ⊎ ((meta_of at half c ≡ Ok []) ⊎ (meta_of at half c ≡ Ok fresh_map))

-- an image with no inside, or with one that has no file
abbrev pub HasNoFile : List ℕ → Type 0
HasNoFile c = (i : Inside) → InsideOf read_meta c (Ok i) → view i ≡ []

-- WHAT A CRASH LEAVES WHILE A VOLUME OF n CLUSTERS IS MADE: what it might have left before; until both gates of the
-- journal are closed, that but for the length, the first cluster and the gates; from then on an image with no file, or
-- none that mounts.
abbrev pub IsMakeImage : ℕ → DiskState → List ℕ → Type 0
IsMakeImage n old c =
    old.may_leave c
    ⊎ (((d : List ℕ) × (e : List ℕ) × IsBegun n old d
    × ChangedWithin (journal_at + half_bytes n) 1 d e × ChangedWithin journal_at 1 e c)
    ⊎ HasNoFile c)

-- WHY NO VOLUME OF n CLUSTERS IS MADE: the disk is longer; or it is not, and the device failed, which it counts, or
-- memory was wanting
abbrev pub IsFormatFault : ℕ → DiskState → DiskState → MountFault → Type 0
IsFormatFault n old new NotVolume = ⊥
IsFormatFault n old new (VersionUnknown found) = ⊥
IsFormatFault n old new (SizeDiffers said size) = (said ≡ CLUSTER_BYTES * n) × (size ≡ length old.image) × (said < size)
IsFormatFault n old new (MetaDamaged half) = ⊥
IsFormatFault n old new (BadTable rule) = ⊥
IsFormatFault n old new Failed = (length old.image ≤ CLUSTER_BYTES * n) × Rose old.faults new.faults
IsFormatFault n old new Memory = length old.image ≤ CLUSTER_BYTES * n
