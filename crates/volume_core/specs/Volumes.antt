-- What a volume stands for, and what its calls keep.
use Rattle.std.specs.Prelude.{ℕ, Bool}
use Rattle.vdisk.specs.Disk.{DiskState}
use Rattle.vdisk.specs.declared.disk.Disk.{Ghosts}
use Rattle.plain_volume.specs.Volume.{Volume}
use Rattle.volume_inside.specs.Shows.{Area}
use Rattle.volume_tables.specs.Tables as tables
use Rattle.volume_tables.specs.Sound as files
use Rattle.volume_tables.specs.declared.tables.Tables.{Tables}
use Rattle.rw_filter.specs.Filters.{filtered}
use Rattle.volume_core.specs.declared.volume.Volume.{Volume as Mounted}

module _ {D : Type 0} {d : Ghosts D} where
  -- its tables
  abbrev pub tables_of : Mounted D d → Tables D d
  tables_of v = filtered v.filter

  abbrev pub device_of : Mounted D d → D
  device_of v = (tables_of v).log.disk

  abbrev pub disk_of : Mounted D d → DiskState
  disk_of v = tables.disk_of (tables_of v)

  -- how many clusters the image has
  abbrev pub clusters_in : Mounted D d → ℕ
  clusters_in v = tables.clusters_in (tables_of v)

  -- how an image is read
  abbrev pub area_of : Mounted D d → Area
  area_of v = tables.area_of (tables_of v)

  -- the plain volume now
  abbrev pub view_now : Mounted D d → Volume
  view_now v = tables.view_now (tables_of v)

  -- a write or a sync has failed
  abbrev pub stopped : Mounted D d → Bool
  stopped v = tables.stopped (tables_of v)

  -- how many bytes of records a flush would make durable
  abbrev pub due_of : Mounted D d → ℕ
  due_of v = tables.due_of (tables_of v)

  -- each image that a crash now may leave spells the same tables and shows w: more than `Kept`, that each shows w
  abbrev pub IsKept : Mounted D d → Volume → Type 0
  IsKept v w = files.IsKept (tables_of v) w

  -- WHAT EVERY CALL KEEPS: at any moment of it a crash shows what was kept before it, or the volume before it; and one
  -- of these two is kept after it, unless the volume is stopped.
  abbrev pub Endures : Mounted D d → Mounted D d → Type 0
  Endures old new = files.Endures (tables_of old) (tables_of new)
