-- The rows and copies of tables, as their disk reads.
use Rattle.std.specs.Prelude.{◌≡◌, ℕ, List, Some, IsTrue}
use Rattle.std.specs.FinMap.{find}
use Rattle.vdisk.specs.Ranges.{part}
use Rattle.vdisk.specs.declared.disk.Disk.{Ghosts}
use Rattle.table_records.specs.Keys.{pair_cmp}
use Rattle.table_records.specs.declared.chunk_records.Row.{Row}
use Rattle.table_records.specs.declared.chunk_records.Place.{Place}
use Rattle.volume_inside.specs.Bases.{Bases, bases_of}
use Rattle.volume_inside.specs.Entries.{Each}
use Rattle.volume_inside.specs.Mapping.{HasEntries}
use Rattle.volume_inside.specs.Pages.{content}
use Rattle.volume_tables.specs.Tables.{tables_now, disk_of}
use Rattle.volume_tables.specs.declared.tables.Tables.{Tables}

module _ {D : Type 0} {d : Ghosts D} where
  abbrev pub bases_now : Tables D d → Bases
  bases_now t = bases_of (tables_now t) (disk_of t).image

  -- where the disk tells what it holds, no map of a file that is not lost names a row
  abbrev pub IsOutOfMaps : Tables D d → ℕ → Type 0
  IsOutOfMaps t id =
      IsTrue (disk_of t).tells → Each (HasEntries (bases_now t) (λ e. e.id ≡ id → ⊥)) (tables_now t).files

  -- the bytes that a container has at a place, as many as a row has
  abbrev pub bytes_at : Place → Row → Tables D d → List ℕ
  bytes_at place row t = part place.offset row.length (content (tables_now t).chunks place.container (disk_of t).image)

  -- the first copy of a row has the bytes that other tables had at a place
  abbrev pub HasFirstCopy : ℕ → Row → Place → Tables D d → Tables D d → Type 0
  HasFirstCopy id row place old new = find pair_cmp (id, 0) (bases_now new).copies ≡ Some (bytes_at place row old)
