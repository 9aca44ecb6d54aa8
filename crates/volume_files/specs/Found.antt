-- The file of a name.
use Rattle.std.specs.Prelude.{◌≡◌, ℕ, true, List, length, Some}
use Rattle.std.specs.Ordering.{nat_cmp}
use Rattle.std.specs.FinMap.Entries.{find}
use Rattle.vdisk.specs.declared.disk.Disk.{Ghosts}
use Rattle.byte_map.specs.Words.{bytes_cmp}
use Rattle.plain_volume.specs.Volume.{cells_of, is_lawful}
use Rattle.table_records.specs.declared.records.FileRecord.{FileRecord}
use Rattle.volume_inside.specs.View.{file_cells}
use Rattle.volume_tables.specs.Tables.{tables_now, inside_now, view_now}
use Rattle.volume_tables.specs.declared.tables.Tables.{Tables}

module _ {D : Type 0} {d : Ghosts D} where
  -- a lawful name has a file of this id and this record, with its cells in the view
  pub record IsFileOf (t : Tables D d) (name : List ℕ) (id : ℕ) (file : FileRecord) : Type 0 where
    pub lawful : is_lawful name ≡ true
    pub named : find bytes_cmp name (tables_now t).names ≡ Some id
    pub there : find nat_cmp id (tables_now t).files ≡ Some file
    pub cells : cells_of name (view_now t) ≡ Some (file_cells (inside_now t) id)
    pub long : length (file_cells (inside_now t) id) ≡ file.length
