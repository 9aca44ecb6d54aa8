use Rattle.vdisk.specs.declared.disk.Disk.{Ghosts}
use Rattle.volume_inside.specs.Rules.{next_id_of, RulesHold}
use Rattle.row_reading.specs.Reading.{IsReadable}
use Rattle.row_reading.proofs.Readable.{readable}
use Rattle.volume_tables.specs.Tables.{tables_now, disk_of, clusters_in}
use Rattle.volume_tables.specs.declared.tables.Tables.{Tables}
use Rattle.chunk_container.proofs.store.Store.read_row.Goals as goal

readable_now : {D : Type 0} {d : Ghosts D} (t : Tables D d) → RulesHold (clusters_in t) (tables_now t)
    → IsReadable (tables_now t).chunks (disk_of t).image
readable_now t rules =
    readable (clusters_in t) (next_id_of (tables_now t)) (tables_now t).chunks (disk_of t).image t.size rules.chunks

pub read_row-requires-clause-readable : goal.read_row-requires-clause-readable
read_row-requires-clause-readable g c = readable_now c.args.self.now.tables c.requires.rules
