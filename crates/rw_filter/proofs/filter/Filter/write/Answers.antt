use Rattle.std.proofs.Common.{◌≡◌, ℕ, List, OnOk, subst}
use Rattle.plain_volume.specs.Volume.{Volume, overwritten}
use Rattle.plain_volume.specs.Step.{write}
use Rattle.plain_volume.specs.Replies.{done_reply}
use Rattle.volume_inside.specs.View.{file_cells}
use Rattle.volume_tables.specs.Tables.{inside_now, disk_of}
use Rattle.volume_tables.specs.Sound.{IsKept}
use Rattle.volume_tables.specs.Wants.{IsRepliedOrMemory}
use Rattle.volume_tables.specs.declared.tables.Tables.{Tables}
use Rattle.volume_files.specs.Insides.{id_written}
use Rattle.volume_files.specs.Writing.{write_wants}
use Rattle.rw_filter.proofs.filter.Filter.write.Goals as goal

pub returns-clause-reply : goal.returns-clause-reply
returns-clause-reply g c w =
    subst (λ (t : Tables g.row.D.Denot g.D.Disk). IsKept t w → (name : List ℕ) (v : Volume) → IsRepliedOrMemory
    (write name c.args.at c.args.bytes.now v (file_cells (inside_now t) c.args.file))
    (write_wants t c.args.file c.args.at c.args.bytes.now) (disk_of t).faults (disk_of c.write_file.new.tables).faults
    (done_reply c.write_file.result))
    c.tables_mut.ensures.tables (c.write_file.ensures.reply w)

pub returns-clause-cells : goal.returns-clause-cells
returns-clause-cells g c w =
    subst (λ (t : Tables g.row.D.Denot g.D.Disk). IsKept t w → OnOk c.write_file.result
    (file_cells (inside_now c.write_file.new.tables) c.args.file
    ≡ overwritten c.args.at c.args.bytes.now (file_cells (inside_now t) c.args.file)))
    c.tables_mut.ensures.tables (c.write_file.ensures.cells w)

pub returns-clause-inside : goal.returns-clause-inside
returns-clause-inside g c w =
    subst (λ (t : Tables g.row.D.Denot g.D.Disk). IsKept t w → OnOk c.write_file.result
    (inside_now c.write_file.new.tables ≡ id_written c.args.file c.args.at c.args.bytes.now (inside_now t)))
    c.tables_mut.ensures.tables (c.write_file.ensures.inside w)
