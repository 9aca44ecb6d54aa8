use Rattle.std.proofs.Common.{◌≡◌, ◌+◌, ◌*◌, length, subst}
use Rattle.std.specs.Prelude.{Result, OnOk}
use Rattle.vdisk.specs.Ranges.{part}
use Rattle.plain_volume.specs.declared.call.Fault.{Fault}
use Rattle.volume_tables.specs.Tables.{disk_of}
use Rattle.volume_tables.proofs.row_disk.TablesChunkDisk.read_run.Goals as goal

pub returns-in-Ok-clause-bytes : goal.returns-in-Ok-clause-bytes
returns-in-Ok-clause-bytes g c told =
    subst (λ (r : Result (Unit {0}) Fault). OnOk r (c.read_run.new.out ≡ part (4096 * c.args.first + c.args.from)
    (length c.args.out.now) (disk_of c.args.self.now).image)) c.in-Ok.is (c.read_run.ensures.bytes told.0 told.1)

pub returns-in-Ok-clause-tells : goal.returns-in-Ok-clause-tells
returns-in-Ok-clause-tells g c told = (told.0, c.read_run.ensures.reads.leaves.tables told.0 told.1)

pub returns-in-Err-clause-tells : goal.returns-in-Err-clause-tells
returns-in-Err-clause-tells g c told = (told.0, c.read_run.ensures.reads.leaves.tables told.0 told.1)
