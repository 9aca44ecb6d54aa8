use Rattle.vdisk.specs.Steps.{unnamed_stays}
use Rattle.vdisk.proofs.laws.unnamed_bytes_stay.Goals as goal

pub returns : goal.returns
returns g c =
    unnamed_stays (g.D.Disk.state c.args.before.now) (g.D.Disk.state c.args.after.now) c.args.at c.args.n c.args.place c.args.len
    c.requires.written c.requires.apart
