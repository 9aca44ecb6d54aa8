use Rattle.volume_tables.proofs.Ready.{extents_ready}
use Rattle.volume_tables.proofs.tables.Tables.count_extents.Goals as goal

pub returns : goal.returns
returns g c = c.count_between.ensures (extents_ready c.args.self.now.contents)
