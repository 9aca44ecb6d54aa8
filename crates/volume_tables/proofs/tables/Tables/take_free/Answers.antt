use Rattle.volume_tables.specs.Tables.{states_of}
use Rattle.volume_tables.proofs.Leaving.{space_leaves, used_no_freer}
use Rattle.volume_tables.proofs.tables.Tables.take_free.Goals as goal

pub returns-clause-leaves : goal.returns-clause-leaves
returns-clause-leaves g c =
    let t = c.args.self.now in
    let u = c.use_free.ensures in
    space_leaves t c.use_free.new.self u.log u.clusters u.ends u.worn _ u.states
    (used_no_freer t.clusters c.args.cluster (states_of t)) (g.met.D.Disk.same_self t.log.disk)
