use Rattle.volume_tables.proofs.Leaving.{leaves_then}
use Rattle.chunk_container.proofs.redirecting.put_redirect.Goals as goal

pub returns-clause-leaves : goal.returns-clause-leaves
returns-clause-leaves g c =
    leaves_then g.met.D.Disk.same_next c.args.tables.now c.set_row.new.self c.drop_place.new.self
    c.set_row.ensures.leaves c.drop_place.ensures.leaves
