use Rattle.std.proofs.Common.{sym, subst}
use Rattle.std.specs.Prelude.{IsSome}
use Rattle.row_reading.proofs.Runs.{page_there}
use Rattle.row_reading.proofs.content.run_at.Goals as goal

pub unwrap-first-requires : goal.unwrap-first-requires
unwrap-first-requires g c =
    subst IsSome (sym c.get_cluster.ensures) (page_there (g.D.ChunkDisk.chunks c.args.disk.now) (g.D.ChunkDisk.image c.args.disk.now)
    c.args.container c.args.index c.requires.content c.requires.used)
