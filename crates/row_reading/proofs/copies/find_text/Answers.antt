use Rattle.std.proofs.Common.{◌≡◌}
use Rattle.std.specs.Prelude.{None}
use Rattle.std.proofs.Common.{rules}
use Rattle.std.specs.Ordering.{nat_cmp}
use Rattle.std.specs.FinMap.{find}
use Rattle.volume_inside.specs.Chunks.{chunks_at}
use Rattle.row_reading.proofs.Texts.{no_chunk}
use Rattle.row_reading.proofs.copies.find_text.Goals as goal

pub returns-then-is_none-clause-is : goal.returns-then-is_none-clause-is
returns-then-is_none-clause-is g c tells =
    let none : find nat_cmp c.args.id (g.D.ChunkDisk.chunks c.args.disk.now).rows ≡ None = search rules in
    no_chunk (chunks_at (g.D.ChunkDisk.chunks c.args.disk.now) (g.D.ChunkDisk.image c.args.disk.now)) c.args.id none
