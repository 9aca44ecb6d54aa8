use Rattle.std.proofs.Common.{◌≤◌, ◌-◌}
use Rattle.row_reading.specs.Reading.{AreBeside}
use Rattle.row_reading.proofs.content.run_at.Given as goal

-- the clusters so far lie beside one another
abbrev pub invariant-loop-count : goal.invariant-loop-count
invariant-loop-count g l = record {
  some : 1 ≤ l.count;
  most : l.count ≤ l.most;
  beside : AreBeside (g.D.ChunkDisk.chunks l.disk) l.container l.index l.first l.count;
}

abbrev pub decreases-loop-count : goal.decreases-loop-count
decreases-loop-count g l = l.most - l.count
