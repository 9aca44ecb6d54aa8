use Rattle.std.proofs.Common.{◌≤◌, ◌*◌, take}
use Rattle.std.specs.Prelude.{Some}
use Rattle.stream_map.specs.Pieces.{entries_in}
use Rattle.row_reading.specs.Reading.{IsSum}
use Rattle.row_reading.proofs.entries.sum_of.Given as goal

-- the entries so far hold
abbrev pub invariant-loop-index : goal.invariant-loop-index
invariant-loop-index g l = record {
  most : l.sum ≤ 131072 * l.index;
  is : IsSum (g.D.ChunkDisk.chunks l.disk).rows (entries_in (take (12 * l.index) l.bytes)) (Some l.sum);
}
