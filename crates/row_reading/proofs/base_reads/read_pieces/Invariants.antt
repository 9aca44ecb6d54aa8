use Rattle.std.proofs.Common.{◌≡◌, ◌≤◌, ◌+◌, ◌*◌, length, take}
use Rattle.stream_map.specs.Pieces.{entries_in, total_length}
use Rattle.volume_inside.specs.Chunks.{chunks_at}
use Rattle.row_reading.specs.BaseReads.{ReadsAlone, AreRead, IsKeptBefore, cell_from}
use Rattle.row_reading.proofs.base_reads.read_pieces.Given as goal

-- the pieces of the entries before `index` are read
abbrev pub invariant-loop-index : goal.invariant-loop-index
invariant-loop-index g l = record {
  reads : ReadsAlone g.D.ChunkDisk l.fn.disk l.disk;
  next : l.next ≡ l.begin + total_length (entries_in (take (12 * l.index) l.bytes));
  most : l.next ≤ l.begin + 4294967296 * l.index;
  size : length l.out ≡ length l.fn.out;
  kept : IsKeptBefore l.begin l.at l.fn.out l.out;
  read : g.D.ChunkDisk.tells l.fn.disk → AreRead
      (cell_from (chunks_at (g.D.ChunkDisk.chunks l.fn.disk) (g.D.ChunkDisk.image l.fn.disk)) (entries_in l.bytes) l.begin)
      (g.W.Wanted.is_wanted l.wanted l.fn.disk) l.begin l.next l.at l.out;
}
