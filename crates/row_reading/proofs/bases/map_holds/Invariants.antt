use Rattle.std.proofs.Common.{◌≡◌, ◌≤◌, ◌-◌, ◌*◌, length}
use Rattle.std.specs.Prelude.{Some}
use Rattle.vdisk.specs.Ranges.{part}
use Rattle.stream_map.specs.Pieces.{entries_in}
use Rattle.volume_inside.specs.Pages.{content}
use Rattle.row_reading.specs.Reading.{IsSum}
use Rattle.row_reading.proofs.bases.map_holds.Given as goal

-- the entries before `done` hold
abbrev pub invariant-loop-done : goal.invariant-loop-done
invariant-loop-done g l = record {
  within : l.done ≤ l.entries;
  room : length l.buffer ≡ 12288;
  most : l.sum ≤ 131072 * l.done;
  chunks : g.D.ChunkDisk.chunks l.disk ≡ g.D.ChunkDisk.chunks l.fn.disk;
  image : g.D.ChunkDisk.image l.disk ≡ g.D.ChunkDisk.image l.fn.disk;
  tells : g.D.ChunkDisk.tells l.fn.disk → g.D.ChunkDisk.tells l.disk;
  from : g.D.ChunkDisk.is_from l.fn.disk l.disk;
  later : g.D.ChunkDisk.faults l.fn.disk ≤ g.D.ChunkDisk.faults l.disk;
  is : g.D.ChunkDisk.tells l.fn.disk → IsSum (g.D.ChunkDisk.chunks l.fn.disk).rows (entries_in
      (part l.at (12 * l.done) (content (g.D.ChunkDisk.chunks l.fn.disk) l.container (g.D.ChunkDisk.image l.fn.disk))))
      (Some l.sum);
}

abbrev pub decreases-loop-done : goal.decreases-loop-done
decreases-loop-done g l = l.entries - l.done
