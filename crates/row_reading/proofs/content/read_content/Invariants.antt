use Rattle.std.proofs.Common.{◌≡◌, ◌≤◌, ◌-◌, length, take}
use Rattle.vdisk.specs.Ranges.{part}
use Rattle.volume_inside.specs.Pages.{content}
use Rattle.row_reading.proofs.content.read_content.Given as goal

-- the bytes before `done` are read
abbrev pub invariant-loop-done : goal.invariant-loop-done
invariant-loop-done g l = record {
  within : l.done ≤ length l.out;
  chunks : g.D.ChunkDisk.chunks l.disk ≡ g.D.ChunkDisk.chunks l.fn.disk;
  image : g.D.ChunkDisk.image l.disk ≡ g.D.ChunkDisk.image l.fn.disk;
  tells : g.D.ChunkDisk.tells l.fn.disk → g.D.ChunkDisk.tells l.disk;
  from : g.D.ChunkDisk.is_from l.fn.disk l.disk;
  later : g.D.ChunkDisk.faults l.fn.disk ≤ g.D.ChunkDisk.faults l.disk;
  bytes : g.D.ChunkDisk.tells l.fn.disk → take l.done l.out
      ≡ part l.at l.done (content (g.D.ChunkDisk.chunks l.fn.disk) l.container (g.D.ChunkDisk.image l.fn.disk));
}

abbrev pub decreases-loop-done : goal.decreases-loop-done
decreases-loop-done g l = length l.out - l.done
