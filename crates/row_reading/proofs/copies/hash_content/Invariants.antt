use Rattle.std.proofs.Common.{◌≡◌, ◌≤◌, ◌-◌, length}
use Rattle.sha2.specs.Hashers.{Holds256}
use Rattle.vdisk.specs.Ranges.{part}
use Rattle.volume_inside.specs.Pages.{content}
use Rattle.row_reading.proofs.copies.hash_content.Given as goal

-- the bytes before `done` are hashed
abbrev pub invariant-loop-done : goal.invariant-loop-done
invariant-loop-done g l = record {
  within : l.done ≤ l.size;
  room : length l.buffer ≡ 16384;
  chunks : g.D.ChunkDisk.chunks l.disk ≡ g.D.ChunkDisk.chunks l.fn.disk;
  image : g.D.ChunkDisk.image l.disk ≡ g.D.ChunkDisk.image l.fn.disk;
  tells : g.D.ChunkDisk.tells l.fn.disk → g.D.ChunkDisk.tells l.disk;
  from : g.D.ChunkDisk.is_from l.fn.disk l.disk;
  later : g.D.ChunkDisk.faults l.fn.disk ≤ g.D.ChunkDisk.faults l.disk;
  hashed : g.D.ChunkDisk.tells l.fn.disk → Holds256 l.hasher
      (part l.at l.done (content (g.D.ChunkDisk.chunks l.fn.disk) l.container (g.D.ChunkDisk.image l.fn.disk)));
}

abbrev pub decreases-loop-done : goal.decreases-loop-done
decreases-loop-done g l = l.size - l.done
