use Rattle.std.proofs.Common.{◌≡◌, ◌≤◌, ◌-◌, ◌*◌, length}
use Rattle.std.specs.Prelude.{Some}
use Rattle.vdisk.specs.Ranges.{part}
use Rattle.stream_map.specs.Pieces.{entries_in, total_length}
use Rattle.volume_inside.specs.BaseCells.{map_cell}
use Rattle.volume_inside.specs.Chunks.{chunks_at}
use Rattle.volume_inside.specs.Pages.{content}
use Rattle.row_reading.specs.BaseReads.{ReadsAlone, AreRead, bytes_of_text}
use Rattle.row_reading.proofs.base_reads.read_map.Given as goal

-- the pieces of the entries before `done` are read, which end where the next begins
abbrev pub invariant-loop-done : goal.invariant-loop-done
invariant-loop-done g l = record {
  reads : ReadsAlone g.D.ChunkDisk l.fn.disk l.disk;
  within : l.done ≤ l.entries;
  room : length l.buffer ≡ 12288;
  most : l.begin ≤ 4294967296 * l.done;
  size : length l.out ≡ length l.fn.out;
  begin : g.D.ChunkDisk.tells l.fn.disk → l.begin ≡ total_length (entries_in (part l.text.place.offset (12 * l.done)
      (content (g.D.ChunkDisk.chunks l.fn.disk) l.text.place.container (g.D.ChunkDisk.image l.fn.disk))));
  read : g.D.ChunkDisk.tells l.fn.disk → AreRead
      (map_cell (chunks_at (g.D.ChunkDisk.chunks l.fn.disk) (g.D.ChunkDisk.image l.fn.disk))
      (bytes_of_text (g.D.ChunkDisk.chunks l.fn.disk) (g.D.ChunkDisk.image l.fn.disk) (Some l.text)))
      (g.W.Wanted.is_wanted l.wanted l.fn.disk) 0 l.begin l.at l.out;
}

abbrev pub decreases-loop-done : goal.decreases-loop-done
decreases-loop-done g l = l.entries - l.done
