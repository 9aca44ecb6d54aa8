use Rattle.std.proofs.Common.{◌≡◌, ◌≤◌, ◌-◌, take, None}
use Rattle.sha2.specs.Hashers.{Holds256}
use Rattle.plain_volume.specs.Volume.{bytes_of, lost_where}
use Rattle.volume_inside.specs.Typed.{Typed}
use Rattle.volume_inside.specs.View.{file_cells}
use Rattle.volume_tables.specs.Tables.{inside_now, IsTables}
use Rattle.volume_tables.specs.Reads.{ReadsOnly}
use Rattle.rw_filter.specs.Filters.{filtered}
use Rattle.volume_core.proofs.Hashed.{below}
use Rattle.volume_core.proofs.hashing.hash_through.Given as goal

-- the bytes before `at` are hashed, and none of them is lost
abbrev pub invariant-loop-at : goal.invariant-loop-at
invariant-loop-at g l = record {
  within : l.at ≤ l.size;
  reads : ReadsOnly (filtered l.fn.filter) (filtered l.filter);
  hashed : (stored : Typed) → IsTables (filtered l.fn.filter) stored
      → Holds256 l.hasher (bytes_of (take l.at (file_cells (inside_now (filtered l.fn.filter)) l.file)));
  whole : (stored : Typed) → IsTables (filtered l.fn.filter) stored
      → lost_where (below l.at) 0 (file_cells (inside_now (filtered l.fn.filter)) l.file) ≡ None;
}

abbrev pub decreases-loop-at : goal.decreases-loop-at
decreases-loop-at g l = l.size - l.at
