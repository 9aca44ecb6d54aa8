use Rattle.std.proofs.Common.{length, ◌-◌, ◌≡◌, ◌≤◌, ◌<◌, ◌+◌, ◌/◌, ℕ, get_or}
use Rattle.std.specs.FinMap.{find}
use Rattle.table_records.specs.Keys.{pair_cmp}
use Rattle.volume_inside.specs.Typed.{Typed}
use Rattle.volume_tables.specs.Tables.{tables_now, inside_now, IsTables}
use Rattle.volume_tables.specs.Reads.{ReadsOnly}
use Rattle.volume_files.specs.Reads.{byte_at}
use Rattle.volume_files.proofs.reading.read_plain.Given as goal

-- the bytes before `done` are read, and `extent` is that of the block behind them
abbrev pub invariant-loop-done : goal.invariant-loop-done
invariant-loop-done g l = record {
  within : l.done ≤ length l.out;
  next : l.done < length l.out
      → l.extent ≡ find pair_cmp (l.file, (l.at + l.done) / 4096) (tables_now l.fn.tables).extents;
  reads : ReadsOnly l.fn.tables l.tables;
  bytes : (stored : Typed) → IsTables l.fn.tables stored → (k : ℕ) → k < l.done
      → get_or l.out k 0 ≡ byte_at (inside_now l.fn.tables) l.file (l.at + k);
}

abbrev pub decreases-loop-done : goal.decreases-loop-done
decreases-loop-done g l = length l.out - l.done
