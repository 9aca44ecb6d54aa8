use Rattle.std.proofs.Common.{length, ◌-◌, ◌≡◌, ◌≤◌, ◌<◌, ◌+◌, ℕ, false}
use Rattle.std.specs.Prelude.{slice_index}
use Rattle.volume_inside.specs.Typed.{Typed}
use Rattle.volume_tables.specs.Tables.{tables_now, inside_now, IsTables}
use Rattle.volume_tables.specs.Reads.{ReadsOnly}
use Rattle.rw_filter.specs.Own.{is_own, HasOwn}
use Rattle.rw_filter.proofs.own_cells.read_own.Given as goal

-- the own cells before `done` are read, and no other byte is changed
abbrev pub invariant-loop-done : goal.invariant-loop-done
invariant-loop-done g l = record {
  within : l.done ≤ length l.out;
  reads : ReadsOnly l.fn.tables l.tables;
  bytes : (stored : Typed) → IsTables l.fn.tables stored
      → HasOwn (tables_now l.fn.tables) (inside_now l.fn.tables) l.file l.found l.at l.done l.out;
  kept : (k : ℕ) → (k < l.done → is_own (tables_now l.fn.tables) l.file (l.at + k) ≡ false)
      → slice_index l.out k ≡ slice_index l.fn.out k;
}

abbrev pub decreases-loop-done : goal.decreases-loop-done
decreases-loop-done g l = length l.out - l.done
