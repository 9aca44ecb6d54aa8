use Rattle.std.proofs.Common.{◌≡◌, ℕ, get_or, length}
use Rattle.hash_index.proofs.table.Table.with_slots.Given as goal

abbrev pub invariant-loop-step : goal.invariant-loop-step
invariant-loop-step l = record {
  made : length l.cells.items ≡ l._step;
  empty : (place : ℕ) → get_or l.cells.items place 0 ≡ 0;
}
