use Rattle.std.proofs.Common.{◌≢◌, ◌<◌, length, ℕ}
use Rattle.hash_index.specs.Probe.{slot_at}
use Rattle.hash_index.proofs.probe.vacancy.Given as goal

abbrev pub invariant-loop-step : goal.invariant-loop-step
invariant-loop-step l = (j : ℕ) → j < l.step → slot_at (length l.slots) l.slots l.home j ≢ 0
