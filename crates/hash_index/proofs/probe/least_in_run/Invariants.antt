use Rattle.std.proofs.Common.{length}
use Rattle.hash_index.specs.Probe.{slot_at, IsCandidate, IsLeast}
use Rattle.hash_index.proofs.probe.least_in_run.Given as goal

abbrev pub invariant-loop-step : goal.invariant-loop-step
invariant-loop-step g l = IsLeast (λ j. slot_at (length l.slots) l.slots l.home j) (IsCandidate (g.T.Digests.digest_of l.tells) l.digest l.after) l.step l.least
