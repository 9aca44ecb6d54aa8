use Rattle.std.proofs.Common.{◌≤◌, ◌-◌}
use Rattle.regression_chunker.specs.Sees.{Sees}
use Rattle.regression_chunker.proofs.fast.scan.Given as goal

abbrev pub invariant-loop-at : goal.invariant-loop-at
invariant-loop-at l = record { order : l.at ≤ l.end; low : 32767 ≤ l.at; seen : Sees l.rest 32767 l.at l.seen }

abbrev pub decreases-loop-at : goal.decreases-loop-at
decreases-loop-at l = l.end - l.at
