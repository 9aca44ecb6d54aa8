use Rattle.regression_chunker.specs.Sees.{HasRun}
use Rattle.regression_chunker.proofs.fast.stretch.Given as goal

abbrev pub invariant-loop-i : goal.invariant-loop-i
invariant-loop-i l = HasRun l.rest l.at l.i l.print l.seen
