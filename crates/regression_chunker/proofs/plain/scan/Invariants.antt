use Rattle.regression_chunker.specs.Sees.{HasRun}
use Rattle.regression_chunker.proofs.plain.scan.Given as goal

abbrev pub invariant-loop-i : goal.invariant-loop-i
invariant-loop-i l = HasRun l.rest 32767 l.i l.print l.seen
