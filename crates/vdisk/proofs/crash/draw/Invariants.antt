use Rattle.vdisk.proofs.Draws.{Drawn}
use Rattle.vdisk.proofs.crash.draw.Given as goal

abbrev pub invariant-loop-i : goal.invariant-loop-i
invariant-loop-i l = Drawn l.seed l.pending l.initial.image l.i l.state l.image
