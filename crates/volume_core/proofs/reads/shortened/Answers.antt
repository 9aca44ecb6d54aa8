use Rattle.std.proofs.Common.{length, length-take, ap, arith}
use Rattle.volume_core.proofs.reads.shortened.Goals as goal

pub returns-in-Some-clause-short : goal.returns-in-Some-clause-short
returns-in-Some-clause-short c = omega (arith, ap length c.name_front.ensures, length-take 255 c.in-Some.name.now)
