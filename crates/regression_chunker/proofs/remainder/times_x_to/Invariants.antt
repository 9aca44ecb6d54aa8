use Rattle.std.proofs.Common.{◌≡◌}
use Rattle.regression_chunker.specs.Fingerprint.{times_x_to}
use Rattle.regression_chunker.proofs.remainder.times_x_to.Given as goal

abbrev pub invariant-loop : goal.invariant-loop
invariant-loop l = l.product ≡ times_x_to l.counter l.fn.v
