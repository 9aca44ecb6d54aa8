use Rattle.std.proofs.Common.{lit<, refl}
use Rattle.regression_chunker.specs.Fingerprint.{print_after, with_bits, times_x}
use Rattle.regression_chunker.proofs.fingerprint.Print.new.Goals as goal

pub invariant_of-result : goal.invariant_of-result
unfolding print_after with_bits times_x
invariant_of-result c = (lit< tt, refl)
