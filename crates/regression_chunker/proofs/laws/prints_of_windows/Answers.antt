use Rattle.std.proofs.Common.{refl}
use Rattle.regression_chunker.specs.Fingerprint.{times_x, with_bits, print_after}
use Rattle.regression_chunker.proofs.laws.prints_of_windows.Goals as goal

pub returns-clause-zeros : goal.returns-clause-zeros
unfolding times_x with_bits print_after
returns-clause-zeros c = refl

pub returns-clause-last_byte : goal.returns-clause-last_byte
unfolding times_x with_bits print_after
returns-clause-last_byte c = refl

pub returns-clause-last_two_bytes : goal.returns-clause-last_two_bytes
unfolding times_x with_bits print_after
returns-clause-last_two_bytes c = refl

pub returns-clause-eight_zeros : goal.returns-clause-eight_zeros
unfolding times_x with_bits print_after
returns-clause-eight_zeros c = refl

pub returns-clause-eight_zeros_high : goal.returns-clause-eight_zeros_high
unfolding times_x with_bits print_after
returns-clause-eight_zeros_high c = refl

pub returns-clause-sixteen_zeros : goal.returns-clause-sixteen_zeros
unfolding times_x with_bits print_after
returns-clause-sixteen_zeros c = refl

pub returns-clause-twenty_four_zeros : goal.returns-clause-twenty_four_zeros
unfolding times_x with_bits print_after
returns-clause-twenty_four_zeros c = refl

pub returns-clause-thirty_two_zeros : goal.returns-clause-thirty_two_zeros
unfolding times_x with_bits print_after
returns-clause-thirty_two_zeros c = refl

pub returns-clause-forty_zeros : goal.returns-clause-forty_zeros
unfolding times_x with_bits print_after
returns-clause-forty_zeros c = refl
