use Rattle.std.proofs.Common.{refl}
use Rattle.volume_inside.specs.View.{view}
use Rattle.volume_inside.proofs.rows.bytes_behind_the_valid_ones_are_zero.Goals as goal

pub returns : goal.returns
unfolding view
returns c = refl
