use Rattle.ddpsh.proofs.OneRun.{states_fixed}
use Rattle.ddpsh.proofs.laws.images_fix_states.Goals as goal

pub returns : goal.returns
returns c = states_fixed
