use Rattle.ddpsh.proofs.OneRun.{script_same}
use Rattle.ddpsh.proofs.laws.scripts_have_one_run.Goals as goal

pub returns : goal.returns
returns c = script_same
