use Rattle.ddpsh.proofs.EpochLaws.{few_want_none}
use Rattle.ddpsh.proofs.laws.few_lines_want_no_epoch.Goals as goal

pub returns : goal.returns
returns c = few_want_none
