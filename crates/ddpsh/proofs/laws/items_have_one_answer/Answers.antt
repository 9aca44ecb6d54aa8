use Rattle.ddpsh.proofs.OneRun.{item_same}
use Rattle.ddpsh.proofs.laws.items_have_one_answer.Goals as goal

pub returns : goal.returns
returns c = item_same
