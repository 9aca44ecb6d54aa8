use Rattle.plain_volume.proofs.Answers.{own_is_step}
use Rattle.plain_volume.proofs.laws.own_replies_are_steps.Goals as goal

pub returns : goal.returns
returns c = own_is_step
