use Rattle.volume_inside.proofs.TailsOn.{tails_stored}
use Rattle.volume_inside.proofs.base_laws.tails_are_free_after_a_commit.Goals as goal

pub returns : goal.returns
returns c = tails_stored
