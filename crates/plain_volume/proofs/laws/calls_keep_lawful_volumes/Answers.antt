use Rattle.plain_volume.proofs.Lawful.{stays_lawful}
use Rattle.plain_volume.proofs.laws.calls_keep_lawful_volumes.Goals as goal

pub returns-clause-steps : goal.returns-clause-steps
returns-clause-steps c = stays_lawful
