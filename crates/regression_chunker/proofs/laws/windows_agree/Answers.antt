use Rattle.regression_chunker.proofs.Sizes.{longer_decides, not_enough}
use Rattle.regression_chunker.proofs.laws.windows_agree.Goals as goal

pub returns-clause-longer : goal.returns-clause-longer
returns-clause-longer c = longer_decides

pub returns-clause-shorter : goal.returns-clause-shorter
returns-clause-shorter c = not_enough
