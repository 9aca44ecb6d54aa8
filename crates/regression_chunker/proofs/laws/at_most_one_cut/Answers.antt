use Rattle.regression_chunker.proofs.Unique.{cut_unique, decided_unique}
use Rattle.regression_chunker.proofs.laws.at_most_one_cut.Goals as goal

pub returns-clause-cut : goal.returns-clause-cut
returns-clause-cut c = cut_unique

pub returns-clause-decided : goal.returns-clause-decided
returns-clause-decided c = decided_unique
