use Rattle.cmdlet_line.proofs.MeaningLaws.{other_quote}
use Rattle.cmdlet_line.proofs.laws.other_quotes_are_refused.Goals as goal

pub returns : goal.returns
returns c = λ volume line short speaks other. other_quote volume line short speaks other
