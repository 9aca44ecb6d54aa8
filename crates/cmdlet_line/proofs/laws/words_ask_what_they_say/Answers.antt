use Rattle.cmdlet_line.proofs.MeaningLaws.{words_ask}
use Rattle.cmdlet_line.proofs.laws.words_ask_what_they_say.Goals as goal

pub returns : goal.returns
returns c = λ volume line ask fits has. words_ask volume line ask fits has
