use Rattle.cmdlet_line.proofs.MeaningLaws.{further_word}
use Rattle.cmdlet_line.proofs.laws.further_words_are_refused.Goals as goal

pub returns : goal.returns
returns c = λ volume line word ask rest fits is has. further_word volume line word ask rest fits is has
