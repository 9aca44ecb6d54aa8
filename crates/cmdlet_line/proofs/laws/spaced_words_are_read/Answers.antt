use Rattle.cmdlet_line.proofs.SpelledLaws.{laid_words}
use Rattle.cmdlet_line.proofs.laws.spaced_words_are_read.Goals as goal

pub returns : goal.returns
returns c = λ spaced last are. laid_words spaced last are
