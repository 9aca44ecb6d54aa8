use Rattle.cmdlet_line.proofs.LayoutLaws.{each_is_laid}
use Rattle.cmdlet_line.proofs.laws.each_line_is_spaced_words.Goals as goal

pub returns : goal.returns
returns c = λ line words are. each_is_laid line words are
