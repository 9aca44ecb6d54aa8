use Rattle.cmdlet_line.proofs.LayoutLaws.{plain_words}
use Rattle.cmdlet_line.proofs.laws.lines_without_quotes_are_cut_at_spaces.Goals as goal

pub returns : goal.returns
returns c = λ line none. plain_words line none
