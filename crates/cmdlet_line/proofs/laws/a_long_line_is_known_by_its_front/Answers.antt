use Rattle.cmdlet_line.proofs.MeaningLaws.{front_tells}
use Rattle.cmdlet_line.proofs.laws.a_long_line_is_known_by_its_front.Goals as goal

pub returns : goal.returns
returns c = λ volume line. front_tells volume line
