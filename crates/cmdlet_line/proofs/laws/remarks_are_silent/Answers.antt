use Rattle.cmdlet_line.proofs.MeaningLaws.{remark}
use Rattle.cmdlet_line.proofs.laws.remarks_are_silent.Goals as goal

pub returns : goal.returns
returns c = λ volume rest n short. remark volume rest n short
