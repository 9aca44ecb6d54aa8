use Rattle.cmdlet_line.proofs.RangeLaws.{what_is_asked}
use Rattle.cmdlet_line.proofs.laws.what_is_asked_is_in_range.Goals as goal

pub returns : goal.returns
returns c = λ volume line ask is. what_is_asked volume line ask is
