use Rattle.cmdlet_line.proofs.MeaningLaws.{decimal_is_read}
use Rattle.cmdlet_line.proofs.laws.decimals_are_read.Goals as goal

pub returns : goal.returns
returns c = λ least most n low high small. decimal_is_read least most n low high small
