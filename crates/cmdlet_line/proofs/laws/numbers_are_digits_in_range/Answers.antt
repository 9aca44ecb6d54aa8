use Rattle.cmdlet_line.proofs.NumberLaws.{is_number, number_is}
use Rattle.cmdlet_line.proofs.laws.numbers_are_digits_in_range.Goals as goal

pub returns : goal.returns
returns c = λ least most n word. (is_number least most n word, number_is least most n word)
