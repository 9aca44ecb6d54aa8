use Rattle.cmdlet_line.proofs.QuoteLaws.{quote_inside, quote_open, quote_touched}
use Rattle.cmdlet_line.proofs.laws.quotes_stand_round_whole_words.Goals as goal

pub returns : goal.returns
returns c = record {
  inside = λ front word rest words are is. quote_inside front word rest words are is;
  touched = λ front word rest b words are is other. quote_touched front word rest b words are is other;
  unclosed = λ front word words are is. quote_open front word words are is;
}
