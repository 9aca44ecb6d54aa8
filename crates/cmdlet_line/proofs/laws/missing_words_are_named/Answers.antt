use Rattle.std.proofs.Common.{[], ◌∷◌}
use Rattle.cmdlet_line.proofs.MeaningLaws.{missing_count, write_line}
use Rattle.cmdlet_line.proofs.laws.missing_words_are_named.Goals as goal

pub returns : goal.returns
returns c = record {
  name = λ volume line has. write_line volume line [] has;
  at = λ volume line name has. write_line volume line (name ∷ []) has;
  count = λ volume line name at has some. missing_count volume line name at has some;
}
