use Rattle.cmdlet_line.proofs.MeaningLaws.{load_is_later, turn_is_later, unknown_command}
use Rattle.cmdlet_line.proofs.laws.commands_come_before_their_words.Goals as goal

pub returns : goal.returns
returns c = record {
  unknown = λ volume line word rest has speaks none. unknown_command volume line word rest has speaks none;
  turn = λ volume line rest has. turn_is_later volume line rest has;
  load = λ volume line rest has. load_is_later volume line rest has;
}
