use Rattle.regression_chunker.proofs.Unique.{pieces_unique}
use Rattle.regression_chunker.proofs.laws.at_most_one_list_of_pieces.Goals as goal

pub returns : goal.returns
returns c = pieces_unique
