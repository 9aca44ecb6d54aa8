use Rattle.regression_chunker.proofs.Sizes.{piece_sizes, not_short}
use Rattle.regression_chunker.proofs.laws.pieces_have_their_sizes.Goals as goal

pub returns-clause-size : goal.returns-clause-size
returns-clause-size c = piece_sizes

pub returns-clause-least : goal.returns-clause-least
returns-clause-least c = not_short
