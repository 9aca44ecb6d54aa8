use Rattle.regression_chunker.proofs.Sizes.{all_known, pieces_cover, pieces_within}
use Rattle.regression_chunker.proofs.laws.pieces_cover_the_file.Goals as goal

pub returns-clause-whole : goal.returns-clause-whole
returns-clause-whole c = all_known

pub returns-clause-covered : goal.returns-clause-covered
returns-clause-covered c = pieces_cover

pub returns-clause-known : goal.returns-clause-known
returns-clause-known c = pieces_within
