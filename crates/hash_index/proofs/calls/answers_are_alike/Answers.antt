use Rattle.hash_index.proofs.Alike.{alike_from_nothing}
use Rattle.hash_index.proofs.calls.answers_are_alike.Goals as goal

pub returns : goal.returns
returns c = alike_from_nothing
