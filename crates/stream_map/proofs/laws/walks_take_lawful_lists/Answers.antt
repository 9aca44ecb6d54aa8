use Rattle.stream_map.specs.Walks.{walk_of}
use Rattle.stream_map.proofs.Walks.{walks_lawful, whole_walk, whole_accepted}
use Rattle.stream_map.proofs.laws.walks_take_lawful_lists.Goals as goal

pub returns-clause-walked : goal.returns-clause-walked
returns-clause-walked c = λ total es to is. (walks_lawful (walk_of total) es to is, whole_walk total es to is)

pub returns-clause-accepted : goal.returns-clause-accepted
returns-clause-accepted c = whole_accepted
