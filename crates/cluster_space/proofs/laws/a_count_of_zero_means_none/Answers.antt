use Rattle.cluster_space.proofs.Counts.{none_free, count_of_none}
use Rattle.cluster_space.proofs.laws.a_count_of_zero_means_none.Goals as goal

pub returns : goal.returns
returns c = λ states. (none_free states, count_of_none states)
