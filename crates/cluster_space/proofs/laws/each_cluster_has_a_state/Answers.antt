use Rattle.cluster_space.proofs.Counts.{has_a_state, is_within}
use Rattle.cluster_space.proofs.laws.each_cluster_has_a_state.Goals as goal

pub returns : goal.returns
returns c = λ states cluster. (has_a_state states cluster, is_within states cluster)
