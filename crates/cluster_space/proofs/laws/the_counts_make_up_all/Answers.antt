use Rattle.cluster_space.proofs.Counts.{counts_of_all}
use Rattle.cluster_space.proofs.laws.the_counts_make_up_all.Goals as goal

pub returns : goal.returns
returns c = counts_of_all
