use Rattle.std.proofs.Common.{refl}
use Rattle.cluster_space.specs.States.{is_free, is_used}
use Rattle.cluster_space.proofs.Counts.{not_both}
use Rattle.cluster_space.proofs.laws.the_states_are_disjoint.Goals as goal

pub returns-clause-free_used : goal.returns-clause-free_used
returns-clause-free_used c = λ states cluster. not_both is_free states cluster _ _ refl refl

pub returns-clause-free_deferred : goal.returns-clause-free_deferred
returns-clause-free_deferred c = λ states cluster. not_both is_free states cluster _ _ refl refl

pub returns-clause-used_deferred : goal.returns-clause-used_deferred
returns-clause-used_deferred c = λ states cluster. not_both is_used states cluster _ _ refl refl
