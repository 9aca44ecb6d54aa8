use Rattle.std.proofs.Common.{rules}
use Rattle.cluster_space.proofs.Parts.{fresh_states, fresh_parted}
use Rattle.cluster_space.proofs.space.Space.new.Goals as goal

pub invariant_of-result : goal.invariant_of-result
invariant_of-result c = fresh_parted _ _ c.in_ok-new.ensures (search rules)

pub returns : goal.returns
returns c = fresh_states _ _ c.in_ok-new.ensures
