use Rattle.cluster_space.proofs.Parts.{released_states, released_parted}
use Rattle.cluster_space.proofs.space.Space.release_all.Goals as goal

pub invariant_of-self : goal.invariant_of-self
invariant_of-self c = released_parted _ _ _ c.self.invariant

pub returns : goal.returns
returns c = rw (← c.self.view_is) (released_states _ _ _)
