use Rattle.cluster_space.specs.declared.state.State.TheVariants.{Free}
use Rattle.cluster_space.specs.States.{IsIn}
use Rattle.cluster_space.proofs.space.Space.lowest_beside.Given as goal

abbrev pub invariant-loop-steps : goal.invariant-loop-steps
invariant-loop-steps l = IsIn l.self l.lowest Free

abbrev pub decreases-loop-steps : goal.decreases-loop-steps
decreases-loop-steps l = l.steps
