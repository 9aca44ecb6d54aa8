use Rattle.cluster_space.proofs.Parts.{hold_step}
use Rattle.cluster_space.proofs.space.Space.hold.Goals as goal

pub invariant_of-self : goal.invariant_of-self
invariant_of-self c = let step = hold_step c.self.inside.free c.self.inside.deferred c.self.inside.places c.move_to.new.self c.args.cluster c.self.invariant (rw c.self.view_is c.requires) c.move_to.ensures in step.parted

pub returns-clause-states : goal.returns-clause-states
returns-clause-states c = let step = hold_step c.self.inside.free c.self.inside.deferred c.self.inside.places c.move_to.new.self c.args.cluster c.self.invariant (rw c.self.view_is c.requires) c.move_to.ensures in rw (← c.self.view_is) step.states

pub returns-clause-deferred : goal.returns-clause-deferred
returns-clause-deferred c = let step = hold_step c.self.inside.free c.self.inside.deferred c.self.inside.places c.move_to.new.self c.args.cluster c.self.invariant (rw c.self.view_is c.requires) c.move_to.ensures in step.is_in
