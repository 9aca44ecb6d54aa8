use Rattle.cluster_space.proofs.Parts.{release_step}
use Rattle.cluster_space.proofs.space.Space.release.Goals as goal

pub invariant_of-self : goal.invariant_of-self
invariant_of-self c = let step = release_step c.self.inside.free c.self.inside.deferred c.self.inside.places c.move_to.new.self c.args.cluster c.self.invariant (rw c.self.view_is c.requires) c.move_to.ensures in step.parted

pub returns : goal.returns
returns c = let step = release_step c.self.inside.free c.self.inside.deferred c.self.inside.places c.move_to.new.self c.args.cluster c.self.invariant (rw c.self.view_is c.requires) c.move_to.ensures in rw (← c.self.view_is) step.states
