use Rattle.std.proofs.Common.{arith}
use Rattle.cluster_space.proofs.Parts.{defer_step, used_is}
use Rattle.cluster_space.proofs.space.Space.defer.Goals as goal

pub invariant_of-self : goal.invariant_of-self
invariant_of-self c = let step = defer_step c.self.inside.free c.self.inside.deferred c.self.inside.places c.move_to.new.self c.args.cluster c.self.invariant (rw c.self.view_is c.requires) c.move_to.ensures in step.parted

pub returns : goal.returns
returns c = let step = defer_step c.self.inside.free c.self.inside.deferred c.self.inside.places c.move_to.new.self c.args.cluster c.self.invariant (rw c.self.view_is c.requires) c.move_to.ensures in rw (← c.self.view_is) step.states

pub move_to-requires-clause-place : goal.move_to-requires-clause-place
move_to-requires-clause-place c =
    let last = used_is c.self.inside.free c.self.inside.deferred c.self.inside.places c.args.cluster (rw c.self.view_is c.requires) in
    omega (arith, last, c.place_of.ensures.place, c.place_of.ensures.within)
