use Rattle.std.proofs.Common.{◌<◌, length}
use Rattle.cluster_space.proofs.Exchange.{exchange_keeps}
use Rattle.cluster_space.proofs.places.Places.exchange.Goals as goal

pub invariant_of-self : goal.invariant_of-self
invariant_of-self c =
    let first : c.args.a < length c.self.inside.place.items = rw c.self.view_is c.requires.first in
    let second : c.args.b < length c.self.inside.place.items = rw c.self.view_is c.requires.second in
    let a = c.place_of-place_of_a.ensures.place in
    let b = c.place_of-place_of_b.ensures.place in
    exchange_keeps _ _ _ _ _ _ first second (rw c.self.view_is a) (rw c.self.view_is b) c.self.invariant
