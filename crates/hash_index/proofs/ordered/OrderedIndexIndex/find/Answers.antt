use Rattle.hash_index.proofs.PairOrder.{none_known}
use Rattle.hash_index.proofs.ordered.OrderedIndexIndex.find.Goals as goal

pub returns : goal.returns
returns g c = λ pairs stands agrees.
    none_known (g.T.Digests.digest_of c.args.tells.now) c.args.self.now pairs c.args.digest.now c.args.after c.loop-id.last
    stands c.loop-id.invariant.unknown c.in_default.ensures
