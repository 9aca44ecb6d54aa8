use Rattle.std.proofs.Common.{◌<◌, ◌^◌, arith}
use Rattle.hash_index.proofs.PairOrder.{has_added, keeps_all}
use Rattle.hash_index.proofs.ordered.OrderedIndexIndex.insert.Goals as goal

pub returns-clause-ok : goal.returns-clause-ok
returns-clause-ok g c = λ pairs stands agrees free.
    let small : c.args.id < 2 ^ 48 = omega (arith, c.requires.most) in (
      pairs,
      keeps_all (g.T.Digests.digest_of c.args._tells.now) pairs,
      has_added c.args.self.now c.insert.new.self.keys (c.args.digest.now, c.args.id) pairs
          (rw (← c.self.view_is) c.in_ok-insert.ensures.updates.0) small stands,
    )
