use Rattle.std.proofs.Common.{◌≤◌, ◌-◌, ◌^◌}
use Rattle.hash_index.proofs.PairOrder.{UnknownUpTo}
use Rattle.hash_index.proofs.ordered.OrderedIndexIndex.find.Given as goal

abbrev pub invariant-loop-id : goal.invariant-loop-id
invariant-loop-id g l = record {
  reached : l.fn.after ≤ l.last;
  unknown : UnknownUpTo (g.T.Digests.digest_of l.tells) l.self l.digest l.fn.after l.last;
}

abbrev pub decreases-loop-id : goal.decreases-loop-id
decreases-loop-id g l = 2 ^ 64 - l.last
