use Rattle.hash_index.specs.Slots.{known_pairs}
use Rattle.hash_index.proofs.SlotLaws.{rebuilt_keeps}
use Rattle.hash_index.proofs.compact.CompactIndex.make_room.Goals as goal

pub returns-clause-kept : goal.returns-clause-kept
returns-clause-kept g c = λ pairs stands agrees. (
  known_pairs (g.T.Digests.digest_of c.args.tells.now) c.self.inside.table.slots,
  rebuilt_keeps (g.T.Digests.digest_of c.args.tells.now) c.self.inside.table pairs (rw c.self.view_is stands) agrees,
  c.in_ok-self-inside.ensures.pairs,
)
