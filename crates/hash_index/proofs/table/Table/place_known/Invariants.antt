use Rattle.std.proofs.Common.{◌≡◌, length, take}
use Rattle.hash_index.specs.Slots.{SlotsStandFor, known_pairs}
use Rattle.hash_index.proofs.table.Table.place_known.Given as goal

abbrev pub invariant-loop-slot : goal.invariant-loop-slot
invariant-loop-slot g l = record {
  slots : length l.self.slots ≡ length l.initial.self.slots;
  stands : SlotsStandFor l.self (known_pairs (g.T.Digests.digest_of l.tells) (take l.slot-index l.slots));
}
