use Rattle.std.proofs.Common.{◌≡◌, ◌≤◌, length, take}
use Rattle.hash_index.specs.Slots.{known_pairs}
use Rattle.hash_index.proofs.table.Table.known_count.Given as goal

abbrev pub invariant-loop-cell : goal.invariant-loop-cell
invariant-loop-cell g l = record {
  bound : l.known ≤ l.cell-index;
  items : l.cell-items ≡ l.self.slots;
  counted : l.known ≡ length (known_pairs (g.T.Digests.digest_of l.tells) (take l.cell-index l.cell-items));
}
