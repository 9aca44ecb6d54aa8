use Rattle.std.proofs.Common.{arith}
use Rattle.hash_index.proofs.SlotLaws.{none_used}
use Rattle.hash_index.proofs.table.Table.with_slots.Goals as goal

pub invariant_of-result : goal.invariant_of-result
invariant_of-result c = (none_used c.loop-step.cells.items c.loop-step.invariant.empty, omega arith)
