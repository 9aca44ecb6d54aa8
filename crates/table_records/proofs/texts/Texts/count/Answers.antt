use Rattle.std.proofs.Common.{arith}
use Rattle.table_records.proofs.ListBytes.{count_bytes}
use Rattle.table_records.proofs.texts.Texts.count.Goals as goal

pub returns-clause-most : goal.returns-clause-most
returns-clause-most c = omega (arith, count_bytes c.self.inside.texts.items, c.self.invariant.1, c.len.ensures)
