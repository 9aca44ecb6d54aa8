use Rattle.table_records.specs.Laws.{find_typed}
use Rattle.table_records.specs.Next.{sorted_typed}
use Rattle.table_records.proofs.laws.tables_are_looked_up.Goals as goal

pub returns-clause-found : goal.returns-clause-found
returns-clause-found g c = λ m b k is. find_typed g.A.Table.codec b k is m

pub returns-clause-in_order : goal.returns-clause-in_order
returns-clause-in_order g c = sorted_typed g.A.Table.codec
