use Rattle.table_records.specs.Next.{next_typed, first_typed}
use Rattle.table_records.proofs.laws.tables_are_walked.Goals as goal

pub returns-clause-next : goal.returns-clause-next
returns-clause-next g c = λ m b k is. next_typed g.A.Table.codec b k is m

pub returns-clause-first : goal.returns-clause-first
returns-clause-first g c = first_typed g.A.Table.codec
