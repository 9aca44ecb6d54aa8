use Rattle.table_records.specs.Changes.{put_here, put_there, dropped_here, dropped_there}
use Rattle.table_records.proofs.laws.changes_are_of_one_table.Goals as goal

pub returns-clause-put_here : goal.returns-clause-put_here
returns-clause-put_here g c = put_here g.A.Table.codec

pub returns-clause-put_there : goal.returns-clause-put_there
returns-clause-put_there g c = λ k v old new differ. put_there g.A.Table.codec g.B.Table.codec differ k v old new

pub returns-clause-dropped_here : goal.returns-clause-dropped_here
returns-clause-dropped_here g c = dropped_here g.A.Table.codec

pub returns-clause-dropped_there : goal.returns-clause-dropped_there
returns-clause-dropped_there g c = λ from to old new differ. dropped_there g.A.Table.codec g.B.Table.codec differ from to old new
