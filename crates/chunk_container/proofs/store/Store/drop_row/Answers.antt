use Rattle.chunk_container.specs.Stores.{tables_of}
use Rattle.chunk_container.proofs.Dropped.{row_drop, row_gone, row_alone}
use Rattle.chunk_container.proofs.store.Store.drop_row.Goals as goal

pub returns-clause-without : goal.returns-clause-without
returns-clause-without g c sound untargeted unmapped out =
    let t = tables_of c.args.self.now in
    let p = c.drop_row.new.self in
    row_gone c.args.id 23 t p (row_drop c.args.id 23 t p c.drop_row.ensures) sound untargeted unmapped out

pub returns-clause-alone : goal.returns-clause-alone
returns-clause-alone g c sound untargeted unmapped out none =
    let t = tables_of c.args.self.now in
    let p = c.drop_row.new.self in
    row_alone c.args.id 23 t p (row_drop c.args.id 23 t p c.drop_row.ensures) sound untargeted unmapped out none
