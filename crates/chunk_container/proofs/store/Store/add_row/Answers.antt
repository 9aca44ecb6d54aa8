use Rattle.chunk_container.specs.Stores.{tables_of}
use Rattle.chunk_container.proofs.Added.{copy_added}
use Rattle.chunk_container.proofs.store.Store.add_row.Goals as goal

pub returns-clause-copy : goal.returns-clause-copy
returns-clause-copy g c =
    copy_added (tables_of c.args.self.now) c.add.new.tables c.args.row c.args.place c.stored_next_id-id.result
    c.in_ok-add.ensures.call.inside c.stored_next_id-id.ensures
