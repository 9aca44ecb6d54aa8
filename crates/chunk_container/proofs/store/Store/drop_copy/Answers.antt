use Rattle.volume_inside.specs.ChunkTables.{CopyKey}
use Rattle.chunk_container.specs.Stores.{tables_of}
use Rattle.chunk_container.proofs.Dropped.{copy_drop, second_left, still_without, last_left}
use Rattle.chunk_container.proofs.store.Store.drop_copy.Goals as goal

pub returns-clause-second : goal.returns-clause-second
returns-clause-second g c =
    let t = tables_of c.args.self.now in
    let p = c.drop_place.new.self in
    let k : CopyKey = (c.args.id, c.args.copy) in
    second_left k 25 t p (copy_drop k 25 t p c.drop_place.ensures)

pub returns-clause-without : goal.returns-clause-without
returns-clause-without g c =
    let t = tables_of c.args.self.now in
    let p = c.drop_place.new.self in
    let k : CopyKey = (c.args.id, c.args.copy) in
    still_without k 25 t p (copy_drop k 25 t p c.drop_place.ensures)

pub returns-clause-last : goal.returns-clause-last
returns-clause-last g c =
    let t = tables_of c.args.self.now in
    let p = c.drop_place.new.self in
    let k : CopyKey = (c.args.id, c.args.copy) in
    last_left k 25 t p (copy_drop k 25 t p c.drop_place.ensures)
