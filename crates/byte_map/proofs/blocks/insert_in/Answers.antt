use Rattle.std.proofs.lemmas.Result.{on_ok_weaker}
use Rattle.byte_map.proofs.Edits.{either, inserted, filled_inserted, filled_same}
use Rattle.byte_map.proofs.blocks.insert_in.Goals as goal

pub returns-clause-ok : goal.returns-clause-ok
returns-clause-ok c =
    on_ok_weaker c.insert.result
    (inserted c.args.blocks.now.items c.args.place.block c.index_mut.result.now c.insert.new.self c.requires.block c.index_mut.ensures.value c.args.place.index c.args.pair)
    c.insert.ensures.ok

pub returns-clause-filled : goal.returns-clause-filled
returns-clause-filled c =
    either c.insert.result c.insert.ensures.ok c.insert.ensures.err
    (filled_inserted c.args.blocks.now.items c.args.place.block c.index_mut.result.now c.insert.new.self c.requires.block c.index_mut.ensures.value c.requires.filled c.args.place.index c.args.pair)
    (filled_same c.args.blocks.now.items c.args.place.block c.index_mut.result.now c.insert.new.self c.requires.block c.index_mut.ensures.value c.requires.filled)
