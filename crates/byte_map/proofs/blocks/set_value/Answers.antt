use Rattle.std.proofs.Common.{get_or, []}
use Rattle.std.proofs.lemmas.Result.{on_ok_weaker}
use Rattle.byte_map.proofs.Edits.{either, revalued, filled_revalued, filled_same}
use Rattle.byte_map.proofs.blocks.set_value.Goals as goal

pub returns-clause-ok : goal.returns-clause-ok
returns-clause-ok c =
    on_ok_weaker c.set_value.result
    (revalued c.args.blocks.now.items c.args.place.block c.index_mut.result.now c.set_value.new.self c.requires.block c.index_mut.ensures.value c.args.place.index c.args.value.now c.requires.index)
    c.set_value.ensures.ok

pub returns-clause-filled : goal.returns-clause-filled
returns-clause-filled c =
    either c.set_value.result c.set_value.ensures.ok c.set_value.ensures.err
    (let e = get_or c.index_mut.result.now c.args.place.index ([], []) in
    filled_revalued c.args.blocks.now.items c.args.place.block c.index_mut.result.now c.set_value.new.self c.requires.block c.index_mut.ensures.value c.requires.filled c.args.place.index (e.0, c.args.value.now))
    (filled_same c.args.blocks.now.items c.args.place.block c.index_mut.result.now c.set_value.new.self c.requires.block c.index_mut.ensures.value c.requires.filled)
