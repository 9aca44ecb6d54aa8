use Rattle.std.proofs.Common.{sym, ◌∙◌}
use Rattle.byte_map.proofs.Found.{held, gap_before, gap_at_end}
use Rattle.byte_map.proofs.blocks.search.Goals as goal

pub returns-then-has_key-clause-held : goal.returns-then-has_key-clause-held
returns-then-has_key-clause-held c =
    let place = c.lower_bound-place.result in
    held c.args.blocks.now c.args.key.now place.block place.index c.lower_bound-place.ensures c.in-Some.pair.now c.in-Some.ensures (sym c.has_key.ensures ∙ c.if-has_key.true)

pub returns-else-has_key-clause-gap : goal.returns-else-has_key-clause-gap
returns-else-has_key-clause-gap c =
    let place = c.lower_bound-place.result in
    gap_before c.args.blocks.now c.args.key.now place.block place.index c.lower_bound-place.ensures c.requires.sorted c.in-Some.pair.now c.in-Some.ensures (sym c.has_key.ensures ∙ c.if-has_key.false)

pub returns-in-None-clause-gap : goal.returns-in-None-clause-gap
returns-in-None-clause-gap c =
    let place = c.lower_bound-place.result in
    gap_at_end c.args.blocks.now c.args.key.now place.block place.index c.lower_bound-place.ensures c.in-None.ensures
