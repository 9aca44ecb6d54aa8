use Rattle.byte_map.proofs.Dropped.{across_joined, across_filled}
use Rattle.byte_map.proofs.drops.drop_across.Goals as goal

pub returns-clause-joined : goal.returns-clause-joined
returns-clause-joined c =
    across_joined c.args.blocks.now.items c.drop_tail-tail.new.blocks.items c.drop_head-head.new.blocks.items c.drop_blocks-middle.new.blocks.items
    c.args.from.block c.args.from.index c.args.to.block c.args.to.index c.first_whole-first.result c.requires.from c.requires.to c.requires.order c.requires.filled
    c.drop_tail-tail.ensures.items c.drop_head-head.ensures.items c.drop_blocks-middle.ensures.items c.first_whole-first.ensures.none c.first_whole-first.ensures.some

pub returns-clause-filled : goal.returns-clause-filled
returns-clause-filled c =
    across_filled c.args.blocks.now.items c.drop_tail-tail.new.blocks.items c.drop_head-head.new.blocks.items c.drop_blocks-middle.new.blocks.items
    c.args.from.block c.args.from.index c.args.to.block c.args.to.index c.first_whole-first.result c.requires.from c.requires.to c.requires.order c.requires.filled
    c.drop_tail-tail.ensures.items c.drop_head-head.ensures.items c.drop_blocks-middle.ensures.items c.first_whole-first.ensures.none c.first_whole-first.ensures.some
