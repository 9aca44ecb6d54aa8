use Rattle.std.proofs.Common.{◌≤◌, T, length, take, drop, sym, subst, arith}
use Rattle.std.specs.FinMap.Entries.{is_sorted}
use Rattle.byte_map.specs.Words.{Map, bytes_cmp}
use Rattle.byte_map.specs.Blocks.{AllBelow, NoneBelow}
use Rattle.byte_map.proofs.Joined.{block_read}
use Rattle.byte_map.proofs.Search.{sorted_at, bound_in, bound_end}
use Rattle.byte_map.proofs.blocks.lower_bound.Goals as goal

pub lower_bound-index-requires : goal.lower_bound-index-requires
lower_bound-index-requires c =
    let here = block_read c.args.blocks.now c.first_block-block.result c.index-blocks-block.result c.if-block-blocks.true c.index-blocks-block.is in
    subst (λ (x : Map). T (is_sorted bytes_cmp x)) (sym here) (sorted_at c.args.blocks.now c.first_block-block.result c.requires.sorted c.if-block-blocks.true)

pub returns-then-block-blocks : goal.returns-then-block-blocks
returns-then-block-blocks c =
    let here = block_read c.args.blocks.now c.first_block-block.result c.index-blocks-block.result c.if-block-blocks.true c.index-blocks-block.is in
    let first = c.first_block-block.ensures in
    let found = c.lower_bound-index.ensures in
    let i = c.lower_bound-index.result in
    bound_in c.args.blocks.now c.args.key.now c.first_block-block.result c.requires.sorted c.requires.filled first.lesser first.others i c.if-block-blocks.true
    (subst (λ (x : Map). i ≤ length x) here found.within)
    (subst (λ (x : Map). AllBelow c.args.key.now (take i x)) here found.lesser)
    (subst (λ (x : Map). NoneBelow c.args.key.now (drop i x)) here found.others)

pub returns-else-block-blocks : goal.returns-else-block-blocks
returns-else-block-blocks c =
    let first = c.first_block-block.ensures in
    bound_end c.args.blocks.now c.args.key.now c.first_block-block.result c.requires.sorted c.requires.filled first.lesser first.others
    (omega (arith, first.within, c.if-block-blocks.false))
