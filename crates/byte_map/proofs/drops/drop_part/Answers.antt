use Rattle.std.proofs.Common.{◌-◌, ◌++◌, ◌∙◌, take, drop, set, ap, sym, subst, arith}
use Rattle.byte_map.specs.Words.{Map, bytes_in}
use Rattle.byte_map.specs.Blocks.{joined, IsDropped}
use Rattle.byte_map.proofs.Joined.{block_read, weighed_block, bytes_in-append}
use Rattle.byte_map.proofs.Dropped.{part_dropped}
use Rattle.byte_map.proofs.drops.drop_part.Goals as goal

pub drop_between-bytes-requires-clause-fits : goal.drop_between-bytes-requires-clause-fits
drop_between-bytes-requires-clause-fits c =
    let here = block_read c.args.blocks.now.items c.args.block c.index_mut.result.now c.requires.block c.index_mut.ensures.value in
    let bytes = ap (λ (x : Map). bytes_in x) here in
    let within = weighed_block bytes_in bytes_in-append c.args.blocks.now.items c.args.block c.requires.block in
    omega (arith, bytes, within, c.requires.fits)

pub returns-clause-dropped : goal.returns-clause-dropped
returns-clause-dropped c =
    let blocks = c.args.blocks.now.items in
    let here = block_read blocks c.args.block c.index_mut.result.now c.requires.block c.index_mut.ensures.value in
    let bytes = ap (λ (x : Map). bytes_in x) here in
    let is = c.drop_between-bytes.ensures.rest ∙ ap (λ (x : Map). take c.args.from x ++ drop c.args.to x) here in
    let left = ap (λ (x : Map). bytes_in x) is in
    subst (λ (x : Map). IsDropped (joined blocks) (joined (set blocks c.args.block x)) (c.args.to - c.args.from) c.drop_between-bytes.result) (sym is)
    (part_dropped blocks c.args.block c.args.from c.args.to c.drop_between-bytes.result c.requires.block c.requires.order c.requires.in_range
    (omega (arith, bytes, left, c.drop_between-bytes.ensures.bytes)))
