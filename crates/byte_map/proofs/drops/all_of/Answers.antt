use Rattle.std.proofs.Common.{length, arith}
use Rattle.byte_map.specs.Words.{Map, bytes_in}
use Rattle.byte_map.proofs.Joined.{bytes_in-append, weighed_next}
use Rattle.byte_map.proofs.Dropped.{length_adds}
use Rattle.byte_map.proofs.drops.all_of.Goals as goal

pub bytes-bytes-requires : goal.bytes-bytes-requires
bytes-bytes-requires c =
    let next = weighed_next bytes_in bytes_in-append c.args.blocks.now c.loop-block.block-index c.block-item.result c.loop-block-test.true c.block-item.is in
    omega (arith, next, c.loop-block.invariant.summed, c.requires.fits)

pub overflow_add-bytes : goal.overflow_add-bytes
overflow_add-bytes c =
    let next = weighed_next bytes_in bytes_in-append c.args.blocks.now c.loop-block.block-index c.block-item.result c.loop-block-test.true c.block-item.is in
    omega (arith, next, c.loop-block.invariant.summed, c.requires.fits, c.bytes-bytes.ensures)

pub loop-block-preserved : goal.loop-block-preserved
loop-block-preserved c =
    let bytes = weighed_next bytes_in bytes_in-append c.args.blocks.now c.loop-block.block-index c.block-item.result c.loop-block-test.true c.block-item.is in
    let count = weighed_next (λ (m : Map). length m) length_adds c.args.blocks.now c.loop-block.block-index c.block-item.result c.loop-block-test.true c.block-item.is in
    record {
      counted = omega (arith, count, c.loop-block.invariant.counted, c.len-count.ensures.len);
      summed = omega (arith, bytes, c.loop-block.invariant.summed, c.bytes-bytes.ensures);
    }
