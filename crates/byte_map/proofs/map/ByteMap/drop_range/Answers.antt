use Rattle.byte_map.proofs.LaidOut.{laid_dropped}
use Rattle.byte_map.proofs.map.ByteMap.drop_range.Goals as goal

pub invariant_of-self : goal.invariant_of-self
invariant_of-self c =
    let dropped = c.drop_range-dropped in
    laid_dropped c.self.inside.blocks.items dropped.new.blocks.items c.self.inside.pairs c.self.inside.size c.self.invariant dropped.ensures.filled
    c.args.from.now c.args.to.now dropped.result.count dropped.result.bytes dropped.ensures.joined dropped.ensures.dropped
