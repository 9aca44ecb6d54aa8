use Rattle.std.proofs.Common.{◌≡◌, ◌+◌, drop, length}
use Rattle.byte_map.specs.Blocks.{joined}
use Rattle.byte_map.proofs.counts.count_of.Given as goal

-- the pairs so far, and those of the blocks that are left
abbrev pub invariant-loop-block : goal.invariant-loop-block
invariant-loop-block l = l.count + length (joined (drop l.block-index l.blocks)) ≡ length (joined l.blocks)
