use Rattle.std.proofs.Common.{◌≡◌, ◌+◌, drop, length}
use Rattle.byte_map.specs.Words.{bytes_in}
use Rattle.byte_map.specs.Blocks.{joined}
use Rattle.byte_map.proofs.drops.all_of.Given as goal

-- the pairs so far, and those of the blocks that are left
abbrev pub invariant-loop-block : goal.invariant-loop-block
invariant-loop-block l = record {
  counted : l.count + length (joined (drop l.block-index l.blocks)) ≡ length (joined l.blocks);
  summed : l.bytes + bytes_in (joined (drop l.block-index l.blocks)) ≡ bytes_in (joined l.blocks);
}
