use Rattle.std.proofs.Common.{◌≡◌, ◌+◌, drop}
use Rattle.byte_map.specs.Words.{bytes_in}
use Rattle.byte_map.proofs.block.bytes_of.Given as goal

-- the bytes so far, and those of the pairs that are left
abbrev pub invariant-loop-pair : goal.invariant-loop-pair
invariant-loop-pair l = l.bytes + bytes_in (drop l.pair-index l.pairs) ≡ bytes_in l.pairs
