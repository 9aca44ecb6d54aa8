use Rattle.std.proofs.Common.{List, length, ap, arith}
use Rattle.byte_map.specs.Words.{Map}
use Rattle.byte_map.specs.Blocks.{joined}
use Rattle.byte_map.proofs.map.ByteMap.count_between.Goals as goal

pub count_between-requires-clause-few : goal.count_between-requires-clause-few
count_between-requires-clause-few c =
    let same = ap (λ (s : List Map). length (joined s)) c.deref.ensures.value in
    omega (arith, same, c.self.invariant.counted, c.self.known-fits)
