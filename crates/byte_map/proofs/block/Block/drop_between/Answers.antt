use Rattle.std.proofs.Common.{◌≡◌, ◌-◌, ◌++◌, ap, take, drop, rules, arith}
use Rattle.byte_map.specs.Words.{Map, bytes_in}
use Rattle.byte_map.proofs.Joined.{bytes_in-append, weighed_cut}
use Rattle.byte_map.proofs.block.Block.drop_between.Goals as goal

pub bytes_of-bytes-requires : goal.bytes_of-bytes-requires
bytes_of-bytes-requires c =
    let cut = weighed_cut bytes_in bytes_in-append c.args.self.now c.args.from c.args.to c.requires.order in
    rw (c.deref.ensures.value, c.self.view_is) (omega (arith, cut, c.requires.fits))

pub returns-clause-bytes : goal.returns-clause-bytes
returns-clause-bytes c =
    let cut = weighed_cut bytes_in bytes_in-append c.args.self.now c.args.from c.args.to c.requires.order in
    let left : c.drop-drain.new.self.0.items ≡ take c.args.from c.args.self.now ++ drop c.args.to c.args.self.now = search rules in
    let sum : c.bytes_of-bytes.result ≡ bytes_in (take (c.args.to - c.args.from) (drop c.args.from c.args.self.now)) = rw (← c.self.view_is, ← c.deref.ensures.value) c.bytes_of-bytes.ensures in
    let bytes = ap (λ (m : Map). bytes_in m) left in
    omega (arith, cut, sum, bytes)
