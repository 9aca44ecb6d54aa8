use Rattle.std.proofs.Common.{ℕ, ◌≡◌, ◌≢◌, ◌<◌, bit_xor, length, get_or, ap, arith, lit<, below_more}
use Rattle.std.proofs.lemmas.List.{get_or-set_same, get_or-set_other, length-set}
use Rattle.std.proofs.lemmas.Nat.{xor_lt}
use Rattle.regression_chunker.proofs.tables.turn_table.Goals as goal

own_fits : (byte : ℕ) → byte < 256 → bit_xor byte 0xff < 256
own_fits byte few = xor_lt 8 byte 0xff few (lit< tt)

pub bounds-top-own : goal.bounds-top-own
bounds-top-own c = own_fits c.loop-byte.byte c.loop-byte-test.true

pub loop-byte-preserved : goal.loop-byte-preserved
loop-byte-preserved c =
    let inv = c.loop-byte.invariant in
    let test : c.loop-byte.byte < 256 = c.loop-byte-test.true in
    let own : ℕ = bit_xor c.loop-byte.byte 0xff in
    record {
      whole = rw length-set inv.whole;
      rule = below_more _ _
          (λ k h. let ne : k ≢ c.loop-byte.byte = omega arith in rw get_or-set_other (inv.rule k h))
          (let lt : c.loop-byte.byte < length c.loop-byte.entries = omega (arith, inv.whole, test) in
          rw get_or-set_same (ap (λ x. bit_xor x own) (c.requires own (own_fits c.loop-byte.byte test))));
    }
