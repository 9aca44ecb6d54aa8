use Rattle.std.proofs.Common.{◌≡◌, ◌-◌, true, arith, get_or}
use Rattle.std.specs.Char.{is_ascii_digit}
use Rattle.cmdlet_line.proofs.NumberLaws.{digit_at, digit_range, small_more, value_more}
use Rattle.cmdlet_line.proofs.spelling.value_of.Goals as goal

pub loop-digit-preserved : goal.loop-digit-preserved
loop-digit-preserved c =
    let word = c.args.digits.now in
    let i = c.loop-digit.digit-index in
    let is : is_ascii_digit (get_or word i 0) ≡ true =
    digit_at word i c.loop-digit.invariant.numeral.digits (omega arith) in
    let worth : c.from.result ≡ get_or word i 0 - 48 = c.from.ensures in
    record {
      numeral = c.loop-digit.invariant.numeral;
      so_far = rw worth (value_more word i c.loop-digit.value (omega arith) is c.loop-digit.invariant.so_far);
      small = rw worth (small_more c.loop-digit.value (get_or word i 0) i c.loop-digit.invariant.small
          (digit_range (get_or word i 0) is).1);
    }
