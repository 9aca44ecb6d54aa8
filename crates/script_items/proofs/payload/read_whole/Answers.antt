use Rattle.std.proofs.Common.{◌≡◌, ◌≤◌, length, rules, Err, ap, arith}
use Rattle.script_items.proofs.PayloadLaws.{read_on, filled_over, filled_whole, put_within}
use Rattle.script_items.proofs.payload.read_whole.Goals as goal
use Rattle.script_items.specs.declared.input.ScriptFault.TheVariants as fault

pub returns-in-Err-clause-over : goal.returns-in-Err-clause-over
returns-in-Err-clause-over g c total s so over =
    let here = c.loop-done.invariant.so total s so in
    let e : c.in-Err.fault ≡ fault.TooLong = cc in
    c.in-Err.ensures.over total _ here.left (ap Err e)

pub returns-in-Ok-eq0-clause-bytes : goal.returns-in-Ok-eq0-clause-bytes
returns-in-Ok-eq0-clause-bytes g c total s so =
    let here = c.loop-done.invariant.so total s so in
    filled_over _ _ _ _ total s c.loop-done.out c.read.new.out _ c.loop-done.done c.in-Ok-eq0.field-0 c.loop-done.invariant.within (search rules) here (c.in-Ok-eq0.ensures.bytes total _ here.left)

pub returns-clause-bytes : goal.returns-clause-bytes
returns-clause-bytes g c total s so =
    let here = c.loop-done.invariant.so total s so in
    let whole : c.loop-done.done ≡ length c.loop-done.out = omega (arith, c.loop-done.invariant.within) in
    filled_whole _ _ total s c.loop-done.out c.loop-done.done whole here

pub loop-done-preserved : goal.loop-done-preserved
loop-done-preserved g c =
    let few : c.in-Ok.count ≤ length c.read.new.out = omega (arith, c.in-Ok.ensures.bound) in
    record {
      within = put_within c.loop-done.out c.read.new.out _ c.loop-done.done c.in-Ok.count c.loop-done.invariant.within few;
      so = λ total s so.
          let here = c.loop-done.invariant.so total s so in
          read_on _ _ _ _ total s c.loop-done.out c.read.new.out _ c.loop-done.done c.in-Ok.count c.loop-done.invariant.within few here (c.in-Ok.ensures.bytes total _ here.left);
      grows = omega (arith, c.read.ensures.taken);
      given = λ first so. c.in-Ok.ensures.given first (c.loop-done.invariant.given first so);
      later = omega (arith, c.read.ensures.later);
    }

pub returns-in-Err-clause-many : goal.returns-in-Err-clause-many
returns-in-Err-clause-many g c first so over =
    let e : c.in-Err.fault ≡ fault.TooLong = cc in
    c.in-Err.ensures.many first (c.loop-done.invariant.given first so) (ap Err e)

pub returns-in-Ok-eq0-clause-given : goal.returns-in-Ok-eq0-clause-given
returns-in-Ok-eq0-clause-given g c first so = c.in-Ok-eq0.ensures.given first (c.loop-done.invariant.given first so)
