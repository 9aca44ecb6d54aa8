use Rattle.std.proofs.Common.{ℕ, sym, subst, ◌≡◌, ◌∙◌, rules, Err, ap, arith}
use Rattle.script_items.proofs.LineLaws.{behind_over}
use Rattle.script_items.specs.Input.{HasGiven}
use Rattle.script_items.proofs.lines.skip_line.Goals as goal
use Rattle.script_items.specs.declared.input.ScriptFault.TheVariants as fault

pub returns-in-Err-clause-over : goal.returns-in-Err-clause-over
returns-in-Err-clause-over g c total s so over =
    let here = c.pieces.invariant.so total s so in
    let e : c.in-Err.fault ≡ fault.TooLong = cc in
    c.in-Err.ensures.over total here.0 here.1 (ap Err e)

pub returns-then-not-more-clause-left : goal.returns-then-not-more-clause-left
returns-then-not-more-clause-left g c total s so =
    let here = c.pieces.invariant.so total s so in
    behind_over _ _ total s here.0 (c.in-Ok.ensures.left total here.0 here.1) here.2 (c.in-Ok.ensures.end total here.0 here.1 (search rules))

pub returns-then-pass_ahead-clause-left : goal.returns-then-pass_ahead-clause-left
returns-then-pass_ahead-clause-left g c total s so =
    let here = c.pieces.invariant.so total s so in
    let passed = c.if-pass_ahead.ensures.left _ total here.0 (c.in-Ok.ensures.left total here.0 here.1) in
    rw here.2 passed

pub pieces-preserved : goal.pieces-preserved
pieces-preserved g c = record {
  so = λ total s so.
      let here = c.pieces.invariant.so total s so in
      let passed = c.if-pass_ahead.ensures.left _ total here.0 (c.in-Ok.ensures.left total here.0 here.1) in
      (passed.0, passed.1, here.2 ∙ passed.2);
  grows = omega (arith, c.pass_ahead.ensures.grows, c.ready.ensures.taken);
  given = λ first so.
      subst (λ (n : ℕ). HasGiven first n (g.S.Source.given c.ready.new.script)) (sym c.pass_ahead.ensures.came)
      (c.in-Ok.ensures.given first (c.pieces.invariant.given first so));
  later = omega (arith, c.ready.ensures.later);
}

pub returns-in-Err-clause-many : goal.returns-in-Err-clause-many
returns-in-Err-clause-many g c first so over =
    let e : c.in-Err.fault ≡ fault.TooLong = cc in
    c.in-Err.ensures.many first (c.pieces.invariant.given first so) (ap Err e)

pub returns-then-not-more-clause-given : goal.returns-then-not-more-clause-given
returns-then-not-more-clause-given g c first so = c.in-Ok.ensures.given first (c.pieces.invariant.given first so)

pub returns-then-pass_ahead-clause-given : goal.returns-then-pass_ahead-clause-given
returns-then-pass_ahead-clause-given g c first so =
    subst (λ (n : ℕ). HasGiven first n (g.S.Source.given c.ready.new.script)) (sym c.pass_ahead.ensures.came)
    (c.in-Ok.ensures.given first (c.pieces.invariant.given first so))
