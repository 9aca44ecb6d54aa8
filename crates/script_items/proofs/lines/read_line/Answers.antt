use Rattle.std.proofs.Common.{ℕ, sym, subst, ◌≡◌, ◌<◌, ◌-◌, rules, Err, ap, arith}
use Rattle.script_items.specs.Input.{taken}
use Rattle.script_items.proofs.LineLaws.{line_over, line_whole, front_read, some_kept}
use Rattle.script_items.specs.Input.{HasGiven}
use Rattle.script_items.proofs.lines.read_line.Goals as goal
use Rattle.script_items.specs.declared.input.ScriptFault.TheVariants as fault

pub returns-in-Err-clause-over : goal.returns-in-Err-clause-over
returns-in-Err-clause-over g c total s so over =
    let here = c.pieces.invariant.so total s so in
    let e : c.in-Err.fault ≡ fault.TooLong = cc in
    c.in-Err.ensures.over total here.rest here.left (ap Err e)

pub returns-then-not-more-clause-line : goal.returns-then-not-more-clause-line
returns-then-not-more-clause-line g c total s so =
    let here = c.pieces.invariant.so total s so in
    line_over _ _ total s c.pieces.line.items _ (front_read _ _ _ _ total s c.pieces.line.items here (c.in-Ok.ensures.left total here.rest here.left)) (c.in-Ok.ensures.end total here.rest here.left (search rules)) (some_kept c.pieces.line.items c.is_empty.result (search rules))

pub returns-then-take_ahead-clause-line : goal.returns-then-take_ahead-clause-line
returns-then-take_ahead-clause-line g c total s so =
    let here = c.pieces.invariant.so total s so in
    line_whole _ _ total s _ _ (c.if-take_ahead.ensures.line _ total s (front_read _ _ _ _ total s c.pieces.line.items here (c.in-Ok.ensures.left total here.rest here.left))) c.drop_return.ensures.dropped

pub pieces-preserved : goal.pieces-preserved
pieces-preserved g c =
    let some : 0 < c.ready.new.self.end - c.ready.new.self.start = c.in-Ok.ensures.more (search rules) in
    let more : taken c.ready.new.self < taken c.take_ahead.new.input = c.take_ahead.ensures.counted some in
    record {
      so = λ total s so.
          let here = c.pieces.invariant.so total s so in
          c.if-take_ahead.ensures.line _ total s (front_read _ _ _ _ total s c.pieces.line.items here (c.in-Ok.ensures.left total here.rest here.left));
      grows = omega (arith, c.take_ahead.ensures.grows, c.ready.ensures.taken);
      begun = λ some. omega (arith, c.ready.ensures.taken);
      room = search rules;
      few = search rules;
      given = λ first so.
          subst (λ (n : ℕ). HasGiven first n (g.S.Source.given c.ready.new.script)) (sym c.take_ahead.ensures.came)
          (c.in-Ok.ensures.given first (c.pieces.invariant.given first so));
      later = omega (arith, c.ready.ensures.later);
    }

pub returns-in-Err-clause-many : goal.returns-in-Err-clause-many
returns-in-Err-clause-many g c first so over =
    let e : c.in-Err.fault ≡ fault.TooLong = cc in
    c.in-Err.ensures.many first (c.pieces.invariant.given first so) (ap Err e)

pub returns-then-not-more-clause-given : goal.returns-then-not-more-clause-given
returns-then-not-more-clause-given g c first so = c.in-Ok.ensures.given first (c.pieces.invariant.given first so)

pub returns-then-take_ahead-clause-given : goal.returns-then-take_ahead-clause-given
returns-then-take_ahead-clause-given g c first so =
    subst (λ (n : ℕ). HasGiven first n (g.S.Source.given c.ready.new.script)) (sym c.take_ahead.ensures.came)
    (c.in-Ok.ensures.given first (c.pieces.invariant.given first so))
