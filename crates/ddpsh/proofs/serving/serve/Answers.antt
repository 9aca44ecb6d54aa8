use Rattle.std.proofs.Common.{◌≡◌, ◌≤◌, ◌<◌, ◌^◌, refl, sym, ap, Err, ◌∙◌, rules, arith}
use Rattle.cmdlet_line.specs.Lines.{line_of}
use Rattle.script_items.specs.Input.{taken}
use Rattle.script_items.specs.Script.{item_of, first_item}
use Rattle.ddpsh.proofs.StageLaws.{stage_start, stage_none, stage_more, stage_exit, stage_stop, stage_fault}
use Rattle.ddpsh.proofs.StageLaws.{stage_over, fault_long, left_start, is_exit_last}
use Rattle.ddpsh.proofs.ClockLaws.{none_read, read_more, step_read, often_so, often_stopped}
use Rattle.ddpsh.proofs.serving.serve.Goals as goal

pub returns-in-Err-clause-run : goal.returns-in-Err-clause-run
returns-in-Err-clause-run g c kept s told =
    rw (c.new.ensures, c.new-acks.ensures.items) (stage_none _ s _ c.wants_are_spent.ensures)

pub items-init : goal.items-init
items-init g c = record {
  so = λ kept s told.
      rw c.new-acks.ensures.items
      (stage_start _ s _ _ _ c.in-Ok.ensures.ahead c.in-Ok.ensures.came told c.requires.fresh kept
      c.wants_are_spent.ensures);
  clock = λ kept s told. none_read _;
  read = λ s told. (s, left_start _ _ s c.in-Ok.ensures.ahead c.in-Ok.ensures.came told);
  given = omega (arith, c.in-Ok.ensures.came);
  running = c.requires.running;
  text = c.requires.text;
  same = λ x h. h;
  few = search rules;
  room = search rules;
  disk_later = search rules;
  clock_later = search rules;
  sink_later = search rules;
  source_later = search rules;
}

pub returns-in-Err-read_item-clause-run : goal.returns-in-Err-read_item-clause-run
returns-in-Err-read_item-clause-run g c kept s told =
    rw (c.new-in-Err-read_item.ensures, c.end_of_fault.ensures) (stage_fault _ _ s _ _ _ _ _ _ _ (c.items.invariant.so kept s told) c.in-Err-read_item.fault)

pub returns-in-Err-read_item-clause-too_long : goal.returns-in-Err-read_item-clause-too_long
returns-in-Err-read_item-clause-too_long g c s told end =
    let read = c.items.invariant.read s told in
    c.in-Err-read_item.ensures.over _ read.0 read.1 (ap Err (fault_long c.in-Err-read_item.fault (sym c.end_of_fault.ensures ∙ sym (ap (λ ran. ran.end) c.new-in-Err-read_item.ensures) ∙ end)))

pub returns-in-Err-read_item-clause-many : goal.returns-in-Err-read_item-clause-many
returns-in-Err-read_item-clause-many g c end =
    c.in-Err-read_item.ensures.many _ c.items.invariant.given (ap Err (fault_long c.in-Err-read_item.fault (sym c.end_of_fault.ensures ∙ sym (ap (λ ran. ran.end) c.new-in-Err-read_item.ensures) ∙ end)))

pub returns-then-not-some-clause-run : goal.returns-then-not-some-clause-run
returns-then-not-some-clause-run g c kept s told =
    let so = c.items.invariant.so kept s told in
    rw c.new-then-not-some.ensures
    (stage_over _ _ s _ _ _ _ _ _ _ so _ _ _ _ _ c.end_session-end.result _ ((rw c.if-not-some.true at c.in-Ok-read_item.ensures.item) _ so.rest so.left) (c.end_session-end.ensures.told _ so.keeping.kept))

pub returns-in-Err-serve_line-clause-run : goal.returns-in-Err-serve_line-clause-run
returns-in-Err-serve_line-clause-run g c kept s told =
    let so = c.items.invariant.so kept s told in
    let read = (rw c.if-not-some.false at c.in-Ok-read_item.ensures.item) _ so.rest so.left in
    let item = read.item refl in
    let is : item_of (line_of c.items.session.text c.deref.result.now) c.deref-in-items.result.now ≡ first_item so.rest =
    rw (c.deref.ensures.value, c.deref-in-items.ensures.value) item in
    let few : taken c.items.input ≤ 2 ^ 40 = omega (arith, c.items.input.few) in
    rw (c.new-in-Err-serve_line.ensures, c.end_of_stop.ensures)
    (stage_stop _ _ _ s _ c.read_item.new.input _ (g.S.Source.left c.read_item.new.script) _ _ _ _ _ _ _ c.read_item.new.line.items c.read_item.new.payload.items _ so is few c.in-Err-serve_line.stop (c.in-Err-serve_line.ensures.told _ so.keeping.kept))

pub returns-then-is_last-clause-run : goal.returns-then-is_last-clause-run
returns-then-is_last-clause-run g c kept s told =
    let so = c.items.invariant.so kept s told in
    let read = (rw c.if-not-some.false at c.in-Ok-read_item.ensures.item) _ so.rest so.left in
    let item = read.item refl in
    let is : item_of (line_of c.items.session.text c.deref.result.now) c.deref-in-items.result.now ≡ first_item so.rest =
    rw (c.deref.ensures.value, c.deref-in-items.ensures.value) item in
    let few : taken c.items.input ≤ 2 ^ 40 = omega (arith, c.items.input.few) in
    rw (c.new-then-is_last.ensures, c.is_refusal-refused.ensures, c.counted-lines.ensures.kind)
    (stage_exit _ _ _ s _ c.read_item.new.input _ _ _ _ _ _ _ _ _ c.read_item.new.line.items c.read_item.new.payload.items _ so is few c.in-Ok-serve_line.answered
    (is_exit_last c.in-Ok-serve_line.answered (sym c.is_last.ensures ∙ c.if-is_last.true)) read
    c.in-Ok-serve_line.ensures.goes_on c.wants_are_spent-in-Ok-serve_line.ensures
    (c.in-Ok-serve_line.ensures.told _ so.keeping.kept))

pub returns-in-Err-clause-clock : goal.returns-in-Err-clause-clock
returns-in-Err-clause-clock g c kept s told = rw c.new.ensures (often_so 0 _ _ _ (none_read _))

pub returns-in-Err-read_item-clause-clock : goal.returns-in-Err-read_item-clause-clock
returns-in-Err-read_item-clause-clock g c kept s told =
    rw c.new-in-Err-read_item.ensures (often_so c.items.lines _ _ _ (c.items.invariant.clock kept s told))

pub returns-then-not-some-clause-clock : goal.returns-then-not-some-clause-clock
returns-then-not-some-clause-clock g c kept s told =
    rw c.new-then-not-some.ensures (often_so c.items.lines _ _ _ (c.items.invariant.clock kept s told))

pub returns-in-Err-serve_line-clause-clock : goal.returns-in-Err-serve_line-clause-clock
returns-in-Err-serve_line-clause-clock g c kept s told =
    rw (c.new-in-Err-serve_line.ensures, c.end_of_stop.ensures)
    (often_stopped (line_of c.items.session.text c.deref.result.now) _ _ _ c.items.lines _ _ c.in-Err-serve_line.stop (c.items.invariant.clock kept s told) c.in-Err-serve_line.ensures.read)

pub returns-then-is_last-clause-clock : goal.returns-then-is_last-clause-clock
returns-then-is_last-clause-clock g c kept s told =
    rw (c.new-then-is_last.ensures, c.counted-lines.ensures.kind)
    (often_so _ _ _ _ (read_more c.items.lines _ _ _ _ (c.items.invariant.clock kept s told)
    (step_read (line_of c.items.session.text c.deref.result.now) c.deref-in-items.result.now _ _ _ _ c.in-Ok-serve_line.answered _ _ _ _ _ _
    (c.in-Ok-serve_line.ensures.told _ (c.items.invariant.so kept s told).keeping.kept) c.in-Ok-serve_line.ensures.read)))

pub items-preserved : goal.items-preserved
items-preserved g c = rw c.round.ensures.idle (record {
  so = λ kept s told.
      let so = c.items.invariant.so kept s told in
      let read = (rw c.if-not-some.false at c.in-Ok-read_item.ensures.item) _ so.rest so.left in
      let item = read.item refl in
      let is : item_of (line_of c.items.session.text c.deref.result.now) c.deref-in-items.result.now ≡ first_item so.rest =
      rw (c.deref.ensures.value, c.deref-in-items.ensures.value) item in
      let few : taken c.items.input ≤ 2 ^ 40 = omega (arith, c.items.input.few) in
      let more : taken c.items.input < taken c.read_item.new.input = (rw c.if-not-some.false at c.in-Ok-read_item.ensures.counted) refl in
      let last = sym c.is_last.ensures ∙ c.if-is_last.false in
      rw (c.is_refusal-refused.ensures, c.counted-lines.ensures.kind)
      (stage_more _ _ _ s _ c.read_item.new.input _ _ _ _ _ _ _ _ _ c.read_item.new.line.items c.read_item.new.payload.items _ so is few c.in-Ok-serve_line.answered read more last
      c.in-Ok-serve_line.ensures.goes_on c.wants_are_spent-in-Ok-serve_line.ensures
      (c.in-Ok-serve_line.ensures.told _ so.keeping.kept));
  clock = λ kept s told.
      rw c.counted-lines.ensures.kind
      (read_more c.items.lines _ _ _ _ (c.items.invariant.clock kept s told)
      (step_read (line_of c.items.session.text c.deref.result.now) c.deref-in-items.result.now _ _ _ _ c.in-Ok-serve_line.answered _ _ _ _ _ _
      (c.in-Ok-serve_line.ensures.told _ (c.items.invariant.so kept s told).keeping.kept) c.in-Ok-serve_line.ensures.read));
  read = λ s told.
      let so = c.items.invariant.read s told in
      let read = (rw c.if-not-some.false at c.in-Ok-read_item.ensures.item) _ so.0 so.1 in
      (_, read.left refl);
  given = c.in-Ok-read_item.ensures.given _ c.items.invariant.given;
  running = c.in-Ok-serve_line.ensures.runs ∙ (sym c.is_last.ensures ∙ c.if-is_last.false);
  text = c.serve_line.ensures.text ∙ c.items.invariant.text;
  same = λ x h. c.serve_line.ensures.same x (c.items.invariant.same x h);
  few =
      let more : taken c.items.input < taken c.read_item.new.input = (rw c.if-not-some.false at c.in-Ok-read_item.ensures.counted) refl in
      omega (arith, c.counted-lines.ensures.small);
  room = search rules;
  disk_later = omega (arith, c.serve_line.ensures.disk_later, c.items.invariant.disk_later);
  clock_later = omega (arith, c.serve_line.ensures.clock_later, c.items.invariant.clock_later);
  sink_later = omega (arith, c.serve_line.ensures.sink_later, c.items.invariant.sink_later);
  source_later = omega (arith, c.read_item.ensures.later, c.items.invariant.source_later);
})
