use Rattle.std.proofs.Common.{◌∙◌, ap, Some, Err, true, false}
use Rattle.cmdlet_line.specs.Lines.{line_of}
use Rattle.ddpsh.proofs.LineOfLaws.{stop_as, done_as, cut_as, fits_as}
use Rattle.ddpsh.proofs.ClockLaws.{clock_as, clock_then, acked_second, gone_second, gone_over, stays_open, test_as, or_left}
use Rattle.volume_core.specs.Volumes.{stopped}
use Rattle.ddpsh.specs.Answers.{makes_none, may_stop}
use Rattle.ddpsh.specs.Sessions.{let_go}
use Rattle.ddpsh.proofs.session.Session.line.Goals as goal

pub attempt-requires-clause-fits : goal.attempt-requires-clause-fits
attempt-requires-clause-fits g c =
    fits_as c.parse-asked.result (line_of c.args.self.now.text c.args.line.now) c.parse-asked.ensures
    (c.what_is_asked_is_in_range.ensures c.args.self.now.text c.args.line.now)

pub returns-in-Err-clause-told : goal.returns-in-Err-clause-told
returns-in-Err-clause-told g c w kept =
    stop_as c.parse-asked.result (line_of c.args.self.now.text c.args.line.now) c.args.payload.now c.args.self.now c.attempt.new.self _ c.attempt.new.text.items c.in-Err.fault
    c.parse-asked.ensures (λ h. c.attempt.ensures.no_sink (c.in-Err.is ∙ ap Err h)) (c.in-Err.ensures.told w kept) c.attempt.ensures.rest.ack

pub returns-in-Ok-written-clause-told : goal.returns-in-Ok-written-clause-told
returns-in-Ok-written-clause-told g c w kept =
    done_as c.parse-asked.result (line_of c.args.self.now.text c.args.line.now) c.args.payload.now c.args.self.now (record c.attempt.new.self { room = Some c.attempt.new.text }) c.let_go.new.self c.acknowledge.new.self _ _ c.attempt.new.text.items
    c.in-Ok.answered c.is_flushed.result c.parse-asked.ensures (c.in-Ok.ensures.told w kept) c.attempt.ensures.rest.ack (c.let_go.ensures ∙ ap (let_go c.in-Ok.answered) c.keep_room.ensures) c.is_flushed.ensures c.acknowledge.ensures
    (rw c.deref.ensures.value at c.in-Ok-written.ensures.ok)

pub returns-in-Err-written-clause-told : goal.returns-in-Err-written-clause-told
returns-in-Err-written-clause-told g c w kept =
    cut_as c.parse-asked.result (line_of c.args.self.now.text c.args.line.now) c.args.payload.now c.args.self.now (record c.attempt.new.self { room = Some c.attempt.new.text }) c.let_go.new.self _ _ c.attempt.new.text.items
    c.in-Ok.answered c.parse-asked.ensures (c.in-Ok.ensures.told w kept) c.attempt.ensures.rest.ack (c.let_go.ensures ∙ ap (let_go c.in-Ok.answered) c.keep_room.ensures)
    (rw c.deref.ensures.value at c.in-Err-written.ensures.err)

pub returns-in-Err-clause-idle : goal.returns-in-Err-clause-idle
returns-in-Err-clause-idle g c none =
    stop_as c.parse-asked.result (line_of c.args.self.now.text c.args.line.now) c.args.payload.now c.args.self.now c.attempt.new.self _ c.attempt.new.text.items c.in-Err.fault
    c.parse-asked.ensures (λ h. c.attempt.ensures.no_sink (c.in-Err.is ∙ ap Err h)) (c.in-Err.ensures.idle (test_as makes_none true c.parse-asked.result (line_of c.args.self.now.text c.args.line.now) c.args.payload.now c.parse-asked.ensures none)) c.attempt.ensures.rest.ack

pub returns-in-Ok-written-clause-idle : goal.returns-in-Ok-written-clause-idle
returns-in-Ok-written-clause-idle g c none =
    done_as c.parse-asked.result (line_of c.args.self.now.text c.args.line.now) c.args.payload.now c.args.self.now (record c.attempt.new.self { room = Some c.attempt.new.text }) c.let_go.new.self c.acknowledge.new.self _ _ c.attempt.new.text.items
    c.in-Ok.answered c.is_flushed.result c.parse-asked.ensures (c.in-Ok.ensures.idle (test_as makes_none true c.parse-asked.result (line_of c.args.self.now.text c.args.line.now) c.args.payload.now c.parse-asked.ensures none)) c.attempt.ensures.rest.ack (c.let_go.ensures ∙ ap (let_go c.in-Ok.answered) c.keep_room.ensures) c.is_flushed.ensures c.acknowledge.ensures
    (rw c.deref.ensures.value at c.in-Ok-written.ensures.ok)

pub returns-in-Err-written-clause-idle : goal.returns-in-Err-written-clause-idle
returns-in-Err-written-clause-idle g c none =
    cut_as c.parse-asked.result (line_of c.args.self.now.text c.args.line.now) c.args.payload.now c.args.self.now (record c.attempt.new.self { room = Some c.attempt.new.text }) c.let_go.new.self _ _ c.attempt.new.text.items
    c.in-Ok.answered c.parse-asked.ensures (c.in-Ok.ensures.idle (test_as makes_none true c.parse-asked.result (line_of c.args.self.now.text c.args.line.now) c.args.payload.now c.parse-asked.ensures none)) c.attempt.ensures.rest.ack (c.let_go.ensures ∙ ap (let_go c.in-Ok.answered) c.keep_room.ensures)
    (rw c.deref.ensures.value at c.in-Err-written.ensures.err)

pub returns-in-Err-clause-read : goal.returns-in-Err-clause-read
returns-in-Err-clause-read g c = clock_as c.parse-asked.result (line_of c.args.self.now.text c.args.line.now) _ _ _ _ _ c.parse-asked.ensures c.in-Err.ensures.read

pub returns-in-Ok-written-clause-read : goal.returns-in-Ok-written-clause-read
returns-in-Ok-written-clause-read g c =
    clock_then c.parse-asked.result (line_of c.args.self.now.text c.args.line.now) _ _ _ _ _ c.in-Ok.answered _ c.parse-asked.ensures
    (acked_second c.in-Ok.answered c.is_flushed.result (record c.attempt.new.self { room = Some c.attempt.new.text }) c.let_go.new.self c.acknowledge.new.self (c.let_go.ensures ∙ ap (let_go c.in-Ok.answered) c.keep_room.ensures) c.acknowledge.ensures) c.in-Ok.ensures.read

pub returns-in-Err-written-clause-read : goal.returns-in-Err-written-clause-read
returns-in-Err-written-clause-read g c =
    clock_then c.parse-asked.result (line_of c.args.self.now.text c.args.line.now) _ _ _ _ _ c.in-Ok.answered _ c.parse-asked.ensures
    (gone_second c.in-Ok.answered (record c.attempt.new.self { room = Some c.attempt.new.text }) c.let_go.new.self (c.let_go.ensures ∙ ap (let_go c.in-Ok.answered) c.keep_room.ensures)) c.in-Ok.ensures.read

pub returns-in-Err-clause-let_go : goal.returns-in-Err-clause-let_go
returns-in-Err-clause-let_go g c sink = absurd (c.attempt.ensures.no_sink (c.in-Err.is ∙ sink))

pub returns-in-Err-written-clause-let_go : goal.returns-in-Err-written-clause-let_go
returns-in-Err-written-clause-let_go g c sink =
    gone_over c.in-Ok.answered (record c.attempt.new.self { room = Some c.attempt.new.text }) c.let_go.new.self (c.let_go.ensures ∙ ap (let_go c.in-Ok.answered) c.keep_room.ensures)
    (c.attempt.ensures.rest.over ∙ or_left c.args.self.now.over (stopped c.args.self.now.volume) c.requires) c.attempt.ensures.rest.ack c.in-Ok.ensures.runs

pub returns-in-Err-clause-stays : goal.returns-in-Err-clause-stays
returns-in-Err-clause-stays g c never device =
    stays_open c.attempt.new.self (c.attempt.ensures.rest.over ∙ or_left c.args.self.now.over (stopped c.args.self.now.volume) c.requires)
    (c.attempt.ensures.stays (test_as may_stop false c.parse-asked.result (line_of c.args.self.now.text c.args.line.now) c.args.payload.now c.parse-asked.ensures never))
