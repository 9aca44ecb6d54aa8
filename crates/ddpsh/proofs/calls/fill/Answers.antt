use Rattle.std.proofs.Common.{◌∙◌, refl, replicate, ◌≡◌, arith, ap, Err}
use Rattle.std.proofs.lemmas.Bool.{false≢true}
use Rattle.cmdlet_line.specs.Lines.{Fill}
use Rattle.plain_volume.specs.Replies.{done_reply}
use Rattle.plain_volume.specs.declared.call.Call.TheVariants as call
use Rattle.script_items.specs.Script.{Bare}
use Rattle.answer_text.specs.declared.stops.SessionFault.TheVariants as stop
use Rattle.ddpsh.proofs.CallLaws.{Called, took, comes_call, fits_once, broke_none, filled_as, steady_call, steady_none}
use Rattle.ddpsh.proofs.calls.fill.Goals as goal

pub returns-in-Ok-clause-told : goal.returns-in-Ok-clause-told
returns-in-Ok-clause-told g c w kept =
    let did : Called (call.Write c.args.name.now c.args.at c.deref.result.now) c.args.volume.now c.write-given.new.self
    (done_reply c.write-given.result) = record {
      law = c.own_replies_are_steps.ensures;
      replied = took (call.Write c.args.name.now c.args.at c.deref.result.now) c.args.volume.now c.write-given.new.self (done_reply c.write-given.result) refl (c.write-given.ensures.reply w kept);
      left = c.write-given.ensures.left w kept;
      want = c.write-given.ensures.want;
      fails = refl;
      moves = c.write-given.ensures.moves w kept;
      endures = c.write-given.ensures.endures;
      adds = c.write-given.ensures.adds;
    } in
    rw c.called.ensures
    (comes_call (Bare (Fill c.args.name.now c.args.at c.args.count c.args.byte))
    (call.Write c.args.name.now c.args.at (replicate c.args.count c.args.byte)) _ _ _ _ c.done.result
    (filled_as c.args.name.now c.args.at _ (replicate c.args.count c.args.byte) _ _ _
    (c.deref.ensures.value ∙ c.in-Ok.ensures.bytes) did)
    (fits_once (Bare (Fill c.args.name.now c.args.at c.args.count c.args.byte))
    (call.Write c.args.name.now c.args.at (replicate c.args.count c.args.byte)) (λ v w calls answer h. h)
    (λ v calls h. h) refl)
    (λ answer says h. absurd (false≢true h)) c.done.ensures.said)

pub returns-in-Err-clause-told : goal.returns-in-Err-clause-told
returns-in-Err-clause-told g c w kept =
    rw c.uncalled.ensures
    (broke_none (Bare (Fill c.args.name.now c.args.at c.args.count c.args.byte)) c.args.volume.now)

pub returns-in-Ok-clause-steady : goal.returns-in-Ok-clause-steady
returns-in-Ok-clause-steady g c =
    let call = c.write-given in
    rw c.called.ensures
    (steady_call c.args.volume.now call.new.self 1 call.result c.done.result (omega arith) call.ensures.stops call.ensures.failed
    c.done.ensures.device c.done.ensures.failed c.done.ensures.no_sink call.ensures.endures.later
    (λ x h. g.met.D.Disk.same_next x _ _ h call.ensures.endures.same))

pub returns-in-Err-clause-steady : goal.returns-in-Err-clause-steady
returns-in-Err-clause-steady g c =
    let memory : c.in-Err.fault ≡ stop.Memory = cc c.in-Err.ensures.memory in
    rw c.uncalled.ensures (steady_none c.args.volume.now (Err c.in-Err.fault) c.requires.running (ap Err memory))
