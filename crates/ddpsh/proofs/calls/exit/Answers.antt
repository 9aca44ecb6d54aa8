use Rattle.std.proofs.Common.{◌≡◌, Ok, Err, arith, ap}
use Rattle.cmdlet_line.specs.Lines.{Exit}
use Rattle.plain_volume.specs.declared.call.Fault.TheVariants as fault
use Rattle.script_items.specs.Script.{Bare}
use Rattle.answer_text.specs.declared.answers.Answered.TheVariants as answered
use Rattle.ddpsh.proofs.CallLaws.{Flushed, broke_none, exit_done, exit_refused, steady_call, steady_none}
use Rattle.ddpsh.proofs.calls.exit.Goals as goal

pub returns-in-Err-clause-told : goal.returns-in-Err-clause-told
returns-in-Err-clause-told g c w kept = rw c.uncalled.ensures (broke_none (Bare Exit) c.args.volume.now)

pub returns-in-Ok-flush-clause-told : goal.returns-in-Ok-flush-clause-told
returns-in-Ok-flush-clause-told g c w kept =
    let did : Flushed c.args.volume.now c.flush.new.self (Ok tt) = record {
      replied = c.in-Ok-flush.ensures.reply;
      left = c.in-Ok-flush.ensures.left;
      durable = c.in-Ok-flush.ensures.durable w kept;
      stored = c.in-Ok-flush.ensures.stored w kept;
      moves = c.in-Ok-flush.ensures.moves;
      endures = c.flush.ensures.endures;
      adds = c.flush.ensures.adds;
    } in
    rw c.uncalled-in-Ok-flush.ensures (exit_done c.args.volume.now c.flush.new.self c.accepted.new.text.items did c.in-Ok.ensures.said.text_is)

pub returns-in-Err-flush-clause-told : goal.returns-in-Err-flush-clause-told
returns-in-Err-flush-clause-told g c w kept =
    let did : Flushed c.args.volume.now c.flush.new.self (Err c.in-Err-flush.fault) = record {
      replied = c.in-Err-flush.ensures.reply;
      left = c.in-Err-flush.ensures.left;
      durable = tt;
      stored = tt;
      moves = c.in-Err-flush.ensures.moves;
      endures = c.flush.ensures.endures;
      adds = c.flush.ensures.adds;
    } in
    rw c.uncalled-in-Err-flush.ensures
    (exit_refused c.args.volume.now c.flush.new.self c.refused_call.new.text.items c.in-Err-flush.fault c.refused_call.result did c.refused_call.ensures.said)

pub returns-in-Err-clause-steady : goal.returns-in-Err-clause-steady
returns-in-Err-clause-steady g c =
    rw c.uncalled.ensures (steady_none c.args.volume.now (Err c.in-Err.fault) c.requires c.in-Err.ensures.memory)

pub returns-in-Ok-flush-clause-steady : goal.returns-in-Ok-flush-clause-steady
returns-in-Ok-flush-clause-steady g c =
    rw c.uncalled-in-Ok-flush.ensures
    (steady_call c.args.volume.now c.flush.new.self 0 (Ok tt) (Ok answered.Exit) (omega arith) c.in-Ok-flush.ensures.stops
    c.in-Ok-flush.ensures.failed (λ h. absurd (let no : ⊥ = cc in no)) (λ h. absurd (let no : ⊥ = cc in no)) (λ h. let no : ⊥ = cc in no)
    c.flush.ensures.endures.later (λ x h. g.met.D.Disk.same_next x _ _ h c.flush.ensures.endures.same))

pub returns-in-Err-flush-clause-steady : goal.returns-in-Err-flush-clause-steady
returns-in-Err-flush-clause-steady g c =
    let said = c.refused_call.ensures in
    rw c.uncalled-in-Err-flush.ensures
    (steady_call c.args.volume.now c.flush.new.self 0 (Err c.in-Err-flush.fault) c.refused_call.result (omega arith)
    c.in-Err-flush.ensures.stops c.in-Err-flush.ensures.failed (λ h. ap Err (said.device h))
    (λ h. said.failed (let same : c.in-Err-flush.fault ≡ fault.Failed = cc in same)) said.no_sink
    c.flush.ensures.endures.later (λ x h. g.met.D.Disk.same_next x _ _ h c.flush.ensures.endures.same))
