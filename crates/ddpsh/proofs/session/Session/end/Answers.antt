use Rattle.std.proofs.Common.{◌≡◌, ◌⊎◌, Ok, Err, refl}
use Rattle.plain_volume.specs.declared.call.Fault.{Fault}
use Rattle.plain_volume.specs.declared.call.Fault.TheVariants as fault
use Rattle.ddpsh.proofs.CallLaws.{Flushed, flush_faults}
use Rattle.ddpsh.proofs.LineOfLaws.{end_ok, end_refused_as}
use Rattle.ddpsh.proofs.session.Session.end.Goals as goal

pub returns-in-Ok-clause-told : goal.returns-in-Ok-clause-told
returns-in-Ok-clause-told g c w kept =
    let did : Flushed c.args.self.now.volume c.flush.new.self (Ok tt) = record {
      replied = c.in-Ok.ensures.reply;
      left = c.in-Ok.ensures.left;
      durable = c.in-Ok.ensures.durable w kept;
      stored = c.in-Ok.ensures.stored w kept;
      moves = c.in-Ok.ensures.moves;
      endures = c.flush.ensures.endures;
      adds = c.flush.ensures.adds;
    } in
    end_ok c.args.self.now _ did refl (rw c.ack_now.ensures refl)

pub ended_by-requires : goal.ended_by-requires
ended_by-requires g c = flush_faults c.args.self.now.volume c.flush.new.self c.in-Err.fault c.flush.ensures.want c.in-Err.ensures.reply

pub returns-in-Err-clause-told : goal.returns-in-Err-clause-told
returns-in-Err-clause-told g c w kept =
    let may : (c.in-Err.fault ≡ fault.Failed) ⊎ (c.in-Err.fault ≡ fault.Worn) =
    flush_faults c.args.self.now.volume c.flush.new.self c.in-Err.fault c.flush.ensures.want c.in-Err.ensures.reply in
    let did : Flushed c.args.self.now.volume c.flush.new.self (Err c.in-Err.fault) = record {
      replied = c.in-Err.ensures.reply;
      left = c.in-Err.ensures.left;
      durable = tt;
      stored = tt;
      moves = c.in-Err.ensures.moves;
      endures = c.flush.ensures.endures;
      adds = c.flush.ensures.adds;
    } in
    end_refused_as c.args.self.now _ c.in-Err.fault c.ended_by.result may c.ended_by.ensures did refl refl
