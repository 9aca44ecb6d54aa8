use Rattle.std.proofs.Common.{refl, inl, arith}
use Rattle.cmdlet_line.specs.Lines.{Flush}
use Rattle.plain_volume.specs.Replies.{done_reply}
use Rattle.plain_volume.specs.declared.call.Call.TheVariants as call
use Rattle.script_items.specs.Script.{Bare}
use Rattle.ddpsh.proofs.CallLaws.{Called, Flushed, comes_call, fits_once, flush_kept, steady_call}
use Rattle.ddpsh.proofs.calls.flush.Goals as goal

pub returns-clause-told : goal.returns-clause-told
returns-clause-told g c w kept =
    let did : Called call.Flush c.args.volume.now c.flush-given.new.self (done_reply c.flush-given.result) = record {
      law = c.own_replies_are_steps.ensures;
      replied = inl (c.flush-given.ensures.reply);
      left = c.flush-given.ensures.left;
      want = c.flush-given.ensures.want;
      fails = refl;
      moves = c.flush-given.ensures.moves;
      endures = c.flush-given.ensures.endures;
      adds = c.flush-given.ensures.adds;
    } in
    let flushed : Flushed c.args.volume.now c.flush-given.new.self c.flush-given.result = record {
      replied = c.flush-given.ensures.reply;
      left = c.flush-given.ensures.left;
      durable = c.flush-given.ensures.durable w kept;
      stored = c.flush-given.ensures.stored w kept;
      moves = c.flush-given.ensures.moves;
      endures = c.flush-given.ensures.endures;
      adds = c.flush-given.ensures.adds;
    } in
    rw c.called.ensures
    (comes_call (Bare Flush) call.Flush _ _ _ _ c.done.result did (fits_once (Bare Flush) call.Flush (λ v w calls answer h. h) (λ v calls h. h) refl)
    (λ answer says h. flush_kept c.args.volume.now c.flush-given.new.self c.flush-given.result answer says h flushed) c.done.ensures.said)

pub returns-clause-steady : goal.returns-clause-steady
returns-clause-steady g c =
    let call = c.flush-given in
    rw c.called.ensures
    (steady_call c.args.volume.now call.new.self 1 call.result c.done.result (omega arith) call.ensures.stops call.ensures.failed
    c.done.ensures.device c.done.ensures.failed c.done.ensures.no_sink call.ensures.endures.later
    (λ x h. g.met.D.Disk.same_next x _ _ h call.ensures.endures.same))
