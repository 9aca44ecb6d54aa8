use Rattle.std.proofs.Common.{refl, arith}
use Rattle.std.proofs.lemmas.Bool.{false≢true}
use Rattle.cmdlet_line.specs.Lines.{Write}
use Rattle.plain_volume.specs.Replies.{done_reply}
use Rattle.plain_volume.specs.declared.call.Call.TheVariants as call
use Rattle.script_items.specs.Script.{Paid}
use Rattle.ddpsh.proofs.CallLaws.{Called, took, comes_call, fits_once, steady_call}
use Rattle.ddpsh.proofs.calls.write.Goals as goal

pub returns-clause-told : goal.returns-clause-told
returns-clause-told g c w kept =
    let did : Called (call.Write c.args.name.now c.args.at c.args.payload.now) c.args.volume.now c.write-given.new.self (done_reply c.write-given.result) = record {
      law = c.own_replies_are_steps.ensures;
      replied = took (call.Write c.args.name.now c.args.at c.args.payload.now) c.args.volume.now c.write-given.new.self (done_reply c.write-given.result) refl (c.write-given.ensures.reply w kept);
      left = c.write-given.ensures.left w kept;
      want = c.write-given.ensures.want;
      fails = refl;
      moves = c.write-given.ensures.moves w kept;
      endures = c.write-given.ensures.endures;
      adds = c.write-given.ensures.adds;
    } in
    rw c.called.ensures
    (comes_call (Paid (Write c.args.name.now c.args.at c.args.count) c.args.payload.now) (call.Write c.args.name.now c.args.at c.args.payload.now) _ _ _ _ c.done.result did
    (fits_once (Paid (Write c.args.name.now c.args.at c.args.count) c.args.payload.now) (call.Write c.args.name.now c.args.at c.args.payload.now) (λ v w calls answer h. h) (λ v calls h. h) refl)
    (λ answer says h. absurd (false≢true h)) c.done.ensures.said)

pub returns-clause-steady : goal.returns-clause-steady
returns-clause-steady g c =
    let call = c.write-given in
    rw c.called.ensures
    (steady_call c.args.volume.now call.new.self 1 call.result c.done.result (omega arith) call.ensures.stops call.ensures.failed
    c.done.ensures.device c.done.ensures.failed c.done.ensures.no_sink call.ensures.endures.later
    (λ x h. g.met.D.Disk.same_next x _ _ h call.ensures.endures.same))
