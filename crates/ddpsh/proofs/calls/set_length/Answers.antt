use Rattle.std.proofs.Common.{refl, inl, arith}
use Rattle.std.proofs.lemmas.Bool.{false≢true}
use Rattle.cmdlet_line.specs.Lines.{Length}
use Rattle.plain_volume.specs.Replies.{done_reply}
use Rattle.plain_volume.specs.declared.call.Call.TheVariants as call
use Rattle.script_items.specs.Script.{Bare}
use Rattle.ddpsh.proofs.CallLaws.{Called, comes_call, fits_once, steady_call}
use Rattle.ddpsh.proofs.calls.set_length.Goals as goal

pub returns-clause-told : goal.returns-clause-told
returns-clause-told g c w kept =
    let did : Called (call.SetLength c.args.name.now c.args.length) c.args.volume.now c.set_length-given.new.self
    (done_reply c.set_length-given.result) = record {
      law = c.own_replies_are_steps.ensures;
      replied = inl (c.set_length-given.ensures.reply);
      left = c.set_length-given.ensures.left;
      want = c.set_length-given.ensures.want;
      fails = refl;
      moves = c.set_length-given.ensures.moves;
      endures = c.set_length-given.ensures.endures;
      adds = c.set_length-given.ensures.adds;
    } in
    rw c.called.ensures
    (comes_call (Bare (Length c.args.name.now c.args.length)) (call.SetLength c.args.name.now c.args.length) _ _ _ _ c.done.result did
    (fits_once (Bare (Length c.args.name.now c.args.length)) (call.SetLength c.args.name.now c.args.length) (λ v w calls answer h. h) (λ v calls h. h) refl)
    (λ answer says h. absurd (false≢true h)) c.done.ensures.said)

pub returns-clause-steady : goal.returns-clause-steady
returns-clause-steady g c =
    let call = c.set_length-given in
    rw c.called.ensures
    (steady_call c.args.volume.now call.new.self 1 call.result c.done.result (omega arith) call.ensures.stops call.ensures.failed
    c.done.ensures.device c.done.ensures.failed c.done.ensures.no_sink call.ensures.endures.later
    (λ x h. g.met.D.Disk.same_next x _ _ h call.ensures.endures.same))
