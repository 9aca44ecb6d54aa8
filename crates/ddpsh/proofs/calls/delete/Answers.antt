use Rattle.std.proofs.Common.{refl, inl, arith}
use Rattle.std.proofs.lemmas.Bool.{false≢true}
use Rattle.cmdlet_line.specs.Lines.{Delete}
use Rattle.plain_volume.specs.Replies.{done_reply}
use Rattle.plain_volume.specs.declared.call.Call.TheVariants as call
use Rattle.script_items.specs.Script.{Bare}
use Rattle.ddpsh.proofs.CallLaws.{Called, comes_call, fits_once, steady_call}
use Rattle.ddpsh.proofs.calls.delete.Goals as goal

pub returns-clause-told : goal.returns-clause-told
returns-clause-told g c w kept =
    let did : Called (call.Delete c.args.name.now) c.args.volume.now c.delete-given.new.self
    (done_reply c.delete-given.result) = record {
      law = c.own_replies_are_steps.ensures;
      replied = inl (c.delete-given.ensures.reply);
      left = c.delete-given.ensures.left;
      want = c.delete-given.ensures.want;
      fails = refl;
      moves = c.delete-given.ensures.moves;
      endures = c.delete-given.ensures.endures;
      adds = c.delete-given.ensures.adds;
    } in
    rw c.called.ensures
    (comes_call (Bare (Delete c.args.name.now)) (call.Delete c.args.name.now) _ _ _ _ c.done.result did
    (fits_once (Bare (Delete c.args.name.now)) (call.Delete c.args.name.now) (λ v w calls answer h. h) (λ v calls h. h) refl)
    (λ answer says h. absurd (false≢true h)) c.done.ensures.said)

pub returns-clause-steady : goal.returns-clause-steady
returns-clause-steady g c =
    let call = c.delete-given in
    rw c.called.ensures
    (steady_call c.args.volume.now call.new.self 1 call.result c.done.result (omega arith) call.ensures.stops call.ensures.failed
    c.done.ensures.device c.done.ensures.failed c.done.ensures.no_sink call.ensures.endures.later
    (λ x h. g.met.D.Disk.same_next x _ _ h call.ensures.endures.same))
