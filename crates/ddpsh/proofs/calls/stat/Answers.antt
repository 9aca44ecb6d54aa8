use Rattle.std.proofs.Common.{sym, refl, inl, Ok, Err}
use Rattle.cmdlet_line.specs.Lines.{Stat}
use Rattle.plain_volume.specs.declared.call.Call.TheVariants as call
use Rattle.plain_volume.specs.declared.call.Reply.TheVariants as reply
use Rattle.answer_text.specs.Answers.{Accepted, number}
use Rattle.script_items.specs.Script.{Bare}
use Rattle.volume_core.specs.Volumes.{view_now}
use Rattle.volume_core.specs.Replies.{length_reply}
use Rattle.ddpsh.proofs.CallLaws.{Told, comes_told, fits_once, known_said, stat_after, stat_moves}
use Rattle.ddpsh.proofs.calls.stat.Goals as goal

pub returns-in-Ok-clause-told : goal.returns-in-Ok-clause-told
returns-in-Ok-clause-told g c =
    let did : Told (call.Stat c.args.name.now) c.args.volume.now (length_reply (Ok c.in-Ok.size)) = record {
      law = c.own_replies_are_steps.ensures;
      own = inl c.in-Ok.ensures;
      left = sym (stat_after (view_now c.args.volume.now) c.args.name.now (length_reply (Ok c.in-Ok.size)));
      moves = stat_moves c.args.volume.now c.args.name.now (length_reply (Ok c.in-Ok.size)) c.volumes_wear_at_the_last_epoch.ensures;
      unwanting = refl;
    } in
    rw c.called.ensures
    (comes_told (Bare (Stat c.args.name.now)) (call.Stat c.args.name.now) _ _ _ c.accepted_number.result did
    (fits_once (Bare (Stat c.args.name.now)) (call.Stat c.args.name.now) (λ v w calls answer h. h) (λ v calls h. h) refl)
    (λ answer. refl) (known_said c.accepted_number.result (reply.Length c.in-Ok.size) (Accepted (number c.in-Ok.size))
    c.accepted_number.new.text.items refl c.accepted_number.ensures.said))

pub returns-in-Err-clause-told : goal.returns-in-Err-clause-told
returns-in-Err-clause-told g c =
    let did : Told (call.Stat c.args.name.now) c.args.volume.now (length_reply (Err c.in-Err.fault)) = record {
      law = c.own_replies_are_steps.ensures;
      own = inl c.in-Err.ensures;
      left = sym (stat_after (view_now c.args.volume.now) c.args.name.now (length_reply (Err c.in-Err.fault)));
      moves = stat_moves c.args.volume.now c.args.name.now (length_reply (Err c.in-Err.fault)) c.volumes_wear_at_the_last_epoch.ensures;
      unwanting = refl;
    } in
    rw c.called-in-Err.ensures
    (comes_told (Bare (Stat c.args.name.now)) (call.Stat c.args.name.now) _ _ _ c.refused_call.result did
    (fits_once (Bare (Stat c.args.name.now)) (call.Stat c.args.name.now) (λ v w calls answer h. h) (λ v calls h. h) refl)
    (λ answer. refl) c.refused_call.ensures.said)
