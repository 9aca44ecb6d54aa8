use Rattle.std.proofs.Common.{◌∙◌, ◌∷◌, sym, refl, inl, Ok, Err}
use Rattle.std.proofs.lemmas.Bool.{false≢true}
use Rattle.cmdlet_line.specs.Lines.{Digest}
use Rattle.plain_volume.specs.declared.call.Call.TheVariants as call
use Rattle.plain_volume.specs.declared.call.Reply.TheVariants as reply
use Rattle.hex.specs.Hex.{encode_lower}
use Rattle.answer_text.specs.Answers.{Accepted}
use Rattle.script_items.specs.Script.{Bare}
use Rattle.volume_core.specs.Volumes.{view_now}
use Rattle.volume_core.specs.Replies.{digest_reply}
use Rattle.ddpsh.proofs.CallLaws.{Called, comes_call, fits_once, known_said, digest_after}
use Rattle.ddpsh.proofs.calls.digest.Goals as goal

pub returns-in-Ok-clause-told : goal.returns-in-Ok-clause-told
returns-in-Ok-clause-told g c w kept =
    let did : Called (call.Digest c.args.name.now) c.args.volume.now c.digest.new.self
    (digest_reply (Ok c.in-Ok.digest)) = record {
      law = c.own_replies_are_steps.ensures;
      replied = inl (c.in-Ok.ensures.reply w kept);
      left = c.digest.ensures.left
          ∙ sym (digest_after (view_now c.args.volume.now) c.args.name.now (digest_reply (Ok c.in-Ok.digest)));
      want = tt;
      fails = refl;
      moves = c.in-Ok.ensures.moves;
      endures = c.digest.ensures.endures;
      adds = c.digest.ensures.adds;
    } in
    rw c.called.ensures
    (comes_call (Bare (Digest c.args.name.now)) (call.Digest c.args.name.now) _ _ _ _ c.accepted_digest.result did
    (fits_once (Bare (Digest c.args.name.now)) (call.Digest c.args.name.now) (λ v w calls answer h. h) (λ v calls h. h) refl)
    (λ answer says h. absurd (false≢true h))
    (known_said c.accepted_digest.result (reply.Digest c.in-Ok.digest)
    (Accepted (32 ∷ encode_lower c.in-Ok.digest)) c.accepted_digest.new.text.items refl c.accepted_digest.ensures.said))

pub returns-in-Err-clause-told : goal.returns-in-Err-clause-told
returns-in-Err-clause-told g c w kept =
    let did : Called (call.Digest c.args.name.now) c.args.volume.now c.digest.new.self
    (digest_reply (Err c.in-Err.fault)) = record {
      law = c.own_replies_are_steps.ensures;
      replied = inl (c.in-Err.ensures.reply w kept);
      left = c.digest.ensures.left
          ∙ sym (digest_after (view_now c.args.volume.now) c.args.name.now (digest_reply (Err c.in-Err.fault)));
      want = tt;
      fails = refl;
      moves = c.in-Err.ensures.moves;
      endures = c.digest.ensures.endures;
      adds = c.digest.ensures.adds;
    } in
    rw c.called-in-Err.ensures
    (comes_call (Bare (Digest c.args.name.now)) (call.Digest c.args.name.now) _ _ _ _ c.refused_call.result did
    (fits_once (Bare (Digest c.args.name.now)) (call.Digest c.args.name.now) (λ v w calls answer h. h) (λ v calls h. h) refl)
    (λ answer says h. absurd (false≢true h)) c.refused_call.ensures.said)
