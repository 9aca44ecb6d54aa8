-- What a call answers and leaves, once room was made for it.
use Rattle.std.specs.Prelude.{◌≡◌, ℕ, Option, None, Result, Ok, Err, OnOk, OnErr, IsErrOf}
use Rattle.std.proofs.Common.{inl, inr, sym, ◌∙◌, ap}
use Rattle.plain_volume.specs.Volume.{Volume}
use Rattle.plain_volume.specs.Replies.{done_reply}
use Rattle.plain_volume.specs.Step.{Outcome, plain, after, left_by}
use Rattle.plain_volume.specs.declared.call.Call.{Call}
use Rattle.plain_volume.specs.declared.call.Reply.TheVariants as reply
use Rattle.plain_volume.specs.declared.call.Fault.{Fault}
use Rattle.plain_volume.specs.declared.call.Fault.TheVariants.{Memory}
use Rattle.volume_tables.specs.Wants.{IsRepliedOrMemory}
use Rattle.volume_tables.proofs.Wanted.{replied_done}

module _ (v w : Volume) (call : Call) (answered : plain v call ≡ Ok (reply.Done, w)) where
  -- it was done, or found no memory
  pub finished_reply : (want : Option Fault) (before now : ℕ) → want ≡ None → (r : Result (Unit {0}) Fault)
      → OnErr r (IsErrOf r Memory) → IsRepliedOrMemory (plain v call) want before now (done_reply r)
  finished_reply want before now none (Ok done) memory =
      inl (replied_done (plain v call) reply.Done w want before now answered none)
  finished_reply want before now none (Err f) memory =
      inr (let same : f ≡ Memory = cc in ap (λ (x : Fault). reply.Refused x) same)

  pub finished_left : (u : Volume) (r : Result (Unit {0}) Fault) → OnOk r (u ≡ w) → OnErr r (u ≡ v)
      → u ≡ after v call (done_reply r)
  finished_left u (Ok done) ok err = ok ∙ sym (ap (λ (o : Outcome). left_by o v reply.Done) answered)
  finished_left u (Err f) ok err = err
