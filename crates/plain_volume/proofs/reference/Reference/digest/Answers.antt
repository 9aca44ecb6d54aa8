use Rattle.std.proofs.Common.{rules, ◌≡◌, Err, subst}
use Rattle.plain_volume.specs.Files.{volume_of}
use Rattle.plain_volume.specs.declared.call.Call.TheVariants.{Digest}
use Rattle.plain_volume.specs.Step.{digest}
use Rattle.plain_volume.specs.Replies.{IsOwnResult}
use Rattle.plain_volume.proofs.Own.{passes_on, own_unless_memory}
use Rattle.plain_volume.proofs.Calls.{digests}
use Rattle.plain_volume.proofs.reference.Reference.digest.Goals as goal

pub returns-in_err-i : goal.returns-in_err-i
returns-in_err-i c =
    let refused : c.from_residual.result ≡ Err c.in_err-i.field-0.0 = search rules in
    rw refused (subst (λ v. IsOwnResult v (Digest c.args.name.now) (Err c.in_err-i.field-0.0) v) c.self.view_is
    (passes_on (volume_of c.self.inside.files) (Digest c.args.name.now) c.in_err-i.field-0.0 (c.in_err-i.ensures.refused (digest (volume_of c.self.inside.files)))))

pub returns : goal.returns
returns c = rw (c.digest.ensures, c.bytes_at.ensures, ← c.self.view_is) (own_unless_memory _ _ _ _ (digests c.self.inside.files c.args.name.now c.in_ok-i.i c.in_ok-i.ensures.found) (λ e. cc))
