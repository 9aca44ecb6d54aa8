use Rattle.std.proofs.Common.{rules, ◌≡◌, Err, subst}
use Rattle.plain_volume.specs.Files.{volume_of}
use Rattle.plain_volume.specs.declared.call.Call.TheVariants.{Stat}
use Rattle.plain_volume.specs.Step.{stat}
use Rattle.plain_volume.specs.Replies.{IsOwnResult}
use Rattle.plain_volume.proofs.Own.{passes_on, own_unless_memory}
use Rattle.plain_volume.proofs.Calls.{stats}
use Rattle.plain_volume.proofs.reference.Reference.stat.Goals as goal

pub returns-in_err-i : goal.returns-in_err-i
returns-in_err-i c =
    let refused : c.from_residual.result ≡ Err c.in_err-i.field-0.0 = search rules in
    rw refused (subst (λ v. IsOwnResult v (Stat c.args.name.now) (Err c.in_err-i.field-0.0) v) c.self.view_is
    (passes_on (volume_of c.self.inside.files) (Stat c.args.name.now) c.in_err-i.field-0.0 (c.in_err-i.ensures.refused (stat (volume_of c.self.inside.files)))))

pub returns : goal.returns
returns c = rw (c.bytes_at.ensures, ← c.self.view_is) (own_unless_memory _ _ _ _ (stats c.self.inside.files c.args.name.now c.in_ok-i.i c.in_ok-i.ensures.found) (λ e. cc))
