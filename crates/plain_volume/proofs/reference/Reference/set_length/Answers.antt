use Rattle.std.proofs.Common.{rules, arith, ◌≡◌, Err, take, ◌++◌, replicate, ◌-◌, length, subst}
use Rattle.plain_volume.specs.Files.{volume_of}
use Rattle.plain_volume.specs.declared.call.Call.TheVariants.{SetLength}
use Rattle.plain_volume.specs.Step.{set_length}
use Rattle.plain_volume.specs.Replies.{IsOwnResult}
use Rattle.plain_volume.proofs.Own.{passes_on, own_unless_memory}
use Rattle.plain_volume.proofs.Calls.{sets_not_so_far, sets_length}
use Rattle.plain_volume.proofs.reference.Reference.set_length.Goals as goal

pub returns-in_err-i : goal.returns-in_err-i
returns-in_err-i c =
    let refused : c.from_residual.result ≡ Err c.in_err-i.field-0.0 = search rules in
    rw refused (subst (λ v. IsOwnResult v (SetLength c.args.name.now c.args.length) (Err c.in_err-i.field-0.0) v) c.self.view_is
    (passes_on (volume_of c.self.inside.files) (SetLength c.args.name.now c.args.length) c.in_err-i.field-0.0 (c.in_err-i.ensures.refused (set_length c.args.name.now c.args.length (volume_of c.self.inside.files)))))

pub returns-then-length-gt-MOST_BYTES_OF_A_FILE : goal.returns-then-length-gt-MOST_BYTES_OF_A_FILE
returns-then-length-gt-MOST_BYTES_OF_A_FILE c = rw (← c.self.view_is) (own_unless_memory _ _ _ _ (sets_not_so_far c.self.inside.files c.args.name.now c.in_ok-i.i c.in_ok-i.ensures.found c.args.length (omega arith)) (λ e. cc))

pub returns : goal.returns
returns c =
    let new : c.in_ok-new.new.items ≡ take c.args.length c.bytes_at.result.now ++ replicate (c.args.length - length c.bytes_at.result.now) 0 = c.in_ok-new.ensures in
    rw (c.set_bytes.ensures, new, c.bytes_at.ensures, ← c.self.view_is) (own_unless_memory _ _ _ _ (sets_length c.self.inside.files c.args.name.now c.in_ok-i.i c.in_ok-i.ensures.found c.args.length (omega arith)) (λ e. cc))
