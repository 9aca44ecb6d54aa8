use Rattle.std.proofs.Common.{◌≡◌, ◌+◌, ◌-◌, ap, ◌∙◌, ◌<◌, ◌≤◌, length, take, drop, rules, arith, Err, subst}
use Rattle.plain_volume.specs.Files.{volume_of, bytes_at}
use Rattle.plain_volume.specs.declared.call.Call.TheVariants.{Read}
use Rattle.plain_volume.specs.Step.{read}
use Rattle.plain_volume.specs.Replies.{IsOwnResult}
use Rattle.plain_volume.proofs.Own.{passes_on, own_unless_memory}
use Rattle.plain_volume.proofs.Calls.{reads_not_outside, reads_bytes}
use Rattle.plain_volume.proofs.reference.Reference.read.Goals as goal
use Rattle.plain_volume.proofs.reference.Reference.read.Goals.{then-at-length-via-then-at-length, then-at-length-via-else-at-length+then-length-at}

pub returns-in_err-i : goal.returns-in_err-i
returns-in_err-i c =
    let refused : c.from_residual.result ≡ Err c.in_err-i.field-0.0 = search rules in
    rw refused (subst (λ v. IsOwnResult v (Read c.args.name.now c.args.at c.args.count) (Err c.in_err-i.field-0.0) v) c.self.view_is
    (passes_on (volume_of c.self.inside.files) (Read c.args.name.now c.args.at c.args.count) c.in_err-i.field-0.0 (c.in_err-i.ensures.refused (read c.args.at c.args.count (volume_of c.self.inside.files)))))

pub returns-then-at-length : goal.returns-then-at-length
returns-then-at-length c =
    let over : length (bytes_at c.self.inside.files c.in_ok-i.i) < c.args.at + c.args.count = rw (← c.bytes_at-bytes.ensures) (elim c.then-at-length.branch [
      | then-at-length-via-then-at-length w ↦ omega arith
      | then-at-length-via-else-at-length+then-length-at w ↦ omega arith
    ]) in
    rw (← c.self.view_is, c.bytes_at-bytes.ensures) (own_unless_memory _ _ _ _ (reads_not_outside c.self.inside.files c.args.name.now c.in_ok-i.i c.in_ok-i.ensures.found c.args.at c.args.count over) (λ e. cc))

pub returns : goal.returns
returns c =
    let count = c.args.count in
    let file = c.bytes_at-bytes.result.now in
    let whole : c.args.at + count ≤ length file = omega arith in
    let within : c.args.at + count ≤ length (bytes_at c.self.inside.files c.in_ok-i.i) = rw (← c.bytes_at-bytes.ensures) whole in
    let counts : c.args.at + count - c.args.at ≡ count = omega arith in
    let read : c.in_ok-of.field-0 ≡ take (c.args.at + count - c.args.at) (drop c.args.at file) = c.in_ok-of.ensures in
    let bytes : c.in_ok-of.field-0 ≡ take count (drop c.args.at (bytes_at c.self.inside.files c.in_ok-i.i)) =
    read ∙ ap (λ n. take n (drop c.args.at file)) counts ∙ ap (λ xs. take count (drop c.args.at xs)) c.bytes_at-bytes.ensures in
    rw (bytes, ← c.self.view_is) (own_unless_memory _ _ _ _ (reads_bytes c.self.inside.files c.args.name.now c.in_ok-i.i c.in_ok-i.ensures.found c.args.at c.args.count within) (λ e. cc))
