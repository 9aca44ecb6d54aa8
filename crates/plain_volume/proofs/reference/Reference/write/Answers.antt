use Rattle.std.proofs.Common.{◌≡◌, ◌≢◌, ◌+◌, ◌<◌, [], length, rules, arith, Err, subst}
use Rattle.plain_volume.specs.Files.{volume_of, with_bytes_at}
use Rattle.plain_volume.specs.declared.call.Call.TheVariants.{Write}
use Rattle.plain_volume.specs.Step.{write}
use Rattle.std.proofs.lemmas.Grind.{common_steps}
use Rattle.std.proofs.lemmas.List.{nil_from_length}
use Rattle.plain_volume.specs.declared.limits.TheConstants.{MOST_BYTES_OF_A_FILE}
use Rattle.plain_volume.specs.Replies.{IsOwnResult}
use Rattle.plain_volume.proofs.Own.{passes_on, own_unless_memory}
use Rattle.plain_volume.proofs.Calls.{writes_not_so_much, writes_not_so_far, writes_bytes, writes_nothing}
use Rattle.plain_volume.proofs.reference.Reference.write.Goals as goal
use Rattle.plain_volume.proofs.reference.Reference.write.Goals.{then-at-gt-MOST_BYTES_OF_A_FILE-via-then-at-gt-MOST_BYTES_OF_A_FILE, then-at-gt-MOST_BYTES_OF_A_FILE-via-else-at-gt-MOST_BYTES_OF_A_FILE+then-at-bytes-gt-MOST_BYTES_OF_A_FILE}

pub returns-in_err-i : goal.returns-in_err-i
returns-in_err-i c =
    let refused : c.from_residual.result ≡ Err c.in_err-i.field-0.0 = search rules in
    rw refused (subst (λ v. IsOwnResult v (Write c.args.name.now c.args.at c.args.bytes.now) (Err c.in_err-i.field-0.0) v) c.self.view_is
    (passes_on (volume_of c.self.inside.files) (Write c.args.name.now c.args.at c.args.bytes.now) c.in_err-i.field-0.0 (c.in_err-i.ensures.refused (write c.args.name.now c.args.at c.args.bytes.now (volume_of c.self.inside.files)))))

pub returns-then-bytes-gt-MOST_BYTES_OF_A_CALL : goal.returns-then-bytes-gt-MOST_BYTES_OF_A_CALL
returns-then-bytes-gt-MOST_BYTES_OF_A_CALL c = rw (← c.self.view_is) (own_unless_memory _ _ _ _ (writes_not_so_much c.self.inside.files c.args.name.now c.in_ok-i.i c.in_ok-i.ensures.found c.args.at c.args.bytes.now (omega arith)) (λ e. cc))

pub returns-then-at-gt-MOST_BYTES_OF_A_FILE : goal.returns-then-at-gt-MOST_BYTES_OF_A_FILE
returns-then-at-gt-MOST_BYTES_OF_A_FILE c =
    let over : MOST_BYTES_OF_A_FILE < c.args.at + length c.args.bytes.now = elim c.then-at-gt-MOST_BYTES_OF_A_FILE.branch [
      | then-at-gt-MOST_BYTES_OF_A_FILE-via-then-at-gt-MOST_BYTES_OF_A_FILE w ↦ omega arith
      | then-at-gt-MOST_BYTES_OF_A_FILE-via-else-at-gt-MOST_BYTES_OF_A_FILE+then-at-bytes-gt-MOST_BYTES_OF_A_FILE w ↦ omega arith
    ] in
    rw (← c.self.view_is) (own_unless_memory _ _ _ _ (writes_not_so_far c.self.inside.files c.args.name.now c.in_ok-i.i c.in_ok-i.ensures.found c.args.at c.args.bytes.now (omega arith) over) (λ e. cc))

pub returns-then-is_empty : goal.returns-then-is_empty
returns-then-is_empty c =
    let zero : length c.args.bytes.now ≡ 0 = grind (arith, common_steps) in
    let none : c.args.bytes.now ≡ [] = nil_from_length c.args.bytes.now zero in
    rw (← c.self.view_is) (own_unless_memory _ _ _ _ (writes_nothing c.self.inside.files c.args.name.now c.in_ok-i.i c.in_ok-i.ensures.found c.args.at c.args.bytes.now none (omega arith) (omega arith)) (λ e. cc))

pub returns : goal.returns
returns c =
    let some : c.args.bytes.now ≢ [] = search rules in
    let new : c.in_ok-new.new.items ≡ with_bytes_at c.args.at c.args.bytes.now c.bytes_at.result.now = c.in_ok-new.ensures in
    rw (c.set_bytes.ensures, new, c.bytes_at.ensures, ← c.self.view_is) (own_unless_memory _ _ _ _ (writes_bytes c.self.inside.files c.args.name.now c.in_ok-i.i c.in_ok-i.ensures.found c.args.at c.args.bytes.now some (omega arith) (omega arith)) (λ e. cc))
