use Rattle.std.proofs.Common.{◌≡◌, ◌∙◌, ap, insert, true, rules}
use Rattle.plain_volume.specs.Files.{volume_of, bytes_at}
use Rattle.plain_volume.specs.Volume.{is_lawful, without_file}
use Rattle.plain_volume.proofs.Own.{own_unless_memory}
use Rattle.plain_volume.proofs.Calls.{renames_none, renames_not_over, renames}
use Rattle.plain_volume.proofs.reference.Reference.rename.Goals as goal

pub returns-in_default : goal.returns-in_default
returns-in_default c =
    let good : is_lawful c.args.from.now ≡ true = search rules in
    let good_to : is_lawful c.args.to.now ≡ true = search rules in
    rw (← c.self.view_is) (own_unless_memory _ _ _ _ (renames_none c.self.inside.files c.args.from.now c.args.to.now good good_to c.in_default.field-0 c.in_default.ensures.absent) (λ e. cc))

pub returns-in-Ok-place : goal.returns-in-Ok-place
returns-in-Ok-place c =
    let good : is_lawful c.args.from.now ≡ true = search rules in
    let good_to : is_lawful c.args.to.now ≡ true = search rules in
    rw (← c.self.view_is) (own_unless_memory _ _ _ _ (renames_not_over c.self.inside.files c.args.from.now c.args.to.now good good_to c.in-Ok.i c.in-Ok.ensures.rising c.in-Ok.ensures.found.0 c.in-Ok.ensures.found.1 c.in-Ok-place.field-0 c.in-Ok-place.ensures.found.0 c.in-Ok-place.ensures.found.1) (λ e. cc))

pub returns-in_ok-insert-in-Err : goal.returns-in_ok-insert-in-Err
returns-in_ok-insert-in-Err c =
    let good : is_lawful c.args.from.now ≡ true = search rules in
    let good_to : is_lawful c.args.to.now ≡ true = search rules in
    let name : c.in_ok-name-in-Err.name.items ≡ c.args.to.now = search rules in
    let bytes : c.in_ok-bytes-in-Err.bytes.items ≡ c.bytes_at.result.now = search rules in
    let copied : c.insert.new.self ≡ insert c.self.inside.files c.in-Err.place (c.args.to.now, bytes_at c.self.inside.files c.in-Ok.i) =
    c.in_ok-insert-in-Err.ensures.ok
    ∙ ap (λ n. insert c.self.inside.files c.in-Err.place (n, c.in_ok-bytes-in-Err.bytes.items)) name
    ∙ ap (λ b. insert c.self.inside.files c.in-Err.place (c.args.to.now, b)) (bytes ∙ c.bytes_at.ensures) in
    let dropped : volume_of c.drop_file.new.self ≡ without_file c.args.from.now (volume_of (insert c.self.inside.files c.in-Err.place (c.args.to.now, bytes_at c.self.inside.files c.in-Ok.i))) =
    c.drop_file.ensures ∙ ap (λ es. without_file c.args.from.now (volume_of es)) copied in
    rw (← c.self.view_is) (own_unless_memory _ _ _ _ (renames c.self.inside.files c.args.from.now c.args.to.now good good_to c.in-Ok.i c.in-Ok.ensures.rising c.in-Ok.ensures.found.0 c.in-Ok.ensures.found.1 c.in-Err.place c.in-Err.ensures.absent (volume_of c.drop_file.new.self) dropped) (λ e. cc))
