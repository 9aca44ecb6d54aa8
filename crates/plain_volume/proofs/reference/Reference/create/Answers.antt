use Rattle.std.proofs.Common.{◌≡◌, true, rules, arith}
use Rattle.plain_volume.specs.Volume.{is_lawful}
use Rattle.plain_volume.proofs.Own.{own_unless_memory}
use Rattle.plain_volume.proofs.Calls.{makes_none_again, makes_no_more, makes_one}
use Rattle.plain_volume.proofs.reference.Reference.create.Goals as goal

pub returns-then-len-ge-MOST_FILES : goal.returns-then-len-ge-MOST_FILES
returns-then-len-ge-MOST_FILES c =
    let good : is_lawful c.args.name.now ≡ true = search rules in
    rw (← c.self.view_is) (own_unless_memory _ _ _ _ (makes_no_more c.self.inside.files c.args.name.now c.in-Err.i c.in-Err.ensures.absent good (omega arith)) (λ e. cc))

pub returns-in-Ok : goal.returns-in-Ok
returns-in-Ok c =
    let good : is_lawful c.args.name.now ≡ true = search rules in
    rw (← c.self.view_is) (own_unless_memory _ _ _ _ (makes_none_again c.self.inside.files c.args.name.now c.in-Ok.field-0 c.in-Ok.ensures.rising c.in-Ok.ensures.found.0 c.in-Ok.ensures.found.1 good) (λ e. cc))

pub returns-in_ok-insert-in-Err : goal.returns-in_ok-insert-in-Err
returns-in_ok-insert-in-Err c =
    let good : is_lawful c.args.name.now ≡ true = search rules in
    let copied : c.in_ok-name-in-Err.name.items ≡ c.args.name.now = search rules in
    rw (c.in_ok-insert-in-Err.ensures.ok, copied, c.new.ensures.items, ← c.self.view_is) (own_unless_memory _ _ _ _ (makes_one c.self.inside.files c.args.name.now c.in-Err.i c.in-Err.ensures.absent good (omega arith)) (λ e. cc))
