use Rattle.std.proofs.Common.{◌≡◌, ℕ, arith, subst}
use Rattle.std.specs.Prelude.{◌↔◌, IsTrue, Ok, Err}
use Rattle.std.proofs.lemmas.Bool.{false≢true}
use Rattle.std.proofs.lemmas.List.Sorted.{searched}
use Rattle.table_rules.specs.Ids.{times}
use Rattle.table_rules.proofs.Times.{absent}
use Rattle.table_rules.proofs.named.stands_once.Goals as goal

pub returns-in-Ok : goal.returns-in-Ok
returns-in-Ok c =
    let xs = c.args.ids.now in
    let there = searched xs c.args.id (Ok c.in-Ok.place) c.in-Ok.ensures.position (λ i j before fits. c.requires i j 0 before fits) in
    subst (λ (n : ℕ). IsTrue c.stands_alone.result ↔ (times n xs ≡ 1)) there.1 c.stands_alone.ensures

pub returns-in-Err : goal.returns-in-Err
returns-in-Err c =
    let xs = c.args.ids.now in
    let gap = searched xs c.args.id (Err c.in-Err.field-0) c.in-Err.ensures.position (λ i j before fits. c.requires i j 0 before fits) in
    (λ never. absurd (false≢true never), λ one. absurd (omega (arith, one, absent c.args.id xs c.in-Err.field-0 gap.1 gap.2)))
