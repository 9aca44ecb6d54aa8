use Rattle.std.proofs.Common.{List, ℕ, subst}
use Rattle.std.proofs.lemmas.List.{take_rest}
use Rattle.meta_log.specs.Reading.{IsTaken}
use Rattle.meta_log.proofs.ReadRecords.{changed_next}
use Rattle.meta_log.proofs.records.take_records.Goals as goal

pub loop-place-preserved : goal.loop-place-preserved
loop-place-preserved c =
    changed_next c.args.body.now c.args.map.now c.loop-place.place c.loop-place.map c.take_record.new.map c.in_ok-place.field-0
    c.loop-place-test.true c.loop-place.invariant
    (subst (λ (q : List ℕ). IsTaken q c.loop-place.map c.take_record.new.map c.in_ok-place.field-0) (take_rest c.args.body.now c.loop-place.place) c.in_ok-place.ensures.ok)
