use Rattle.std.proofs.Common.{◌≡◌, ◌+◌, ◌<◌, List, ℕ, length, drop, get_or, sym, ◌∙◌, ap, subst, arith, length-drop}
use Rattle.std.specs.Prelude.{None}
use Rattle.meta_log.specs.Meta.{group_at}
use Rattle.meta_log.specs.Reading.{IsGroupTaken}
use Rattle.meta_log.proofs.ReadHalves.{is_open_gate, groups_stop, group_next}
use Rattle.meta_log.proofs.half.take_groups.Goals as goal

pub returns-in-Err-clause-damaged : goal.returns-in-Err-clause-damaged
returns-in-Err-clause-damaged c so is =
    let half = c.args.half.now in
    let place = c.loop-map.place in
    let inside : place < length half = c.is_open_at.ensures.inside c.loop-map-test.true in
    let gate = is_open_gate (get_or half place 0) (sym c.is_open_at.ensures.open_gate ∙ c.loop-map-test.true) in
    let none : group_at (drop (place + 1) half) ≡ None = ap (λ (q : List ℕ). group_at q) (sym c.rest_from.ensures) ∙ c.in-Err.ensures.damaged is in
    groups_stop place half c.loop-map.map (c.loop-map.invariant.so so) inside gate none

pub loop-map-preserved : goal.loop-map-preserved
loop-map-preserved c =
    let half = c.args.half.now in
    let place = c.loop-map.place in
    let inside : place < length half = c.is_open_at.ensures.inside c.loop-map-test.true in
    let gate = is_open_gate (get_or half place 0) (sym c.is_open_at.ensures.open_gate ∙ c.loop-map-test.true) in
    record {
      within = omega (arith, inside, c.in-Ok.ensures.within, ap length c.rest_from.ensures, length-drop (place + 1) half);
      so = λ so.
          let here = c.loop-map.invariant.so so in
          group_next place half c.loop-map.map here inside gate c.take_group.new.map c.in-Ok.length
          (subst (λ (q : List ℕ). IsGroupTaken q c.loop-map.map c.take_group.new.map c.in-Ok.length) c.rest_from.ensures (c.in-Ok.ensures.ok here.spellable));
    }
