use Rattle.std.proofs.Common.{◌+◌, ◌-◌, ◌*◌, T, ◌≤◌, ◌∙◌, ℕ, List, length, ap, sym, subst, arith}
use Rattle.std.specs.FinMap.Entries.{find, put, is_sorted}
use Rattle.byte_map.specs.Words.{Map, bytes_cmp, bytes_with}
use Rattle.byte_map.specs.Laws.{bytes_with_put_present}
use Rattle.byte_map.specs.Blocks.{joined, value_at, IsHeld, IsGap, IsLaidOut}
use Rattle.byte_map.proofs.Found.{find_held, put_held, put_gap, value_within, as_found, as_long}
use Rattle.byte_map.proofs.LaidOut.{laid_new, laid_changed}
use Rattle.byte_map.proofs.map.ByteMap.put_within.Goals as goal

-- a value as long as the one before is never beyond
pub returns-then-not-has_room-clause-in_place : goal.returns-then-not-has_room-clause-in_place
returns-then-not-has_room-clause-in_place c = λ same.
    let now = c.args.self.now in
    let k = c.args.key.now in
    let v = c.args.value.now in
    let each = c.args.each in
    let room = c.args.most - (each * c.self.inside.pairs + c.self.inside.size) in
    let there = as_found k v now same in
    let sorted = subst (λ (m : Map). T (is_sorted bytes_cmp m)) c.self.view_is c.self.invariant.sorted in
    let bytes = bytes_with_put_present each k v there.0 now sorted there.1.0 in
    let all = ap (λ (s : List Map). joined s) c.deref-2.ensures.value ∙ c.self.view_is in
    let fits = subst (λ (m : Map). bytes_with each (put bytes_cmp k v m) ≤ bytes_with each m + room) (sym all) (omega (arith, bytes, there.1.1)) in
    absurd (let has = c.has_room.ensures.1 fits in cc)

-- ---- the key is there

pub change-requires-clause-counted : goal.change-requires-clause-counted
change-requires-clause-counted c =
    let blocks = c.self.inside.blocks.items in
    let place = c.in-Ok.place in
    let held = subst (λ (s : List Map). IsHeld s c.args.key.now place.block place.index) c.deref.ensures.value c.in-Ok.ensures.held in
    omega (arith, value_within blocks c.args.key.now place.block place.index held, c.self.invariant.summed)

pub returns-in_err-size-in-Ok-clause-in_place : goal.returns-in_err-size-in-Ok-clause-in_place
returns-in_err-size-in-Ok-clause-in_place c = λ same.
    let blocks = c.self.inside.blocks.items in
    let place = c.in-Ok.place in
    let held = subst (λ (s : List Map). IsHeld s c.args.key.now place.block place.index) c.deref.ensures.value c.in-Ok.ensures.held in
    let there = ap (find bytes_cmp c.args.key.now) (sym c.self.view_is) ∙ find_held blocks c.args.key.now place.block place.index held in
    let long_as = as_long c.args.key.now c.args.value.now (value_at blocks place.block place.index) c.args.self.now there same in
    absurd (let fits = c.in_err-size-in-Ok.ensures.in_place (sym long_as) in cc)

pub invariant_of-self-in-Ok : goal.invariant_of-self-in-Ok
invariant_of-self-in-Ok c =
    let blocks = c.self.inside.blocks.items in
    let place = c.in-Ok.place in
    let held = subst (λ (s : List Map). IsHeld s c.args.key.now place.block place.index) c.deref.ensures.value c.in-Ok.ensures.held in
    laid_changed blocks c.change.new.blocks.items c.self.inside.pairs c.self.inside.size c.self.invariant c.in_ok-size-in-Ok.ensures.filled
    c.args.key.now c.args.value.now place.block place.index c.in_ok-size-in-Ok.size held c.in_ok-size-in-Ok.ensures.ok
    c.in_ok-size-in-Ok.ensures.size

pub returns-in_ok-size-in-Ok-clause-ok : goal.returns-in_ok-size-in-Ok-clause-ok
returns-in_ok-size-in-Ok-clause-ok c =
    let blocks = c.self.inside.blocks.items in
    let place = c.in-Ok.place in
    let held = subst (λ (s : List Map). IsHeld s c.args.key.now place.block place.index) c.deref.ensures.value c.in-Ok.ensures.held in
    c.in_ok-size-in-Ok.ensures.ok ∙ sym (put_held blocks c.args.key.now place.block place.index held c.args.value.now)
    ∙ ap (put bytes_cmp c.args.key.now c.args.value.now) c.self.view_is

-- ---- the key is new

pub invariant_of-self-in-Err : goal.invariant_of-self-in-Err
invariant_of-self-in-Err c =
    let blocks = c.self.inside.blocks.items in
    let place = c.in-Err.place in
    let gap = subst (λ (s : List Map). IsGap s c.args.key.now place.block place.index) c.deref.ensures.value c.in-Err.ensures.gap in
    let laid = laid_new blocks c.add.new.blocks.items c.self.inside.pairs c.self.inside.size c.self.invariant c.in_ok-size-in-Err.ensures.filled
    c.args.key.now c.args.value.now place.block place.index gap c.in_ok-size-in-Err.ensures.ok in
    subst (λ (n : ℕ). IsLaidOut c.add.new.blocks.items c.in_ok-pairs-in-Err.pairs n) (sym c.in_ok-size-in-Err.ensures.size)
    (subst (λ (n : ℕ). IsLaidOut c.add.new.blocks.items n (c.self.inside.size + length c.args.key.now + length c.args.value.now)) (sym c.in_ok-pairs-in-Err.ensures) laid)

pub returns-in_ok-size-in-Err-clause-ok : goal.returns-in_ok-size-in-Err-clause-ok
returns-in_ok-size-in-Err-clause-ok c =
    let blocks = c.self.inside.blocks.items in
    let place = c.in-Err.place in
    let gap = subst (λ (s : List Map). IsGap s c.args.key.now place.block place.index) c.deref.ensures.value c.in-Err.ensures.gap in
    c.in_ok-size-in-Err.ensures.ok ∙ sym (put_gap blocks c.args.key.now place.block place.index gap c.args.value.now)
    ∙ ap (put bytes_cmp c.args.key.now c.args.value.now) c.self.view_is
