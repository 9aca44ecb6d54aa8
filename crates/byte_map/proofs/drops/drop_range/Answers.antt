use Rattle.std.proofs.Common.{◌≤◌, ◌∙◌, ◌++◌, ℕ, List, ap, sym, subst, inl, inr, arith}
use Rattle.byte_map.specs.Words.{Map}
use Rattle.byte_map.specs.Blocks.{before, rest, IsBoundFor}
use Rattle.byte_map.proofs.Dropped.{range_between, range_none, not_later}
use Rattle.byte_map.proofs.drops.drop_range.Goals as goal
use Rattle.byte_map.proofs.drops.drop_range.Goals.{else-start-end-2-via-then-start-end-2+else-start-end-3, else-start-end-2-via-else-start-end-2}

pub returns-then-start-end-clause-joined : goal.returns-then-start-end-clause-joined
returns-then-start-end-clause-joined c =
    let p = c.lower_bound-start.result in
    let q = c.lower_bound-end.result in
    let start = subst (λ (s : List Map). IsBoundFor s c.args.from.now p.block p.index) c.deref.ensures.value c.lower_bound-start.ensures in
    let end = subst (λ (s : List Map). IsBoundFor s c.args.to.now q.block q.index) c.deref-2.ensures.value c.lower_bound-end.ensures in
    c.drop_across.ensures.joined ∙ sym (range_between c.args.blocks.now.items c.args.from.now c.args.to.now p.block p.index q.block q.index start end (inl c.if-start-end.true))

pub returns-then-start-end-3-clause-joined : goal.returns-then-start-end-3-clause-joined
returns-then-start-end-3-clause-joined c =
    let blocks = c.args.blocks.now.items in
    let p = c.lower_bound-start.result in
    let q = c.lower_bound-end.result in
    let start = subst (λ (s : List Map). IsBoundFor s c.args.from.now p.block p.index) c.deref.ensures.value c.lower_bound-start.ensures in
    let end = subst (λ (s : List Map). IsBoundFor s c.args.to.now q.block q.index) c.deref-2.ensures.value c.lower_bound-end.ensures in
    let order : p.index ≤ q.index = omega (arith, c.if-start-end-3.true) in
    c.drop_within.ensures.joined
    ∙ ap (λ (b : ℕ). before blocks p.block p.index ++ rest blocks b q.index) c.if-start-end-2.true
    ∙ sym (range_between blocks c.args.from.now c.args.to.now p.block p.index q.block q.index start end (inr (c.if-start-end-2.true, order)))

pub returns-clause-joined : goal.returns-clause-joined
returns-clause-joined c =
    let p = c.lower_bound-start.result in
    let q = c.lower_bound-end.result in
    let start = subst (λ (s : List Map). IsBoundFor s c.args.from.now p.block p.index) c.deref.ensures.value c.lower_bound-start.ensures in
    let end = subst (λ (s : List Map). IsBoundFor s c.args.to.now q.block q.index) c.deref-2.ensures.value c.lower_bound-end.ensures in
    sym (range_none c.args.blocks.now.items c.args.from.now c.args.to.now p.block p.index q.block q.index start end
    (not_later p.block p.index q.block q.index c.if-start-end.false (λ same. elim c.else-start-end-2.branch [
      | else-start-end-2-via-then-start-end-2+else-start-end-3 w ↦ omega (arith, w.if-start-end-3.false)
      | else-start-end-2-via-else-start-end-2 w ↦ absurd (w.if-start-end-2.false same)
    ])))
