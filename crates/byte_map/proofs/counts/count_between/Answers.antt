use Rattle.std.proofs.Common.{◌≤◌, ◌∙◌, sym, inl, arith}
use Rattle.byte_map.proofs.Counted.{counted, counted_none, count_within}
use Rattle.byte_map.proofs.counts.count_between.Goals as goal

pub returns-then-end-start : goal.returns-then-end-start
returns-then-end-start c =
    let p = c.lower_bound-start.result in
    let q = c.lower_bound-end.result in
    sym (counted_none c.args.blocks.now c.args.from.now c.args.to.now p.block p.index q.block q.index c.lower_bound-start.ensures
    c.lower_bound-end.ensures (inl c.if-end-start.true))

pub count_of-whole-requires : goal.count_of-whole-requires
count_of-whole-requires c =
    let p = c.lower_bound-start.result in
    let q = c.lower_bound-end.result in
    let order : p.block ≤ q.block = omega (arith, c.if-end-start.false) in
    omega (arith, c.requires.few, count_within c.args.blocks.now p.block q.block q.index order c.lower_bound-end.ensures.place)

pub overflow_add-whole : goal.overflow_add-whole
overflow_add-whole c =
    let p = c.lower_bound-start.result in
    let q = c.lower_bound-end.result in
    let order : p.block ≤ q.block = omega (arith, c.if-end-start.false) in
    omega (arith, c.requires.few, c.count_of-whole.ensures, count_within c.args.blocks.now p.block q.block q.index order c.lower_bound-end.ensures.place)

pub returns : goal.returns
returns c =
    let p = c.lower_bound-start.result in
    let q = c.lower_bound-end.result in
    let order : p.block ≤ q.block = omega (arith, c.if-end-start.false) in
    c.saturating_sub.ensures ∙ counted c.args.blocks.now c.args.from.now c.args.to.now p.block p.index q.block q.index c.lower_bound-start.ensures
    c.lower_bound-end.ensures order c.count_of-whole.result c.count_of-whole.ensures
