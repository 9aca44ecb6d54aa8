use Rattle.std.proofs.Common.{◌≡◌, arith, rules}
use Rattle.hash_index.proofs.PairOrder.{none_left, not_first, is_first}
use Rattle.hash_index.proofs.ordered.OrderedIndex.next_id.Goals as goal

pub returns-in_default : goal.returns-in_default
returns-in_default c = λ id above small held.
    none_left c.self.inside.pairs c.args.digest.now c.in_ok-from.from c.range.result (c.range.ensures.in_range tt) c.in_default.ensures.steps.0
    id (omega (arith, c.in_ok-from.ensures)) (rw c.self.view_is held)

pub returns-then-eq : goal.returns-then-eq
returns-then-eq c =
    let same : c.in-Some.pair.now.0 ≡ c.args.digest.now = search rules in
    let first = is_first c.self.inside.pairs c.args.digest.now c.in_ok-from.from c.range.result c.next.new.self c.in-Some.pair.now
    (c.range.ensures.in_range tt) c.in-Some.ensures.steps same in (
      omega (arith, c.in_ok-from.ensures, first.0),
      rw (← c.self.view_is) first.1,
      λ other above held. first.2 other (omega (arith, c.in_ok-from.ensures)) (rw c.self.view_is held),
    )

pub returns-else-eq : goal.returns-else-eq
returns-else-eq c = λ id above small held.
    let other : c.in-Some.pair.now.0 ≡ c.args.digest.now → ⊥ = search rules in
    not_first c.self.inside.pairs c.args.digest.now c.in_ok-from.from c.range.result c.next.new.self c.in-Some.pair.now
    (c.range.ensures.in_range tt) c.in-Some.ensures.steps other id (omega (arith, c.in_ok-from.ensures)) (rw c.self.view_is held)
