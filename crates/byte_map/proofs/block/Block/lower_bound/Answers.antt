use Rattle.std.proofs.Common.{◌≡◌, rules}
use Rattle.std.proofs.lemmas.Fn.{answers_by}
use Rattle.byte_map.specs.Blocks.{key_below}
use Rattle.byte_map.proofs.Search.{keys_parted, taken_below, dropped_not_below}
use Rattle.byte_map.proofs.block.Block.lower_bound.Goals as goal

pub returns-clause-lesser : goal.returns-clause-lesser
returns-clause-lesser c =
    let facts = c.partition_point.ensures in
    let at = facts.partitioned (key_below c.args.key.now) (answers_by _ _ (λ f. f.0.now ≡ c.args.key.now) (λ f a r g called same. search rules) _ (search rules)) in
    rw (← c.self.view_is, ← c.deref.ensures.value)
    (taken_below c.args.key.now c.deref.result.now c.partition_point.result facts.bound (at (keys_parted c.args.key.now c.deref.result.now (rw (c.deref.ensures.value, c.self.view_is) c.requires))).0)

pub returns-clause-others : goal.returns-clause-others
returns-clause-others c =
    let facts = c.partition_point.ensures in
    let at = facts.partitioned (key_below c.args.key.now) (answers_by _ _ (λ f. f.0.now ≡ c.args.key.now) (λ f a r g called same. search rules) _ (search rules)) in
    rw (← c.self.view_is, ← c.deref.ensures.value)
    (dropped_not_below c.args.key.now c.deref.result.now c.partition_point.result (at (keys_parted c.args.key.now c.deref.result.now (rw (c.deref.ensures.value, c.self.view_is) c.requires))).1)
