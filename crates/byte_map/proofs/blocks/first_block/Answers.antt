use Rattle.std.proofs.Common.{◌≡◌, rules}
use Rattle.std.proofs.lemmas.Fn.{answers_by}
use Rattle.byte_map.specs.Blocks.{ends_below}
use Rattle.byte_map.proofs.Search.{blocks_parted}
use Rattle.byte_map.proofs.blocks.first_block.Goals as goal

pub returns-clause-lesser : goal.returns-clause-lesser
returns-clause-lesser c =
    let facts = c.partition_point.ensures in
    let at = facts.partitioned (ends_below c.args.key.now) (answers_by _ _ (λ f. f.0.now ≡ c.args.key.now) (λ f a r g called same. search rules) _ (search rules)) in
    (at (blocks_parted c.args.key.now c.args.blocks.now c.requires.sorted c.requires.filled)).0

pub returns-clause-others : goal.returns-clause-others
returns-clause-others c =
    let facts = c.partition_point.ensures in
    let at = facts.partitioned (ends_below c.args.key.now) (answers_by _ _ (λ f. f.0.now ≡ c.args.key.now) (λ f a r g called same. search rules) _ (search rules)) in
    (at (blocks_parted c.args.key.now c.args.blocks.now c.requires.sorted c.requires.filled)).1
