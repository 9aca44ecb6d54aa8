use Rattle.std.proofs.Common.{◌∙◌, List, ℕ, get_or, Some, sym, ap, []}
use Rattle.byte_map.specs.Words.{Map, first_of}
use Rattle.byte_map.proofs.Joined.{block_read, pair_there, rest_end}
use Rattle.byte_map.proofs.blocks.pair_at.Goals as goal

pub returns-then-place-blocks : goal.returns-then-place-blocks
returns-then-place-blocks c =
    let here = block_read c.args.blocks.now c.args.place.block c.index-blocks-place.result c.if-place-blocks.true c.index-blocks-place.is in
    ap (λ (e : List ℕ × List ℕ). Some e) (c.at.ensures ∙ ap (λ (x : Map). get_or x c.args.place.index ([], [])) here)
    ∙ pair_there c.args.blocks.now c.args.place.block c.args.place.index ([], []) c.if-place-blocks.true (c.requires.inside c.if-place-blocks.true)

pub returns-else-place-blocks : goal.returns-else-place-blocks
returns-else-place-blocks c = sym (ap (λ (m : Map). first_of m) (rest_end c.args.blocks.now c.args.place.block c.args.place.index c.if-place-blocks.false))
