use Rattle.std.proofs.Common.{◌≡◌, ◌+◌, ℕ, suc, sym, ◌∙◌, ap, arith}
use Rattle.byte_map.specs.Words.{Map, first_of}
use Rattle.byte_map.specs.Blocks.{rest}
use Rattle.byte_map.proofs.Found.{next_held, next_gap}
use Rattle.byte_map.proofs.blocks.place_above.Goals as goal

pub returns-in-Ok-clause-next : goal.returns-in-Ok-clause-next
returns-in-Ok-clause-next c =
    let blocks = c.args.blocks.now in
    let place = c.in-Ok.place in
    let more : suc place.index ≡ place.index + 1 = omega arith in
    next_held blocks c.args.key.now place.block place.index c.in-Ok.ensures.held c.requires.sorted
    ∙ ap (λ (n : ℕ). first_of (rest blocks place.block n)) more
    ∙ ap (λ (m : Map). first_of m) (sym c.next_place.ensures.rest)

pub returns-in-Err-clause-next : goal.returns-in-Err-clause-next
returns-in-Err-clause-next c =
    let place = c.in-Err.place in
    next_gap c.args.blocks.now c.args.key.now place.block place.index c.in-Err.ensures.gap
