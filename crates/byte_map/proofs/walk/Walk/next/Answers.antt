use Rattle.std.proofs.Common.{sym, ◌∙◌}
use Rattle.byte_map.specs.Blocks.{rest}
use Rattle.byte_map.proofs.Found.{in_list, walked}
use Rattle.byte_map.proofs.walk.Walk.next.Goals as goal

pub next_place-self-inside-requires-clause-pair : goal.next_place-self-inside-requires-clause-pair
next_place-self-inside-requires-clause-pair c =
    let place = c.self.inside.place in
    in_list c.self.inside.blocks.now place.block place.index c.in-Some.pair.now c.in-Some.ensures

pub returns-in-Some-clause-some : goal.returns-in-Some-clause-some
returns-in-Some-clause-some c =
    let place = c.self.inside.place in
    let next = c.next_place-self-inside.result in
    sym c.self.view_is
    ∙ walked c.self.inside.blocks.now place.block place.index c.in-Some.pair.now c.key.result.now c.value.result.now (rest c.self.inside.blocks.now next.block next.index)
    c.self.invariant.place c.in-Some.ensures c.key.ensures c.value.ensures c.next_place-self-inside.ensures.rest
