use Rattle.std.proofs.Common.{◌∙◌, List, ap}
use Rattle.byte_map.specs.Words.{Map, first_of}
use Rattle.byte_map.specs.Blocks.{rest}
use Rattle.byte_map.proofs.Joined.{rest_all}
use Rattle.byte_map.proofs.Found.{lent}
use Rattle.byte_map.proofs.map.ByteMap.first.Goals as goal

pub returns-in-Some : goal.returns-in-Some
returns-in-Some c =
    let all = ap (λ (s : List Map). rest s 0 0) c.deref.ensures.value ∙ rest_all c.self.inside.blocks.items ∙ c.self.view_is in
    lent c.key.result.now c.value.result.now c.in-Some.pair.now _ c.key.ensures c.value.ensures (c.in-Some.ensures ∙ ap (λ (m : Map). first_of m) all)

pub returns-in-None : goal.returns-in-None
returns-in-None c =
    let all = ap (λ (s : List Map). rest s 0 0) c.deref.ensures.value ∙ rest_all c.self.inside.blocks.items ∙ c.self.view_is in
    c.in-None.ensures ∙ ap (λ (m : Map). first_of m) all
