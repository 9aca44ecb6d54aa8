use Rattle.std.proofs.Common.{◌-◌, ◌∙◌, List, length, take, drop, ap, sym, subst, arith}
use Rattle.byte_map.specs.Words.{Map, bytes_in}
use Rattle.byte_map.specs.Blocks.{joined, IsDropped}
use Rattle.byte_map.proofs.Dropped.{middle_within, blocks_dropped}
use Rattle.byte_map.proofs.drops.drop_blocks.Goals as goal

pub all_of-dropped-requires-clause-few : goal.all_of-dropped-requires-clause-few
all_of-dropped-requires-clause-few c =
    let within = middle_within c.args.blocks.now.items c.args.from c.args.to c.requires.order in
    rw c.deref.ensures.value (omega (arith, within.0, c.requires.few))

pub all_of-dropped-requires-clause-fits : goal.all_of-dropped-requires-clause-fits
all_of-dropped-requires-clause-fits c =
    let within = middle_within c.args.blocks.now.items c.args.from c.args.to c.requires.order in
    rw c.deref.ensures.value (omega (arith, within.1, c.requires.fits))

pub returns-clause-dropped : goal.returns-clause-dropped
returns-clause-dropped c =
    let dropped = c.all_of-dropped.result in
    let between = λ (s : List Map). joined (take (c.args.to - c.args.from) (drop c.args.from s)) in
    subst (λ (s : List Map). IsDropped (joined c.args.blocks.now.items) (joined s) dropped.count dropped.bytes) (sym c.remove.ensures)
    (blocks_dropped c.args.blocks.now.items c.args.from c.args.to dropped.count dropped.bytes c.requires.order
    (c.all_of-dropped.ensures.count ∙ ap (λ (s : List Map). length (between s)) c.deref.ensures.value)
    (c.all_of-dropped.ensures.bytes ∙ ap (λ (s : List Map). bytes_in (between s)) c.deref.ensures.value))
