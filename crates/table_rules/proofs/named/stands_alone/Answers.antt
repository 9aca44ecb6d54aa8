use Rattle.std.proofs.Common.{◌≡◌, true, sym, ◌∙◌}
use Rattle.std.proofs.lemmas.Bool.{false≢true}
use Rattle.table_rules.proofs.Times.{alone, alone_below, alone_above}
use Rattle.table_rules.proofs.named.stands_alone.Goals as goal

pub returns-then-below : goal.returns-then-below
returns-then-below c =
    let xs = c.args.ids.now in
    let i = c.args.place in (
      λ last. alone xs c.requires.sorted i c.requires.range (c.differs_below-below.ensures.0 c.if-below.true) (c.differs_above-above.ensures.0 last),
      λ one. c.differs_above-above.ensures.1 (alone_above xs c.requires.sorted i c.requires.range one),
    )

pub returns-else-below : goal.returns-else-below
returns-else-below c = (
  λ never. absurd (false≢true (sym c.if-below.false ∙ never)),
  λ one.
      let first : c.differs_below-below.result ≡ true = c.differs_below-below.ensures.1 (alone_below c.args.ids.now c.requires.sorted c.args.place c.requires.range one) in
      absurd (false≢true (sym c.if-below.false ∙ first)),
)
