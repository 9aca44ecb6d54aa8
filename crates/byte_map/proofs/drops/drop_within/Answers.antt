use Rattle.std.proofs.Common.{◌∙◌, List, ap, sym, subst}
use Rattle.byte_map.specs.Words.{Map}
use Rattle.byte_map.specs.Blocks.{joined, AllFilled}
use Rattle.byte_map.proofs.Joined.{edited_drop}
use Rattle.byte_map.proofs.Dropped.{filled_part}
use Rattle.byte_map.proofs.drops.drop_within.Goals as goal

pub returns-clause-joined : goal.returns-clause-joined
returns-clause-joined c =
    ap (λ (s : List Map). joined s) c.drop_part.ensures.items ∙ edited_drop c.args.blocks.now.items c.args.from.block c.args.from.index c.args.to c.requires.block

pub returns-clause-filled : goal.returns-clause-filled
returns-clause-filled c =
    subst AllFilled (sym c.drop_part.ensures.items) (filled_part c.args.blocks.now.items c.args.from.block c.args.from.index c.args.to c.requires.filled c.requires.in_range)
