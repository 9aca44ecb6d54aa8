use Rattle.std.proofs.Common.{◌∙◌, sym}
use Rattle.ddpsh.proofs.BoundLaws.{fresh_made, not_made}
use Rattle.ddpsh.proofs.opening.open.Goals as goal

pub returns-in-Mount-clause-fresh : goal.returns-in-Mount-clause-fresh
returns-in-Mount-clause-fresh g c n same = absurd (not_made n (sym c.in-Mount.is ∙ same))

pub returns-in-Format-clause-fresh : goal.returns-in-Format-clause-fresh
returns-in-Format-clause-fresh g c n same =
    fresh_made c.in-Format.clusters n _ c.format.ensures.clusters c.format.ensures.fresh (sym c.in-Format.is ∙ same)
