use Rattle.std.proofs.Common.{ℕ, ◌+◌, ◌-◌, List, get_or, refl, sym, ◌∙◌, ap, arith}
use Rattle.regression_chunker.specs.Tables.{push_of}
use Rattle.regression_chunker.proofs.Places.{next_place}
use Rattle.regression_chunker.proofs.tables.Tables.next_print.Goals as goal

pub returns : goal.returns
returns c =
    let rest : List ℕ = c.args.rest.now in
    let at : ℕ = c.args.at in
    c.push.ensures
    ∙ ap (λ v. push_of v (get_or rest at 0) (get_or rest (at - 48) 0)) c.requires.before
    ∙ sym (next_place rest (at - 48) at (at + 1) (omega (arith, c.requires.enough)) refl c.requires.within
    (c.type_inv.rest (at - 48)).fits (c.type_inv.rest at).fits)
