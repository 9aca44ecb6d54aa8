use Rattle.std.proofs.Common.{◌+◌, ◌-◌, refl, ◌∙◌, arith}
use Rattle.regression_chunker.proofs.Places.{one_more_in, nothing_in}
use Rattle.regression_chunker.proofs.tables.Tables.print_at.Goals as goal

pub loop-i-init : goal.loop-i-init
loop-i-init c = nothing_in c.args.rest.now (c.args.at - 48) (c.args.at - 48) refl

pub loop-i-preserved : goal.loop-i-preserved
loop-i-preserved c =
    c.push-print.ensures
    ∙ one_more_in c.args.rest.now (c.args.at - 48) c.loop-i.i (c.loop-i.i + 1) c.loop-i.print refl (omega (arith, c.loop-i.auto.i))
    (omega (arith, c.loop-i-test.true, c.requires.within)) (c.type_inv.rest c.loop-i.i).fits c.loop-i.invariant
