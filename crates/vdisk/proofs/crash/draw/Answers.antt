use Rattle.std.proofs.Common.{◌<◌, length, arith, rules}
use Rattle.vdisk.proofs.Draws.{drawn_more, drawn_start, unmarked}
use Rattle.vdisk.proofs.crash.draw.Goals as goal

pub loop-i-init : goal.loop-i-init
loop-i-init c =
    drawn_start c.args.seed c.args.pending.now c.args.image.now c.args.from
    (unmarked c.args.pending.now (length c.args.image.now) c.args.from c.args.to c.requires.size c.requires.stretch)

pub loop-i-preserved : goal.loop-i-preserved
loop-i-preserved c =
    let within : c.loop-i.i < length c.loop-i.image = omega (arith, c.loop-i-test.true, c.loop-i.auto.image, c.requires.end) in
    drawn_more c.args.seed c.args.pending.now c.args.image.now c.loop-i.i c.loop-i.state c.draw_at-state.result c.loop-i.image c.draw_at-state.new.image within c.loop-i.invariant
    (λ hit. c.draw_at-state.ensures.state (search rules)) (λ hit. c.draw_at-state.ensures.byte (search rules)) (λ miss. c.draw_at-state.ensures.same_state (search rules)) (λ miss. c.draw_at-state.ensures.same (search rules))
