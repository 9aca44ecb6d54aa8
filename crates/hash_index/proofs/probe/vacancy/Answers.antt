use Rattle.std.proofs.Common.{arith}
use Rattle.hash_index.proofs.Searches.{not_all_filled}
use Rattle.hash_index.proofs.probe.vacancy.Goals as goal

pub unreachable-requires : goal.unreachable-requires
unreachable-requires c =
    not_all_filled c.args.slots.now c.args.home c.requires.home c.requires.room (λ j lt. c.loop-step.invariant j (omega arith))
