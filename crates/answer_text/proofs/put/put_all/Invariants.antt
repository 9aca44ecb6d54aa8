use Rattle.std.proofs.Common.{length, take, ◌-◌, ◌≤◌}
use Rattle.answer_text.specs.Told.{IsPut}
use Rattle.answer_text.proofs.put.put_all.Given as goal

abbrev pub invariant-loop-done : goal.invariant-loop-done
invariant-loop-done g l = record { within : l.done ≤ length l.text; later : g.K.Sink.faults l.fn.out ≤ g.K.Sink.faults l.out; put : IsPut (g.K.Sink.held l.fn.out) (take l.done l.text) (g.K.Sink.held l.out) }

abbrev pub decreases-loop-done : goal.decreases-loop-done
decreases-loop-done g l = length l.text - l.done
