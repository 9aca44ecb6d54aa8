use Rattle.std.proofs.Common.{◌≤◌, ◌-◌, ℕ, List, length}
use Rattle.script_items.specs.Input.{taken, IsLeft, HasGiven}
use Rattle.script_items.specs.Reading.{IsReadUpTo}
use Rattle.script_items.proofs.payload.read_whole.Given as goal

abbrev pub invariant-loop-done : goal.invariant-loop-done
invariant-loop-done g l = record {
  within : l.done ≤ length l.out;
  so : (total : ℕ) (s : List ℕ) → IsLeft l.fn.input (g.S.Source.left l.fn.script) total s → IsReadUpTo l.done l.out s l.input (g.S.Source.left l.script) total;
  grows : taken l.fn.input ≤ taken l.input;
  given : (first : ℕ) → HasGiven first l.fn.input.came (g.S.Source.given l.fn.script) → HasGiven first l.input.came (g.S.Source.given l.script);
  later : g.S.Source.faults l.fn.script ≤ g.S.Source.faults l.script;
}

abbrev pub decreases-loop-done : goal.decreases-loop-done
decreases-loop-done g l = length l.out - l.done
