use Rattle.std.proofs.Common.{◌≤◌, ◌<◌, ◌-◌, ◌^◌, ℕ, List, vec_len, vec_capacity}
use Rattle.script_items.specs.Input.{taken, IsLeft, HasGiven}
use Rattle.script_items.specs.Reading.{IsFront}
use Rattle.script_items.proofs.lines.read_line.Given as goal

abbrev pub invariant-pieces : goal.invariant-pieces
invariant-pieces g l = record {
  so : (total : ℕ) (s : List ℕ) → IsLeft l.fn.input (g.S.Source.left l.fn.script) total s → IsFront l.input (g.S.Source.left l.script) total s l.line.items;
  grows : taken l.fn.input ≤ taken l.input;
  begun : 0 < vec_len l.line → taken l.fn.input < taken l.input;
  room : 4098 ≤ vec_capacity l.line;
  few : vec_len l.line ≤ 4098;
  given : (first : ℕ) → HasGiven first l.fn.input.came (g.S.Source.given l.fn.script) → HasGiven first l.input.came (g.S.Source.given l.script);
  later : g.S.Source.faults l.fn.script ≤ g.S.Source.faults l.script;
}

abbrev pub decreases-pieces : goal.decreases-pieces
decreases-pieces g l = 2 ^ 40 - taken l.input
