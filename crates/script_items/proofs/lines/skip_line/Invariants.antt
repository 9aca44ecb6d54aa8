use Rattle.std.proofs.Common.{◌≡◌, ◌≤◌, ◌-◌, ◌^◌, ℕ, List}
use Rattle.script_items.specs.Input.{taken, IsLeft, HasGiven}
use Rattle.script_items.specs.Script.{behind_line}
use Rattle.script_items.proofs.lines.skip_line.Given as goal

abbrev pub invariant-pieces : goal.invariant-pieces
invariant-pieces g l = record {
  so : (total : ℕ) (s : List ℕ) → IsLeft l.fn.input (g.S.Source.left l.fn.script) total s → (rest : List ℕ) × IsLeft l.input (g.S.Source.left l.script) total rest × (behind_line s ≡ behind_line rest);
  grows : taken l.fn.input ≤ taken l.input;
  given : (first : ℕ) → HasGiven first l.fn.input.came (g.S.Source.given l.fn.script) → HasGiven first l.input.came (g.S.Source.given l.script);
  later : g.S.Source.faults l.fn.script ≤ g.S.Source.faults l.script;
}

abbrev pub decreases-pieces : goal.decreases-pieces
decreases-pieces g l = 2 ^ 40 - taken l.input
