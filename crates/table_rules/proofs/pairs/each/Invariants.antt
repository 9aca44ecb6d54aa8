use Rattle.std.proofs.Common.{length}
use Rattle.std.specs.Prelude.{◌↔◌}
use Rattle.volume_inside.specs.Entries.{Each}
use Rattle.table_rules.proofs.pairs.each.Given as goal

-- the rule holds of all pairs where it holds of those that are left
abbrev pub invariant-loop-key : goal.invariant-loop-key
invariant-loop-key g l = Each (g.R.PairRule.meets l.rule) l.walk ↔ Each (g.R.PairRule.meets l.rule) l.map

abbrev pub decreases-loop-key : goal.decreases-loop-key
decreases-loop-key g l = length l.walk
