use Rattle.std.proofs.Common.{◌-◌, ◌≤◌, ◌<◌, ℕ}
use Rattle.volume_tables.specs.Tables.{tables_now}
use Rattle.rw_filter.specs.Holes.{IsHole}
use Rattle.rw_filter.proofs.holes.HolesWantedTables.first_wanted.Given as goal

-- no place before is a hole
abbrev pub invariant-loop-place : goal.invariant-loop-place
invariant-loop-place g l = record {
  behind : l.from ≤ l.place;
  clear : (p : ℕ) → l.from ≤ p → p < l.place → IsHole (tables_now l.disk) l.self.file l.self.covers p → ⊥;
}

abbrev pub decreases-loop-place : goal.decreases-loop-place
decreases-loop-place g l = l.end - l.place
