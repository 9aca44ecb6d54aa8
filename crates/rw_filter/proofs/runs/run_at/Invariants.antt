use Rattle.std.proofs.Common.{◌-◌, ◌≡◌, ◌≤◌, ◌<◌, ◌+◌, ℕ}
use Rattle.volume_tables.specs.Tables.{tables_now}
use Rattle.rw_filter.specs.Own.{is_own}
use Rattle.rw_filter.proofs.runs.run_at.Given as goal

-- so many cells are alike
abbrev pub invariant-loop-count : goal.invariant-loop-count
invariant-loop-count g l = record {
  some : 0 < l.count;
  fits : l.count ≤ l.most;
  alike : (k : ℕ) → k < l.count → is_own (tables_now l.tables) l.file (l.place + k) ≡ l.own;
}

abbrev pub decreases-loop-count : goal.decreases-loop-count
decreases-loop-count g l = l.most - l.count
