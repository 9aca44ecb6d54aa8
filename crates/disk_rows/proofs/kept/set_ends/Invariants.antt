use Rattle.std.proofs.Common.{◌≡◌}
use Rattle.volume_inside.specs.Rules.{RulesHold}
use Rattle.volume_tables.specs.Tables.{tables_now, stopped, HasMaps}
use Rattle.disk_rows.proofs.kept.set_ends.Given as goal

-- the tables so far meet the rules, and so do their maps
abbrev pub invariant-loop-end : goal.invariant-loop-end
invariant-loop-end g l =
    RulesHold l.tables.clusters (tables_now l.tables) × HasMaps l.tables × (stopped l.tables ≡ stopped l.fn.tables)
