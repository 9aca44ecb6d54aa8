use Rattle.std.proofs.Common.{ℕ, ap, subst, sym, arith}
use Rattle.volume_inside.specs.Rules.{RulesHold}
use Rattle.volume_inside.specs.Typed.{Typed}
use Rattle.volume_inside.specs.Changes.{with_result}
use Rattle.meta_log.specs.declared.log.MetaLog.{MetaLog}
use Rattle.volume_tables.specs.Log.{log_state}
use Rattle.volume_tables.specs.Tables.{tables_now}
use Rattle.volume_tables.proofs.Mapped.{maps_changed}
use Rattle.disk_rows.proofs.kept.set_end.Goals as goal

pub returns-clause-rules : goal.returns-clause-rules
returns-clause-rules g c =
    let t = c.args.tables.now in
    let s = c.set_result.ensures in
    subst (λ (p : ℕ × Typed). RulesHold p.0 p.1) (λ i. (sym s.clusters i, sym s.now i))
    (c.results_of_known_numbers_keep_the_rules.ensures t.clusters (tables_now t) c.args.end.kind
    (record { second = c.args.end.second; result = 1 }) c.requires.rules (omega arith))

pub returns-clause-maps : goal.returns-clause-maps
returns-clause-maps g c =
    let t = c.args.tables.now in
    let s = c.set_result.ensures in
    maps_changed t c.set_result.new.self
    (with_result c.args.end.kind (record { second = c.args.end.second; result = 1 }) (tables_now t))
    (ap (λ (l : MetaLog g.row.D.Denot g.D.Disk). (log_state l).tells) s.log) s.now
    (ap (λ (l : MetaLog g.row.D.Denot g.D.Disk). (log_state l).image) s.log) (λ maps. maps) c.requires.maps
