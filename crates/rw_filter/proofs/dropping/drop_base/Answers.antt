use Rattle.std.proofs.Common.{◌≡◌, ℕ, Some, refl, ◌∙◌, ap, sym, subst, arith}
use Rattle.std.specs.Ordering.{nat_cmp}
use Rattle.std.specs.FinMap.{find}
use Rattle.volume_inside.specs.Inside.{inside_at}
use Rattle.volume_inside.specs.Layout.{data_clusters}
use Rattle.volume_inside.specs.Rules.{RulesHold}
use Rattle.volume_inside.specs.Typed.{Typed}
use Rattle.volume_inside.specs.View.{view}
use Rattle.volume_tables.specs.Tables.{tables_now, disk_of, clusters_in}
use Rattle.volume_files.proofs.FileMaps.{maps_with_file}
use Rattle.volume_tables.proofs.Stagings.{as_ok, quiet_stages}
use Rattle.volume_tables.specs.Stages.{Stages}
use Rattle.volume_inside.specs.Changes.{with_file}
use Rattle.rw_filter.specs.Own.{without_base}
use Rattle.rw_filter.proofs.BaseDropped.{rules_dropped, view_dropped}
use Rattle.rw_filter.proofs.dropping.drop_base.Goals as goal

pub returns-clause-view : goal.returns-clause-view
returns-clause-view g c =
    let t = c.args.tables.now in
    let was = c.unwrap-was.result in
    let e = c.set_file.ensures in
    let there : find nat_cmp c.args.file (tables_now t).files ≡ Some was = sym c.get_file.ensures ∙ c.unwrap-was.ensures in
    let now : tables_now c.set_file.new.self ≡ with_file c.args.file (without_base was) (tables_now t) =
    as_ok _ c.set_file.result c.unwrap.result c.unwrap.ensures e.ok in
    (λ i. view (inside_at (now i) (e.set.image i)))
    ∙ view_dropped (clusters_in t) (tables_now t) (disk_of t).image c.requires.sound.rules c.args.file was there
    c.requires.recalled

pub returns-clause-sound : goal.returns-clause-sound
returns-clause-sound g c =
    let t = c.args.tables.now in
    let s = c.set_file.new.self in
    let was = c.unwrap-was.result in
    let e = c.set_file.ensures in
    let there : find nat_cmp c.args.file (tables_now t).files ≡ Some was = sym c.get_file.ensures ∙ c.unwrap-was.ensures in
    let now : tables_now s ≡ with_file c.args.file (without_base was) (tables_now t) =
    as_ok _ c.set_file.result c.unwrap.result c.unwrap.ensures e.ok in
    let staged : Stages 38 t s = quiet_stages 38 t s e.leaves e.set.image e.set.running
    (as_ok _ c.set_file.result c.unwrap.result c.unwrap.ensures e.set.staged) e.states
    (with_file c.args.file (without_base was) (tables_now t)) now refl in
    let rules : RulesHold (clusters_in s) (tables_now s) =
    subst (λ (p : ℕ × Typed). RulesHold p.0 p.1) (λ i. (sym staged.leaves.clusters i, sym now i))
    (rules_dropped (clusters_in t) (tables_now t) (disk_of t).image c.requires.sound.rules c.args.file was there) in
    record {
      rules = rules;
      maps = maps_with_file t s c.args.file was (without_base was) (tables_now t).extents there (omega arith)
          (λ some. absurd (some refl)) now (λ i. inside_at (tables_now t) (e.set.image i)) e.leaves.tells
          c.requires.sound.maps;
      counted = λ runs. staged.counts ∙ c.requires.sound.counted (sym staged.running ∙ runs)
          ∙ ap data_clusters (sym staged.leaves.clusters);
    }
