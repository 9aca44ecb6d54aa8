use Rattle.std.proofs.Common.{◌∙◌, ℕ, ap, subst, sym}
use Rattle.volume_inside.specs.Changes.{with_settings}
use Rattle.volume_inside.specs.Rules.{RulesHold}
use Rattle.volume_inside.specs.Typed.{Typed}
use Rattle.volume_tables.specs.Tables.{tables_now}
use Rattle.volume_tables.proofs.Mapped.{maps_changed, maps_same}
use Rattle.disk_rows.proofs.kept.commit_settings.Goals as goal

pub commit-requires-clause-rules : goal.commit-requires-clause-rules
commit-requires-clause-rules g c =
    let t = c.args.tables.now in
    let s = c.args.settings in
    subst (λ (p : ℕ × Typed). RulesHold p.0 p.1)
    (λ i. (
      sym (c.set_settings.ensures.leaves.clusters ∙ c.ensure_room.ensures.clusters) i,
      sym (c.in_ok-set_settings.ensures.ok ∙ ap (λ (q : Typed). with_settings s q) c.ensure_room.ensures.now) i,
    ))
    (c.settings_in_their_ranges_keep_the_rules.ensures t.clusters (tables_now t) s c.requires.rules
    (c.settings_hold.ensures.0 c.if-not-settings_hold.false))

pub commit-requires-clause-maps : goal.commit-requires-clause-maps
commit-requires-clause-maps g c =
    let m = c.ensure_room.new.self in
    let room = c.ensure_room.ensures in
    let set = c.set_settings.ensures in
    maps_changed m c.set_settings.new.self (with_settings c.args.settings (tables_now m)) set.leaves.tells
    c.in_ok-set_settings.ensures.ok set.set.image (λ maps. maps)
    (maps_same c.args.tables.now m room.tells room.inside c.requires.maps)
