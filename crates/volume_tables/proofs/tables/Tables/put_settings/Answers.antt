use Rattle.std.proofs.Common.{rules, ◌≡◌, ◌+◌, sym, subst, arith, refl}
use Rattle.std.specs.Prelude.{Result, Ok, Err}
use Rattle.plain_volume.specs.declared.call.Fault.{Fault}
use Rattle.table_records.specs.Tables.{settings_codec}
use Rattle.volume_inside.specs.Typed.{typed_of}
use Rattle.volume_inside.specs.Changes.{with_settings}
use Rattle.volume_tables.specs.Log.{log_now}
use Rattle.volume_tables.specs.Sizes.{settings_size, settings_size_of}
use Rattle.volume_tables.specs.Tables.{tables_now, IsResized}
use Rattle.volume_tables.proofs.Answers.{as_true}
use Rattle.volume_tables.proofs.Puts.{settings_put}
use Rattle.volume_tables.proofs.Sizes.{settings_key}
use Rattle.volume_tables.proofs.Held.{held_same}
use Rattle.volume_tables.proofs.Setting.{as_put, entry_held, entry_few, entry_now, entry_pages}
use Rattle.volume_tables.proofs.SettingsSize.{value_size}
use Rattle.volume_tables.proofs.SettingsPut.{resized, settings_contents}
use Rattle.volume_tables.proofs.Counts.{entry_named}
use Rattle.volume_tables.proofs.WellFormed.{apart}
use Rattle.volume_tables.proofs.Leaving.{quiet_leaves}
use Rattle.volume_tables.proofs.tables.Tables.put_settings.Goals as goal

pub returns-in_err-put_settings : goal.returns-in_err-put_settings
returns-in_err-put_settings g c =
    let t = c.args.self.now in
    let refused : c.from_residual.result ≡ Err c.in_err-put_settings.field-0.0 = search rules in
    record {
      ok = search rules;
      err = search rules;
      set = subst (λ (r : Result (Unit {0}) Fault). IsResized (settings_size_of (tables_now t))
          (settings_size c.args.settings) t.clusters t.log c.put_settings.new.log r) (sym refused)
          (resized t c.put_settings.new.log c.args.settings (Err c.in_err-put_settings.field-0.0)
          c.in_err-put_settings.ensures);
      leaves =
          quiet_leaves t _ c.put_settings.ensures.quiet refl refl refl refl (g.met.D.Disk.same_self t.log.disk)
          (entry_pages settings_codec t c.put_settings.new.log tt c.args.settings c.put_settings.result
          c.put_settings.ensures (with_settings c.args.settings) (λ x. refl)
          (settings_put (log_now t.log) (log_now c.put_settings.new.log) (as_true t.contents.sorted) c.args.settings));
      states = refl;
    }

pub invariant_of-self-2-clause-contents : goal.invariant_of-self-2-clause-contents
invariant_of-self-2-clause-contents g c =
    let t = c.args.self.now in
    settings_contents t c.put_settings.new.log c.args.settings
    (as_put settings_codec tt c.args.settings t.log c.put_settings.new.log _ c.in_ok-put_settings.ensures)

pub invariant_of-self-2-clause-held : goal.invariant_of-self-2-clause-held
invariant_of-self-2-clause-held g c =
    let t = c.args.self.now in
    entry_held settings_codec t c.put_settings.new.log tt c.args.settings c.put_settings.result c.put_settings.ensures
    (with_settings c.args.settings (typed_of (log_now t.log)))
    (held_same t.clusters t.space (typed_of (log_now t.log)) t.held
    (with_settings c.args.settings (typed_of (log_now t.log))) refl)
    (settings_put (log_now t.log) (log_now c.put_settings.new.log) (as_true t.contents.sorted) c.args.settings)

pub invariant_of-self-2-clause-few : goal.invariant_of-self-2-clause-few
invariant_of-self-2-clause-few g c running worn =
    let p = c.put_settings.ensures in
    let key = settings_key p.key p.spells in
    let value = value_size p.value c.args.settings p.whole p.means in
    entry_few settings_codec c.args.self.now c.put_settings.new.log tt c.args.settings c.put_settings.result p
    (6 + settings_size c.args.settings) (omega (arith, key, value)) c.requires.room

pub invariant_of-self-2-clause-named : goal.invariant_of-self-2-clause-named
invariant_of-self-2-clause-named g c =
    entry_named c.args.self.now c.put_settings.new.log settings_codec
    (apart 9 2 refl) tt c.args.settings c.put_settings.result c.put_settings.ensures

pub returns : goal.returns
returns g c =
    let t = c.args.self.now in
    record {
      ok =
          entry_now settings_codec t c.put_settings.new.log tt c.args.settings _ c.in_ok-put_settings.ensures
          (with_settings c.args.settings) (λ x. refl)
          (settings_put (log_now t.log) (log_now c.put_settings.new.log) (as_true t.contents.sorted) c.args.settings);
      err = search rules;
      set = resized t c.put_settings.new.log c.args.settings (Ok c.in_ok-put_settings.field-0)
          c.in_ok-put_settings.ensures;
      leaves =
          quiet_leaves t _ c.put_settings.ensures.quiet refl refl refl refl (g.met.D.Disk.same_self t.log.disk)
          (entry_pages settings_codec t c.put_settings.new.log tt c.args.settings c.put_settings.result
          c.put_settings.ensures (with_settings c.args.settings) (λ x. refl)
          (settings_put (log_now t.log) (log_now c.put_settings.new.log) (as_true t.contents.sorted) c.args.settings));
      states = refl;
    }
