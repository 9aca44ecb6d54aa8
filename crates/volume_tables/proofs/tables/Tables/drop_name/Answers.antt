use Rattle.std.proofs.Common.{◌∙◌, ap, length, arith, refl, subst, sym}
use Rattle.std.specs.Prelude.{not}
use Rattle.std.specs.Option.{option_map}
use Rattle.byte_map.specs.Words.{Map, bytes_cmp}
use Rattle.volume_inside.specs.Typed.{Typed, typed_of}
use Rattle.volume_inside.specs.Changes.{keep_names}
use Rattle.table_records.specs.Changes.{is_in_range}
use Rattle.table_records.specs.Tables.{name_codec}
use Rattle.volume_tables.specs.Clusters.{AreHeld}
use Rattle.volume_tables.specs.Log.{log_now}
use Rattle.volume_tables.proofs.WellFormed.{apart}
use Rattle.volume_tables.proofs.Puts.{names_dropped}
use Rattle.volume_tables.proofs.RangeEnds.{name_end_exact}
use Rattle.volume_tables.proofs.Sizes.{name_key, name_end}
use Rattle.volume_tables.proofs.Held.{held_same}
use Rattle.volume_tables.proofs.Setting.{drop_contents, drop_checkpoint, drop_now, drop_image}
use Rattle.volume_tables.proofs.Counts.{told_names, names_others}
use Rattle.volume_tables.proofs.Leaving.{quiet_leaves}
use Rattle.volume_tables.proofs.Tailed.{pages_of_tables}
use Rattle.volume_tables.proofs.tables.Tables.drop_name.Goals as goal

pub invariant_of-self-clause-contents : goal.invariant_of-self-clause-contents
invariant_of-self-clause-contents g c =
    drop_contents name_codec c.args.self.now c.drop_name_range.new.log c.args.from.now
    (option_map (λ name. name.now) c.args.to) c.drop_name_range.ensures (apart 2 1 refl) (apart 2 9 refl)
    (apart 2 10 refl)

pub invariant_of-self-clause-held : goal.invariant_of-self-clause-held
invariant_of-self-clause-held g c =
    let t = c.args.self.now in
    let to = option_map (λ name. name.now) c.args.to in
    subst (λ (x : Typed). AreHeld t.clusters t.space x)
    (sym (names_dropped (log_now t.log)
    (log_now c.drop_name_range.new.log) c.args.from.now to c.drop_name_range.ensures.dropped))
    (held_same t.clusters t.space (typed_of (log_now t.log)) t.held
    (keep_names (λ k. not (is_in_range bytes_cmp c.args.from.now to k)) (typed_of (log_now t.log))) refl)

pub invariant_of-self-clause-few : goal.invariant_of-self-clause-few
invariant_of-self-clause-few g c running worn =
    let p = c.drop_name_range.ensures in
    let low = name_key p.dropped.low c.args.from.now p.dropped.begins in
    let high = name_end c.args.to p.dropped.high c.requires.short_end p.dropped.ends in
    omega (arith, low, high, p.taken, c.requires.room)

pub overflow_sub-self : goal.overflow_sub-self
overflow_sub-self g c =
    let t = c.args.self.now in
    let log = c.drop_name_range.new.log in
    let to = option_map (λ name. name.now) c.args.to in
    let after = drop_contents name_codec t log c.args.from.now to c.drop_name_range.ensures (apart 2 1 refl)
    (apart 2 9 refl) (apart 2 10 refl) in
    (told_names t log c.other_pairs-others.result c.count.result after.spelled
    (names_others t log c.args.from.now to c.drop_name_range.ensures)
    c.other_pairs-others.ensures (c.count.ensures.count ∙ ap (λ (m : Map). length m) c.pairs.ensures)).0

pub invariant_of-self-clause-named : goal.invariant_of-self-clause-named
invariant_of-self-clause-named g c =
    let t = c.args.self.now in
    let log = c.drop_name_range.new.log in
    let to = option_map (λ name. name.now) c.args.to in
    let after = drop_contents name_codec t log c.args.from.now to c.drop_name_range.ensures (apart 2 1 refl)
    (apart 2 9 refl) (apart 2 10 refl) in
    (told_names t log c.other_pairs-others.result c.count.result after.spelled
    (names_others t log c.args.from.now to c.drop_name_range.ensures)
    c.other_pairs-others.ensures (c.count.ensures.count ∙ ap (λ (m : Map). length m) c.pairs.ensures)).1

pub returns : goal.returns
returns g c = record {
  tables =
      let t = c.args.self.now in
      let to = option_map (λ name. name.now) c.args.to in
      drop_now name_codec t c.drop_name_range.new.log c.args.from.now to c.drop_name_range.ensures
      (keep_names (λ k. not (is_in_range bytes_cmp c.args.from.now to k))) (λ x. refl)
      (names_dropped (log_now t.log) (log_now c.drop_name_range.new.log) c.args.from.now to
      c.drop_name_range.ensures.dropped);
  checkpoint =
      drop_checkpoint name_codec c.args.self.now c.drop_name_range.new.log c.args.from.now
      (option_map (λ name. name.now) c.args.to) c.drop_name_range.ensures;
  staged =
      let p = c.drop_name_range.ensures in
      let low = name_key p.dropped.low c.args.from.now p.dropped.begins in
      let high = name_end_exact (option_map (λ name. name.now) c.args.to) p.dropped.high p.dropped.ends in
      omega (arith, low, high, p.taken);
  leaves =
      let t = c.args.self.now in
      let to = option_map (λ name. name.now) c.args.to in
      quiet_leaves c.args.self.now _ c.drop_name_range.ensures.quiet refl refl refl refl
      (g.met.D.Disk.same_self c.args.self.now.log.disk)
      (ap pages_of_tables (names_dropped (log_now t.log) (log_now c.drop_name_range.new.log) c.args.from.now to
      c.drop_name_range.ensures.dropped));
  states = refl;
  image = drop_image c.args.self.now c.drop_name_range.new.log c.drop_name_range.ensures.quiet;
  running = c.drop_name_range.ensures.quiet.running;
}
