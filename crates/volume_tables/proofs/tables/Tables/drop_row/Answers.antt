use Rattle.std.proofs.Common.{ap, arith, refl, subst, sym}
use Rattle.std.specs.Prelude.{not}
use Rattle.std.specs.Ordering.{nat_cmp}
use Rattle.volume_inside.specs.Typed.{Typed, typed_of}
use Rattle.volume_inside.specs.Changes.{keep_rows}
use Rattle.table_records.specs.Changes.{is_in_range}
use Rattle.table_records.specs.Tables.{row_codec}
use Rattle.volume_tables.specs.Clusters.{AreHeld}
use Rattle.volume_tables.specs.Log.{log_now}
use Rattle.volume_tables.proofs.WellFormed.{apart}
use Rattle.volume_tables.proofs.Puts.{rows_dropped}
use Rattle.volume_tables.proofs.RangeEnds.{end_exact}
use Rattle.volume_tables.proofs.Sizes.{row_key, end_size}
use Rattle.volume_tables.proofs.Held.{held_same}
use Rattle.volume_tables.proofs.Setting.{drop_contents, drop_checkpoint, drop_now, drop_image}
use Rattle.volume_tables.proofs.Counts.{drop_named}
use Rattle.volume_tables.proofs.Leaving.{quiet_leaves}
use Rattle.volume_tables.proofs.Tailed.{pages_of_tables}
use Rattle.volume_tables.proofs.tables.Tables.drop_row.Goals as goal

pub drop_range-requires : goal.drop_range-requires
drop_range-requires g c b w key ends =
    let low = row_key b c.args.from key in
    let high = end_size row_codec 9 row_key (omega arith) c.args.to w ends in
    omega (arith, low, high, c.requires)

pub invariant_of-self-clause-contents : goal.invariant_of-self-clause-contents
invariant_of-self-clause-contents g c =
    drop_contents row_codec c.args.self.now c.drop_range.new.log c.args.from c.args.to c.drop_range.ensures
    (apart 5 1 refl) (apart 5 9 refl) (apart 5 10 refl)

pub invariant_of-self-clause-held : goal.invariant_of-self-clause-held
invariant_of-self-clause-held g c =
    let t = c.args.self.now in
    subst (λ (x : Typed). AreHeld t.clusters t.space x)
    (sym (rows_dropped (log_now t.log)
    (log_now c.drop_range.new.log) c.args.from c.args.to c.drop_range.ensures.dropped))
    (held_same t.clusters t.space (typed_of (log_now t.log)) t.held
    (keep_rows (λ k. not (is_in_range nat_cmp c.args.from c.args.to k)) (typed_of (log_now t.log))) refl)

pub invariant_of-self-clause-few : goal.invariant_of-self-clause-few
invariant_of-self-clause-few g c running worn =
    let p = c.drop_range.ensures in
    let low = row_key p.dropped.low c.args.from p.dropped.begins in
    let high = end_size row_codec 9 row_key (omega arith) c.args.to p.dropped.high p.dropped.ends in
    omega (arith, low, high, p.taken, c.requires)

pub invariant_of-self-clause-named : goal.invariant_of-self-clause-named
invariant_of-self-clause-named g c = drop_named c.args.self.now c.drop_range.new.log row_codec
    (apart 5 2 refl) c.args.from c.args.to c.drop_range.ensures

pub returns : goal.returns
returns g c = record {
  tables =
      let t = c.args.self.now in
      drop_now row_codec t c.drop_range.new.log c.args.from c.args.to c.drop_range.ensures
      (keep_rows (λ k. not (is_in_range nat_cmp c.args.from c.args.to k))) (λ x. refl)
      (rows_dropped (log_now t.log) (log_now c.drop_range.new.log) c.args.from c.args.to c.drop_range.ensures.dropped);
  checkpoint =
      drop_checkpoint row_codec c.args.self.now c.drop_range.new.log c.args.from c.args.to c.drop_range.ensures;
  staged =
      let p = c.drop_range.ensures in
      let low = row_key p.dropped.low c.args.from p.dropped.begins in
      let high = end_exact row_codec 9 row_key c.args.to p.dropped.high p.dropped.ends in
      omega (arith, low, high, p.taken);
  leaves =
      let t = c.args.self.now in
      quiet_leaves c.args.self.now _ c.drop_range.ensures.quiet refl refl refl refl
      (g.met.D.Disk.same_self c.args.self.now.log.disk)
      (ap pages_of_tables (rows_dropped (log_now t.log) (log_now c.drop_range.new.log) c.args.from c.args.to c.drop_range.ensures.dropped));
  states = refl;
  image = drop_image c.args.self.now c.drop_range.new.log c.drop_range.ensures.quiet;
  running = c.drop_range.ensures.quiet.running;
}
