use Rattle.std.proofs.Common.{ℕ, arith, refl, subst, sym}
use Rattle.std.specs.Prelude.{not}
use Rattle.std.specs.Ordering.{nat_cmp}
use Rattle.volume_inside.specs.Tails.{AreTailsFree}
use Rattle.volume_inside.specs.Typed.{Typed, typed_of}
use Rattle.volume_inside.proofs.TailsOn.{tails_without_containers}
use Rattle.volume_inside.specs.Changes.{keep_containers}
use Rattle.table_records.specs.Changes.{is_in_range}
use Rattle.table_records.specs.Tables.{container_codec}
use Rattle.volume_tables.specs.Clusters.{AreHeld}
use Rattle.volume_tables.specs.Log.{log_now}
use Rattle.volume_tables.proofs.WellFormed.{apart}
use Rattle.volume_tables.proofs.Puts.{containers_dropped}
use Rattle.volume_tables.proofs.RangeEnds.{end_exact}
use Rattle.volume_tables.proofs.Sizes.{container_key, end_size}
use Rattle.volume_tables.proofs.Held.{held_same}
use Rattle.volume_tables.proofs.Setting.{drop_contents, drop_checkpoint, drop_now, drop_image}
use Rattle.volume_tables.proofs.Counts.{drop_named}
use Rattle.volume_tables.proofs.Leaving.{staged_leaves}
use Rattle.volume_tables.proofs.Tailed.{not_false}
use Rattle.volume_tables.proofs.tables.Tables.drop_container.Goals as goal

pub drop_range-requires : goal.drop_range-requires
drop_range-requires g c b w key ends =
    let low = container_key b c.args.from key in
    let high = end_size container_codec 9 container_key (omega arith) c.args.to w ends in
    omega (arith, low, high, c.requires.room)

pub invariant_of-self-clause-contents : goal.invariant_of-self-clause-contents
invariant_of-self-clause-contents g c =
    drop_contents container_codec c.args.self.now c.drop_range.new.log c.args.from c.args.to c.drop_range.ensures
    (apart 7 1 refl) (apart 7 9 refl) (apart 7 10 refl)

pub invariant_of-self-clause-held : goal.invariant_of-self-clause-held
invariant_of-self-clause-held g c =
    let t = c.args.self.now in
    subst (λ (x : Typed). AreHeld t.clusters t.space x)
    (sym (containers_dropped (log_now t.log)
    (log_now c.drop_range.new.log) c.args.from c.args.to c.drop_range.ensures.dropped))
    (held_same t.clusters t.space (typed_of (log_now t.log)) t.held
    (keep_containers (λ k. not (is_in_range nat_cmp c.args.from c.args.to k)) (typed_of (log_now t.log))) refl)

pub invariant_of-self-clause-few : goal.invariant_of-self-clause-few
invariant_of-self-clause-few g c running worn =
    let p = c.drop_range.ensures in
    let low = container_key p.dropped.low c.args.from p.dropped.begins in
    let high = end_size container_codec 9 container_key (omega arith) c.args.to p.dropped.high p.dropped.ends in
    omega (arith, low, high, p.taken, c.requires.room)

pub invariant_of-self-clause-named : goal.invariant_of-self-clause-named
invariant_of-self-clause-named g c = drop_named c.args.self.now c.drop_range.new.log container_codec
    (apart 7 2 refl) c.args.from c.args.to c.drop_range.ensures

pub returns : goal.returns
returns g c = record {
  tables =
      let t = c.args.self.now in
      drop_now container_codec t c.drop_range.new.log c.args.from c.args.to c.drop_range.ensures
      (keep_containers (λ k. not (is_in_range nat_cmp c.args.from c.args.to k))) (λ x. refl)
      (containers_dropped (log_now t.log) (log_now c.drop_range.new.log) c.args.from c.args.to c.drop_range.ensures.dropped);
  checkpoint =
      drop_checkpoint container_codec c.args.self.now c.drop_range.new.log c.args.from c.args.to c.drop_range.ensures;
  staged =
      let p = c.drop_range.ensures in
      let low = container_key p.dropped.low c.args.from p.dropped.begins in
      let high = end_exact container_codec 9 container_key c.args.to p.dropped.high p.dropped.ends in
      omega (arith, low, high, p.taken);
  leaves =
      let t = c.args.self.now in
      let test = λ (id : ℕ). not (is_in_range nat_cmp c.args.from c.args.to id) in
      staged_leaves t _ c.drop_range.ensures.quiet refl (λ k at. at) refl refl (g.met.D.Disk.same_self t.log.disk)
      (λ stored is. subst (λ (q : Typed). AreTailsFree stored q.chunks)
      (sym (containers_dropped (log_now t.log) (log_now c.drop_range.new.log) c.args.from c.args.to
      c.drop_range.ensures.dropped))
      (tails_without_containers stored (typed_of (log_now t.log)) test
      (λ k gone. c.requires.bare k (not_false (is_in_range nat_cmp c.args.from c.args.to k.0) gone)) is.tails));
  states = refl;
  image = drop_image c.args.self.now c.drop_range.new.log c.drop_range.ensures.quiet;
  running = c.drop_range.ensures.quiet.running;
}
