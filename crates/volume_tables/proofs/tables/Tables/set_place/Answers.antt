use Rattle.std.proofs.Common.{arith, refl}
use Rattle.volume_inside.specs.Typed.{typed_of}
use Rattle.volume_inside.specs.Changes.{with_place}
use Rattle.table_records.specs.Tables.{place_codec}
use Rattle.volume_tables.specs.Log.{log_now}
use Rattle.volume_tables.proofs.Answers.{as_true}
use Rattle.volume_tables.proofs.WellFormed.{apart, places_table}
use Rattle.volume_tables.proofs.Puts.{place_put}
use Rattle.volume_tables.proofs.Sizes.{place_key}
use Rattle.volume_tables.proofs.Held.{held_same}
use Rattle.volume_tables.proofs.Setting.{entry_set, entry_contents, entry_held, entry_few, entry_now, entry_kept, entry_pages}
use Rattle.volume_tables.proofs.Counts.{entry_named}
use Rattle.volume_tables.proofs.Leaving.{quiet_leaves}
use Rattle.volume_tables.proofs.tables.Tables.set_place.Goals as goal

pub put-requires : goal.put-requires
put-requires g c b w key value =
    let long = place_key b (c.args.key.0, c.args.key.1) key in
    let size = places_table.sized w value in
    omega (arith, long, size, c.requires)

pub invariant_of-self-clause-contents : goal.invariant_of-self-clause-contents
invariant_of-self-clause-contents g c =
    entry_contents place_codec c.args.self.now c.put.new.log (c.args.key.0, c.args.key.1) c.args.place c.put.result c.put.ensures
    (apart 6 1 refl) (apart 6 9 refl) (apart 6 10 refl) places_table.joins

pub invariant_of-self-clause-held : goal.invariant_of-self-clause-held
invariant_of-self-clause-held g c =
    let t = c.args.self.now in
    entry_held place_codec t c.put.new.log (c.args.key.0, c.args.key.1) c.args.place c.put.result c.put.ensures
    (with_place (c.args.key.0, c.args.key.1) c.args.place (typed_of (log_now t.log)))
    (held_same t.clusters t.space (typed_of (log_now t.log)) t.held
    (with_place (c.args.key.0, c.args.key.1) c.args.place (typed_of (log_now t.log))) refl)
    (place_put (log_now t.log) (log_now c.put.new.log) (as_true t.contents.sorted) (c.args.key.0, c.args.key.1) c.args.place)

pub invariant_of-self-clause-few : goal.invariant_of-self-clause-few
invariant_of-self-clause-few g c running worn =
    let key = place_key c.put.ensures.key (c.args.key.0, c.args.key.1) c.put.ensures.spells in
    let value = places_table.sized c.put.ensures.value c.put.ensures.whole in
    entry_few place_codec c.args.self.now c.put.new.log (c.args.key.0, c.args.key.1) c.args.place c.put.result c.put.ensures 27
    (omega (arith, key, value)) c.requires

pub invariant_of-self-clause-named : goal.invariant_of-self-clause-named
invariant_of-self-clause-named g c =
    entry_named c.args.self.now c.put.new.log place_codec
    (apart 6 2 refl) (c.args.key.0, c.args.key.1) c.args.place c.put.result c.put.ensures

pub returns : goal.returns
returns g c = record {
  ok =
      let t = c.args.self.now in
      entry_now place_codec t c.put.new.log (c.args.key.0, c.args.key.1) c.args.place c.put.result c.put.ensures
      (with_place (c.args.key.0, c.args.key.1) c.args.place) (λ x. refl)
      (place_put (log_now t.log) (log_now c.put.new.log) (as_true t.contents.sorted) (c.args.key.0, c.args.key.1) c.args.place);
  err = entry_kept place_codec c.args.self.now c.put.new.log (c.args.key.0, c.args.key.1) c.args.place c.put.result c.put.ensures;
  set =
      entry_set place_codec 12 places_table c.args.self.now c.put.new.log (c.args.key.0, c.args.key.1) c.args.place c.put.result
      (as_true c.args.self.now.contents.sorted) c.put.ensures 10
      (place_key c.put.ensures.key (c.args.key.0, c.args.key.1) c.put.ensures.spells) 27 refl;
  leaves =
      let t = c.args.self.now in
      quiet_leaves c.args.self.now _ c.put.ensures.quiet refl refl refl refl (g.met.D.Disk.same_self c.args.self.now.log.disk)
      (entry_pages place_codec t c.put.new.log (c.args.key.0, c.args.key.1) c.args.place c.put.result c.put.ensures
      (with_place (c.args.key.0, c.args.key.1) c.args.place) (λ x. refl)
      (place_put (log_now t.log) (log_now c.put.new.log) (as_true t.contents.sorted) (c.args.key.0, c.args.key.1) c.args.place));
  states = refl;
}
