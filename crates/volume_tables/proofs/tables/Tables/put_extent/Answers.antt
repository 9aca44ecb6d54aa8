use Rattle.std.proofs.Common.{arith, refl}
use Rattle.table_records.specs.Next.{sorted_typed}
use Rattle.table_records.specs.Tables.{extent_codec}
use Rattle.volume_inside.specs.Typed.{FileBlock, typed_of}
use Rattle.volume_inside.specs.Changes.{with_extent}
use Rattle.volume_tables.specs.Log.{log_now}
use Rattle.volume_tables.specs.Tables.{tables_now}
use Rattle.volume_tables.proofs.Answers.{as_true}
use Rattle.volume_tables.proofs.WellFormed.{apart, extents_table}
use Rattle.volume_tables.proofs.Puts.{extent_put}
use Rattle.volume_tables.proofs.Sizes.{extent_key}
use Rattle.volume_tables.proofs.Held.{held_set, same_others}
use Rattle.volume_tables.proofs.Setting.{entry_set, entry_contents, entry_held, entry_few, entry_now, entry_kept, entry_pages}
use Rattle.volume_tables.proofs.Counts.{entry_named}
use Rattle.volume_tables.proofs.Leaving.{quiet_leaves}
use Rattle.volume_tables.proofs.tables.Tables.put_extent.Goals as goal

pub put-requires : goal.put-requires
put-requires g c b w key value =
    let long = extent_key b (c.args.key.0, c.args.key.1) key in
    let size = extents_table.sized w value in
    omega (arith, long, size, c.requires.room)

pub invariant_of-self-clause-contents : goal.invariant_of-self-clause-contents
invariant_of-self-clause-contents g c =
    let k : FileBlock = (c.args.key.0, c.args.key.1) in
    entry_contents extent_codec c.args.self.now c.put.new.log k c.args.extent c.put.result c.put.ensures
    (apart 4 1 refl) (apart 4 9 refl) (apart 4 10 refl) extents_table.joins

pub invariant_of-self-clause-held : goal.invariant_of-self-clause-held
invariant_of-self-clause-held g c =
    let t = c.args.self.now in
    let k : FileBlock = (c.args.key.0, c.args.key.1) in
    let m = log_now t.log in
    entry_held extent_codec t c.put.new.log k c.args.extent c.put.result c.put.ensures
    (with_extent k c.args.extent (typed_of m))
    (held_set t.clusters t.space (typed_of m) t.held k c.args.extent
    (sorted_typed extent_codec m (as_true t.contents.sorted)) c.requires.below c.requires.used
    (same_others k c.args.extent.cluster (tables_now t) (typed_of m) refl refl c.requires.alone))
    (extent_put m (log_now c.put.new.log) (as_true t.contents.sorted) k c.args.extent)

pub invariant_of-self-clause-few : goal.invariant_of-self-clause-few
invariant_of-self-clause-few g c running worn =
    let k : FileBlock = (c.args.key.0, c.args.key.1) in
    let key = extent_key c.put.ensures.key k c.put.ensures.spells in
    let value = extents_table.sized c.put.ensures.value c.put.ensures.whole in
    entry_few extent_codec c.args.self.now c.put.new.log k c.args.extent c.put.result c.put.ensures 24
    (omega (arith, key, value)) c.requires.room

pub invariant_of-self-clause-named : goal.invariant_of-self-clause-named
invariant_of-self-clause-named g c =
    let k : FileBlock = (c.args.key.0, c.args.key.1) in
    entry_named c.args.self.now c.put.new.log extent_codec (apart 4 2 refl) k c.args.extent c.put.result c.put.ensures

pub returns : goal.returns
returns g c = record {
  ok =
      let t = c.args.self.now in
      let k : FileBlock = (c.args.key.0, c.args.key.1) in
      entry_now extent_codec t c.put.new.log k c.args.extent c.put.result c.put.ensures (with_extent k c.args.extent)
      (λ x. refl)
      (extent_put (log_now t.log) (log_now c.put.new.log) (as_true t.contents.sorted) k c.args.extent);
  err = entry_kept extent_codec c.args.self.now c.put.new.log (c.args.key.0, c.args.key.1) c.args.extent c.put.result
      c.put.ensures;
  set =
      let k : FileBlock = (c.args.key.0, c.args.key.1) in
      entry_set extent_codec 6 extents_table c.args.self.now c.put.new.log k c.args.extent c.put.result
      (as_true c.args.self.now.contents.sorted) c.put.ensures 13
      (extent_key c.put.ensures.key k c.put.ensures.spells) 24 refl;
  leaves =
      let t = c.args.self.now in
      let k : FileBlock = (c.args.key.0, c.args.key.1) in
      quiet_leaves c.args.self.now _ c.put.ensures.quiet refl refl refl refl (g.met.D.Disk.same_self c.args.self.now.log.disk)
      (entry_pages extent_codec t c.put.new.log k c.args.extent c.put.result c.put.ensures (with_extent k c.args.extent)
      (λ x. refl)
      (extent_put (log_now t.log) (log_now c.put.new.log) (as_true t.contents.sorted) k c.args.extent));
  states = refl;
}
