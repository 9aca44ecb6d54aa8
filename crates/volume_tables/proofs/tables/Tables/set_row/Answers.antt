use Rattle.std.proofs.Common.{arith, refl}
use Rattle.volume_inside.specs.Typed.{typed_of}
use Rattle.volume_inside.specs.Changes.{with_row}
use Rattle.table_records.specs.Tables.{row_codec}
use Rattle.volume_tables.specs.Log.{log_now}
use Rattle.volume_tables.proofs.Answers.{as_true}
use Rattle.volume_tables.proofs.WellFormed.{apart, rows_table}
use Rattle.volume_tables.proofs.Puts.{row_put}
use Rattle.volume_tables.proofs.Sizes.{row_key}
use Rattle.volume_tables.proofs.Held.{held_same}
use Rattle.volume_tables.proofs.Setting.{entry_set, entry_contents, entry_held, entry_few, entry_now, entry_kept, entry_pages}
use Rattle.volume_tables.proofs.Counts.{entry_named}
use Rattle.volume_tables.proofs.Leaving.{quiet_leaves}
use Rattle.volume_tables.proofs.tables.Tables.set_row.Goals as goal

pub put-requires : goal.put-requires
put-requires g c b w key value =
    let long = row_key b c.args.id key in
    let size = rows_table.sized w value in
    omega (arith, long, size, c.requires)

pub invariant_of-self-clause-contents : goal.invariant_of-self-clause-contents
invariant_of-self-clause-contents g c =
    entry_contents row_codec c.args.self.now c.put.new.log c.args.id c.args.row c.put.result c.put.ensures
    (apart 5 1 refl) (apart 5 9 refl) (apart 5 10 refl) rows_table.joins

pub invariant_of-self-clause-held : goal.invariant_of-self-clause-held
invariant_of-self-clause-held g c =
    let t = c.args.self.now in
    entry_held row_codec t c.put.new.log c.args.id c.args.row c.put.result c.put.ensures
    (with_row c.args.id c.args.row (typed_of (log_now t.log)))
    (held_same t.clusters t.space (typed_of (log_now t.log)) t.held
    (with_row c.args.id c.args.row (typed_of (log_now t.log))) refl)
    (row_put (log_now t.log) (log_now c.put.new.log) (as_true t.contents.sorted) c.args.id c.args.row)

pub invariant_of-self-clause-few : goal.invariant_of-self-clause-few
invariant_of-self-clause-few g c running worn =
    let key = row_key c.put.ensures.key c.args.id c.put.ensures.spells in
    let value = rows_table.sized c.put.ensures.value c.put.ensures.whole in
    entry_few row_codec c.args.self.now c.put.new.log c.args.id c.args.row c.put.result c.put.ensures 64
    (omega (arith, key, value)) c.requires

pub invariant_of-self-clause-named : goal.invariant_of-self-clause-named
invariant_of-self-clause-named g c =
    entry_named c.args.self.now c.put.new.log row_codec
    (apart 5 2 refl) c.args.id c.args.row c.put.result c.put.ensures

pub returns : goal.returns
returns g c = record {
  ok =
      let t = c.args.self.now in
      entry_now row_codec t c.put.new.log c.args.id c.args.row c.put.result c.put.ensures
      (with_row c.args.id c.args.row) (λ x. refl)
      (row_put (log_now t.log) (log_now c.put.new.log) (as_true t.contents.sorted) c.args.id c.args.row);
  err = entry_kept row_codec c.args.self.now c.put.new.log c.args.id c.args.row c.put.result c.put.ensures;
  set =
      entry_set row_codec 50 rows_table c.args.self.now c.put.new.log c.args.id c.args.row c.put.result
      (as_true c.args.self.now.contents.sorted) c.put.ensures 9
      (row_key c.put.ensures.key c.args.id c.put.ensures.spells) 64 refl;
  leaves =
      let t = c.args.self.now in
      quiet_leaves c.args.self.now _ c.put.ensures.quiet refl refl refl refl (g.met.D.Disk.same_self c.args.self.now.log.disk)
      (entry_pages row_codec t c.put.new.log c.args.id c.args.row c.put.result c.put.ensures
      (with_row c.args.id c.args.row) (λ x. refl)
      (row_put (log_now t.log) (log_now c.put.new.log) (as_true t.contents.sorted) c.args.id c.args.row));
  states = refl;
}
