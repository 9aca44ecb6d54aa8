use Rattle.std.proofs.Common.{arith, refl}
use Rattle.volume_inside.specs.Typed.{typed_of}
use Rattle.volume_inside.specs.Changes.{with_file}
use Rattle.table_records.specs.Tables.{file_codec}
use Rattle.volume_tables.specs.Log.{log_now}
use Rattle.volume_tables.proofs.Answers.{as_true}
use Rattle.volume_tables.proofs.WellFormed.{apart, files_table}
use Rattle.volume_tables.proofs.Puts.{file_put}
use Rattle.volume_tables.proofs.Sizes.{file_key}
use Rattle.volume_tables.proofs.Held.{held_same}
use Rattle.volume_tables.proofs.Setting.{entry_set, entry_contents, entry_held, entry_few, entry_now, entry_kept, entry_pages}
use Rattle.volume_tables.proofs.Counts.{entry_named}
use Rattle.volume_tables.proofs.Leaving.{quiet_leaves}
use Rattle.volume_tables.proofs.tables.Tables.set_file.Goals as goal

pub invariant_of-self-clause-contents : goal.invariant_of-self-clause-contents
invariant_of-self-clause-contents g c =
    entry_contents file_codec c.args.self.now c.put.new.log c.args.id c.args.file c.put.result c.put.ensures
    (apart 3 1 refl) (apart 3 9 refl) (apart 3 10 refl) files_table.joins

pub invariant_of-self-clause-held : goal.invariant_of-self-clause-held
invariant_of-self-clause-held g c =
    let t = c.args.self.now in
    entry_held file_codec t c.put.new.log c.args.id c.args.file c.put.result c.put.ensures
    (with_file c.args.id c.args.file (typed_of (log_now t.log)))
    (held_same t.clusters t.space (typed_of (log_now t.log)) t.held
    (with_file c.args.id c.args.file (typed_of (log_now t.log))) refl)
    (file_put (log_now t.log) (log_now c.put.new.log) (as_true t.contents.sorted) c.args.id c.args.file)

pub invariant_of-self-clause-few : goal.invariant_of-self-clause-few
invariant_of-self-clause-few g c running worn =
    let key = file_key c.put.ensures.key c.args.id c.put.ensures.spells in
    let value = files_table.sized c.put.ensures.value c.put.ensures.whole in
    entry_few file_codec c.args.self.now c.put.new.log c.args.id c.args.file c.put.result c.put.ensures 38
    (omega (arith, key, value)) c.requires

pub invariant_of-self-clause-named : goal.invariant_of-self-clause-named
invariant_of-self-clause-named g c =
    entry_named c.args.self.now c.put.new.log file_codec
    (apart 3 2 refl) c.args.id c.args.file c.put.result c.put.ensures

pub returns : goal.returns
returns g c = record {
  ok =
      let t = c.args.self.now in
      entry_now file_codec t c.put.new.log c.args.id c.args.file c.put.result c.put.ensures
      (with_file c.args.id c.args.file) (λ x. refl)
      (file_put (log_now t.log) (log_now c.put.new.log) (as_true t.contents.sorted) c.args.id c.args.file);
  err = entry_kept file_codec c.args.self.now c.put.new.log c.args.id c.args.file c.put.result c.put.ensures;
  set =
      entry_set file_codec 24 files_table c.args.self.now c.put.new.log c.args.id c.args.file c.put.result
      (as_true c.args.self.now.contents.sorted) c.put.ensures 9
      (file_key c.put.ensures.key c.args.id c.put.ensures.spells) 38 refl;
  leaves =
      let t = c.args.self.now in
      quiet_leaves c.args.self.now _ c.put.ensures.quiet refl refl refl refl (g.met.D.Disk.same_self c.args.self.now.log.disk)
      (entry_pages file_codec t c.put.new.log c.args.id c.args.file c.put.result c.put.ensures
      (with_file c.args.id c.args.file) (λ x. refl)
      (file_put (log_now t.log) (log_now c.put.new.log) (as_true t.contents.sorted) c.args.id c.args.file));
  states = refl;
}
