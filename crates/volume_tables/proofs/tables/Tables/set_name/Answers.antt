use Rattle.std.proofs.Common.{◌+◌, ◌∙◌, ap, length, arith, refl}
use Rattle.byte_map.specs.Words.{Map}
use Rattle.volume_inside.specs.Typed.{typed_of}
use Rattle.volume_inside.specs.Changes.{with_name}
use Rattle.table_records.specs.Tables.{name_codec}
use Rattle.volume_tables.specs.Log.{log_now}
use Rattle.volume_tables.proofs.Answers.{as_true}
use Rattle.volume_tables.proofs.WellFormed.{apart, names_table}
use Rattle.volume_tables.proofs.Puts.{name_put}
use Rattle.volume_tables.proofs.Sizes.{name_key}
use Rattle.volume_tables.proofs.Held.{held_same}
use Rattle.volume_tables.proofs.Setting.{entry_set, entry_contents, entry_held, entry_few, entry_now, entry_kept, entry_pages}
use Rattle.volume_tables.proofs.Counts.{told_names, name_others}
use Rattle.volume_tables.proofs.Leaving.{quiet_leaves}
use Rattle.volume_tables.proofs.tables.Tables.set_name.Goals as goal

pub invariant_of-self-clause-contents : goal.invariant_of-self-clause-contents
invariant_of-self-clause-contents g c =
    entry_contents name_codec c.args.self.now c.put_name-answer.new.log c.args.name.now c.args.id
    c.put_name-answer.result c.put_name-answer.ensures (apart 2 1 refl) (apart 2 9 refl)
    (apart 2 10 refl) names_table.joins

pub invariant_of-self-clause-held : goal.invariant_of-self-clause-held
invariant_of-self-clause-held g c =
    let t = c.args.self.now in
    entry_held name_codec t c.put_name-answer.new.log c.args.name.now c.args.id c.put_name-answer.result
    c.put_name-answer.ensures (with_name c.args.name.now c.args.id (typed_of (log_now t.log)))
    (held_same t.clusters t.space (typed_of (log_now t.log)) t.held
    (with_name c.args.name.now c.args.id (typed_of (log_now t.log))) refl)
    (name_put (log_now t.log) (log_now c.put_name-answer.new.log) (as_true t.contents.sorted) c.args.name.now c.args.id)

pub invariant_of-self-clause-few : goal.invariant_of-self-clause-few
invariant_of-self-clause-few g c running worn =
    let key = name_key c.put_name-answer.ensures.key c.args.name.now c.put_name-answer.ensures.spells in
    let value = names_table.sized c.put_name-answer.ensures.value c.put_name-answer.ensures.whole in
    entry_few name_codec c.args.self.now c.put_name-answer.new.log c.args.name.now c.args.id c.put_name-answer.result
    c.put_name-answer.ensures (14 + length c.args.name.now) (omega (arith, key, value)) c.requires.room

pub overflow_sub-self : goal.overflow_sub-self
overflow_sub-self g c =
    let t = c.args.self.now in
    let log = c.put_name-answer.new.log in
    let after = entry_contents name_codec t log c.args.name.now c.args.id c.put_name-answer.result
    c.put_name-answer.ensures (apart 2 1 refl) (apart 2 9 refl) (apart 2 10 refl) names_table.joins in
    (told_names t log c.other_pairs-others.result c.count.result after.spelled
    (name_others t log c.args.name.now c.args.id c.put_name-answer.result c.put_name-answer.ensures)
    c.other_pairs-others.ensures (c.count.ensures.count ∙ ap (λ (m : Map). length m) c.pairs.ensures)).0

pub invariant_of-self-clause-named : goal.invariant_of-self-clause-named
invariant_of-self-clause-named g c =
    let t = c.args.self.now in
    let log = c.put_name-answer.new.log in
    let after = entry_contents name_codec t log c.args.name.now c.args.id c.put_name-answer.result
    c.put_name-answer.ensures (apart 2 1 refl) (apart 2 9 refl) (apart 2 10 refl) names_table.joins in
    (told_names t log c.other_pairs-others.result c.count.result after.spelled
    (name_others t log c.args.name.now c.args.id c.put_name-answer.result c.put_name-answer.ensures)
    c.other_pairs-others.ensures (c.count.ensures.count ∙ ap (λ (m : Map). length m) c.pairs.ensures)).1

pub returns : goal.returns
returns g c = record {
  ok =
      let t = c.args.self.now in
      entry_now name_codec t c.put_name-answer.new.log c.args.name.now c.args.id c.put_name-answer.result
      c.put_name-answer.ensures (with_name c.args.name.now c.args.id) (λ x. refl)
      (name_put (log_now t.log) (log_now c.put_name-answer.new.log) (as_true t.contents.sorted) c.args.name.now c.args.id);
  err = entry_kept name_codec c.args.self.now c.put_name-answer.new.log c.args.name.now c.args.id c.put_name-answer.result
      c.put_name-answer.ensures;
  set =
      entry_set name_codec 8 names_table c.args.self.now c.put_name-answer.new.log c.args.name.now c.args.id
      c.put_name-answer.result (as_true c.args.self.now.contents.sorted) c.put_name-answer.ensures
      (length c.args.name.now + 1)
      (name_key c.put_name-answer.ensures.key c.args.name.now c.put_name-answer.ensures.spells)
      (14 + length c.args.name.now) (omega arith);
  leaves =
      let t = c.args.self.now in
      quiet_leaves c.args.self.now _ c.put_name-answer.ensures.quiet refl refl refl refl
      (g.met.D.Disk.same_self c.args.self.now.log.disk)
      (entry_pages name_codec t c.put_name-answer.new.log c.args.name.now c.args.id c.put_name-answer.result
      c.put_name-answer.ensures (with_name c.args.name.now c.args.id) (λ x. refl)
      (name_put (log_now t.log) (log_now c.put_name-answer.new.log) (as_true t.contents.sorted) c.args.name.now c.args.id));
  states = refl;
}
