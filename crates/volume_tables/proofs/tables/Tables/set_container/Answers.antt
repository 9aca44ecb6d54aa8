use Rattle.std.proofs.Common.{inl, inr, subst, sym, arith, refl}
use Rattle.byte_map.specs.Words.{Map}
use Rattle.volume_inside.specs.Tails.{AreTailsFree}
use Rattle.volume_inside.specs.Typed.{Typed, typed_of}
use Rattle.volume_inside.proofs.TailsOn.{tails_with_container}
use Rattle.volume_inside.specs.Changes.{with_container}
use Rattle.table_records.specs.Tables.{container_codec}
use Rattle.volume_tables.specs.Log.{log_now}
use Rattle.volume_tables.proofs.Answers.{as_true, ok_or_err}
use Rattle.volume_tables.proofs.WellFormed.{apart, containers_table}
use Rattle.volume_tables.proofs.Puts.{container_put}
use Rattle.volume_tables.proofs.Sizes.{container_key}
use Rattle.volume_tables.proofs.Held.{held_same}
use Rattle.volume_tables.proofs.Setting.{as_put, entry_set, entry_contents, entry_held, entry_few, entry_now, entry_kept}
use Rattle.volume_tables.proofs.Counts.{entry_named}
use Rattle.volume_tables.proofs.Leaving.{staged_leaves}
use Rattle.volume_tables.proofs.tables.Tables.set_container.Goals as goal

pub put-requires : goal.put-requires
put-requires g c b w key value =
    let long = container_key b c.args.id key in
    let size = containers_table.sized w value in
    omega (arith, long, size, c.requires.room)

pub invariant_of-self-clause-contents : goal.invariant_of-self-clause-contents
invariant_of-self-clause-contents g c =
    entry_contents container_codec c.args.self.now c.put.new.log c.args.id c.args.container c.put.result c.put.ensures
    (apart 7 1 refl) (apart 7 9 refl) (apart 7 10 refl) containers_table.joins

pub invariant_of-self-clause-held : goal.invariant_of-self-clause-held
invariant_of-self-clause-held g c =
    let t = c.args.self.now in
    entry_held container_codec t c.put.new.log c.args.id c.args.container c.put.result c.put.ensures
    (with_container c.args.id c.args.container (typed_of (log_now t.log)))
    (held_same t.clusters t.space (typed_of (log_now t.log)) t.held
    (with_container c.args.id c.args.container (typed_of (log_now t.log))) refl)
    (container_put (log_now t.log) (log_now c.put.new.log) (as_true t.contents.sorted) c.args.id c.args.container)

pub invariant_of-self-clause-few : goal.invariant_of-self-clause-few
invariant_of-self-clause-few g c running worn =
    let key = container_key c.put.ensures.key c.args.id c.put.ensures.spells in
    let value = containers_table.sized c.put.ensures.value c.put.ensures.whole in
    entry_few container_codec c.args.self.now c.put.new.log c.args.id c.args.container c.put.result c.put.ensures 19
    (omega (arith, key, value)) c.requires.room

pub invariant_of-self-clause-named : goal.invariant_of-self-clause-named
invariant_of-self-clause-named g c =
    entry_named c.args.self.now c.put.new.log container_codec
    (apart 7 2 refl) c.args.id c.args.container c.put.result c.put.ensures

pub returns : goal.returns
returns g c = record {
  ok =
      let t = c.args.self.now in
      entry_now container_codec t c.put.new.log c.args.id c.args.container c.put.result c.put.ensures
      (with_container c.args.id c.args.container) (λ x. refl)
      (container_put (log_now t.log) (log_now c.put.new.log) (as_true t.contents.sorted) c.args.id c.args.container);
  err = entry_kept container_codec c.args.self.now c.put.new.log c.args.id c.args.container c.put.result c.put.ensures;
  set =
      entry_set container_codec 5 containers_table c.args.self.now c.put.new.log c.args.id c.args.container c.put.result
      (as_true c.args.self.now.contents.sorted) c.put.ensures 9
      (container_key c.put.ensures.key c.args.id c.put.ensures.spells) 19 refl;
  leaves =
      let t = c.args.self.now in
      staged_leaves t _ c.put.ensures.quiet refl (λ k at. at) refl refl (g.met.D.Disk.same_self t.log.disk)
      (λ stored is. elim (ok_or_err c.put.result
      (as_put container_codec c.args.id c.args.container t.log c.put.new.log c.put.result c.put.ensures)
      c.put.ensures.err) [
        | inl put ↦ subst (λ (q : Typed). AreTailsFree stored q.chunks)
            (sym (container_put (log_now t.log) (log_now c.put.new.log) (as_true t.contents.sorted) c.args.id
            c.args.container put))
            (tails_with_container stored (typed_of (log_now t.log)) c.args.id c.args.container is.tails
            c.requires.grows)
        | inr same ↦ subst (λ (m : Map). AreTailsFree stored (typed_of m).chunks) (sym same) is.tails
      ]);
  states = refl;
}
