use Rattle.std.proofs.Common.{◌≡◌, ◌+◌, List, inl, inr, sym, ◌∙◌, ap, subst, arith, rules}
use Rattle.std.proofs.lemmas.Result.{on_ok_weaker}
use Rattle.cluster_space.specs.declared.state.State.{State}
use Rattle.cluster_space.specs.States.{free_in, deferred_in}
use Rattle.volume_inside.specs.Shows.{Kept}
use Rattle.volume_tables.specs.Tables.{area_of, states_of, staged_of, IsTables, GoesOn}
use Rattle.volume_tables.specs.Pending.{Pending}
use Rattle.volume_tables.proofs.Freed.{released_free, both_ok, worn_then}
use Rattle.volume_tables.proofs.Roomed.{unless_stopped, stopped_by, released_counts}
use Rattle.volume_tables.proofs.tables.Tables.ensure_room.Goals as goal

pub returns : goal.returns
returns g c =
    let t = c.args.self.now in
    let u = c.commit.new.self in
    let r = c.commit.result in
    let s = c.commit.ensures in
    record {
      room =
          on_ok_weaker r
          (λ both.
          (let free : free_in (states_of u) ≡ free_in (states_of t) + deferred_in (states_of t) = ap
          (λ (xs : List State). free_in xs) both.0 ∙ released_free (states_of t) in
          let none : staged_of u ≡ 0 = ap (λ (p : Pending). p.staged) both.1 in
          record {
            records_fit = omega (arith, none, c.requires.records);
            clusters_fit = omega (arith, free, c.if-clusters-free.false, c.free_count.ensures, c.deferred_count.ensures);
          }))
          (both_ok _ _ r s.freed s.pending);
      moments = s.moments;
      goes_on = λ stored w is kept.
          unless_stopped t u r s.refused (λ f. (s.failed f).1) (GoesOn t u stored w)
          (on_ok_weaker r (λ both. inr both) (both_ok _ _ r (s.tables stored is) (s.kept stored w is kept)))
          (λ worn. inl (
            s.still_stored stored is worn,
            subst (λ (x : g.row.D.Denot). Kept (area_of t) (g.D.Disk.state x) w)
                (sym (s.unspent worn).0) kept,
          ));
      now = s.now;
      inside = s.inside;
      frame = s.frame;
      clusters = s.clusters;
      checkpoint = s.checkpoint;
      same = s.same;
      counts =
          unless_stopped t u r s.refused (λ f. (s.failed f).1)
          (free_in (states_of u) + deferred_in (states_of u) ≡ free_in (states_of t) + deferred_in (states_of t))
          (on_ok_weaker r (λ freed. released_counts (states_of t) (states_of u) freed) s.freed)
          (λ worn. ap (λ (xs : List State). free_in xs + deferred_in xs) (s.unspent worn).1);
      full = search rules;
      untouched = search rules;
      fits = λ enough. s.refused;
      at_once = search rules;
      worn = s.worn.0;
      wears = λ more enough wears. s.worn.1 wears;
      pending = λ more. s.pending;
      tired = s.tired;
      same_epoch = s.same_epoch;
      unspent = worn_then _ r s.refused s.unspent;
      still_stored = λ stored is.
          worn_then (IsTables u stored) r s.refused (λ worn. s.still_stored stored is worn);
      failed = s.failed;
      runs = s.runs;
      stops = stopped_by t u r s.refused (λ f. (s.failed f).1) s.runs s.still_runs;
      tells = s.tells;
      moment = s.moment;
      later = s.later;
    }
