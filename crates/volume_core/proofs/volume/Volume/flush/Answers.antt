use Rattle.std.proofs.Common.{◌≡◌, ◌+◌, ◌∙◌, List, OnOk, inl, inr, ap, refl, sym, subst}
use Rattle.std.proofs.lemmas.Result.{on_ok_weaker}
use Rattle.cluster_space.specs.declared.state.State.{State}
use Rattle.cluster_space.specs.States.{free_in, deferred_in}
use Rattle.volume_inside.specs.Shows.{Area, Kept}
use Rattle.volume_inside.specs.View.{view}
use Rattle.volume_tables.specs.Tables.{inside_now, states_of, stopped, disk_of, view_now, area_of}
use Rattle.volume_tables.specs.Tables.{would_wear, GoesOn}
use Rattle.volume_tables.proofs.Freed.{both_ok}
use Rattle.volume_tables.proofs.Roomed.{unless_stopped, released_counts, commit_epoch, commit_tires, commit_stands}
use Rattle.volume_tables.proofs.Endured.{endures_room}
use Rattle.volume_tables.proofs.Spared.{spares_commit}
use Rattle.volume_tables.specs.Pending.{due_in}
use Rattle.volume_core.proofs.Flushed.{flush_leaves, flush_reply, flush_stops, flush_undamaged, flush_want, kept_now}
use Rattle.volume_core.proofs.Flushed.{ok_known, err_known, sound_still}
use Rattle.plain_volume.specs.declared.call.Call.TheVariants.{Flush}
use Rattle.volume_tables.proofs.Leaving.{area_same}
use Rattle.plain_volume.specs.Replies.{done_reply}
use Rattle.volume_tables.specs.declared.tables.Tables.{Tables}
use Rattle.plain_volume.specs.Step.{after}
use Rattle.plain_volume.specs.Volume.{Volume as PlainVolume}
use Rattle.volume_tables.specs.Sound.{IsKept}
use Rattle.volume_core.specs.Volumes.{tables_of}
use Rattle.volume_core.proofs.Adding.{commit_adds}
use Rattle.volume_core.proofs.Lent.{lent_sound, lent_kept, lent_runs, lent_endures, lent_replied, lent_moves}
use Rattle.volume_core.proofs.Moving.{moves, told_done, after_none}
use Rattle.volume_core.proofs.Settled.{ok_all}
use Rattle.volume_core.proofs.Waiting.{commit_waits}
use Rattle.volume_core.proofs.Stored.{committed_state}
use Rattle.volume_core.proofs.volume.Volume.flush.Goals as goal

pub commit-requires-clause-maps : goal.commit-requires-clause-maps
commit-requires-clause-maps g c =
    let a = c.tables_mut.result.now in
    let sound = lent_sound (tables_of c.args.self.now) a a c.tables_mut.ensures.tables c.args.self.now.sound in
    sound.maps

pub invariant_of-self : goal.invariant_of-self
invariant_of-self g c =
    let t = tables_of c.args.self.now in
    let a = c.tables_mut.result.now in
    let u = c.commit.new.self in
    let same = c.tables_mut.ensures.tables in
    let s = c.commit.ensures in
    record {
      sound = sound_still a u (lent_sound t a u same c.args.self.now.sound) s.clusters s.now s.inside s.tells
          (unless_stopped a u c.commit.result s.refused (λ f. (s.failed f).1)
          (free_in (states_of u) + deferred_in (states_of u) ≡ free_in (states_of a) + deferred_in (states_of a))
          (on_ok_weaker c.commit.result (λ freed. released_counts (states_of a) (states_of u) freed) s.freed)
          (λ worn. ap (λ (xs : List State). free_in xs + deferred_in xs) (s.unspent worn).1))
          (λ runs. lent_runs t a u same c.requires.running);
    }

pub returns-clause-durable : goal.returns-clause-durable
returns-clause-durable g c =
    let t = tables_of c.args.self.now in
    let a = c.tables_mut.result.now in
    let u = c.commit.new.self in
    let same = c.tables_mut.ensures.tables in
    let s = c.commit.ensures in
    subst (λ (x : Tables g.row.D.Denot g.D.Disk). (w : PlainVolume) → IsKept x w
    → OnOk c.commit.result (IsKept u (view_now x))) same
    (λ w kept. on_ok_weaker c.commit.result (λ both. kept_now a u (view_now a) s.clusters both.0 both.1)
    (both_ok _ _ c.commit.result (s.tables kept.stored kept.tables) (s.kept kept.stored w kept.tables kept.kept)))

pub returns-clause-endures : goal.returns-clause-endures
returns-clause-endures g c =
    let t = tables_of c.args.self.now in
    let a = c.tables_mut.result.now in
    let u = c.commit.new.self in
    let same = c.tables_mut.ensures.tables in
    let s = c.commit.ensures in
    lent_endures t a u same
    (endures_room a u s.clusters s.moments
    (λ stored w is kept. unless_stopped a u c.commit.result s.refused (λ f. (s.failed f).1) (GoesOn a u stored w)
    (on_ok_weaker c.commit.result (λ both. inr both)
    (both_ok _ _ c.commit.result (s.tables stored is) (s.kept stored w is kept)))
    (λ worn. inl (
      s.still_stored stored is worn,
      subst (λ (x : g.row.D.Denot). Kept (area_of a) (g.D.Disk.state x) w) (sym (s.unspent worn).0) kept,
    )))
    s.later s.same
    (commit_stands a u c.commit.result s.refused (λ f. (s.failed f).1) s.pending s.tired s.worn.0 s.same_epoch)
    (commit_epoch a u c.commit.result s.refused (λ f. (s.failed f).1) s.pending s.tired s.worn.0)
    (commit_tires a u c.commit.result s.refused (λ f. (s.failed f).1) s.pending s.tired s.worn.0))

pub returns-clause-adds : goal.returns-clause-adds
returns-clause-adds g c =
    let a = c.tables_mut.result.now in
    let u = c.commit.new.self in
    let s = c.commit.ensures in
    commit_adds _ _ Flush a c.tables_mut.ensures.tables refl s.now
    (commit_epoch a u c.commit.result s.refused (λ f. (s.failed f).1) s.pending s.tired s.worn.0)
    (commit_tires a u c.commit.result s.refused (λ f. (s.failed f).1) s.pending s.tired s.worn.0)

pub returns-clause-reply : goal.returns-clause-reply
returns-clause-reply g c =
    let t = tables_of c.args.self.now in
    let a = c.tables_mut.result.now in
    let u = c.commit.new.self in
    let same = c.tables_mut.ensures.tables in
    let s = c.commit.ensures in
    lent_replied t a u same c.args.self.now.sound Flush (done_reply c.commit.result)
    (flush_reply (view_now a) (would_wear a) (disk_of a).faults (disk_of u).faults c.commit.result
    s.worn s.refused (λ f. (s.failed f).0))

pub returns-clause-left : goal.returns-clause-left
returns-clause-left g c =
    let t = tables_of c.args.self.now in
    let a = c.tables_mut.result.now in
    let u = c.commit.new.self in
    let same = c.tables_mut.ensures.tables in
    let s = c.commit.ensures in
    subst (λ (x : Tables g.row.D.Denot g.D.Disk). view_now u ≡ after (view_now x) Flush (done_reply c.commit.result)) same
    (flush_leaves (view_now a) (view_now u) c.commit.result (ap view s.inside))

pub returns-clause-want : goal.returns-clause-want
returns-clause-want g c = flush_want (would_wear (tables_of c.args.self.now))

pub returns-clause-moves : goal.returns-clause-moves
returns-clause-moves g c =
    let t = tables_of c.args.self.now in
    let a = c.tables_mut.result.now in
    let u = c.commit.new.self in
    let same = c.tables_mut.ensures.tables in
    let s = c.commit.ensures in
    let waits = commit_waits a (lent_sound t a u same c.args.self.now.sound) u c.commit.result
    (lent_runs t a u same c.requires.running) s.pending s.tired in
    lent_moves t a u same Flush (done_reply c.commit.result)
    (moves a u Flush c.commit.result refl
    (told_done Flush a u s.clusters c.commit.result (ok_known c.commit.result (inside_now u ≡ inside_now a) s.inside)
    (err_known c.commit.result (inside_now u ≡ inside_now a) s.inside) waits.done waits.worn
    (λ place is. absurd (flush_undamaged c.commit.result s.refused place is))
    (spares_commit a u c.commit.result s.refused s.same_epoch))
    (s.inside ∙ sym (after_none Flush (done_reply c.commit.result) (inside_now a) refl)) s.clusters
    (λ is. ap done_reply (flush_stops (stopped u) c.commit.result s.runs s.refused s.still_runs is))
    (commit_stands a u c.commit.result s.refused (λ f. (s.failed f).1) s.pending s.tired s.worn.0 s.same_epoch)
    (commit_epoch a u c.commit.result s.refused (λ f. (s.failed f).1) s.pending s.tired s.worn.0))

pub returns-clause-nothing_due : goal.returns-clause-nothing_due
returns-clause-nothing_due g c = on_ok_weaker c.commit.result (λ is. ap due_in is) c.commit.ensures.pending

pub returns-clause-halts : goal.returns-clause-halts
returns-clause-halts g c failed = (c.commit.ensures.failed failed).1

pub returns-clause-stored : goal.returns-clause-stored
returns-clause-stored g c w kept_t =
    let t = tables_of c.args.self.now in
    let a = c.tables_mut.result.now in
    let u = c.commit.new.self in
    let same = c.tables_mut.ensures.tables in
    let s = c.commit.ensures in
    let kept = lent_kept t a u same w kept_t in
    ok_all c.commit.result _ _ _ _
    (λ is shows waits. committed_state a u (view_now a) (lent_sound t a u same c.args.self.now.sound)
    (lent_runs t a u same c.requires.running) s.clusters s.now is
    (subst (λ (x : Area). Kept x (disk_of u) (view_now a)) (sym (area_same a u s.clusters)) shows) waits)
    (s.tables kept.stored kept.tables) (s.kept kept.stored w kept.tables kept.kept) s.pending
