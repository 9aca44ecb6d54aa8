use Rattle.std.proofs.Common.{List, length, sym, ◌∙◌, ap, subst, refl, rules}
use Rattle.std.specs.Prelude.{map}
use Rattle.std.proofs.lemmas.Result.{on_ok_weaker, on_err_weaker}
use Rattle.byte_map.specs.Words.{Map}
use Rattle.cluster_space.specs.States.{released}
use Rattle.cluster_space.specs.declared.state.State.{State}
use Rattle.volume_inside.specs.Typed.{Typed, typed_of}
use Rattle.volume_inside.specs.Shows.{Kept, view_at}
use Rattle.volume_tables.specs.Clusters.{AreHeld}
use Rattle.volume_tables.specs.Log.{log_now, log_state}
use Rattle.volume_tables.specs.Tables.{disk_of, area_of, tables_now, with_ends}
use Rattle.volume_tables.proofs.Held.{held_released, held_same}
use Rattle.volume_tables.proofs.Freed.{both_ok}
use Rattle.volume_tables.proofs.Staged.{handed_back, handed_err}
use Rattle.volume_tables.proofs.Crashes.{commit_moments, commit_kept, commit_frame, commit_inside, commit_tables, commit_stored, committed}
use Rattle.volume_tables.proofs.Committing.{now_volume, worn_back}
use Rattle.volume_tables.proofs.Pended.{log_committed, log_worn}
use Rattle.volume_tables.proofs.Staged.{commit_handed}
use Rattle.volume_tables.proofs.tables.Tables.commit.Goals as goal

pub invariant_of-self-clause-named : goal.invariant_of-self-clause-named
invariant_of-self-clause-named g c =
    c.args.self.now.named ∙ sym (ap (λ (m : Map). length (typed_of m).names) c.commit.ensures.now
    ∙ ap (λ (q : Typed). length q.names) c.stage_ends.ensures.tables)

pub invariant_of-self-clause-held : goal.invariant_of-self-clause-held
invariant_of-self-clause-held g c =
    let t = c.args.self.now in
    subst (λ (p : List State × Typed). AreHeld t.clusters p.0 p.1)
    (λ i. (sym c.release_all.ensures i, sym (ap typed_of c.commit.ensures.now ∙ c.stage_ends.ensures.tables) i))
    (held_same t.clusters (map released t.space) (typed_of (log_now t.log))
    (held_released t.clusters t.space (typed_of (log_now t.log)) t.held) (tables_now t) refl)

pub invariant_of-self-in-Err-clause-named : goal.invariant_of-self-in-Err-clause-named
invariant_of-self-in-Err-clause-named g c =
    c.args.self.now.named ∙ sym (ap (λ (m : Map). length (typed_of m).names) c.commit.ensures.now
    ∙ ap (λ (q : Typed). length q.names) c.stage_ends.ensures.tables)

pub returns-in-Ok : goal.returns-in-Ok
returns-in-Ok g c =
    let t = c.args.self.now in
    let l = c.stage_ends.new.log in
    let s = c.stage_ends.ensures in
    let new = c.commit.new.self in
    let r = c.commit.ensures in
    let volume = now_volume t.clusters (log_now l) (tables_now t) s.tables s.there.spelled c.requires.rules in
    let tables = commit_tables t l s.quiet s.tables (log_now new) c.stage_ends.new.ends r.now s.ends in
    record {
      moments = λ stored w is kept.
          commit_moments t l s.quiet s.tables stored w (log_state new) volume (c.requires.maps is.log.stands.told) is kept (λ m log. r.moments m log);
      kept = λ stored w is kept.
          handed_back (Kept (area_of t) (log_state new) (view_at (tables_now t) (disk_of t).image)) c.commit.result _
          c.in-Ok.ensures
          (on_ok_weaker c.commit.result
          (λ settled. commit_kept t l s.quiet s.tables stored w (log_state new) volume (c.requires.maps is.log.stands.told) is kept settled)
          (r.settled is.map (s.quiet.log is.map is.log)));
      tables = λ stored is.
          committed t _ (log_now l)
          (handed_back _ c.commit.result _ c.in-Ok.ensures (r.ok is.map (s.quiet.log is.map is.log))) s.tables tables;
      still_stored = λ stored is worn. absurd (cc);
      now = tables;
      inside =
          commit_inside t l s.quiet s.tables (with_ends c.stage_ends.new.ends (typed_of (log_now new)))
          (log_state new).image tables r.outside;
      frame = commit_frame t l s.quiet s.tables (log_state new).image r.outside;
      clusters = refl;
      checkpoint = search rules;
      same = search rules;
      freed = search rules;
      pending =
          log_committed t l new s.quiet s.staged s.checkpoint c.stage_ends.new.ends s.ends c.release_all.new.self
          c.release_all.ensures c.if-self.false
          (handed_back _ c.commit.result _ c.in-Ok.ensures
          (both_ok _ _ c.commit.result r.epoch (both_ok _ _ c.commit.result r.next r.staged)));
      tired = λ worn. absurd (cc);
      same_epoch = tt;
      refused = tt;
      worn = search rules;
      unspent = λ worn. absurd (cc);
      failed = λ failed. absurd (cc);
      idle = search rules;
      idle_ok = λ none runs. refl;
      runs = search rules;
      still_runs = λ worn. absurd (cc);
      tells = r.tells ∙ ap (λ (x : g.row.D.Denot). (g.D.Disk.state x).tells) s.quiet.disk;
      moment = search rules;
      later = search rules;
    }

pub returns-in-Err : goal.returns-in-Err
returns-in-Err g c =
    let t = c.args.self.now in
    let l = c.stage_ends.new.log in
    let s = c.stage_ends.ensures in
    let new = c.commit.new.self in
    let r = c.commit.ensures in
    let volume = now_volume t.clusters (log_now l) (tables_now t) s.tables s.there.spelled c.requires.rules in
    let tables = commit_tables t l s.quiet s.tables (log_now new) c.stage_ends.new.ends r.now s.ends in
    record {
      moments = λ stored w is kept.
          commit_moments t l s.quiet s.tables stored w (log_state new) volume (c.requires.maps is.log.stands.told) is kept (λ m log. r.moments m log);
      kept = λ stored w is kept. tt;
      tables = λ stored is. tt;
      still_stored = λ stored is worn.
          commit_stored t l s.quiet s.tables _ (r.unspent (worn_back c.commit.result (sym c.in-Err.ensures ∙ worn))) refl
          refl stored is;
      now = tables;
      inside =
          commit_inside t l s.quiet s.tables (with_ends c.stage_ends.new.ends (typed_of (log_now new)))
          (log_state new).image tables r.outside;
      frame = commit_frame t l s.quiet s.tables (log_state new).image r.outside;
      clusters = refl;
      checkpoint = search rules;
      same = search rules;
      freed = tt;
      pending = tt;
      tired = λ worn.
          log_worn t l new s.quiet s.staged s.checkpoint c.stage_ends.new.ends s.ends c.is_worn-self.result
          (c.is_worn-self.ensures.1 (cc)) c.if-self.false
          (r.unspent (worn_back c.commit.result (sym c.in-Err.ensures ∙ worn)));
      same_epoch =
          handed_err _ c.commit.result _ c.in-Err.ensures
          (on_err_weaker c.commit.result (λ same. same ∙ s.quiet.place.epoch) r.same_epoch);
      refused = search rules;
      worn = search rules;
      unspent = search rules;
      failed = search rules;
      idle = search rules;
      idle_ok = search rules;
      runs = tt;
      still_runs = search rules;
      tells = r.tells ∙ ap (λ (x : g.row.D.Denot). (g.D.Disk.state x).tells) s.quiet.disk;
      moment = search rules;
      later = search rules;
    }

pub of_log-requires : goal.of_log-requires
of_log-requires g c = commit_handed c.commit.result c.commit.ensures.refused
