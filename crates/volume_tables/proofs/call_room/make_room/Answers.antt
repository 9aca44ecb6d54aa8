use Rattle.std.specs.Prelude.{IsTrue}
use Rattle.std.proofs.Common.{◌≡◌, ◌≤◌, ◌<◌, ◌+◌, true, inl, sym, ◌∙◌, ap, refl, arith}
use Rattle.std.proofs.lemmas.Result.{on_ok_weaker}
use Rattle.volume_inside.specs.Layout.{half_bytes}
use Rattle.volume_inside.specs.Rules.{next_id_of}
use Rattle.volume_inside.specs.Typed.{Typed}
use Rattle.cluster_space.specs.States.{free_in, deferred_in}
use Rattle.volume_tables.specs.Log.{log_epoch}
use Rattle.volume_tables.specs.Pending.{Pending, pending_of}
use Rattle.volume_tables.specs.Tables.{tables_now, states_of, checkpoint_of, would_wear, IsRoomFor}
use Rattle.volume_tables.specs.Wants.{Needs, last_id}
use Rattle.volume_tables.proofs.Endured.{endures_start, endures_room}
use Rattle.volume_tables.proofs.Roomed.{epoch_left, epoch_spent}
use Rattle.volume_tables.proofs.Spared.{spares_start, spares_room}
use Rattle.volume_tables.proofs.Wanted.{differ, free_counted, wants_id, wants_table, refused_by_room, none_by_room}
use Rattle.volume_tables.proofs.Committing.{worn_wears}
use Rattle.volume_tables.proofs.Wanted.{stands_by_room, room_left, roomed, worn_at_once, worn_by_commit}
use Rattle.volume_tables.proofs.Wanted.{sound_same}
use Rattle.volume_tables.proofs.call_room.make_room.Goals as goal
use Rattle.volume_tables.proofs.call_room.make_room.Goals.{else-draws-via-then-draws+else-stored_next_id-eq-LAST_ID, else-draws-via-else-draws}
use Rattle.volume_tables.proofs.call_room.make_room.Goals.{then-grows-half-via-then-grows-half, then-grows-half-via-else-grows-half+then-checkpoint_bytes-half}

pub returns-then-stored_next_id-eq-LAST_ID : goal.returns-then-stored_next_id-eq-LAST_ID
returns-then-stored_next_id-eq-LAST_ID g c =
    let t = c.args.tables.now in
    let n : Needs = record {
      draws = c.args.draws;
      grows = c.args.grows;
      records = c.args.records;
      clusters = c.args.clusters;
    } in
    record {
      refused = inl (wants_id t n c.if-draws.true
          (sym c.stored_next_id.ensures ∙ c.if-stored_next_id-eq-LAST_ID.true));
      none = tt;
      room = tt;
      fits = tt;
      id = tt;
      now = refl;
      inside = refl;
      frame = λ u apart. refl;
      checkpoint = refl;
      tells = refl;
      sound = c.requires.sound;
      endures = endures_start g.met.D.Disk.same_self t;
      runs = tt;
      stops = λ is. absurd (differ is c.requires.running);
      halts = λ failed. absurd (cc);
      spares = spares_start t _;
      pending = tt;
      worn = λ is. worn_at_once t n c.if-draws.true
          (sym c.stored_next_id.ensures ∙ c.if-stored_next_id-eq-LAST_ID.true);
    }

pub returns-then-grows-half : goal.returns-then-grows-half
returns-then-grows-half g c =
    let t = c.args.tables.now in
    let n : Needs = record {
      draws = c.args.draws;
      grows = c.args.grows;
      records = c.args.records;
      clusters = c.args.clusters;
    } in
    let ids : c.args.draws ≡ true → next_id_of (tables_now t) ≡ last_id → ⊥ =
    elim c.else-draws.branch [
      | else-draws-via-then-draws+else-stored_next_id-eq-LAST_ID w ↦ λ draws last.
          w.if-stored_next_id-eq-LAST_ID.false (w.stored_next_id.ensures ∙ last)
      | else-draws-via-else-draws w ↦ λ draws last. differ draws w.if-draws.false
    ] in
    let long : half_bytes t.clusters < checkpoint_of t + c.args.grows = elim c.then-grows-half.branch [
      | then-grows-half-via-then-grows-half w ↦ omega (arith, w.if-grows-half.true)
      | then-grows-half-via-else-grows-half+then-checkpoint_bytes-half w ↦
          omega (arith, w.checkpoint_bytes.ensures, w.if-checkpoint_bytes-half.true)
    ] in
    record {
      refused = inl (wants_table t n ids long);
      none = tt;
      room = tt;
      fits = tt;
      id = tt;
      now = refl;
      inside = refl;
      frame = λ u apart. refl;
      checkpoint = refl;
      tells = refl;
      sound = c.requires.sound;
      endures = endures_start g.met.D.Disk.same_self t;
      runs = tt;
      stops = λ is. absurd (differ is c.requires.running);
      halts = λ failed. absurd (cc);
      spares = spares_start t _;
      pending = tt;
      worn = λ is. absurd (cc);
    }

pub returns : goal.returns
returns g c =
    let t = c.args.tables.now in
    let u = c.ensure_room.new.self in
    let r = c.ensure_room.result in
    let s = c.ensure_room.ensures in
    let n : Needs = record {
      draws = c.args.draws;
      grows = c.args.grows;
      records = c.args.records;
      clusters = c.args.clusters;
    } in
    let ids : c.args.draws ≡ true → next_id_of (tables_now t) ≡ last_id → ⊥ =
    elim c.else-draws.branch [
      | else-draws-via-then-draws+else-stored_next_id-eq-LAST_ID w ↦ λ draws last.
          w.if-stored_next_id-eq-LAST_ID.false (w.stored_next_id.ensures ∙ last)
      | else-draws-via-else-draws w ↦ λ draws last. differ draws w.if-draws.false
    ] in
    let fits : checkpoint_of t + c.args.grows ≤ half_bytes t.clusters = omega arith in
    let count = free_counted t n c.requires.sound c.requires.running in
    let at_once : IsRoomFor t c.args.records c.args.clusters → u ≡ t = λ room. (s.at_once room).1 in
    let left = room_left t n u r at_once s.pending s.untouched s.fits (λ failed. (s.failed failed).1) s.tired s.worn in
    record {
      refused = refused_by_room t n ids fits count u r s.full s.fits s.worn (λ room. (s.at_once room).0)
          (λ failed. (s.failed failed).0);
      none = none_by_room t n ids fits count u r s.full s.wears;
      room = s.room;
      fits = on_ok_weaker r (λ runs. omega (arith, fits, s.checkpoint, ap half_bytes s.clusters)) s.runs;
      id = on_ok_weaker r (λ runs draws last. ids draws (ap (λ (q : Typed). next_id_of q) (sym s.now) ∙ last)) s.runs;
      now = s.now;
      inside = s.inside;
      frame = s.frame;
      checkpoint = s.checkpoint;
      tells = s.tells;
      sound = sound_same t u c.requires.sound s.clusters s.now s.inside s.tells (λ runs. c.requires.running) s.counts;
      endures = endures_room t u s.clusters s.moments s.goes_on s.later s.same
          (stands_by_room t n u r at_once s.pending s.same_epoch)
          (left (λ (p : Pending). p.epoch ≤ log_epoch t.log + 1) (omega arith) (epoch_spent t)
          (λ wears. epoch_left t))
          (left (λ (p : Pending). p.worn ≡ true → IsTrue (would_wear t)) (λ worn. worn_wears t worn) (λ worn. absurd (cc))
          (λ wears worn. wears));
      runs = s.runs;
      stops = s.stops;
      halts = λ failed. (s.failed failed).1;
      spares = spares_room t u r (free_in (states_of t) + deferred_in (states_of t)) c.args.clusters s.untouched s.fits
          s.same_epoch;
      pending = roomed t n u r at_once s.pending count;
      worn = λ is. worn_by_commit t n ids (pending_of u) (s.tired is);
    }
