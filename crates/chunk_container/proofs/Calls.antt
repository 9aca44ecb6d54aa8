-- A call on rows: room is made, and then its records are put.
use Rattle.std.specs.Prelude.{◌≡◌, ◌⊎◌, ◌≤◌, ◌<◌, ◌+◌, ◌-◌, ℕ, true, false, List, length, Option, Some, None, IsSome, IsTrue, IsOk, Result, Ok, Err, OnOk, OnErr, IfErr, IsErrOf, refl}
use Rattle.std.proofs.Common.{◌∙◌, ap, sym, subst, inl, inr, arith, ⊎_elim}
use Rattle.std.specs.Ordering.{nat_cmp}
use Rattle.std.specs.FinMap.{find}
use Rattle.std.proofs.lemmas.Result.{on_ok_weaker, on_err_weaker}
use Rattle.vdisk.specs.declared.disk.Disk.{Ghosts}
use Rattle.cluster_space.specs.States.{free_in, deferred_in}
use Rattle.plain_volume.specs.declared.call.Fault.{Fault}
use Rattle.plain_volume.specs.declared.call.Fault.TheVariants.{Failed, Memory, Worn, TableFull}
use Rattle.volume_inside.specs.Bases.{bases_of}
use Rattle.volume_inside.specs.Chunks.{chunk}
use Rattle.volume_inside.specs.ChunkRules.{MapsHold}
use Rattle.volume_inside.specs.Inside.{Inside, inside_at}
use Rattle.volume_inside.specs.Layout.{data_clusters, half_bytes, AreData}
use Rattle.volume_inside.specs.Named.{clusters_of}
use Rattle.volume_inside.specs.Rules.{RulesHold}
use Rattle.volume_inside.specs.Typed.{Typed}
use Rattle.volume_inside.specs.View.{view}
use Rattle.volume_tables.specs.Ends.{unstaged_in}
use Rattle.volume_tables.specs.Log.{log_epoch}
use Rattle.volume_tables.specs.Pending.{Pending, pending_of, roomed_of, spent}
use Rattle.volume_tables.specs.Rooms.{IsRoomMade}
use Rattle.volume_tables.specs.Sound.{IsSound, IsSpared, Spares}
use Rattle.volume_tables.specs.Setters.{IsSetIn}
use Rattle.volume_tables.specs.Tables.{tables_now, view_now, states_of, checkpoint_of, disk_of}
use Rattle.volume_tables.specs.Tables.{clusters_in, stopped, new_bytes, HasMaps}
use Rattle.volume_tables.specs.Wants.{Needs, wanting, IsWanting}
use Rattle.volume_tables.specs.declared.tables.Tables.{Tables}
use Rattle.volume_tables.proofs.Answers.{ok_or_err}
use Rattle.volume_tables.proofs.Endured.{endures_leaves}
use Rattle.volume_tables.proofs.Stagings.{on_ok_any}
use Rattle.volume_tables.proofs.Mapped.{maps_then}
use Rattle.volume_inside.proofs.Journals.{journal_apart}
use Rattle.chunk_container.specs.Bases.{bases_now}
use Rattle.chunk_container.specs.Calls.{ArePut, IsRowCall}
use Rattle.chunk_container.proofs.PageStates.{held_now}
use Rattle.chunk_container.proofs.RowViews.{view_rows}

-- a change of rows, copies or ids leaves the files
pub record LeavesFiles (old new : Typed) : Type 0 where
  pub names : new.names ≡ old.names
  pub files : new.files ≡ old.files
  pub extents : new.extents ≡ old.extents
  pub clusters : clusters_of new ≡ clusters_of old

module _ {D : Type 0} {d : Ghosts D} where
  -- a setter, where the checkpoint has room, takes memory at a new key alone
  pub put_set : {V : Type 0} (was : Option V) (size : ℕ) (change : Typed → Typed) (m p : Tables D d)
      (r : Result (Unit {0}) Fault) → IsSetIn change was size m p r
      → checkpoint_of m + new_bytes was size ≤ half_bytes (clusters_in m) → ArePut (was ≡ None) change size m p r
  put_set {V} was size change m p r set fits = record {
    ok = set.ok;
    err = set.err;
    refused = by r set.set.refused set.set.full.0 set.set.in_place;
    staged = set.set.staged;
    leaves = set.leaves;
    states = set.states;
    image = set.set.image;
    running = set.set.running;
  }
    where
      none : (o : Option V) → (IsSome o → ⊥) → o ≡ None
      none None never = refl
      none (Some v) never = absurd (never refl)

      by : (q : Result (Unit {0}) Fault) → OnErr q (IsErrOf q TableFull ⊎ IsErrOf q Memory)
          → (IsErrOf q TableFull → half_bytes (clusters_in m) < checkpoint_of m + new_bytes was size)
          → (IsSome was → IsOk q) → OnErr q (IsErrOf q Memory × (was ≡ None))
      by (Ok done) why full in_place = tt
      by (Err fault) why full in_place = (
        ⊎_elim (λ is. absurd (let long = full is in omega (arith, long, fits))) (λ is. is) why,
        none was (λ some. let is = in_place some in cc),
      )

module _ {D : Type 0} {d : Ghosts D} (takes : Type 0) (change : Typed → Typed) (n : Needs) (bytes : ℕ) (t m : Tables D d) where
  -- no room was made
  pub call_refused : (fault : Fault) → IsRoomMade n t m (Err fault) → IsRowCall takes change n bytes t m (Err fault)
  call_refused fault room = record {
    ok = tt;
    err = room.now;
    inside = tt;
    unchanged = room.inside;
    none = tt;
    refused = inl room.refused;
    seen = λ told chunks. ap (λ (i : Inside). view i) room.inside;
    sound = λ maps. room.sound;
    endures = room.endures;
    stops = room.stops;
    halts = room.halts;
    spares = room.spares;
    pending = record { done = tt; worn = room.worn };
  }

  -- room was made, and then the records were put, or refused
  module _ (next : (x y z : D) → d.is_same x y → d.is_same y z → d.is_same x z) (room : IsRoomMade n t m (Ok tt))
      (none : n.clusters ≡ 0) (rules : RulesHold (clusters_in t) (change (tables_now t)))
      (same : (q : Typed) → LeavesFiles q (change q))
      (p : Tables D d) (r : Result (Unit {0}) Fault) (put : ArePut takes change bytes m p r) where
    -- the inside that the changed tables have stays over the room that was made
    change_inside : inside_at (change (tables_now m)) (disk_of p).image ≡ inside_at (change (tables_now t)) (disk_of t).image
    change_inside =
        let files = same (tables_now t) in
        let named_data : AreData (clusters_in t) (clusters_of (change (tables_now t))) =
        subst (λ (cs : List ℕ). AreData (clusters_in t) cs) (sym files.clusters) (held_now t).0 in
        (λ i. inside_at (change (room.now i)) (put.image i))
        ∙ room.frame (change (tables_now t)) (journal_apart (clusters_in t) (change (tables_now t)) named_data)

    told_m : IsTrue (disk_of p).tells → IsTrue (disk_of m).tells
    told_m told = sym put.leaves.tells ∙ told

    told_t : IsTrue (disk_of p).tells → IsTrue (disk_of t).tells
    told_t told = sym room.tells ∙ told_m told

    sound_as : (q : Typed) → tables_now p ≡ q → RulesHold (clusters_in m) q → HasMaps p
        → clusters_of q ≡ clusters_of (tables_now m) → IsSound p
    sound_as q is holds held_maps named_same =
        let rules_p : RulesHold (clusters_in p) (tables_now p) =
        subst (λ (x : ℕ × Typed). RulesHold x.0 x.1) (λ i. (sym put.leaves.clusters i, sym is i)) holds in record {
          rules = rules_p;
          maps = held_maps;
          counted = λ runs.
              let named : clusters_of (tables_now p) ≡ clusters_of (tables_now m) = ap (λ (x : Typed). clusters_of x) is
              ∙ named_same in
              (λ i. free_in (put.states i) + deferred_in (put.states i) + length (named i))
              ∙ room.sound.counted (sym put.running ∙ runs) ∙ ap (λ (k : ℕ). data_clusters k) (sym put.leaves.clusters);
        }

    rules_then : RulesHold (clusters_in m) (change (tables_now m))
    rules_then = subst (λ (x : ℕ × Typed). RulesHold x.0 (change x.1))
        (λ i. (sym room.endures.clusters i, sym room.now i)) rules

    sound_then : (IsTrue (disk_of t).tells → MapsHold (inside_at (change (tables_now t)) (disk_of t).image)) → IsSound p
    sound_then maps = elim (ok_or_err r put.ok put.err) [
      | inl is ↦ sound_as (change (tables_now m)) is rules_then
          (λ told. subst MapsHold (sym ((λ i. inside_at (is i) (disk_of p).image) ∙ change_inside)) (maps (told_t told)))
          (let files = same (tables_now m) in files.clusters)
      | inr is ↦ sound_as (tables_now m) is room.sound.rules
          (maps_then m p put.leaves.tells (subst MapsHold (sym (λ i. inside_at (is i) (put.image i)))) room.sound.maps) refl
    ]

    -- where the chunks stay, so do the files
    seen_then : IsTrue (disk_of t).tells → ((id : ℕ) → IsSome (find nat_cmp id (tables_now t).chunks.rows)
        → chunk (bases_now p) id ≡ chunk (bases_now t) id) → view_now p ≡ view_now t
    seen_then told chunks = elim (ok_or_err r put.ok put.err) [
      | inl is ↦
          let files = same (tables_now m) in
          (λ i. view (inside_at (is i) (put.image i)))
          ∙ view_rows (clusters_in m) (tables_now m) (change (tables_now m)) (disk_of m).image room.sound.rules
          (room.sound.maps (room.tells ∙ told)) files.names
          files.files files.extents
          (λ id there. sym (λ i. chunk (bases_of (is i) (put.image i)) id)
          ∙ chunks id (subst (λ (q : Typed). IsSome (find nat_cmp id q.chunks.rows)) room.now there)
          ∙ sym (λ i. chunk (let j = room.inside i in j.bases) id))
          ∙ ap (λ (i : Inside). view i) room.inside
      | inr is ↦ (λ i. view (inside_at (is i) (put.image i))) ∙ ap (λ (i : Inside). view i) room.inside
    ]

    runs_then : stopped p ≡ false
    runs_then = put.running ∙ room.runs

    pending_then : OnOk r (pending_of p ≡ spent bytes n.clusters (roomed_of t n))
    pending_then = on_ok_weaker r (λ staged.
        let left : free_in (states_of p) ≡ free_in (states_of m) - n.clusters =
        ap (λ states. free_in states) put.states ∙ omega (arith, none) in
        (λ i. record {
          epoch = put.leaves.epoch i;
          place = put.leaves.place i;
          staged = staged i;
          unstaged = unstaged_in (put.leaves.ends i);
          free = left i;
          worn = put.leaves.worn i;
        }) ∙ ap (λ (w : Pending). spent bytes n.clusters w) room.pending) put.staged

    -- what a refusal tells
    Refusal : Result (Unit {0}) Fault → Type 0
    Refusal q = IfErr q (λ fault. IsWanting t p n fault ⊎ ((fault ≡ Memory) × takes × (wanting t n ≡ None)))
        × (IsErrOf q Failed → stopped p ≡ true) × (IsErrOf q Worn → ⊥) × Spares t p q

    is_memory : (fault : Fault) → ◌≡◌ {A = Result (Unit {0}) Fault} (Err fault) (Err Memory) → fault ≡ Memory
    is_memory fault is = cc

    refusal : Refusal r
    unfolding Refusal
    refusal = by r put.refused
      where
        by : (q : Result (Unit {0}) Fault) → OnErr q (IsErrOf q Memory × takes) → Refusal q
        by (Ok done) why = (tt, (λ is. absurd (cc)), (λ is. absurd (cc)), λ fault is. absurd (cc))
        by (Err fault) why =
            let memory : fault ≡ Memory = is_memory fault why.0 in (
              inr (memory, why.1, room.none),
              (λ is. absurd (let clash : Failed ≡ Memory = cc in cc)),
              (λ is. absurd (let clash : Worn ≡ Memory = cc in cc)),
              λ other is.
                  let same_fault : Memory ≡ other = cc in
                  subst (λ (x : Fault). IsSpared (λ (q : Tables D d). log_epoch q.log) x t p) same_fault tt,
            )

    -- THE CALL
    pub call_done : IsRowCall takes change n bytes t p r
    unfolding Refusal
    call_done = record {
      ok = on_ok_weaker r (λ is. is ∙ ap change room.now) put.ok;
      err = on_err_weaker r (λ is. is ∙ room.now) put.err;
      inside = on_ok_weaker r (λ is. (λ i. inside_at (is i) (disk_of p).image) ∙ change_inside) put.ok;
      unchanged = on_err_weaker r (λ is. (λ i. inside_at (is i) (put.image i)) ∙ room.inside) put.err;
      none = on_ok_any r room.none;
      refused = refusal.0;
      seen = seen_then;
      sound = sound_then;
      endures = endures_leaves next t m p room.endures room.runs put.leaves;
      stops = λ is. absurd (let clash : true ≡ false = sym is ∙ runs_then in cc);
      halts = refusal.1;
      spares = refusal.3;
      pending = record { done = pending_then; worn = λ is. absurd (refusal.2 is) };
    }
