-- What is wanting for a call, and the replies that follow from it.
use Rattle.std.specs.Prelude.{◌≡◌, ◌⊎◌, ◌≤◌, ◌<◌, ◌+◌, ◌&&◌, if◌then◌else◌, ℕ, Bool, true, false, not, cond, nat_eq, nat_le, nat_lt, IsTrue, length, Option, Some, None, Result, Ok, Err, OnOk, OnErr, IfErr, IsOk, IsErrOf, refl}
use Rattle.std.proofs.lemmas.Bool.{cases_lt}
use Rattle.std.proofs.lemmas.Result.{on_ok_weaker}
use Rattle.std.proofs.Common.{inl, inr, sym, ◌∙◌, ap, subst, ⊎_elim, arith, leb-true, le-leb, ltb-true, ltb-false, lt-ltb, le-ltb, eqb-true, eq-eqb}
use Rattle.vdisk.specs.Causes.{Rose}
use Rattle.vdisk.specs.declared.disk.Disk.{Ghosts}
use Rattle.cluster_space.specs.States.{free_in, deferred_in}
use Rattle.plain_volume.specs.Volume.{Volume}
use Rattle.plain_volume.specs.Step.{Outcome}
use Rattle.plain_volume.specs.declared.call.Reply.{Reply}
use Rattle.plain_volume.specs.declared.call.Reply.TheVariants as reply
use Rattle.plain_volume.specs.declared.call.Fault.{Fault}
use Rattle.plain_volume.specs.declared.call.Fault.TheVariants.{BadName, NoFile, Exists, OutsideFile, TooLarge, Worn, TableFull, Full, Failed, Damaged, Memory}
use Rattle.volume_inside.specs.Layout.{half_bytes, data_clusters}
use Rattle.volume_inside.specs.Named.{clusters_of}
use Rattle.volume_inside.specs.Rules.{next_id_of, RulesHold}
use Rattle.volume_inside.specs.Typed.{Typed}
use Rattle.meta_log.specs.Log.{epochs_for}
use Rattle.volume_tables.specs.Log.{log_epoch, log_place}
use Rattle.volume_tables.specs.Pending.{Pending, committed, worn_out, pending_of, after_commit, committed_of, roomed_of, worn_of}
use Rattle.volume_tables.specs.Tables.{tables_now, inside_now, states_of, staged_of, checkpoint_of, clusters_in, disk_of, stopped, due_of, would_wear, IsRoomFor}
use Rattle.volume_tables.specs.declared.tables.Tables.{Tables}
use Rattle.volume_tables.specs.Sound.{IsSound}
use Rattle.volume_tables.proofs.Roomed.{commit_left}
use Rattle.volume_tables.proofs.Spared.{rises}
use Rattle.volume_tables.proofs.Stagings.{on_ok_any}
use Rattle.volume_tables.specs.Wants.{Needs, last_id, free_of, has_room, wanting, is_late, reply_of, IsReplied, IsWanting}
use Rattle.volume_tables.proofs.Mapped.{maps_same}

-- ---- replies

not_late : false ≡ true → ⊥
not_late clash = cc

-- what is wanting stands in the place of an answer
pub late_reply : (outcome : Outcome) (fault : Fault) → IsTrue (is_late outcome) → reply_of outcome (Some fault) ≡ reply.Refused fault
late_reply (Ok answer) fault late = refl
late_reply (Err (Damaged place)) fault late = refl
late_reply (Err BadName) fault late = absurd (not_late late)
late_reply (Err NoFile) fault late = absurd (not_late late)
late_reply (Err Exists) fault late = absurd (not_late late)
late_reply (Err (OutsideFile n)) fault late = absurd (not_late late)
late_reply (Err (TooLarge n)) fault late = absurd (not_late late)
late_reply (Err Worn) fault late = absurd (not_late late)
late_reply (Err TableFull) fault late = absurd (not_late late)
late_reply (Err (Full n free)) fault late = absurd (not_late late)
late_reply (Err Failed) fault late = absurd (not_late late)
late_reply (Err Memory) fault late = absurd (not_late late)

module _ {D : Type 0} {d : Ghosts D} (old new : Tables D d) (n : Needs) (outcome : Outcome) where
  -- a refusal for want of room
  pub replied_want : IsTrue (is_late outcome) → (fault : Fault) → IsWanting old new n fault
      → IsReplied outcome (wanting old n) (disk_of old).faults (disk_of new).faults (reply.Refused fault)
  replied_want late fault want =
      ⊎_elim
      (λ is. inl (sym (ap (λ (o : Option Fault). reply_of outcome o) is ∙ late_reply outcome fault late)))
      (λ failed. inr (ap (λ (f : Fault). reply.Refused f) failed.0, late, failed.1))
      want

-- a refusal of the plain machine that comes before any want
abbrev pub IsEarly : Fault → Type 0
IsEarly fault = is_late (Err fault) ≡ false

early_reply : (fault : Fault) (want : Option Fault) → IsEarly fault → reply_of (Err fault) want ≡ reply.Refused fault
early_reply BadName want early = refl
early_reply NoFile want early = refl
early_reply Exists want early = refl
early_reply (OutsideFile n) want early = refl
early_reply (TooLarge n) want early = refl
early_reply Worn want early = refl
early_reply TableFull want early = refl
early_reply (Full n free) want early = refl
early_reply Failed want early = refl
early_reply Memory want early = refl
early_reply (Damaged place) want early = absurd (not_late (sym early))

pub replied_early : (outcome : Outcome) (fault : Fault) (want : Option Fault) (before now : ℕ) → outcome ≡ Err fault → IsEarly fault
    → IsReplied outcome want before now (reply.Refused fault)
replied_early outcome fault want before now is early =
    inl (sym (ap (λ (o : Outcome). reply_of o want) is ∙ early_reply fault want early))

-- an answer, where nothing is wanting
pub replied_done : (outcome : Outcome) (given : Reply) (w : Volume) (want : Option Fault) (before now : ℕ) → outcome ≡ Ok (given, w)
    → want ≡ None → IsReplied outcome want before now given
replied_done outcome given w want before now is none =
    inl (sym (ap (λ (o : Outcome). reply_of o want) is ∙ ap (λ (o : Option Fault). reply_of (Ok (given, w)) o) none))

-- ---- room

is_and : (a b : Bool) → a ≡ true → b ≡ true → (a && b) ≡ true
is_and a b one two = ap (λ (x : Bool). x && b) one ∙ two

fst_and : (a b : Bool) → (a && b) ≡ true → a ≡ true
fst_and true b is = refl
fst_and false b is = is

snd_and : (a b : Bool) → (a && b) ≡ true → b ≡ true
snd_and true b is = is
snd_and false b is = absurd (let clash : false ≡ true = is in cc)

pub differ : {b : Bool} → b ≡ true → b ≡ false → ⊥
differ one two = let clash : true ≡ false = sym one ∙ two in cc

module _ {D : Type 0} {d : Ghosts D} (t : Tables D d) (n : Needs) where
  room_there : has_room t n ≡ true → IsRoomFor t n.records n.clusters
  room_there has = record {
    records_fit = leb-true (staged_of t + n.records) 65472 (fst_and (nat_le (staged_of t + n.records) 65472) (nat_le n.clusters (free_in (states_of t))) has);
    clusters_fit = leb-true n.clusters (free_in (states_of t)) (snd_and (nat_le (staged_of t + n.records) 65472) (nat_le n.clusters (free_in (states_of t))) has);
  }

  no_room_there : has_room t n ≡ false → IsRoomFor t n.records n.clusters → ⊥
  no_room_there none room =
      differ (is_and (nat_le (staged_of t + n.records) 65472) (nat_le n.clusters (free_in (states_of t)))
      (le-leb (staged_of t + n.records) 65472 room.records_fit) (le-leb n.clusters (free_in (states_of t)) room.clusters_fit)) none

  -- what the tables do not name is free or deferred
  pub free_counted : IsSound t → stopped t ≡ false → free_of t ≡ free_in (states_of t) + deferred_in (states_of t)
  free_counted sound runs = let counted = sound.counted runs in omega (arith, counted)

  -- The tables where room is ensured: they are as they were, or were committed, where there was no room.
  module _ (u : Tables D d) (r : Result (Unit {0}) Fault) (at_once : IsRoomFor t n.records n.clusters → u ≡ t)
      (first : (IsRoomFor t n.records n.clusters → ⊥) → OnOk r (pending_of u ≡ after_commit t)) where
    pub roomed : free_of t ≡ free_in (states_of t) + deferred_in (states_of t) → OnOk r (pending_of u ≡ roomed_of t n)
    roomed count = by (has_room t n) refl
      where
        by : (b : Bool) → has_room t n ≡ b → OnOk r (pending_of u ≡ roomed_of t n)
        by true has = on_ok_any r (ap (λ (x : Tables D d). pending_of x) (at_once (room_there has))
            ∙ sym (ap (λ (b : Bool). if b then pending_of t else committed_of t) has))
        by false has = on_ok_weaker r (λ done. done ∙ sym (ap (λ (k : ℕ). committed (half_bytes (clusters_in t)) (checkpoint_of t) k (pending_of t)) count)
            ∙ sym (ap (λ (b : Bool). if b then pending_of t else committed_of t) has)) (first (no_room_there has))

    -- the epoch rises where a commit came first, and stands otherwise
    pub stands_by_room : OnErr r (log_epoch u.log ≡ log_epoch t.log) → log_epoch t.log ≤ log_epoch u.log
    stands_by_room same = by (has_room t n) refl
      where
        by : (b : Bool) → has_room t n ≡ b → log_epoch t.log ≤ log_epoch u.log
        by true has =
            let is : log_epoch u.log ≡ log_epoch t.log = ap (λ (x : Tables D d). log_epoch x.log) (at_once (room_there has)) in
            omega (arith, is)
        by false has =
            rises r (log_epoch t.log) (log_epoch u.log) (epochs_for (half_bytes (clusters_in t)) (log_place t.log) (due_of t))
            (on_ok_weaker r (λ done. ap (λ (p : Pending). p.epoch) done) (first (no_room_there has))) same

    -- What waits, unless the device failed: all as before, or nothing, or all that was due is staged. What holds of
    -- these holds of what waits.
    pub room_left : (free_in (states_of t) + deferred_in (states_of t) < n.clusters → u ≡ t)
        → (n.clusters ≤ free_in (states_of t) + deferred_in (states_of t) → OnErr r (IsErrOf r Worn ⊎ IsErrOf r Failed))
        → (IsErrOf r Failed → stopped u ≡ true) → (IsErrOf r Worn → pending_of u ≡ worn_out (pending_of t))
        → (IsErrOf r Worn → IsTrue (would_wear t))
        → (P : Pending → Type 0) → P (pending_of t) → P (after_commit t)
        → (IsTrue (would_wear t) → P (worn_out (pending_of t))) → stopped u ≡ false → P (pending_of u)
    room_left untouched fits failed tired worn P same done tiring runs = by (has_room t n) refl
      where
        by : (b : Bool) → has_room t n ≡ b → P (pending_of u)
        by true has = subst (λ (x : Tables D d). P (pending_of x)) (sym (at_once (room_there has))) same
        by false has = elim (cases_lt (free_in (states_of t) + deferred_in (states_of t)) n.clusters) [
          | inl few ↦ subst (λ (x : Tables D d). P (pending_of x)) (sym (untouched few)) same
          | inr enough ↦ commit_left t u r (fits enough) failed (first (no_room_there has)) tired worn P done tiring runs
        ]

  -- what a refusal as worn leaves
  abbrev worn_where : Bool → Pending
  worn_where b = if b then pending_of t else worn_out (pending_of t)

  pub worn_at_once : n.draws ≡ true → next_id_of (tables_now t) ≡ last_id → pending_of t ≡ worn_of t n
  worn_at_once draws last = sym (ap worn_where
      (is_and n.draws (nat_eq (next_id_of (tables_now t)) last_id) draws (eq-eqb (next_id_of (tables_now t)) last_id last)))

  pub worn_by_commit : (n.draws ≡ true → next_id_of (tables_now t) ≡ last_id → ⊥) → (q : Pending)
      → q ≡ worn_out (pending_of t) → q ≡ worn_of t n
  worn_by_commit ids q is = by (n.draws && nat_eq (next_id_of (tables_now t)) last_id) refl
    where
      by : (b : Bool) → (n.draws && nat_eq (next_id_of (tables_now t)) last_id) ≡ b → q ≡ worn_of t n
      by true last = absurd (ids (fst_and _ _ last)
          (eqb-true (next_id_of (tables_now t)) last_id (snd_and n.draws _ last)))
      by false left = is ∙ sym (ap worn_where left)

  -- what may be wanting once the checkpoint has room, and once ids are there
  abbrev after_table : Option Fault
  after_table =
      cond (nat_lt (free_of t) n.clusters) (Some (Full n.clusters (free_of t)))
      (cond (not (has_room t n) && would_wear t) (Some Worn) None)

  abbrev after_ids : Option Fault
  after_ids = cond (nat_lt (half_bytes (clusters_in t)) (checkpoint_of t + n.grows)) (Some TableFull) after_table

  -- no id is left
  pub wants_id : n.draws ≡ true → next_id_of (tables_now t) ≡ last_id → wanting t n ≡ Some Worn
  wants_id draws last =
      ap (λ (b : Bool). cond b (Some Worn) after_ids)
      (is_and n.draws (nat_eq (next_id_of (tables_now t)) last_id) draws (eq-eqb (next_id_of (tables_now t)) last_id last))

  module _ (ids : n.draws ≡ true → next_id_of (tables_now t) ≡ last_id → ⊥) where
    past_ids : wanting t n ≡ after_ids
    past_ids = by (n.draws && nat_eq (next_id_of (tables_now t)) last_id) (λ is. ids (fst_and _ _ is) (eqb-true (next_id_of (tables_now t)) last_id (snd_and n.draws _ is)))
      where
        by : (b : Bool) → (b ≡ true → ⊥) → cond b (Some Worn) after_ids ≡ after_ids
        by true never = absurd (never refl)
        by false never = refl

    -- a checkpoint would be too long
    pub wants_table : half_bytes (clusters_in t) < checkpoint_of t + n.grows → wanting t n ≡ Some TableFull
    wants_table long =
        past_ids ∙ ap (λ (b : Bool). cond b (Some TableFull) after_table) (lt-ltb (half_bytes (clusters_in t)) (checkpoint_of t + n.grows) long)

    module _ (fits : checkpoint_of t + n.grows ≤ half_bytes (clusters_in t))
        (count : free_of t ≡ free_in (states_of t) + deferred_in (states_of t)) where
      past_table : wanting t n ≡ after_table
      past_table =
          past_ids ∙ ap (λ (b : Bool). cond b (Some TableFull) after_table) (le-ltb (half_bytes (clusters_in t)) (checkpoint_of t + n.grows) fits)

      wants_clusters : free_of t < n.clusters → wanting t n ≡ Some (Full n.clusters (free_of t))
      wants_clusters few =
          past_table ∙ ap (λ (b : Bool). cond b (Some (Full n.clusters (free_of t))) (cond (not (has_room t n) && would_wear t) (Some Worn) None))
          (lt-ltb (free_of t) n.clusters few)

      past_clusters : n.clusters ≤ free_of t → wanting t n ≡ cond (not (has_room t n) && would_wear t) (Some Worn) None
      past_clusters enough =
          past_table ∙ ap (λ (b : Bool). cond b (Some (Full n.clusters (free_of t))) (cond (not (has_room t n) && would_wear t) (Some Worn) None))
          (le-ltb (free_of t) n.clusters enough)

      by_wear : n.clusters ≤ free_of t → (a b : Bool) → has_room t n ≡ a → would_wear t ≡ b
          → wanting t n ≡ cond (not a && b) (Some Worn) None
      by_wear enough a b room wear = past_clusters enough ∙ (λ i. cond (not (room i) && wear i) (Some Worn) None)

      -- the answer of the tables where room is ensured
      module _ (u : Tables D d) where
        pub refused_by_room : (r : Result (Unit {0}) Fault)
            → (free_in (states_of t) + deferred_in (states_of t) < n.clusters
            → r ≡ Err (Full n.clusters (free_in (states_of t) + deferred_in (states_of t))))
            → (n.clusters ≤ free_in (states_of t) + deferred_in (states_of t) → OnErr r (IsErrOf r Worn ⊎ IsErrOf r Failed))
            → (IsErrOf r Worn → IsTrue (would_wear t)) → (IsRoomFor t n.records n.clusters → IsOk r)
            → (IsErrOf r Failed → Rose (disk_of t).faults (disk_of u).faults) → IfErr r (IsWanting t u n)
        refused_by_room (Ok done) full some worn at_once failed = tt
        refused_by_room (Err f) full some worn at_once failed = by (nat_lt (free_of t) n.clusters) refl
          where
            answer : Fault → Result (Unit {0}) Fault
            answer x = Err x

            not_at_once : (b : Bool) → has_room t n ≡ b → b ≡ false
            not_at_once true is = absurd (let done = at_once (room_there is) in cc)
            not_at_once false is = refl

            by : (b : Bool) → nat_lt (free_of t) n.clusters ≡ b → IsWanting t u n f
            by true is =
                let few : free_of t < n.clusters = ltb-true (free_of t) n.clusters is in
                let told : answer f ≡ Err (Full n.clusters (free_in (states_of t) + deferred_in (states_of t))) = full (omega (arith, few, count)) in
                let same : f ≡ Full n.clusters (free_in (states_of t) + deferred_in (states_of t)) = cc in
                inl (wants_clusters few ∙ ap (λ (k : ℕ). Some (Full n.clusters k)) count ∙ ap (λ (x : Fault). Some x) (sym same))
            by false is =
                let enough : n.clusters ≤ free_of t = ltb-false (free_of t) n.clusters is in
                ⊎_elim
                (λ (w : answer f ≡ Err Worn). (
                let same : f ≡ Worn = cc in
                inl (by_wear enough false true (not_at_once (has_room t n) refl) (worn w) ∙ ap (λ (x : Fault). Some x) (sym same))))
                (λ (w : answer f ≡ Err Failed). (let same : f ≡ Failed = cc in inr (same, failed w)))
                (some (omega (arith, enough, count)))

        pub none_by_room : (r : Result (Unit {0}) Fault)
            → (free_in (states_of t) + deferred_in (states_of t) < n.clusters
            → r ≡ Err (Full n.clusters (free_in (states_of t) + deferred_in (states_of t))))
            → ((IsRoomFor t n.records n.clusters → ⊥) → n.clusters ≤ free_in (states_of t) + deferred_in (states_of t)
            → IsTrue (would_wear t) → IsErrOf r Worn) → OnOk r (wanting t n ≡ None)
        none_by_room (Err f) full wears = tt
        none_by_room (Ok done) full wears = by (nat_lt (free_of t) n.clusters) refl (has_room t n) refl (would_wear t) refl
          where
            by : (b : Bool) → nat_lt (free_of t) n.clusters ≡ b → (room : Bool) → has_room t n ≡ room → (wear : Bool) → would_wear t ≡ wear
                → wanting t n ≡ None
            by true is room has wear wears_is =
                absurd (let few : free_of t < n.clusters = ltb-true (free_of t) n.clusters is in let told = full (omega (arith, few, count)) in cc)
            by false is true has wear wears_is = by_wear (ltb-false (free_of t) n.clusters is) true wear has wears_is
            by false is false has false wears_is = by_wear (ltb-false (free_of t) n.clusters is) false false has wears_is
            by false is false has true wears_is =
                absurd (let enough : n.clusters ≤ free_of t = ltb-false (free_of t) n.clusters is in
                let told = wears (no_room_there has) (omega (arith, enough, count)) wears_is in cc)

-- ---- what holds between calls

module _ {D : Type 0} {d : Ghosts D} (t u : Tables D d) where
  -- it holds after a call that changed no table and no count of clusters
  pub sound_same : IsSound t → clusters_in u ≡ clusters_in t → tables_now u ≡ tables_now t → inside_now u ≡ inside_now t
      → (disk_of u).tells ≡ (disk_of t).tells → (stopped u ≡ false → stopped t ≡ false)
      → (stopped u ≡ false → free_in (states_of u) + deferred_in (states_of u) ≡ free_in (states_of t) + deferred_in (states_of t)) → IsSound u
  sound_same sound clusters now inside tells ran counts = record {
    rules = subst (λ (p : ℕ × Typed). RulesHold p.0 p.1) (λ i. (sym clusters i, sym now i)) sound.rules;
    maps = maps_same t u tells inside sound.maps;
    counted = λ runs.
        let counted = sound.counted (ran runs) in
        let same = counts runs in
        let named : length (clusters_of (tables_now u)) ≡ length (clusters_of (tables_now t)) = ap (λ (q : Typed). length (clusters_of q)) now in
        let all : data_clusters (clusters_in u) ≡ data_clusters (clusters_in t) = ap (λ (k : ℕ). data_clusters k) clusters in
        omega (arith, counted, same, named, all);
  }
