-- What a call of a mounted volume does to its state.
use Rattle.std.specs.Prelude.{◌≡◌, ◌≤◌, ◌+◌, ◌&&◌, ◌||◌, ℕ, Bool, true, false, nat_eq, Option, Some, None}
use Rattle.std.specs.Prelude.{List, Result, Ok, Err, OnOk, OnErr, IsErrOf, refl}
use Rattle.std.proofs.Common.{ap, sym, ◌∙◌, subst, arith}
use Rattle.std.proofs.lemmas.Bool.{eqb-true, false≢true}
use Rattle.std.specs.FinMap.{find}
use Rattle.vdisk.specs.declared.disk.Disk.{Ghosts}
use Rattle.byte_map.specs.Words.{bytes_cmp}
use Rattle.cluster_space.specs.States.{free_in}
use Rattle.meta_log.specs.Log.{passes_half}
use Rattle.meta_log.specs.Meta.{last_epoch}
use Rattle.plain_volume.specs.Volume.{Cell}
use Rattle.plain_volume.specs.Step.{refuse_if, at_file}
use Rattle.plain_volume.specs.Replies.{done_reply}
use Rattle.plain_volume.specs.declared.call.Call.{Call}
use Rattle.plain_volume.specs.declared.call.Call.TheVariants.{Write}
use Rattle.plain_volume.specs.declared.call.Fault.{Fault}
use Rattle.plain_volume.specs.declared.call.Fault.TheVariants.{BadName, NoFile, Exists, OutsideFile, TooLarge, Worn}
use Rattle.plain_volume.specs.declared.call.Fault.TheVariants.{TableFull, Full, Failed, Damaged, Memory}
use Rattle.plain_volume.specs.declared.call.Reply.{Reply}
use Rattle.plain_volume.specs.declared.call.Reply.TheVariants as reply
use Rattle.volume_inside.specs.Inside.{Inside, inside_at}
use Rattle.volume_inside.specs.Layout.{half_bytes}
use Rattle.volume_tables.specs.Ends.{unstaged_in}
use Rattle.volume_tables.specs.Log.{log_epoch, log_place}
use Rattle.volume_tables.specs.Pending.{pending_of}
use Rattle.volume_tables.specs.Tables.{inside_now, due_of, clusters_in, stopped}
use Rattle.volume_tables.specs.declared.tables.Tables.{Tables}
use Rattle.volume_tables.proofs.Keyed.{second_is}
use Rattle.volume_tables.specs.Reads.{ReadsOnly}
use Rattle.volume_tables.specs.Sound.{Endures, IsSpared, Spares}
use Rattle.volume_files.specs.Insides.{of_id, id_written}
use Rattle.volume_core.specs.Bounds.{changed_by}
use Rattle.volume_core.specs.Moves.{Moves, inside_done, inside_after, pending_done, pending_worn, pending_lost}
use Rattle.volume_core.specs.Moves.{state_done, state_refused, state_after, is_told}
use Rattle.volume_core.specs.States.{VolumeState, state_at, wears_at}
use Rattle.volume_core.proofs.Waiting.{Waits}

-- ---- insides

-- a call that leaves an inside as it is does so whatever it replies
pub after_none : (call : Call) (given : Reply) (i : Inside) → inside_done call i ≡ i → inside_after call given i ≡ i
after_none call reply.Done i same = same
after_none call (reply.Bytes bytes) i same = same
after_none call (reply.Digest digest) i same = same
after_none call (reply.Length len) i same = same
after_none call (reply.Name name) i same = same
after_none call (reply.Refused fault) i same = refl

-- what is known of an answer and of a refusal
pub done_after : (call : Call) (r : Result (Unit {0}) Fault) (i j : Inside) → OnOk r (j ≡ inside_done call i)
    → OnErr r (j ≡ i) → j ≡ inside_after call (done_reply r) i
done_after call (Ok done) i j ok err = ok
done_after call (Err fault) i j ok err = err

failed_reply : (r : Result (Unit {0}) Fault) → IsErrOf r Failed → done_reply r ≡ reply.Refused Failed
failed_reply r is = λ i. done_reply (is i)

-- ---- states

refused_leaves : (call : Call) (fault : Fault) (s : VolumeState) → pending_worn call s ≡ s.pending
    → pending_lost call s ≡ s.pending → state_refused call fault s ≡ s
refused_leaves call Worn s worn lost = λ i. record { clusters = s.clusters; inside = s.inside; pending = worn i }
refused_leaves call (Damaged place) s worn lost =
    λ i. record { clusters = s.clusters; inside = s.inside; pending = lost i }
refused_leaves call other s worn lost = refl

-- a call that leaves the state where it is answered, and where it is refused as worn or because a cell is lost, leaves it
-- whatever it replies
pub after_leaves : (call : Call) (given : Reply) (s : VolumeState) → state_done call s ≡ s
    → pending_worn call s ≡ s.pending → pending_lost call s ≡ s.pending → state_after call given s ≡ s
after_leaves call (reply.Refused fault) s done worn lost = refused_leaves call fault s worn lost
after_leaves call other s done worn lost = done

-- where a file is not found the state stays
pub unfound_leaves : (call : Call) (s : VolumeState) (o : Option (List Cell)) (unlawful : Bool) (fault : Fault)
    → refuse_if unlawful BadName (at_file o (λ cells. Err BadName)) ≡ Err fault → state_refused call fault s ≡ s
unfound_leaves call s o true fault is =
    let same : BadName ≡ fault = cc in subst (λ (f : Fault). state_refused call f s ≡ s) same refl
unfound_leaves call s None false fault is =
    let same : NoFile ≡ fault = cc in subst (λ (f : Fault). state_refused call f s ≡ s) same refl
unfound_leaves call s (Some cells) false fault is =
    let same : BadName ≡ fault = cc in subst (λ (f : Fault). state_refused call f s ≡ s) same refl

-- the file of a name is written
pub written_of : (name : List ℕ) (id at : ℕ) (bytes : List ℕ) (i : Inside) → find bytes_cmp name i.names ≡ Some id
    → id_written id at bytes i ≡ inside_done (Write name at bytes) i
written_of name id at bytes i named =
    ap (λ (o : Option ℕ). of_id o (λ x. id_written x at bytes i) i) (sym named)

module _ {D : Type 0} {d : Ghosts D} where
  -- a commit now is refused as worn only where the last epoch is taken
  pub wears_last : (t : Tables D d) → wears_at (state_at t) ≡ true → log_epoch t.log ≡ last_epoch
  wears_last t wears =
      by t.worn refl (passes_half (half_bytes (clusters_in t)) (log_place t.log) (due_of t))
      (nat_eq (log_epoch t.log) last_epoch) refl wears
    where
      by : (was : Bool) → t.worn ≡ was → (turns last : Bool) → nat_eq (log_epoch t.log) last_epoch ≡ last
          → (was || (turns && last)) ≡ true → log_epoch t.log ≡ last_epoch
      by true is turns last at wears = t.tired is
      by false is turns last at wears = eqb-true (log_epoch t.log) last_epoch (at ∙ second_is turns last wears)

  abbrev epoch_of : Tables D d → ℕ
  epoch_of t = log_epoch t.log

  module _ (call : Call) (t u : Tables D d) (clusters : clusters_in u ≡ clusters_in t) where
    -- what a refusal leaves of a state
    told_refused : (fault : Fault) → inside_now u ≡ inside_now t
        → (fault ≡ Worn → pending_of u ≡ pending_worn call (state_at t))
        → ((place : ℕ) → fault ≡ Damaged place → pending_of u ≡ pending_lost call (state_at t))
        → IsSpared epoch_of fault t u
        → is_told (reply.Refused fault) ≡ true → state_at u ≡ state_refused call fault (state_at t)
    told_refused Worn inside worn lost is told =
        let waits = worn refl in λ i. record { clusters = clusters i; inside = inside i; pending = waits i }
    told_refused BadName inside worn lost is told = ap state_at is
    told_refused NoFile inside worn lost is told = ap state_at is
    told_refused Exists inside worn lost is told = ap state_at is
    told_refused (OutsideFile length) inside worn lost is told = ap state_at is
    told_refused (TooLarge most) inside worn lost is told = ap state_at is
    told_refused TableFull inside worn lost is told = ap state_at is
    told_refused (Full asked left) inside worn lost is told = ap state_at is
    told_refused Failed inside worn lost is told = absurd (false≢true told)
    told_refused (Damaged place) inside worn lost is told =
        let waits = lost place refl in λ i. record { clusters = clusters i; inside = inside i; pending = waits i }
    told_refused Memory inside worn lost is told = absurd (false≢true told)

    -- what a call with its result leaves of a state
    pub told_done : (r : Result (Unit {0}) Fault) → OnOk r (inside_now u ≡ inside_done call (inside_now t))
        → OnErr r (inside_now u ≡ inside_now t) → OnOk r (pending_of u ≡ pending_done call (state_at t))
        → (IsErrOf r Worn → pending_of u ≡ pending_worn call (state_at t))
        → ((place : ℕ) → IsErrOf r (Damaged place) → pending_of u ≡ pending_lost call (state_at t)) → Spares t u r
        → is_told (done_reply r) ≡ true
        → state_at u ≡ state_after call (done_reply r) (state_at t)
    told_done (Ok done) ok err waits worn lost spares told =
        λ i. record { clusters = clusters i; inside = ok i; pending = waits i }
    told_done (Err fault) ok err waits worn lost spares told =
        told_refused fault err (λ is. worn (ap Err is)) (λ place is. lost place (ap Err is)) (spares fault refl) told

  -- what only reads leaves the state, whole
  read_state : (t u : Tables D d) → ReadsOnly t u → state_at u ≡ state_at t
  read_state t u reads =
      let l = reads.leaves in
      λ i. record {
        clusters = l.clusters i;
        inside = inside_at (reads.now i) (reads.image i);
        pending = record {
          epoch = l.epoch i;
          place = l.place i;
          staged = reads.staged i;
          unstaged = unstaged_in (reads.ends i);
          free = free_in (reads.states i);
          worn = l.worn i;
        };
      }

  module _ (t u : Tables D d) (call : Call) where
    -- a call that changes, whose epoch is bounded where it does not stop the volume
    pub moves : (r : Result (Unit {0}) Fault) → changed_by call ≡ 1
        → (is_told (done_reply r) ≡ true → state_at u ≡ state_after call (done_reply r) (state_at t))
        → inside_now u ≡ inside_after call (done_reply r) (inside_now t)
        → clusters_in u ≡ clusters_in t → (stopped u ≡ true → done_reply r ≡ reply.Refused Failed)
        → log_epoch t.log ≤ log_epoch u.log
        → (stopped u ≡ false → log_epoch u.log ≤ log_epoch t.log + changed_by call)
        → Moves call (done_reply r) (state_at t) (state_at u)
    moves r one told inside clusters stops stands epoch = record {
      told = told;
      inside = inside;
      clusters = clusters;
      reads = λ none. absurd (omega (arith, one, none));
      stands = stands;
      epoch = by (stopped u) refl;
      wears = wears_last u;
    }
      where
        by : (b : Bool) → stopped u ≡ b → (done_reply r ≡ reply.Refused Failed → ⊥)
            → log_epoch u.log ≤ log_epoch t.log + changed_by call
        by true is other = absurd (other (stops is))
        by false is other = epoch is

    -- a call on the files that changes, with its result
    pub changes_move : (r : Result (Unit {0}) Fault) → changed_by call ≡ 1
        → OnOk r (inside_now u ≡ inside_done call (inside_now t)) → OnErr r (inside_now u ≡ inside_now t)
        → Waits t u call r
        → ((place : ℕ) → IsErrOf r (Damaged place) → pending_of u ≡ pending_lost call (state_at t))
        → Endures t u → (stopped u ≡ true → IsErrOf r Failed) → Spares t u r
        → Moves call (done_reply r) (state_at t) (state_at u)
    changes_move r one ok err waits lost endures stops spares =
        moves r one (told_done call t u endures.clusters r ok err waits.done waits.worn lost spares)
        (done_after call r (inside_now t) (inside_now u) ok err) endures.clusters
        (λ is. failed_reply r (stops is)) endures.stands
        (λ runs. let rise = endures.epoch runs in omega (arith, rise, one))

    -- a call that only reads
    pub reads_move : (given : Reply) → state_done call (state_at t) ≡ state_at t
        → pending_worn call (state_at t) ≡ pending_of t → pending_lost call (state_at t) ≡ pending_of t
        → ReadsOnly t u → Moves call given (state_at t) (state_at u)
    reads_move given done worn lost reads = record {
      told = λ told. same ∙ sym (after_leaves call given (state_at t) done worn lost);
      inside = ap (λ (s : VolumeState). s.inside) same
          ∙ sym (after_none call given (inside_now t) (ap (λ (s : VolumeState). s.inside) done));
      clusters = let l = reads.leaves in l.clusters;
      reads = λ changes. same;
      stands = let l = reads.leaves in (let at = l.epoch in omega (arith, at));
      epoch = λ other. let l = reads.leaves in (let at = l.epoch in omega (arith, at));
      wears = wears_last u;
    }
      where
        same : state_at u ≡ state_at t
        same = read_state t u reads

  -- a call that leaves all as it is
  pub still_moves : (t : Tables D d) (call : Call) (given : Reply) → state_after call given (state_at t) ≡ state_at t
      → inside_after call given (inside_now t) ≡ inside_now t → Moves call given (state_at t) (state_at t)
  still_moves t call given same none = record {
    told = λ told. sym same;
    inside = sym none;
    clusters = refl;
    reads = λ changes. refl;
    stands = omega arith;
    epoch = λ other. omega arith;
    wears = wears_last t;
  }

  -- a call that only reads, before it read anything
  pub stays_move : (t : Tables D d) (call : Call) (given : Reply) → state_done call (state_at t) ≡ state_at t
      → pending_worn call (state_at t) ≡ pending_of t → pending_lost call (state_at t) ≡ pending_of t
      → Moves call given (state_at t) (state_at t)
  stays_move t call given done worn lost =
      still_moves t call given (after_leaves call given (state_at t) done worn lost)
      (after_none call given (inside_now t) (ap (λ (s : VolumeState). s.inside) done))
