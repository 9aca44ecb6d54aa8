-- What a commit for room leaves, unless it stopped the tables.
use Rattle.std.specs.Prelude.{◌≡◌, ◌⊎◌, ◌≤◌, ◌+◌, true, false, IsTrue, map, List, Result, Ok, Err, OnOk, OnErr, IsErrOf, refl}
use Rattle.std.proofs.Common.{sym, ◌∙◌, ap, subst, ⊎_elim, arith}
use Rattle.std.proofs.lemmas.Result.{on_ok_weaker}
use Rattle.vdisk.specs.declared.disk.Disk.{Ghosts}
use Rattle.cluster_space.specs.declared.state.State.{State}
use Rattle.cluster_space.specs.States.{free_in, deferred_in, released}
use Rattle.plain_volume.specs.declared.call.Fault.{Fault}
use Rattle.plain_volume.specs.declared.call.Fault.TheVariants.{Worn, Failed}
use Rattle.meta_log.specs.Log.{passes_half, epochs_for}
use Rattle.volume_inside.specs.Layout.{half_bytes}
use Rattle.volume_tables.specs.Log.{log_epoch, log_place}
use Rattle.volume_tables.specs.Pending.{Pending, worn_out, pending_of, after_commit}
use Rattle.volume_tables.specs.Tables.{clusters_in, due_of, would_wear, stopped}
use Rattle.volume_tables.specs.declared.tables.Tables.{Tables}
use Rattle.volume_tables.proofs.Committing.{one_or_none}
use Rattle.volume_tables.proofs.Freed.{released_free, released_deferred}
use Rattle.volume_tables.proofs.Pended.{worn_epoch}
use Rattle.volume_tables.proofs.Spared.{rises}

module _ {D : Type 0} {d : Ghosts D} (t : Tables D d) where
  -- an epoch at most is spent
  pub epoch_left : (let p = worn_out (pending_of t) in p.epoch) ≤ log_epoch t.log + 1
  epoch_left = let same = worn_epoch (pending_of t) (worn_out (pending_of t)) refl in omega (arith, same)

  pub epoch_spent : (let p = after_commit t in p.epoch) ≤ log_epoch t.log + 1
  epoch_spent =
      let few = one_or_none (passes_half (half_bytes (clusters_in t)) (log_place t.log) (due_of t)) in
      omega (arith, few)

module _ {D : Type 0} {d : Ghosts D} (a b : Tables D d) (r : Result (Unit {0}) Fault)
    (refused : OnErr r (IsErrOf r Worn ⊎ IsErrOf r Failed)) (stops : IsErrOf r Failed → stopped b ≡ true) where
  -- it was made, or refused because the last epoch is used up
  pub unless_stopped : (P : Type 0) → OnOk r P → (IsErrOf r Worn → P) → stopped b ≡ false → P
  unless_stopped P = by r refused stops
    where
      by : (q : Result (Unit {0}) Fault) → OnErr q (IsErrOf q Worn ⊎ IsErrOf q Failed)
          → (IsErrOf q Failed → stopped b ≡ true) → OnOk q P → (IsErrOf q Worn → P) → stopped b ≡ false → P
      by (Ok done) why stop made worn runs = made
      by (Err fault) why stop made worn runs =
          ⊎_elim (λ is. worn is) (λ is. absurd (let clash : true ≡ false = sym (stop is) ∙ runs in cc)) why

  -- and else it failed
  pub stopped_by : (OnOk r (stopped b ≡ false)) → (IsErrOf r Worn → stopped b ≡ false) → stopped b ≡ true
      → IsErrOf r Failed
  stopped_by = by r refused
    where
      by : (q : Result (Unit {0}) Fault) → OnErr q (IsErrOf q Worn ⊎ IsErrOf q Failed) → OnOk q (stopped b ≡ false)
          → (IsErrOf q Worn → stopped b ≡ false) → stopped b ≡ true → IsErrOf q Failed
      by (Ok done) why runs worn is = absurd (let clash : true ≡ false = sym is ∙ runs in cc)
      by (Err fault) why runs worn is =
          ⊎_elim (λ w. absurd (let clash : true ≡ false = sym is ∙ worn w in cc)) (λ f. f) why

  -- What waits after a commit, unless it failed: nothing, or all that was due is staged.
  module _ (pending : OnOk r (pending_of b ≡ after_commit a)) (tired : IsErrOf r Worn → pending_of b ≡ worn_out (pending_of a))
      (worn : IsErrOf r Worn → IsTrue (would_wear a)) where
    pub commit_left : (P : Pending → Type 0) → P (after_commit a) → (IsTrue (would_wear a) → P (worn_out (pending_of a)))
        → stopped b ≡ false → P (pending_of b)
    commit_left P done tiring =
        unless_stopped (P (pending_of b)) (on_ok_weaker r (λ is. subst P (sym is) done) pending)
        (λ w. subst P (sym (tired w)) (tiring (worn w)))

    -- one epoch at most is spent, and it is worn only where that was told before
    pub commit_epoch : stopped b ≡ false → log_epoch b.log ≤ log_epoch a.log + 1
    commit_epoch = commit_left (λ p. p.epoch ≤ log_epoch a.log + 1) (epoch_spent a) (λ wears. epoch_left a)

    pub commit_tires : stopped b ≡ false → b.worn ≡ true → IsTrue (would_wear a)
    commit_tires = commit_left (λ p. p.worn ≡ true → IsTrue (would_wear a)) (λ clash. absurd (cc)) (λ wears is. wears)

    -- no epoch falls
    pub commit_stands : OnErr r (log_epoch b.log ≡ log_epoch a.log) → log_epoch a.log ≤ log_epoch b.log
    commit_stands = rises r (log_epoch a.log) (log_epoch b.log)
        (epochs_for (half_bytes (clusters_in a)) (log_place a.log) (due_of a))
        (on_ok_weaker r (λ is. ap (λ (p : Pending). p.epoch) is) pending)

-- what is free and what is deferred are as many after a release
pub released_counts : (states new : List State) → new ≡ map released states
    → free_in new + deferred_in new ≡ free_in states + deferred_in states
released_counts states new is =
    ap (λ (xs : List State). free_in xs + deferred_in xs) is
    ∙ omega (arith, released_free states, released_deferred states)
