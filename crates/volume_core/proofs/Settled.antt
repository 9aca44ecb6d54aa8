-- States of tables of which nothing waits for a commit.
use Rattle.std.specs.Prelude.{◌≡◌, ◌+◌, ℕ, false, List, Result, Ok, Err, OnOk}
use Rattle.std.proofs.Common.{ap, sym, ◌∙◌, arith}
use Rattle.vdisk.specs.declared.disk.Disk.{Ghosts}
use Rattle.cluster_space.specs.States.{free_in, deferred_in}
use Rattle.meta_log.specs.Meta.{epoch_in, place_in}
use Rattle.volume_inside.specs.Layout.{half_bytes, journal_at}
use Rattle.volume_tables.specs.Pending.{Pending, settled, pending_of, free_of}
use Rattle.volume_tables.specs.Ends.{unstaged_in}
use Rattle.volume_tables.specs.Log.{log_epoch, log_place}
use Rattle.volume_tables.specs.Tables.{states_of, staged_of, due_of, stopped, clusters_in, IsToldBy}
use Rattle.volume_tables.specs.declared.tables.Tables.{Tables}
use Rattle.volume_tables.specs.Sound.{IsSound}
use Rattle.volume_core.specs.States.{left_in, state_at}
use Rattle.volume_core.proofs.Told.{left_told}

pub ok_all : {T E : Type 0} (r : Result T E) (A B C F : Type 0) → (A → B → C → F) → OnOk r A → OnOk r B → OnOk r C
    → OnOk r F
ok_all (Ok x) A B C F then a b c = then a b c
ok_all (Err e) A B C F then a b c = tt

-- what an image tells to wait, where so many clusters are free: nothing
abbrev pub settled_by : ℕ → List ℕ → ℕ → Pending
settled_by n image left = settled (epoch_in journal_at (half_bytes n) image) (place_in journal_at (half_bytes n) image) left

-- the clusters that are free, or will be after the next commit, are all that no extent names
pub all_free : {D : Type 0} {d : Ghosts D} (t : Tables D d) → IsSound t → stopped t ≡ false
    → free_in (states_of t) + deferred_in (states_of t) ≡ free_of t
all_free t sound runs = let counted = sound.counted runs in omega (arith, counted)

module _ {D : Type 0} {d : Ghosts D} (t : Tables D d) (sound : IsSound t) (runs : stopped t ≡ false)
    (fresh : t.worn ≡ false) (due : due_of t ≡ 0) (none : deferred_in (states_of t) ≡ 0) where
  free_left : free_in (states_of t) ≡ left_in (state_at t)
  free_left =
      let free : free_in (states_of t) ≡ free_of t = omega (arith, all_free t sound runs, none) in
      free ∙ sym (left_told t)

  none_staged : staged_of t ≡ 0
  none_staged = omega (arith, due)

  none_unstaged : unstaged_in t.ends ≡ 0
  none_unstaged = omega (arith, due)

  -- tables of which nothing is due
  pub settled_pending : pending_of t ≡ settled (log_epoch t.log) (log_place t.log) (left_in (state_at t))
  settled_pending = λ i. record {
    epoch = log_epoch t.log;
    place = log_place t.log;
    staged = none_staged i;
    unstaged = none_unstaged i;
    free = free_left i;
    worn = fresh i;
  }

module _ {D : Type 0} {d : Ghosts D} (t : Tables D d) where
  -- nothing waits, and an image tells where the journal of the tables goes on
  pub told_pending : (epoch place left : ℕ) (image : List ℕ) → pending_of t ≡ settled epoch place left
      → left ≡ left_in (state_at t) → IsToldBy t image
      → pending_of t ≡ settled_by (clusters_in t) image (left_in (state_at t))
  told_pending epoch place left image is same told =
      let e : epoch ≡ epoch_in journal_at (half_bytes (clusters_in t)) image =
      sym (ap (λ (p : Pending). p.epoch) is) ∙ told.counts in
      let at : place ≡ place_in journal_at (half_bytes (clusters_in t)) image =
      sym (ap (λ (p : Pending). p.place) is) ∙ told.next in
      is ∙ (λ i. settled (e i) (at i) (same i))
