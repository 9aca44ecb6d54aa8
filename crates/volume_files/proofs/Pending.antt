-- What a call does to what waits for a commit: room was made for it, and then it staged records and took clusters.
use Rattle.std.specs.Prelude.{◌≡◌, ◌⊎◌, ◌+◌, ◌-◌, ◌<◌, ℕ, List, [], ◌∷◌, length, Some, Result, Ok, Err, OnOk, OnErr, IsErr, IsErrOf}
use Rattle.std.proofs.Common.{◌∙◌, ap, ⊎_elim, arith}
use Rattle.vdisk.specs.declared.disk.Disk.{Ghosts}
use Rattle.cluster_space.specs.States.{free_in}
use Rattle.plain_volume.specs.declared.call.Fault.{Fault}
use Rattle.plain_volume.specs.declared.call.Fault.TheVariants.{Worn, Memory, Failed}
use Rattle.volume_tables.specs.Ends.{unstaged_in}
use Rattle.volume_tables.specs.Pending.{Needs, Pending, pending_of, roomed_of, worn_of, spent, IsPending}
use Rattle.volume_tables.specs.Tables.{tables_now, states_of, staged_of, Leaves}
use Rattle.volume_tables.specs.declared.tables.Tables.{Tables}
use Rattle.volume_tables.proofs.Stagings.{on_ok_any}
use Rattle.volume_files.specs.Needs.{write_needs, write_bytes}
use Rattle.volume_tables.specs.Stages.{Stages}
use Rattle.volume_files.specs.Writing.{IsWritePending}

-- the same fault, of another call
pub err_same : {A B E : Type 0} {x y : E} → ◌≡◌ {A = Result A E} (Err x) (Err y)
    → ◌≡◌ {A = Result B E} (Err x) (Err y)
err_same {A} {B} {E} {x} {y} same = (let e : x ≡ y = cc in ap (λ (z : E). Err z) e)

-- one value is found
pub found_same : {A : Type 0} {x y : A} → Some x ≡ Some y → x ≡ y
found_same {A} {x} {y} same = cc

-- ---- refusals that are not as worn

pub memory_not_worn : {A : Type 0} (r : Result A Fault) → OnErr r (IsErrOf r Memory) → IsErrOf r Worn → ⊥
memory_not_worn (Ok done) memory worn = cc
memory_not_worn (Err fault) memory worn = cc

pub neither_worn : {A : Type 0} (r : Result A Fault) → OnErr r (IsErrOf r Failed ⊎ IsErrOf r Memory) → IsErrOf r Worn
    → ⊥
neither_worn (Ok done) either worn = cc
neither_worn (Err fault) either worn = ⊎_elim (λ failed. cc) (λ memory. cc) either

module _ {D : Type 0} {d : Ghosts D} where
  -- a call that was refused
  pub pending_refused : (t s : Tables D d) (n : Needs) (bytes : ℕ) (r : Result (Unit {0}) Fault) → IsErr r
      → (IsErrOf r Worn → pending_of s ≡ worn_of t n) → IsPending n bytes t s r
  pending_refused t s n bytes (Ok done) err worn = absurd (cc)
  pending_refused t s n bytes (Err fault) err worn = record { done = tt; worn = worn }

  -- records of so many bytes were staged, and so many free clusters taken
  pending_spent : (m s : Tables D d) (bytes clusters : ℕ) → Leaves m s → staged_of s ≡ staged_of m + bytes
      → free_in (states_of s) + clusters ≡ free_in (states_of m) → pending_of s ≡ spent bytes clusters (pending_of m)
  pending_spent m s bytes clusters leaves staged taken =
      let left : free_in (states_of s) ≡ free_in (states_of m) - clusters = omega (arith, taken) in
      λ i. record {
        epoch = leaves.epoch i;
        place = leaves.place i;
        staged = staged i;
        unstaged = unstaged_in (leaves.ends i);
        free = left i;
        worn = leaves.worn i;
      }

  -- ---- once room was made

  module _ (t m s : Tables D d) (n : Needs) (roomed : pending_of m ≡ roomed_of t n) where
    -- the call was done, or refused otherwise than as worn
    pub pending_after : (bytes : ℕ) → Leaves m s → (r : Result (Unit {0}) Fault)
        → OnOk r (staged_of s ≡ staged_of m + bytes)
        → OnOk r (free_in (states_of s) + n.clusters ≡ free_in (states_of m)) → (IsErrOf r Worn → ⊥)
        → IsPending n bytes t s r
    pending_after bytes leaves (Ok done) staged taken never = record {
      done = pending_spent m s bytes n.clusters leaves staged taken
          ∙ ap (λ (p : Pending). spent bytes n.clusters p) roomed;
      worn = λ is. absurd (never is);
    }
    pending_after bytes leaves (Err fault) staged taken never = record { done = tt; worn = λ is. absurd (never is) }

    -- the call took no cluster
    pub pending_staged : n.clusters ≡ 0 → (bytes : ℕ) → Leaves m s → (r : Result (Unit {0}) Fault)
        → OnOk r (staged_of s ≡ staged_of m + bytes) → free_in (states_of s) ≡ free_in (states_of m)
        → (IsErrOf r Worn → ⊥) → IsPending n bytes t s r
    pending_staged none bytes leaves r staged free never =
        pending_after bytes leaves r staged (on_ok_any r (omega (arith, none, free))) never

    -- and always is done
    pub pending_stages : n.clusters ≡ 0 → (bytes : ℕ) → Stages bytes m s → IsPending n bytes t s (Ok tt)
    pending_stages none bytes stages =
        pending_staged none bytes stages.leaves (Ok tt) stages.staged stages.free (λ is. cc)

  -- ---- bytes that are written

  -- a write that was refused
  pub write_refused : (t s : Tables D d) (file at : ℕ) (bytes : List ℕ) (r : Result (Unit {0}) Fault) → IsErr r
      → (IsErrOf r Worn → pending_of s ≡ worn_of t (write_needs (tables_now t) file at (length bytes)))
      → IsWritePending file at bytes t s r
  write_refused t s file at [] (Ok done) err worn = absurd (cc)
  write_refused t s file at [] (Err fault) err worn = tt
  write_refused t s file at (b ∷ bytes) r err worn =
      pending_refused t s (write_needs (tables_now t) file at (length (b ∷ bytes)))
      (write_bytes at (length (b ∷ bytes))) r err worn

  -- one that found room
  pub write_pending : (t s : Tables D d) (file at : ℕ) (bytes : List ℕ) (r : Result (Unit {0}) Fault)
      → 0 < length bytes
      → IsPending (write_needs (tables_now t) file at (length bytes)) (write_bytes at (length bytes)) t s r
      → IsWritePending file at bytes t s r
  write_pending t s file at [] r some pending = absurd (omega (arith, some))
  write_pending t s file at (b ∷ bytes) r some pending = pending
