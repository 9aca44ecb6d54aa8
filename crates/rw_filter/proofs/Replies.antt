-- What the plain machine answers to a write into a file that may have lost cells.
use Rattle.std.specs.Prelude.{◌≡◌, ◌⊎◌, ◌≤◌, ◌<◌, ◌+◌, ◌&&◌, ℕ, Bool, true, false, not, cond, nat_eq, nat_lt, List, [], ◌∷◌, length, Option, Some, None, Result, Ok, Err, IsTrue, IfErr, OnOk, OnErr, IsErrOf, refl}
use Rattle.std.proofs.Common.{sym, ◌∙◌, ap, inl, inr, ⊎_elim, arith, le-ltb}
use Rattle.vdisk.specs.Causes.{Rose}
use Rattle.vdisk.specs.declared.disk.Disk.{Ghosts}
use Rattle.plain_volume.specs.Volume.{Cell, Volume, is_beside, lost_where, overwritten}
use Rattle.plain_volume.specs.Volume.{with_file as with_cells}
use Rattle.plain_volume.specs.Step.{Outcome, refuse_if, unless_lost, lost_beside, write, write_within, write_whole}
use Rattle.plain_volume.specs.Replies.{done_reply}
use Rattle.plain_volume.specs.declared.call.Reply.TheVariants as reply
use Rattle.plain_volume.specs.declared.call.Fault.{Fault}
use Rattle.plain_volume.specs.declared.call.Fault.TheVariants.{TooLarge, Worn, TableFull, Full, Failed, Damaged, Memory}
use Rattle.plain_volume.specs.declared.limits.TheConstants.{MOST_BYTES_OF_A_CALL, MOST_BYTES_OF_A_FILE}
use Rattle.volume_inside.specs.Layout.{half_bytes}
use Rattle.volume_inside.specs.Rules.{next_id_of}
use Rattle.volume_tables.specs.Tables.{tables_now, disk_of, clusters_in, checkpoint_of, would_wear}
use Rattle.volume_tables.specs.declared.tables.Tables.{Tables}
use Rattle.volume_tables.specs.Wants.{Needs, last_id, free_of, has_room, is_late, reply_of, IsRepliedOrMemory, IsWanting}
use Rattle.volume_tables.proofs.Wanted.{replied_done}
use Rattle.volume_files.proofs.WriteReplies.{rose_since}
use Rattle.rw_filter.specs.Beside.{IsWriteFault}

-- some bytes look at the cells beside them
lost_some : (at : ℕ) (bytes : List ℕ) (cells : List Cell) → 0 < length bytes
    → lost_beside at bytes cells ≡ lost_where (is_beside at (length bytes)) 0 cells
lost_some at [] cells some = absurd (omega (arith, some))
lost_some at (b ∷ bytes) cells some = refl

module _ (name : List ℕ) (at : ℕ) (bytes : List ℕ) (v : Volume) (cells : List Cell)
    (few : length bytes ≤ MOST_BYTES_OF_A_CALL) (near : at + length bytes ≤ MOST_BYTES_OF_A_FILE) where
  abbrev done : Outcome
  done = Ok (reply.Done, with_cells name (overwritten at bytes cells) v)

  within_limits : write name at bytes v cells ≡ unless_lost (lost_beside at bytes cells) done
  within_limits =
      ap (λ (b : Bool). refuse_if b (TooLarge MOST_BYTES_OF_A_CALL) (write_within name at bytes v cells))
      (le-ltb MOST_BYTES_OF_A_CALL (length bytes) few)
      ∙ ap (λ (b : Bool). refuse_if b (TooLarge MOST_BYTES_OF_A_FILE) (write_whole name at bytes v cells))
      (le-ltb MOST_BYTES_OF_A_FILE (at + length bytes) near)

  -- what is wanting stands in the place of its answer
  pub late : IsTrue (is_late (write name at bytes v cells))
  late = ap is_late within_limits ∙ by (lost_beside at bytes cells)
    where
      by : (o : Option ℕ) → IsTrue (is_late (unless_lost o done))
      by None = refl
      by (Some q) = refl

  module _ (some : 0 < length bytes) where
    is_done : lost_where (is_beside at (length bytes)) 0 cells ≡ None → write name at bytes v cells ≡ done
    is_done none = within_limits ∙ ap (λ (o : Option ℕ). unless_lost o done) (lost_some at bytes cells some ∙ none)

    is_lost : (q : ℕ) → lost_where (is_beside at (length bytes)) 0 cells ≡ Some q
        → write name at bytes v cells ≡ Err (Damaged q)
    is_lost q lost = within_limits ∙ ap (λ (o : Option ℕ). unless_lost o done) (lost_some at bytes cells some ∙ lost)

    -- the reply of a write where nothing is wanting
    pub reply_there : (want : Option Fault) → want ≡ None → (before middle now : ℕ) → before ≤ middle
        → (r : Result (Unit {0}) Fault) → OnOk r (lost_where (is_beside at (length bytes)) 0 cells ≡ None)
        → ((q : ℕ) → IsErrOf r (Damaged q) → lost_where (is_beside at (length bytes)) 0 cells ≡ Some q)
        → OnErr r (((q : ℕ) × IsErrOf r (Damaged q)) ⊎ (IsErrOf r Failed ⊎ IsErrOf r Memory))
        → (IsErrOf r Failed → Rose middle now)
        → IsRepliedOrMemory (write name at bytes v cells) want before now (done_reply r)
    reply_there want none before middle now later (Ok x) whole damaged refused rose = inl
        (replied_done (write name at bytes v cells) reply.Done (with_cells name (overwritten at bytes cells) v) want before
        now (is_done whole) none)
    reply_there want none before middle now later (Err fault) whole damaged refused rose =
        ⊎_elim
        (λ lost.
        let same : fault ≡ Damaged lost.0 = let err = lost.1 in cc in
        inl (inl (ap (λ (f : Fault). reply.Refused f) same
        ∙ sym (ap (λ (o : Option Fault). reply_of (write name at bytes v cells) o) none
        ∙ ap (λ (o : Outcome). reply_of o None) (is_lost lost.0 (damaged lost.0 lost.1))))))
        (λ other. ⊎_elim
        (λ failed.
        let same : fault ≡ Failed = cc in
        inl (inr (ap (λ (f : Fault). reply.Refused f) same, late, rose_since before middle now later (rose failed))))
        (λ memory.
        let same : fault ≡ Memory = cc in
        inr (ap (λ (f : Fault). reply.Refused f) same))
        other)
        refused

-- ---- faults

module _ {D : Type 0} {d : Ghosts D} (t s : Tables D d) (file at : ℕ) (bytes : List ℕ) where
  -- a refusal once room was made
  pub fault_there : (r : Result (Unit {0}) Fault)
      → OnErr r (((q : ℕ) × IsErrOf r (Damaged q)) ⊎ (IsErrOf r Failed ⊎ IsErrOf r Memory))
      → (IsErrOf r Failed → Rose (disk_of t).faults (disk_of s).faults) → IfErr r (IsWriteFault t s file at bytes)
  fault_there (Ok done) refused rose = tt
  fault_there (Err fault) refused rose =
      ⊎_elim
      (λ lost. let same : fault ≡ Damaged lost.0 = let err = lost.1 in cc in inr (inr (inr (inl (lost.0, same)))))
      (λ other. ⊎_elim
      (λ failed. let same : fault ≡ Failed = cc in inr (inr (inr (inr (inl (same, rose failed))))))
      (λ memory. let same : fault ≡ Memory = cc in inr (inr (inr (inr (inr same)))))
      other)
      refused

-- a lost cell is no resource that is wanting
want_lost : (a b e f : Bool) (need free q : ℕ)
    → cond a (Some Worn) (cond b (Some TableFull) (cond e (Some (Full need free)) (cond f (Some Worn) None)))
    ≡ Some (Damaged q) → ⊥
want_lost true b e f need free q is = cc
want_lost false true e f need free q is = cc
want_lost false false true f need free q is = cc
want_lost false false false true need free q is = cc
want_lost false false false false need free q is = cc

pub wanted_whole : {D : Type 0} {d : Ghosts D} (t s : Tables D d) (n : Needs) (fault : Fault) (q : ℕ)
    → IsWanting t s n fault → fault ≡ Damaged q → ⊥
wanted_whole t s n fault q want same =
    ⊎_elim
    (λ is. want_lost (n.draws && nat_eq (next_id_of (tables_now t)) last_id)
    (nat_lt (half_bytes (clusters_in t)) (checkpoint_of t + n.grows)) (nat_lt (free_of t) n.clusters)
    (not (has_room t n) && would_wear t) n.clusters (free_of t) q (is ∙ ap Some same))
    (λ failed. let clash : Damaged q ≡ Failed = sym same ∙ failed.0 in cc) want

-- the fault of a refusal
pub same_fault : {A : Type 0} (x y : Fault) → ◌≡◌ {A = Result A Fault} (Err x) (Err y) → x ≡ y
same_fault x y same = cc

-- a write with edges loses no cell
pub never_damaged : {A : Type 0} (r : Result A Fault) → OnErr r (IsErrOf r Failed ⊎ IsErrOf r Memory) → (q : ℕ)
    → IsErrOf r (Damaged q) → ⊥
never_damaged (Ok done) either q damaged = cc
never_damaged (Err fault) either q damaged = ⊎_elim (λ failed. cc) (λ memory. cc) either

pub never_worn : {A : Type 0} (r : Result A Fault)
    → OnErr r (((q : ℕ) × IsErrOf r (Damaged q)) ⊎ (IsErrOf r Failed ⊎ IsErrOf r Memory)) → IsErrOf r Worn → ⊥
never_worn (Ok done) refused worn = cc
never_worn (Err fault) refused worn =
    ⊎_elim (λ lost. let err = lost.1 in cc) (λ other. ⊎_elim (λ failed. cc) (λ memory. cc) other) refused
