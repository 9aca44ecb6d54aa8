-- What a call answers for which no room is made.
use Rattle.std.specs.Prelude.{◌≡◌, ◌+◌, ◌&&◌, ℕ, Bool, true, false, cond, not, nat_eq, nat_lt, Option, Some, None, Result, Err, IsTrue, IsErrOf}
use Rattle.std.proofs.Common.{◌∙◌, ap, sym, subst, inl, ⊎_elim}
use Rattle.vdisk.specs.Causes.{Rose}
use Rattle.vdisk.specs.declared.disk.Disk.{Ghosts}
use Rattle.plain_volume.specs.Step.{Outcome}
use Rattle.plain_volume.specs.Replies.{done_reply}
use Rattle.plain_volume.specs.declared.call.Fault.{Fault}
use Rattle.plain_volume.specs.declared.call.Fault.TheVariants.{Worn, TableFull, Full, Failed}
use Rattle.volume_inside.specs.Layout.{half_bytes}
use Rattle.volume_inside.specs.Rules.{next_id_of}
use Rattle.volume_tables.specs.Tables.{tables_now, checkpoint_of, clusters_in, disk_of, would_wear}
use Rattle.volume_tables.specs.declared.tables.Tables.{Tables}
use Rattle.volume_tables.specs.Wants.{Needs, free_of, has_room, is_late, last_id, wanting, IsRepliedOrMemory, IsWanting}
use Rattle.volume_tables.proofs.Wanted.{replied_want}

-- no resource that is wanting is told as a failed device
not_failed : (a b c e : Bool) (x y : ℕ)
    → cond a (Some Worn) (cond b (Some TableFull) (cond c (Some (Full x y)) (cond e (Some Worn) None))) ≡ Some Failed → ⊥
not_failed true b c e x y is = let clash : Worn ≡ Failed = cc in cc
not_failed false true c e x y is = let clash : TableFull ≡ Failed = cc in cc
not_failed false false true e x y is = let clash : Full x y ≡ Failed = cc in cc
not_failed false false false true x y is = let clash : Worn ≡ Failed = cc in cc
not_failed false false false false x y is = cc

module _ {D : Type 0} {d : Ghosts D} (t b : Tables D d) (n : Needs) where
  -- the reply of a call for which there was no room
  pub reply_wanting : (outcome : Outcome) → IsTrue (is_late outcome) → (want : Option Fault) → want ≡ wanting t n
      → (r : Result (Unit {0}) Fault) (fault : Fault) → r ≡ Err fault → IsWanting t b n fault
      → IsRepliedOrMemory outcome want (disk_of t).faults (disk_of b).faults (done_reply r)
  reply_wanting outcome late want same r fault is refused =
      subst (λ (x : Option Fault × Result (Unit {0}) Fault).
      IsRepliedOrMemory outcome x.0 (disk_of t).faults (disk_of b).faults (done_reply x.1))
      (λ i. (sym same i, sym is i)) (inl (replied_want t b n outcome late fault refused))

  -- and that the device failed then
  pub failed_wanting : (r : Result (Unit {0}) Fault) (fault : Fault) → r ≡ Err fault → IsWanting t b n fault
      → IsErrOf r Failed → Rose (disk_of t).faults (disk_of b).faults
  failed_wanting r fault is refused failed =
      let same : fault ≡ Failed = cc in
      ⊎_elim
      (λ want. absurd (not_failed (n.draws && nat_eq (next_id_of (tables_now t)) last_id)
      (nat_lt (half_bytes (clusters_in t)) (checkpoint_of t + n.grows)) (nat_lt (free_of t) n.clusters)
      (not (has_room t n) && would_wear t) n.clusters (free_of t) (want ∙ ap (λ (f : Fault). Some f) same)))
      (λ is_failed. is_failed.1) refused
