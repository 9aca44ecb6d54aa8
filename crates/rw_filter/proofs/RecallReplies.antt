-- What recalling a block answers.
use Rattle.std.specs.Prelude.{◌≡◌, ◌⊎◌, ◌≤◌, ℕ, Bool, true, false, cond, IsTrue, Option, Some, None, Result, Ok, Err, OnOk, OnErr, IfErr, IsErrOf, refl}
use Rattle.std.proofs.Common.{sym, ◌∙◌, ap, subst, inl, inr, ⊎_elim, arith}
use Rattle.vdisk.specs.Causes.{Rose}
use Rattle.vdisk.specs.declared.disk.Disk.{Ghosts}
use Rattle.plain_volume.specs.Volume.{Volume}
use Rattle.plain_volume.specs.Replies.{done_reply}
use Rattle.plain_volume.specs.declared.call.Reply.TheVariants as reply
use Rattle.plain_volume.specs.declared.call.Fault.{Fault}
use Rattle.plain_volume.specs.declared.call.Fault.TheVariants.{Worn, TableFull, Full, Failed, Damaged, Memory}
use Rattle.volume_tables.specs.Tables.{disk_of}
use Rattle.volume_tables.specs.declared.tables.Tables.{Tables}
use Rattle.volume_tables.specs.Wants.{Needs, wanting, is_late, reply_of, IsWanting, IsRepliedOrMemory}
use Rattle.volume_tables.proofs.Wanted.{replied_want}
use Rattle.rw_filter.specs.Recalling.{recall, TellsLost, IsRecallRefused}

-- want of a resource, or a failed device, tells nothing of cells
told_want : (lost : Option ℕ) (fault : Fault) (asked left : ℕ) (a b c d : Bool)
    → cond a (Some Worn) (cond b (Some TableFull) (cond c (Some (Full asked left)) (cond d (Some Worn) None))) ≡ Some fault
    → TellsLost lost (Err fault)
told_want lost fault asked left a b c d is = by a b c d is
  where
    of : (f : Fault) → Some f ≡ Some fault → TellsLost lost (Err f) → TellsLost lost (Err fault)
    of f same told =
        let one : f ≡ fault = cc in
        subst (λ (x : Fault). TellsLost lost (Err x)) one told

    by : (a b c d : Bool)
        → cond a (Some Worn) (cond b (Some TableFull) (cond c (Some (Full asked left)) (cond d (Some Worn) None))) ≡ Some fault
        → TellsLost lost (Err fault)
    by true b c d is = of Worn is tt
    by false true c d is = of TableFull is tt
    by false false true d is = of (Full asked left) is tt
    by false false false true is = of Worn is tt
    by false false false false is = absurd (cc)

-- what a read that was refused tells
pub told_read : {P : Type 0} (lost : Option ℕ) (fault : Fault)
    → ((q : ℕ) × IsErrOf {T = Unit {0}} (Err fault) (Damaged q)) ⊎ (IsErrOf {T = Unit {0}} (Err fault) Failed × P)
    → ((q : ℕ) → IsErrOf {T = Unit {0}} (Err fault) (Damaged q) → lost ≡ Some q) → TellsLost lost (Err fault)
told_read lost fault refused named =
    ⊎_elim
    (λ (damaged : (q : ℕ) × IsErrOf {T = Unit {0}} (Err fault) (Damaged q)).
    let same : fault ≡ Damaged damaged.0 = (let is = damaged.1 in cc) in
    subst (λ (x : Fault). TellsLost lost (Err x)) (sym same) (named damaged.0 damaged.1))
    (λ failed.
    let same : fault ≡ Failed = (let is = failed.0 in cc) in
    subst (λ (x : Fault). TellsLost lost (Err x)) (sym same) tt)
    refused

-- what a write tells, once the block was read
pub told_written : (lost : Option ℕ) (r : Result (Unit {0}) Fault) → lost ≡ None
    → OnErr r (IsErrOf r Failed ⊎ IsErrOf r Memory) → TellsLost lost r
told_written lost (Ok done) none refused = none
told_written lost (Err fault) none refused =
    ⊎_elim
    (λ failed.
    let same : fault ≡ Failed = cc in
    subst (λ (x : Fault). TellsLost lost (Err x)) (sym same) tt)
    (λ memory.
    let same : fault ≡ Memory = cc in
    subst (λ (x : Fault). TellsLost lost (Err x)) (sym same) none)
    refused

late : (lost : Option ℕ) (v : Volume) → IsTrue (is_late (recall lost v))
late None v = refl
late (Some q) v = refl

rose_since : (before middle now : ℕ) → before ≤ middle → Rose middle now → Rose before now
rose_since before middle now later rose = omega (arith, later, rose)

module _ {D : Type 0} {d : Ghosts D} (old new : Tables D d) (n : Needs) where
  pub told_wanting : (lost : Option ℕ) (fault : Fault) → IsWanting old new n fault → TellsLost lost (Err fault)
  told_wanting lost fault want =
      ⊎_elim
      (λ is. told_want lost fault _ _ _ _ _ _ is)
      (λ failed. subst (λ (x : Fault). TellsLost lost (Err x)) (sym failed.0) tt)
      want

  -- what is refused once room was made
  pub refused_done : (middle : ℕ) (r : Result (Unit {0}) Fault) → wanting old n ≡ None → (disk_of old).faults ≤ middle
      → OnErr r (((q : ℕ) × IsErrOf r (Damaged q)) ⊎ (IsErrOf r Failed ⊎ IsErrOf r Memory))
      → (IsErrOf r Failed → Rose middle (disk_of new).faults) → IfErr r (IsRecallRefused old new n)
  refused_done middle (Ok done) none later refused rose = tt
  refused_done middle (Err fault) none later refused rose =
      ⊎_elim
      (λ (damaged : (q : ℕ) × IsErrOf {T = Unit {0}} (Err fault) (Damaged q)).
      let same : fault ≡ Damaged damaged.0 = (let is = damaged.1 in cc) in
      inr (none, inl (damaged.0, same)))
      (λ either. ⊎_elim
      (λ (failed : IsErrOf {T = Unit {0}} (Err fault) Failed).
      let same : fault ≡ Failed = cc in
      inl (inr (same, rose_since (disk_of old).faults middle (disk_of new).faults later (rose failed))))
      (λ (memory : IsErrOf {T = Unit {0}} (Err fault) Memory).
      let same : fault ≡ Memory = cc in
      inr (none, inr same))
      either)
      refused

  -- where what is refused, and what that tells of lost cells, is known, so is the reply
  pub reply_told : (lost : Option ℕ) (v : Volume) (r : Result (Unit {0}) Fault) → OnOk r (wanting old n ≡ None)
      → IfErr r (IsRecallRefused old new n) → TellsLost lost r
      → IsRepliedOrMemory (recall lost v) (wanting old n) (disk_of old).faults (disk_of new).faults (done_reply r)
  reply_told lost v (Ok done) none refused told =
      inl (inl (sym (λ i. reply_of (recall (told i) v) (none i))))
  reply_told lost v (Err fault) none refused told =
      ⊎_elim
      (λ want. inl (replied_want old new n (recall lost v) (late lost v) fault want))
      (λ behind. ⊎_elim
      (λ (damaged : (q : ℕ) × (fault ≡ Damaged q)).
      let named : lost ≡ Some damaged.0 =
      subst (λ (x : Fault). TellsLost lost (Err x)) damaged.1 told in
      inl (inl (ap (λ (x : Fault). reply.Refused x) damaged.1
      ∙ sym (λ i. reply_of (recall (named i) v) (behind.0 i)))))
      (λ memory. inr (ap (λ (x : Fault). reply.Refused x) memory))
      behind.1)
      refused
