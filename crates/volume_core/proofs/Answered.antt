-- What calls on a file that is there answer, and what is replied where it is not.
use Rattle.std.specs.Prelude.{◌≡◌, ◌⊎◌, ◌≤◌, ◌<◌, ◌+◌, ℕ, Bool, true, IsTrue, List, length, take, drop, Option, Some}
use Rattle.std.specs.Prelude.{None, Result, Ok, Err, IsErrOf, IfOk, OnOk, OnErr, refl}
use Rattle.std.proofs.Common.{inl, inr, ⊎_elim, sym, ap, ◌∙◌, subst, arith}
use Rattle.std.proofs.lemmas.Bool.{le-ltb}
use Rattle.sha2.specs.Sha256.{sha256}
use Rattle.vdisk.specs.Causes.{Rose}
use Rattle.vdisk.specs.declared.disk.Disk.{Ghosts}
use Rattle.plain_volume.specs.Volume.{Volume, bytes_of, lost_where, is_within}
use Rattle.plain_volume.specs.Step.{Outcome, plain, refuse_if, unless_lost, read, read_whole, digest, stat}
use Rattle.plain_volume.specs.Replies.{own_reply, done_reply, bytes_reply}
use Rattle.plain_volume.specs.declared.call.Call.TheVariants.{Read, Digest, Stat}
use Rattle.plain_volume.specs.declared.call.Fault.{Fault}
use Rattle.plain_volume.specs.declared.call.Fault.TheVariants.{OutsideFile, Failed, Damaged}
use Rattle.plain_volume.specs.declared.call.Reply.{Reply}
use Rattle.plain_volume.specs.declared.call.Reply.TheVariants as reply
use Rattle.plain_volume.proofs.Own.{file_found, read_outside}
use Rattle.table_records.specs.declared.records.FileRecord.{FileRecord}
use Rattle.volume_inside.specs.View.{file_cells}
use Rattle.volume_tables.specs.Tables.{inside_now, view_now}
use Rattle.volume_tables.specs.declared.tables.Tables.{Tables}
use Rattle.volume_tables.specs.Wants.{reply_of, is_late, IsReplied}
use Rattle.volume_files.specs.Found.{IsFileOf}
use Rattle.volume_core.specs.Replies.{digest_reply}

-- ---- replies

own_where_none_wants : (outcome : Outcome) → reply_of outcome None ≡ own_reply outcome
own_where_none_wants (Ok answer) = refl
own_where_none_wants (Err (Damaged place)) = refl
own_where_none_wants (Err fault) = refl

-- a call that wants nothing gives the machine's own reply
pub replies_own : (outcome : Outcome) (before now : ℕ) (given : Reply) → own_reply outcome ≡ given
    → IsReplied outcome None before now given
replies_own outcome before now given is = inl (sym is ∙ sym (own_where_none_wants outcome))

-- a lost cell is looked for late
late_unless : (place : Option ℕ) (answer : Reply × Volume) → IsTrue (is_late (unless_lost place (Ok answer)))
late_unless None answer = refl
late_unless (Some place) answer = refl

-- the device failed where the machine answers, or tells a lost cell
failed_late : (outcome : Outcome) (place : Option ℕ) (answer : Reply × Volume) (before now : ℕ) (given : Reply)
    → outcome ≡ unless_lost place (Ok answer) → given ≡ reply.Refused Failed → Rose before now
    → IsReplied outcome None before now given
failed_late outcome place answer before now given is failed rose =
    inr (failed, subst (λ (o : Outcome). IsTrue (is_late o)) (sym is) (late_unless place answer), rose)

-- WHAT IS REPLIED BY A CALL THAT READS: what the machine tells unless a cell is lost, the first lost cell, or that the
-- device failed
told_unless : (outcome : Outcome) (place : Option ℕ) (answer : Reply × Volume) (before now : ℕ) (given : Reply)
    → outcome ≡ unless_lost place (Ok answer) → place ≡ None → answer.0 ≡ given → IsReplied outcome None before now given
told_unless outcome place answer before now given is none same =
    replies_own outcome before now given
    (ap own_reply (is ∙ ap (λ (o : Option ℕ). unless_lost o (Ok answer)) none) ∙ same)

lost_unless : (outcome : Outcome) (place : Option ℕ) (answer : Reply × Volume) (before now : ℕ) (q : ℕ)
    → outcome ≡ unless_lost place (Ok answer) → place ≡ Some q
    → IsReplied outcome None before now (reply.Refused (Damaged q))
lost_unless outcome place answer before now q is lost =
    replies_own outcome before now (reply.Refused (Damaged q))
    (ap own_reply (is ∙ ap (λ (o : Option ℕ). unless_lost o (Ok answer)) lost))

-- refused as a call that reads is
abbrev pub IsReadRefused : {T : Type 0} → ℕ → ℕ → Result T Fault → Type 0
IsReadRefused before now r = OnErr r (((q : ℕ) × IsErrOf r (Damaged q)) ⊎ (IsErrOf r Failed × Rose before now))

-- ---- the file of a name

module _ {D : Type 0} {d : Ghosts D} (t : Tables D d) (name : List ℕ) (id : ℕ) (file : FileRecord)
    (is : IsFileOf t name id file) where
  pub stat_answers : plain (view_now t) (Stat name) ≡ Ok (reply.Length file.length, view_now t)
  stat_answers =
      file_found (view_now t) name (stat (view_now t)) (file_cells (inside_now t) id) is.lawful is.cells
      ∙ ap (λ (n : ℕ). Ok (reply.Length n, view_now t)) is.long

  digest_outcome : plain (view_now t) (Digest name) ≡ digest (view_now t) (file_cells (inside_now t) id)
  digest_outcome =
      file_found (view_now t) name (digest (view_now t)) (file_cells (inside_now t) id) is.lawful is.cells

  module _ (at count : ℕ) where
    pub read_refused : file.length < at + count → plain (view_now t) (Read name at count) ≡ Err
        (OutsideFile file.length)
    read_refused over =
        file_found (view_now t) name (read at count (view_now t)) (file_cells (inside_now t) id) is.lawful is.cells
        ∙ (read_outside (view_now t) name (file_cells (inside_now t) id) at count
        (let long = is.long in omega (arith, over, long))
        ∙ ap (λ (n : ℕ). Err (OutsideFile n)) is.long)

    read_outcome : at + count ≤ file.length → plain (view_now t) (Read name at count)
        ≡ read_whole at count (view_now t) (file_cells (inside_now t) id)
    read_outcome within =
        file_found (view_now t) name (read at count (view_now t)) (file_cells (inside_now t) id) is.lawful is.cells
        ∙ ap (λ (over : Bool). refuse_if over (OutsideFile (length (file_cells (inside_now t) id)))
        (read_whole at count (view_now t) (file_cells (inside_now t) id)))
        (le-ltb (length (file_cells (inside_now t) id)) (at + count)
        (let long = is.long in omega (arith, within, long)))

  -- what is replied to a read, and to a digest, which the device may fail
  module _ (before now : ℕ) where
    pub digest_replied : (r : Result (List ℕ) Fault)
        → IfOk r (λ digest. digest ≡ sha256 (bytes_of (file_cells (inside_now t) id)))
        → OnOk r (lost_where (λ p. true) 0 (file_cells (inside_now t) id) ≡ None)
        → ((q : ℕ) → IsErrOf r (Damaged q) → lost_where (λ p. true) 0 (file_cells (inside_now t) id) ≡ Some q)
        → IsReadRefused before now r
        → IsReplied (plain (view_now t) (Digest name)) None before now (digest_reply r)
    digest_replied (Ok digest) bytes whole damaged refused =
        told_unless (plain (view_now t) (Digest name)) (lost_where (λ p. true) 0 (file_cells (inside_now t) id))
        (reply.Digest (sha256 (bytes_of (file_cells (inside_now t) id))), view_now t) before now (reply.Digest digest)
        digest_outcome whole (ap (λ (d : List ℕ). reply.Digest d) (sym bytes))
    digest_replied (Err fault) bytes whole damaged refused = ⊎_elim
        (λ lost. subst (λ (r : Result (List ℕ) Fault). IsReplied (plain (view_now t) (Digest name)) None before now
        (digest_reply r)) (sym lost.1)
        (lost_unless (plain (view_now t) (Digest name)) (lost_where (λ p. true) 0 (file_cells (inside_now t) id))
        (reply.Digest (sha256 (bytes_of (file_cells (inside_now t) id))), view_now t) before now lost.0
        digest_outcome (damaged lost.0 lost.1)))
        (λ failed. failed_late (plain (view_now t) (Digest name))
        (lost_where (λ p. true) 0 (file_cells (inside_now t) id))
        (reply.Digest (sha256 (bytes_of (file_cells (inside_now t) id))), view_now t) before now (reply.Refused fault)
        digest_outcome (ap digest_reply failed.0) failed.1)
        refused

    -- without what is kept: a lost cell was told, or the device failed
    pub digest_refused : (r : Result (List ℕ) Fault) → IsReadRefused before now r
        → OnErr r (((q : ℕ) × IsErrOf r (Damaged q))
        ⊎ IsReplied (plain (view_now t) (Digest name)) None before now (digest_reply r))
    digest_refused (Ok digest) refused = tt
    digest_refused (Err fault) refused = ⊎_elim (λ lost. inl lost)
        (λ failed. inr (failed_late (plain (view_now t) (Digest name))
        (lost_where (λ p. true) 0 (file_cells (inside_now t) id))
        (reply.Digest (sha256 (bytes_of (file_cells (inside_now t) id))), view_now t) before now (reply.Refused fault)
        digest_outcome (ap digest_reply failed.0) failed.1))
        refused

    module _ (at : ℕ) (out new : List ℕ) (within : at + length out ≤ file.length) where
      pub read_replied : (r : Result (Unit {0}) Fault)
          → OnOk r (new ≡ bytes_of (take (length out) (drop at (file_cells (inside_now t) id))))
          → OnOk r (lost_where (is_within at (length out)) 0 (file_cells (inside_now t) id) ≡ None)
          → ((q : ℕ) → IsErrOf r (Damaged q)
          → lost_where (is_within at (length out)) 0 (file_cells (inside_now t) id) ≡ Some q)
          → IsReadRefused before now r
          → IsReplied (plain (view_now t) (Read name at (length out))) None before now (bytes_reply new r)
      read_replied (Ok done) bytes whole damaged refused =
          told_unless (plain (view_now t) (Read name at (length out)))
          (lost_where (is_within at (length out)) 0 (file_cells (inside_now t) id))
          (reply.Bytes (bytes_of (take (length out) (drop at (file_cells (inside_now t) id)))), view_now t) before now
          (reply.Bytes new) (read_outcome at (length out) within) whole (ap (λ (bs : List ℕ). reply.Bytes bs) (sym bytes))
      read_replied (Err fault) bytes whole damaged refused = ⊎_elim
          (λ lost. subst (λ (r : Result (Unit {0}) Fault). IsReplied (plain (view_now t) (Read name at (length out))) None
          before now (bytes_reply new r)) (sym lost.1)
          (lost_unless (plain (view_now t) (Read name at (length out)))
          (lost_where (is_within at (length out)) 0 (file_cells (inside_now t) id))
          (reply.Bytes (bytes_of (take (length out) (drop at (file_cells (inside_now t) id)))), view_now t) before now
          lost.0 (read_outcome at (length out) within) (damaged lost.0 lost.1)))
          (λ failed. failed_late (plain (view_now t) (Read name at (length out)))
          (lost_where (is_within at (length out)) 0 (file_cells (inside_now t) id))
          (reply.Bytes (bytes_of (take (length out) (drop at (file_cells (inside_now t) id)))), view_now t) before now
          (reply.Refused fault) (read_outcome at (length out) within) (ap (bytes_reply new) failed.0) failed.1)
          refused

      pub read_faults : (r : Result (Unit {0}) Fault) → IsReadRefused before now r
          → OnErr r (((q : ℕ) × IsErrOf r (Damaged q))
          ⊎ IsReplied (plain (view_now t) (Read name at (length out))) None before now (done_reply r))
      read_faults (Ok done) refused = tt
      read_faults (Err fault) refused = ⊎_elim (λ lost. inl lost)
          (λ failed. inr (failed_late (plain (view_now t) (Read name at (length out)))
          (lost_where (is_within at (length out)) 0 (file_cells (inside_now t) id))
          (reply.Bytes (bytes_of (take (length out) (drop at (file_cells (inside_now t) id)))), view_now t) before now
          (reply.Refused fault) (read_outcome at (length out) within) (ap done_reply failed.0) failed.1))
          refused

-- a refusal to find the file is the reply to each call on it
pub refused_alike : (outcome : Outcome) (fault : Fault) (before now : ℕ) → outcome ≡ Err fault
    → IsReplied outcome None before now (reply.Refused fault)
refused_alike outcome fault before now is = replies_own outcome before now (reply.Refused fault) (ap own_reply is)
