-- The end of a run.
use Rattle.std.proofs.Common.{◌≡◌, ◌⊎◌, ◌≤◌, ℕ, Bool, true, false, List, Option, Some, map, inl, inr, ⊎_elim, refl, sym, subst, arith}
use Rattle.vdisk.specs.Disk.{DiskState, Only}
use Rattle.vdisk.specs.declared.disk.Disk.{Ghosts}
use Rattle.meta_log.specs.Opened.{IsOnlyRead}
use Rattle.plain_volume.specs.Volume.{Volume}
use Rattle.plain_volume.specs.declared.call.Call.{Call}
use Rattle.plain_volume.specs.declared.call.Reply.{Reply}
use Rattle.volume_core.specs.States.{plain_in, IsStateOf}
use Rattle.ddpsh.specs.States.{State}
use Rattle.volume_core.specs.Volumes.{disk_of, device_of, view_now, IsKept}
use Rattle.ddpsh.specs.Bounds.{Bounded, IsFresh}
use Rattle.ddpsh.specs.Crashes.{Mounts, LastsFrom}
use Rattle.vdisk.specs.Causes.{Rose}
use Rattle.volume_inside.specs.declared.mount_fault.MountFault.{MountFault}
use Rattle.ddpsh.specs.Opens.{Opens, IsOpeningFault, is_reason}
use Rattle.ddpsh.specs.Served.{volume_state, IsStored}
use Rattle.ddpsh.specs.Sessions.{state_of}
use Rattle.ddpsh.specs.Steps.{SessionRun}
use Rattle.ddpsh.specs.Ends.{RunOf, HasLetGo}
use Rattle.answer_text.specs.Told.{IsPrinted}
use Rattle.ddpsh.specs.Outcomes.{last_line, status_of}
use Rattle.ddpsh.specs.Whole.{IsServedRun, IsOpenedRun, IsRun}
use Rattle.ddpsh.specs.declared.acks.Ack.{Ack}
use Rattle.ddpsh.specs.declared.commands.Command.{Command}
use Rattle.ddpsh.specs.declared.commands.Command.TheVariants.{Mount, Format}
use Rattle.ddpsh.specs.declared.ending.Ran.{Ran}
use Rattle.ddpsh.specs.declared.ending.End.{End}
use Rattle.ddpsh.specs.declared.ending.End.TheVariants as ends
use Rattle.volume_core.specs.declared.volume.Volume.{Volume as Engine}
use Rattle.ddpsh.specs.declared.session.Session.{Session}
use Rattle.ddpsh.specs.declared.top.Outcome.{Outcome}
use Rattle.ddpsh.proofs.CrashLaws.{mounts_kept}

pub printed_since : (mid : Option (List ℕ)) (before faults now : ℕ) (text : List ℕ) (held : Option (List ℕ)) → before ≤ faults → IsPrinted mid faults text held now → IsPrinted mid before text held now
printed_since mid before faults now text held earlier (inl put) = inl put
printed_since mid before faults now text held earlier (inr failed) = inr (failed.0, omega (arith, failed.1))

-- an image that was all that a crash could leave is so still, once it was only read
first_left : (old first : DiskState) (w : Volume) → IsOnlyRead old first → Only old.image old.may_leave → Mounts w old.image → (c : List ℕ) → first.left_since old.moment c → Mounts w c
first_left old first w read only mounts c left =
    let leaves : old.may_leave c = ⊎_elim (λ was. old.only_now c was) (λ now. now) (read.keeps.adds.since old.moment c (omega arith) left) in
    subst (λ (x : List ℕ). Mounts w x) (sym (only c leaves)) mounts

mount_opens : (command : Command) (image : List ℕ) (s : State) → command ≡ Mount → Opens command image s → Mounts (plain_in s) image
mount_opens command image s is opens =
    let of : IsStateOf image s = subst (λ (x : Command). Opens x image s) is opens in
    record { inside = s.inside; has = of.inside; is = refl }

-- a run ends with status 7 where the source failed, or the script is too long
pub source_by : (end : End) (refused : Bool) (status : ℕ) (A B : Type 0) → status ≡ status_of end refused → status ≡ 7
    → (end ≡ ends.Source → A) → (end ≡ ends.TooLong → B) → A ⊎ B
source_by ends.Over true status A B is seven source long = let other : status ≡ 1 = is in let no : ⊥ = omega (arith, other, seven) in absurd no
source_by ends.Over false status A B is seven source long = let other : status ≡ 0 = is in let no : ⊥ = omega (arith, other, seven) in absurd no
source_by ends.Exit true status A B is seven source long = let other : status ≡ 1 = is in let no : ⊥ = omega (arith, other, seven) in absurd no
source_by ends.Exit false status A B is seven source long = let other : status ≡ 0 = is in let no : ⊥ = omega (arith, other, seven) in absurd no
source_by ends.Worn refused status A B is seven source long = let other : status ≡ 1 = is in let no : ⊥ = omega (arith, other, seven) in absurd no
source_by ends.Device refused status A B is seven source long = let other : status ≡ 3 = is in let no : ⊥ = omega (arith, other, seven) in absurd no
source_by ends.Memory refused status A B is seven source long = let other : status ≡ 4 = is in let no : ⊥ = omega (arith, other, seven) in absurd no
source_by (ends.Refused fault) refused status A B is seven source long = let other : status ≡ 5 = is in let no : ⊥ = omega (arith, other, seven) in absurd no
source_by ends.Sink refused status A B is seven source long = let other : status ≡ 6 = is in let no : ⊥ = omega (arith, other, seven) in absurd no
source_by ends.Source refused status A B is seven source long = inl (source refl)
source_by ends.TooLong refused status A B is seven source long = inr (long refl)

module _ {D : Type 0} {d : Ghosts D} where
  pub kept_as : (v w : Engine D d) → w ≡ v → IsKept v (view_now v) → IsKept w (view_now w)
  kept_as v w is kept = subst (λ (x : Engine D d). IsKept x (view_now x)) (sym is) kept

  -- a run with what was wanting in it
  abbrev RunBounded : Engine D d → Session D d → List ℕ → Option (List ℕ) → Option (List ℕ) → Ran
      → List (Call × Reply) → List Ack → Type 0
  RunBounded v now s before mid ran calls acks =
      (run : RunOf (volume_state v) (state_of now) s before mid ran calls (map (λ x. x.calls) acks))
      × ((n : ℕ) → IsFresh n v → Bounded n 0 (volume_state v) run.entries)
      × (HasLetGo ran.end run.last.acks → IsStored now.volume)

  bounded_as : (v : Engine D d) (first now : Session D d) (s : List ℕ) (before mid : Option (List ℕ)) (ran : Ran)
      (calls : List (Call × Reply)) (acks kept : List Ack) → first.volume ≡ v → kept ≡ acks
      → (run : RunOf (state_of first) (state_of now) s before mid ran calls (map (λ x. x.calls) acks))
      → ((n : ℕ) → IsFresh n first.volume → Bounded n 0 (state_of first) run.entries)
      → (HasLetGo ran.end run.last.acks → IsStored now.volume)
      → RunBounded v now s before mid ran calls kept
  bounded_as v first now s before mid ran calls acks kept volume same run bounded stored =
      subst (λ (a : List Ack). RunBounded v now s before mid ran calls a) (sym same)
      (subst (λ (e : Engine D d). RunBounded e now s before mid ran calls acks) volume (run, bounded, stored))

  pub served_run : (v : Engine D d) (first now : Session D d) (back : D) (s : List ℕ) (before mid held : Option (List ℕ)) (faults between then : ℕ) (ran : Ran) (acks : List Ack) (outcome : Outcome)
      → first.volume ≡ v → back ≡ device_of now.volume → SessionRun first now s before mid ran acks → faults ≤ between → IsPrinted mid between (last_line ran.end) held then
      → outcome.status ≡ status_of ran.end ran.refused → outcome.lines ≡ ran.lines → outcome.opened ≡ Some (disk_of v).moment → outcome.acks ≡ acks
      → IsServedRun v (d.state back) s before held faults then outcome
  served_run v first now back s before mid held faults between then ran acks outcome volume same run later printed status lines opened kept =
      let both =
      bounded_as v first now s before mid ran run.calls acks outcome.acks volume kept run.run run.bounded run.stored in
      record {
        ran = ran;
        closing = state_of now;
        calls = run.calls;
        mid = mid;
        run = both.0;
        bounded = both.1;
        stored = λ h. subst (λ (x : D). IsStateOf (d.state x).image (state_of now)) (sym same) (both.2 h);
        lasts = subst (λ (a : List Ack). LastsFrom (view_now v) (disk_of v) (d.state back) run.calls a) (sym kept)
            (subst (λ (x : D). LastsFrom (view_now v) (disk_of v) (d.state x) run.calls acks) (sym same)
            (subst (λ (e : Engine D d). LastsFrom (view_now e) (disk_of e) (disk_of now.volume) run.calls acks) volume run.lasts));
        printed = printed_since mid faults between then (last_line ran.end) held later printed;
        status = status;
        lines = lines;
        opened = opened;
      }

  pub opened_run : (command : Command) (v : Engine D d) (old new : DiskState) (s : List ℕ) (before held : Option (List ℕ)) (faults then : ℕ) (outcome : Outcome)
      → Opens command old.image (volume_state v) → IsKept v (view_now v) → (command ≡ Mount → IsOnlyRead old (disk_of v))
      → ((n : ℕ) → command ≡ Format n → IsFresh n v) → IsServedRun v new s before held faults then outcome
      → IsOpenedRun command old new s before held faults then outcome
  opened_run command v old new s before held faults then outcome opens kept read fresh run = record {
    opening = volume_state v;
    opens = opens;
    opened = (disk_of v).moment;
    opened_is = run.opened;
    ran = run.ran;
    closing = run.closing;
    calls = run.calls;
    mid = run.mid;
    run = run.run;
    stored = run.stored;
    lasts = record {
      since = run.lasts.since (disk_of v).moment (omega arith) (λ c left. mounts_kept v (view_now v) kept c ((disk_of v).only_now c left));
      acknowledged = run.lasts.acknowledged;
      order = run.lasts.order;
    };
    bounded = λ n made. run.bounded n (fresh n made);
    from_start = λ mounted only.
        run.lasts.since old.moment ((read mounted).keeps.adds.later)
        (first_left old (disk_of v) (view_now v) (read mounted) only (mount_opens command old.image (volume_state v) mounted opens));
    printed = run.printed;
    status = run.status;
    lines = run.lines;
  }

-- a disk that was lent is the one that came back
pub run_lent : {D : Type 0} (state : D → DiskState) (command other : Command) (old : DiskState) (disk back : D) (s : List ℕ) (before held : Option (List ℕ)) (faults then : ℕ) (outcome : Outcome) → command ≡ other → disk ≡ back
    → IsRun command old (state back) s before held faults then outcome → IsRun other old (state disk) s before held faults then outcome
run_lent {D = D} state command other old disk back s before held faults then outcome asked same run =
    subst (λ (x : D). IsRun other old (state x) s before held faults then outcome) (sym same)
    (subst (λ (k : Command). IsRun k old (state back) s before held faults then outcome) asked run)

pub refused_lent : {D : Type 0} (state : D → DiskState) (command other : Command) (old : DiskState) (disk back : D) → command ≡ other → disk ≡ back
    → (fault : MountFault) × IsOpeningFault command old (state back) fault × (is_reason fault ≡ true)
    → (fault : MountFault) × IsOpeningFault other old (state disk) fault × (is_reason fault ≡ true)
refused_lent {D = D} state command other old disk back asked same is =
    (is.0, subst (λ (x : D). IsOpeningFault other old (state x) is.0) (sym same) (subst (λ (k : Command). IsOpeningFault k old (state back) is.0) asked is.1), is.2)

pub rose_lent : {D : Type 0} (state : D → DiskState) (before : ℕ) (disk back : D) (P : Type 0) → disk ≡ back → Rose before (state back).faults ⊎ P → Rose before (state disk).faults ⊎ P
rose_lent {D = D} state before disk back P same is = subst (λ (x : D). Rose before (state x).faults ⊎ P) (sym same) is
