-- A whole run of the program.
use Rattle.std.specs.Prelude.{◌≡◌, ◌⊎◌, ℕ, Bool, false, List, [], Option, Some, None, map}
use Rattle.vdisk.specs.Disk.{DiskState, Only}
use Rattle.vdisk.specs.declared.disk.Disk.{Ghosts}
use Rattle.plain_volume.specs.declared.call.Call.{Call}
use Rattle.plain_volume.specs.declared.call.Reply.{Reply}
use Rattle.volume_core.specs.Volumes.{disk_of, view_now}
use Rattle.volume_core.specs.declared.volume.Volume.{Volume as Engine}
use Rattle.volume_core.specs.States.{plain_in, IsStateOf}
use Rattle.ddpsh.specs.States.{State}
use Rattle.ddpsh.specs.Served.{volume_state}
use Rattle.ddpsh.specs.Bounds.{Bounded, IsFresh}
use Rattle.ddpsh.specs.Crashes.{MountsAfter, Lasts, LastsFrom}
use Rattle.volume_inside.specs.declared.mount_fault.MountFault.{MountFault}
use Rattle.ddpsh.specs.Opens.{Opens, EndsUnopened, IsRefusedEnd}
use Rattle.answer_text.specs.Told.{IsPrinted}
use Rattle.ddpsh.specs.Ends.{RunOf, HasLetGo}
use Rattle.ddpsh.specs.Outcomes.{status_of, last_line}
use Rattle.ddpsh.specs.declared.commands.Command.{Command}
use Rattle.ddpsh.specs.declared.commands.Command.TheVariants.{Mount, Format}
use Rattle.ddpsh.specs.declared.ending.End.{End}
use Rattle.ddpsh.specs.declared.ending.Ran.{Ran}
use Rattle.ddpsh.specs.declared.top.Outcome.{Outcome}

module _ {D : Type 0} {d : Ghosts D} where
  -- a script that was served from a volume on, and the outcome
  pub record IsServedRun (first : Engine D d) (now : DiskState) (script : List ℕ) (before held : Option (List ℕ))
      (faults_before faults_now : ℕ) (outcome : Outcome) : Type 0 where
    pub ran : Ran
    pub closing : State
    pub calls : List (Call × Reply)
    pub mid : Option (List ℕ)
    pub run : RunOf (volume_state first) closing script before mid ran calls (map (λ ack. ack.calls) outcome.acks)
    pub stored : HasLetGo ran.end run.last.acks → IsStateOf now.image closing
    pub lasts : LastsFrom (view_now first) (disk_of first) now calls outcome.acks
    pub bounded : (n : ℕ) → IsFresh n first → Bounded n 0 (volume_state first) run.entries
    pub printed : IsPrinted mid faults_before (last_line ran.end) held faults_now
    pub status : outcome.status ≡ status_of ran.end ran.refused
    pub lines : outcome.lines ≡ ran.lines
    pub opened : outcome.opened ≡ Some (disk_of first).moment

-- A run that opened a volume: the script was served from it on, and a crash leaves a volume after a front of its calls.
pub record IsOpenedRun (command : Command) (old new : DiskState) (script : List ℕ) (before held : Option (List ℕ))
    (faults_before faults_now : ℕ) (outcome : Outcome) : Type 0 where
  pub opening : State
  pub opens : Opens command old.image opening
  pub opened : ℕ
  pub opened_is : outcome.opened ≡ Some opened
  pub ran : Ran
  pub closing : State
  pub calls : List (Call × Reply)
  pub mid : Option (List ℕ)
  pub run : RunOf opening closing script before mid ran calls (map (λ ack. ack.calls) outcome.acks)
  -- where the volume was let go, the image has the last inside
  pub stored : HasLetGo ran.end run.last.acks → IsStateOf new.image closing
  pub lasts : Lasts (plain_in opening) opened calls outcome.acks new
  -- over a volume that was made anew nothing was wanting that was not spent
  pub bounded : (n : ℕ) → command ≡ Format n → Bounded n 0 opening run.entries
  -- an image that is mounted, and that was all that a crash could leave, lasts from the start on
  pub from_start : command ≡ Mount → Only old.image old.may_leave
      → (c : List ℕ) → new.left_since old.moment c → MountsAfter (plain_in opening) calls 0 c
  pub printed : IsPrinted mid faults_before (last_line ran.end) held faults_now
  pub status : outcome.status ≡ status_of ran.end ran.refused
  pub lines : outcome.lines ≡ ran.lines

-- an outcome where nothing was served
pub record IsEarly (status : ℕ) (outcome : Outcome) : Type 0 where
  pub status_is : outcome.status ≡ status
  pub no_line : outcome.lines ≡ 0
  pub unopened : outcome.opened ≡ None
  pub no_ack : outcome.acks ≡ []

-- the statuses of a run that opened no volume, and two that one which opened a volume has not
abbrev pub IsEarlyStatus : ℕ → Type 0
IsEarlyStatus n = (n ≡ 2) ⊎ ((n ≡ 3) ⊎ ((n ≡ 4) ⊎ (n ≡ 5)))

abbrev pub IsServedStatus : ℕ → Type 0
IsServedStatus n = (n ≡ 2 → ⊥) × (n ≡ 5 → ⊥)

-- a run that was refused a volume
pub record IsRefusedRun (fault : MountFault) (before held : Option (List ℕ)) (faults_before faults_now : ℕ)
    (outcome : Outcome) : Type 0 where
  pub end : End
  pub why : IsRefusedEnd fault end
  pub early : IsEarly (status_of end false) outcome
  pub printed : IsPrinted before faults_before (last_line end) held faults_now

-- A run that opened no volume: nothing was read of the script.
pub record IsUnopenedRun (command : Command) (old new : DiskState) (before held : Option (List ℕ))
    (faults_before faults_now : ℕ) (outcome : Outcome) : Type 0 where
  pub end : End
  pub why : EndsUnopened command old new end
  pub early : IsEarly (status_of end false) outcome
  -- an image that was all that a crash could leave is so still
  pub from_start : command ≡ Mount → Only old.image old.may_leave
      → (c : List ℕ) → new.left_since old.moment c → c ≡ old.image
  pub printed : IsPrinted before faults_before (last_line end) held faults_now

-- THE RUN
abbrev pub IsRun : Command → DiskState → DiskState → List ℕ → Option (List ℕ) → Option (List ℕ) → ℕ → ℕ → Outcome
    → Type 0
IsRun command old new script before held faults_before faults_now outcome =
    IsOpenedRun command old new script before held faults_before faults_now outcome
    ⊎ IsUnopenedRun command old new before held faults_before faults_now outcome

-- how a run of the command ends, over any source and disk: what it printed last, and its status
pub record HasEnded (held : Option (List ℕ)) (faults_before faults_now : ℕ) (outcome : Outcome) : Type 0 where
  pub end : End
  pub refused : Bool
  pub mid : Option (List ℕ)
  pub printed : IsPrinted mid faults_before (last_line end) held faults_now
  pub status : outcome.status ≡ status_of end refused
