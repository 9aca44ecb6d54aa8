-- What an item comes to, served by a volume, before its answer is written.
use Rattle.std.specs.Prelude.{◌≡◌, ◌≤◌, ℕ, true, false, List, length, Result, Ok, Err, OnOk, IsErrOf}
use Rattle.vdisk.specs.Causes.{Rose}
use Rattle.vdisk.specs.declared.disk.Disk.{Ghosts}
use Rattle.cmdlet_line.specs.Lines.{Ask, Refusal, ask_of, refusal_of}
use Rattle.cmdlet_line.specs.declared.lines.Line.{Line}
use Rattle.cmdlet_line.specs.declared.lines.LineFault.{LineFault}
use Rattle.plain_volume.specs.declared.call.Call.{Call}
use Rattle.plain_volume.specs.declared.call.Reply.{Reply}
use Rattle.ddpsh.specs.States.{State}
use Rattle.volume_core.specs.Volumes.{device_of, disk_of, view_now, stopped, IsKept}
use Rattle.volume_core.specs.States as states
use Rattle.volume_core.specs.States.{IsStateOf}
use Rattle.ddpsh.specs.Crashes.{Carries}
use Rattle.script_items.specs.Script.{Item}
use Rattle.answer_text.specs.Answers.{Answer, text_of}
use Rattle.ddpsh.specs.Answers.{Comes, Starts}
use Rattle.ddpsh.specs.Runs.{Made, acknowledges}
use Rattle.ddpsh.specs.Saying.{kind_of}
use Rattle.ddpsh.specs.declared.limits.TheConstants.{MOST_CALLS_OF_A_LINE}
use Rattle.answer_text.specs.declared.answers.Answered.{Answered}
use Rattle.ddpsh.specs.declared.calls.Attempt.{Attempt}
use Rattle.answer_text.specs.declared.stops.SessionFault.{SessionFault}
use Rattle.answer_text.specs.declared.stops.SessionFault.TheVariants as stop
use Rattle.volume_core.specs.declared.volume.Volume.{Volume as Engine}

-- what the code read from a line, without where it lies in memory
abbrev pub asked_as : Result Line LineFault → Result Ask Refusal
asked_as (Ok line) = Ok (ask_of line)
asked_as (Err fault) = Err (refusal_of fault)

module _ {D : Type 0} {d : Ghosts D} where
  abbrev pub volume_state : Engine D d → State
  volume_state v = states.state_of v

  -- the state is that of the image
  abbrev pub IsStored : Engine D d → Type 0
  IsStored v = IsStateOf (disk_of v).image (volume_state v)

  -- all calls so far are durable: the volume now is kept, and the image has the inside of the state
  pub record IsDurable (v : Engine D d) : Type 0 where
    pub kept : IsKept v (view_now v)
    pub stored : IsStored v

  -- an item was served by a volume, and this is what it prints; its calls were counted
  pub record IsServed (item : Item) (old new : Engine D d) (made : ℕ) (kind : Answered) (text : List ℕ) : Type 0 where
    pub calls : List (Call × Reply)
    pub answer : Answer
    pub comes : Comes item (volume_state old) calls answer (volume_state new)
    pub legal : Made (volume_state old) (volume_state new) calls
    pub count : made ≡ length calls
    pub carries : Carries old new calls
    pub durable : acknowledges item answer ≡ true → IsDurable new
    pub text_is : text ≡ text_of answer
    pub kind_is : kind ≡ kind_of item answer

  -- an item was begun by a volume, and no answer is made
  pub record IsBroken (item : Item) (old new : Engine D d) (made : ℕ) : Type 0 where
    pub calls : List (Call × Reply)
    pub starts : Starts item (volume_state old) calls
    pub legal : Made (volume_state old) (volume_state new) calls
    pub count : made ≡ length calls
    pub carries : Carries old new calls

  -- what an item came to
  abbrev pub ComesTo : Item → Engine D d → Engine D d → ℕ → Result Answered SessionFault → List ℕ → Type 0
  ComesTo item old new made (Ok kind) text = IsServed item old new made kind text
  ComesTo item old new made (Err fault) text = IsBroken item old new made

  abbrev pub Attempts : Item → Engine D d → Engine D d → Attempt → List ℕ → Type 0
  Attempts item old new attempt text = ComesTo item old new attempt.made attempt.ended text

  -- a disk that was the same as another is so still
  abbrev pub StaysSame : Engine D d → Engine D d → Type 0
  StaysSame old new = (x : D) → d.is_same x (device_of old) → d.is_same x (device_of new)

  -- what holds over every disk
  pub record IsSteady (old new : Engine D d) (attempt : Attempt) : Type 0 where
    pub later : (disk_of old).faults ≤ (disk_of new).faults
    pub same : StaysSame old new
    pub device : IsErrOf attempt.ended stop.Device → Rose (disk_of old).faults (disk_of new).faults
    pub no_sink : IsErrOf attempt.ended stop.Sink → ⊥
    pub runs : OnOk attempt.ended (stopped new ≡ false)
    pub few : attempt.made ≤ MOST_CALLS_OF_A_LINE
