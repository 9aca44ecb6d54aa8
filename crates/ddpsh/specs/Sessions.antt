-- What the lines of a session come to.
use Rattle.std.specs.Prelude.{◌≡◌, ◌≤◌, ◌==◌, ◌-◌, ◌+◌, ◌^◌, ◌&&◌, ◌||◌, nat_le, min, ℕ, zero, suc, Bool, true, false, List, [], ◌∷◌, length, Option, Some, None, Result, Ok, Err}
use Rattle.vdisk.specs.declared.disk.Disk.{Ghosts}
use Rattle.plain_volume.specs.declared.call.Call.{Call}
use Rattle.plain_volume.specs.declared.call.Call.TheVariants as call
use Rattle.plain_volume.specs.declared.call.Reply.{Reply}
use Rattle.ddpsh.specs.States.{State, reply_in}
use Rattle.volume_core.specs.Volumes.{disk_of, stopped}
use Rattle.ddpsh.specs.Served.{volume_state, ComesTo, IsDurable}
use Rattle.ddpsh.specs.Crashes.{Carries}
use Rattle.script_items.specs.Script.{Item}
use Rattle.answer_text.specs.Answers.{Answer, text_of, said, is_accepted, is_refused}
use Rattle.ddpsh.specs.Answers.{is_exit, Comes, Starts}
use Rattle.ddpsh.specs.Runs.{Made, acknowledges}
use Rattle.ddpsh.specs.Saying.{kind_of}
use Rattle.answer_text.specs.Told.{IsPut, IsPutInPart}
use Rattle.ddpsh.specs.declared.limits.TheConstants.{MOST_CALLS_OF_A_LINE}
use Rattle.ddpsh.specs.declared.acks.Ack.{Ack}
use Rattle.answer_text.specs.declared.answers.Answered.{Answered}
use Rattle.answer_text.specs.declared.answers.Answered.TheVariants as answered
use Rattle.answer_text.specs.declared.stops.SessionFault.{SessionFault}
use Rattle.answer_text.specs.declared.stops.SessionFault.TheVariants as stop
use Rattle.ddpsh.specs.declared.session.Session.{Session}

-- a letter and a colon
abbrev pub is_letter : ℕ → Bool
is_letter b = (nat_le 65 b && nat_le b 90) || (nat_le 97 b && nat_le b 122)

abbrev pub is_volume_text : List ℕ → Bool
is_volume_text (letter ∷ colon ∷ []) = is_letter letter && (colon == 58)
is_volume_text other = false

-- the kind of the answer after which no line may come
abbrev pub is_last : Answered → Bool
is_last answered.Exit = true
is_last other = false

-- a count of calls goes on, and stands still at the end of its type
abbrev pub counted_up : ℕ → ℕ → ℕ
counted_up n zero = n
counted_up n (suc more) = min (n + suc more) (2 ^ 64 - 1)

abbrev pub acks_if : Bool → Ack → Option Ack
acks_if true ack = Some ack
acks_if false ack = None

-- How a line ends: its answer is written whole; or the sink failed, and holds a front of it; or the run ends before an
-- answer. `durable` says that the line acknowledged all calls so far.
abbrev pub LineEnds : Result Answered SessionFault → Item → State → State → List (Call × Reply) → Bool → Option (List ℕ)
    → Option (List ℕ) → Type 0
LineEnds (Ok kind) item v w calls durable before held = (answer : Answer) × Comes item v calls answer w
    × (kind ≡ kind_of item answer) × (durable ≡ acknowledges item answer) × IsPut before (text_of answer) held
LineEnds (Err stop.Sink) item v w calls durable before held = (answer : Answer) × Comes item v calls answer w
    × (durable ≡ (is_exit item && is_accepted answer)) × IsPutInPart before (text_of answer) held
LineEnds (Err fault) item v w calls durable before held = Starts item v calls × (durable ≡ false) × (held ≡ before)

-- how the end of a script ends a session: the volume was let go, or that was refused
abbrev pub EndEnds : Result Answered SessionFault → State → Bool → Type 0
EndEnds (Ok answered.Ok) v durable = (answer : Answer) × (said (reply_in v call.Flush) ≡ Some answer)
    × (is_accepted answer ≡ true) × (durable ≡ true)
EndEnds (Ok answered.Refused) v durable = (answer : Answer) × (said (reply_in v call.Flush) ≡ Some answer)
    × (is_refused answer ≡ true) × (durable ≡ false)
EndEnds (Ok other) v durable = ⊥
EndEnds (Err stop.Sink) v durable = ⊥
EndEnds (Err other) v durable = durable ≡ false

module _ {D : Type 0} {d : Ghosts D} where
  abbrev pub state_of : Session D d → State
  state_of s = volume_state s.volume

  -- no further line may come
  abbrev pub is_over : Session D d → Bool
  is_over s = s.over || stopped s.volume

  -- that all calls so far are durable now
  abbrev pub ack_now : Session D d → Ack
  ack_now s = record { moment = (disk_of s.volume).moment; calls = s.calls }

  -- after an `exit` that made all durable
  abbrev pub let_go : Answered → Session D d → Session D d
  let_go answered.Exit s = record s { over = true; ack = Some (ack_now s) }
  let_go other s = s

  -- where all calls so far are durable
  abbrev pub acknowledge : Bool → Session D d → Session D d
  acknowledge true s = record s { ack = Some (ack_now s) }
  acknowledge false s = s

  -- all but the volume, the count of calls and the clock's reading is as it was
  pub record IsSameBeside (old new : Session D d) : Type 0 where
    pub text : new.text ≡ old.text
    pub ack : new.ack ≡ old.ack
    pub over : new.over ≡ old.over

  -- what an item came to, whose calls were counted
  abbrev pub HasCome : Item → Session D d → Session D d → Result Answered SessionFault → List ℕ → Type 0
  HasCome item old new result text =
      (made : ℕ) × (new.calls ≡ counted_up old.calls made) × (made ≤ MOST_CALLS_OF_A_LINE)
      × ComesTo item old.volume new.volume made result text

  -- WHAT A LINE DOES, over a disk that tells what it holds: these calls were made with these replies, it ends so, and a
  -- crash at any moment of it leaves the volume after a front of the calls, or what was kept before. Where it
  -- acknowledges all calls so far, they are durable.
  pub record LineRun (item : Item) (old new : Session D d) (before held : Option (List ℕ))
      (result : Result Answered SessionFault) (durable : Bool) : Type 0 where
    pub calls : List (Call × Reply)
    pub made : Made (state_of old) (state_of new) calls
    pub ends : LineEnds result item (state_of old) (state_of new) calls durable before held
    pub counted : new.calls ≡ counted_up old.calls (length calls)
    pub few : length calls ≤ MOST_CALLS_OF_A_LINE
    pub carries : Carries old.volume new.volume calls
    pub stands : durable ≡ true → IsDurable new.volume

  -- the same of the end of a script: no call is made
  pub record EndRun (old new : Session D d) (result : Result Answered SessionFault) (durable : Bool) : Type 0 where
    pub made : Made (state_of old) (state_of new) []
    pub ends : EndEnds result (state_of old) durable
    pub counted : new.calls ≡ old.calls
    pub carries : Carries old.volume new.volume []
    pub stands : durable ≡ true → IsDurable new.volume

  -- a line whose acknowledgement, if it gave one, is kept in the session, in the place of the last one
  pub record DoesLine (item : Item) (old new : Session D d) (before held : Option (List ℕ))
      (result : Result Answered SessionFault) : Type 0 where
    pub durable : Bool
    pub run : LineRun item old new before held result durable
    pub ack : new.ack ≡ acks_if durable (ack_now new)

  -- the same of the end of a script
  pub record DoesEnd (old new : Session D d) (result : Result Answered SessionFault) : Type 0 where
    pub durable : Bool
    pub run : EndRun old new result durable
    pub ack : new.ack ≡ acks_if durable (ack_now new)
