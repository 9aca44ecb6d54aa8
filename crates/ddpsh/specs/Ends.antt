-- How a run ends.
use Rattle.std.specs.Prelude.{◌≡◌, ◌+◌, ◌&&◌, ℕ, Bool, true, false, List, [], ◌∷◌, ◌++◌, Option, Some, length}
use Rattle.plain_volume.specs.declared.call.Call.{Call}
use Rattle.plain_volume.specs.declared.call.Call.TheVariants as call
use Rattle.plain_volume.specs.declared.call.Reply.{Reply}
use Rattle.ddpsh.specs.States.{State, reply_in}
use Rattle.script_items.specs.Script.{Item, first_item}
use Rattle.answer_text.specs.Answers.{Answer, text_of, said, is_accepted, is_refused}
use Rattle.ddpsh.specs.Answers.{is_exit, Comes, Starts}
use Rattle.ddpsh.specs.Runs.{Entry, Made, Served, StayOpen, lets_go, calls_of, output_of, some_refused, answered_lines, acknowledged, one_if}
use Rattle.answer_text.specs.Told.{IsPut, IsPutInPart}
use Rattle.script_items.specs.declared.input.ScriptFault.{ScriptFault}
use Rattle.script_items.specs.declared.input.ScriptFault.TheVariants as fault
use Rattle.answer_text.specs.declared.answers.Answered.{Answered}
use Rattle.answer_text.specs.declared.answers.Answered.TheVariants as answered
use Rattle.answer_text.specs.declared.stops.SessionFault.{SessionFault}
use Rattle.answer_text.specs.declared.stops.SessionFault.TheVariants as stop
use Rattle.ddpsh.specs.declared.ending.End.{End}
use Rattle.ddpsh.specs.declared.ending.End.TheVariants as ends
use Rattle.ddpsh.specs.declared.ending.Ran.{Ran}

-- The line in which a run ended: its calls, and how many calls were made by each acknowledgement that it gave, where n
-- were made before it; what the sink held before it, and holds now.
pub record Last : Type 0 where
  pub calls : List (Call × Reply)
  pub acks : List ℕ
  pub before : Option (List ℕ)
  pub held : Option (List ℕ)

-- no line was begun
abbrev pub IsNone : Last → Type 0
IsNone last = (last.calls ≡ []) × (last.acks ≡ []) × (last.held ≡ last.before)

-- The script was read to its end, and all was durable when the volume was let go.
pub record IsOver (rest : List ℕ) (stage : State) (n : ℕ) (last : Last) : Type 0 where
  pub read : rest ≡ []
  pub answer : Answer
  pub flushed : said (reply_in stage call.Flush) ≡ Some answer
  pub accepted : is_accepted answer ≡ true
  pub no_call : last.calls ≡ []
  pub acks : last.acks ≡ n ∷ []
  pub held : last.held ≡ last.before

-- the script was read to its end, and what is not durable yet could not be made so
pub record IsWorn (rest : List ℕ) (stage : State) (last : Last) : Type 0 where
  pub read : rest ≡ []
  pub answer : Answer
  pub flushed : said (reply_in stage call.Flush) ≡ Some answer
  pub refused : is_refused answer ≡ true
  pub none : IsNone last

-- a line was served, and a front of its answer was written; that of an `exit` acknowledges all the same
pub record IsCutOff (item : Item) (stage now : State) (n : ℕ) (last : Last) : Type 0 where
  pub answer : Answer
  pub comes : Comes item stage last.calls answer now
  pub put : IsPutInPart last.before (text_of answer) last.held
  pub acks : last.acks ≡ one_if (is_exit item && is_accepted answer) (n + length last.calls)

-- a line was begun and prints nothing, or the end of the script was reached, or nothing was begun
pub record IsStarted (item : Item) (stage : State) (last : Last) : Type 0 where
  pub starts : Starts item stage last.calls
  pub acks : last.acks ≡ []
  pub held : last.held ≡ last.before

-- how a run ends, from the state of the stage on, after n calls
abbrev pub Ends : End → List ℕ → State → State → ℕ → Last → Type 0
Ends ends.Over rest stage now n last = IsOver rest stage n last
Ends ends.Worn rest stage now n last = IsWorn rest stage last
Ends ends.Exit rest stage now n last = IsNone last
Ends ends.Device rest stage now n last = IsStarted (first_item rest) stage last
Ends ends.Memory rest stage now n last = IsStarted (first_item rest) stage last
Ends ends.Sink rest stage now n last = IsCutOff (first_item rest) stage now n last
Ends ends.Source rest stage now n last = IsNone last
Ends ends.TooLong rest stage now n last = IsNone last
Ends (ends.Refused fault) rest stage now n last = ⊥

-- an `exit` that let the volume go stands last, and where the run ended in it
abbrev pub StaysOpenUntil : End → List Entry → Type 0
StaysOpenUntil ends.Exit es =
    (front : List Entry) × (last : Entry) × (es ≡ front ++ last ∷ []) × StayOpen front × (lets_go last ≡ true)
StaysOpenUntil other es = StayOpen es

-- the run let the volume go: at the end of its script, or by an `exit`, whether or not the sink took all of its answer
abbrev pub HasLetGo : End → List ℕ → Type 0
HasLetGo ends.Over acks = Unit {0}
HasLetGo ends.Exit acks = Unit {0}
HasLetGo ends.Sink acks = acks ≡ [] → ⊥
HasLetGo other acks = ⊥

-- what was answered so far, with what was printed and what is told of it
pub record AnsweredSo (opening now : State) (script : List ℕ) (before held : Option (List ℕ)) (refused : Bool)
    (lines : ℕ) (entries : List Entry) (rest : List ℕ) : Type 0 where
  pub served : Served opening script entries rest now
  pub output : IsPut before (output_of entries) held
  pub refusals : refused ≡ some_refused entries
  pub counts : lines ≡ answered_lines entries

-- The first items of the script were answered, each answer was written, and so the run ended. `calls` are the calls of
-- these and of the line in which it ended, and `acks` tells how many calls were made by each acknowledgement.
pub record RunOf (opening now : State) (script : List ℕ) (before held : Option (List ℕ)) (ran : Ran)
    (calls : List (Call × Reply)) (acks : List ℕ) : Type 0 where
  pub entries : List Entry
  pub rest : List ℕ
  pub stage : State
  pub last : Last
  pub so : AnsweredSo opening stage script before last.before ran.refused ran.lines entries rest
  pub made : Made stage now last.calls
  pub ending : Ends ran.end rest stage now (length (calls_of entries)) last
  pub held_is : held ≡ last.held
  pub goes : StaysOpenUntil ran.end entries
  pub calls_are : calls ≡ calls_of entries ++ last.calls
  pub acks_are : acks ≡ acknowledged 0 entries ++ last.acks

-- what the loop keeps of each line

abbrev pub stop_end : SessionFault → End
stop_end stop.Device = ends.Device
stop_end stop.Memory = ends.Memory
stop_end stop.Sink = ends.Sink

abbrev pub fault_end : ScriptFault → End
fault_end fault.Failed = ends.Source
fault_end fault.TooLong = ends.TooLong
fault_end fault.Memory = ends.Memory

abbrev pub kind_refused : Answered → Bool
kind_refused answered.Refused = true
kind_refused other = false

abbrev pub kind_counted : Answered → ℕ
kind_counted answered.Silent = 0
kind_counted other = 1

-- the end of a script that was read to its end, by how the session ended
abbrev pub over_end : Answered → End
over_end answered.Refused = ends.Worn
over_end other = ends.Over
