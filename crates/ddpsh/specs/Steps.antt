-- Lines in a row, over one session.
use Rattle.std.specs.Prelude.{◌≡◌, ◌≤◌, ◌*◌, ℕ, Bool, true, false, List, [], ◌∷◌, ◌++◌, length, map, take, Contains, Option, Result, Ok, Err}
use Rattle.vdisk.specs.declared.disk.Disk.{Ghosts}
use Rattle.plain_volume.specs.Volume.{Volume}
use Rattle.plain_volume.specs.Step.{replay}
use Rattle.plain_volume.specs.declared.call.Call.{Call}
use Rattle.plain_volume.specs.declared.call.Reply.{Reply}
use Rattle.volume_core.specs.Bounds.{HasSpent}
use Rattle.volume_core.specs.Volumes.{disk_of, view_now, clusters_in, IsKept}
use Rattle.ddpsh.specs.Bounds.{touched_by_all, Bounded, IsFresh}
use Rattle.ddpsh.specs.Served.{IsStored}
use Rattle.ddpsh.specs.Crashes.{LastsFrom}
use Rattle.script_items.specs.Script.{Item}
use Rattle.ddpsh.specs.Runs.{Entry, StayOpen, calls_of, acknowledged}
use Rattle.ddpsh.specs.Ends.{AnsweredSo, RunOf, HasLetGo, stop_end, over_end}
use Rattle.script_items.specs.Input.{IsLeft, taken}
use Rattle.ddpsh.specs.Sessions.{state_of, ack_now, LineRun, EndRun}
use Rattle.ddpsh.specs.declared.limits.TheConstants.{MOST_CALLS_OF_A_LINE}
use Rattle.ddpsh.specs.declared.acks.Ack.{Ack}
use Rattle.script_items.specs.declared.input.Input.{Input}
use Rattle.answer_text.specs.declared.answers.Answered.{Answered}
use Rattle.ddpsh.specs.declared.ending.End.{End}
use Rattle.ddpsh.specs.declared.ending.End.TheVariants as ends
use Rattle.ddpsh.specs.declared.ending.Ran.{Ran}
use Rattle.answer_text.specs.declared.stops.SessionFault.{SessionFault}
use Rattle.ddpsh.specs.declared.session.Session.{Session}

abbrev pub acks_when : Bool → Ack → List Ack
acks_when true ack = ack ∷ []
acks_when false ack = []

abbrev pub session_end : Result Answered SessionFault → End
session_end (Ok kind) = over_end kind
session_end (Err stop) = stop_end stop

-- the ends of a run whose script was read to its end
abbrev pub IsSessionEnd : End → Type 0
IsSessionEnd ends.Over = Unit {0}
IsSessionEnd ends.Worn = Unit {0}
IsSessionEnd ends.Device = Unit {0}
IsSessionEnd ends.Memory = Unit {0}
IsSessionEnd other = ⊥

module _ {D : Type 0} {d : Ghosts D} where
  -- a line of a run, whose acknowledgement, if it gave one, is put behind those of the lines before
  pub record DoesStep (item : Item) (old new : Session D d) (before held : Option (List ℕ))
      (result : Result Answered SessionFault) (acks later : List Ack) : Type 0 where
    pub durable : Bool
    pub run : LineRun item old new before held result durable
    pub acks_are : later ≡ acks ++ acks_when durable (ack_now new)

  -- the same of the end of a script, which ends the run
  pub record DoesEndStep (old new : Session D d) (end : End) (acks later : List Ack) : Type 0 where
    pub ended : Result Answered SessionFault
    pub end_is : end ≡ session_end ended
    pub durable : Bool
    pub run : EndRun old new ended durable
    pub acks_are : later ≡ acks ++ acks_when durable (ack_now new)

  -- What a run over a fresh volume has spent at some point, and what was wanting by then.
  pub record Spending (n : ℕ) (first now : Session D d) (entries : List Entry) : Type 0 where
    pub clusters : clusters_in now.volume ≡ n
    pub spent : HasSpent now.volume (touched_by_all (calls_of entries)) (length entries)
    pub bounded : Bounded n 0 (state_of first) entries

  -- What is kept at some point of a run: the volume after a front of its calls, which holds every acknowledged call.
  pub record Keeping (opening : Volume) (now : Session D d) (calls : List (Call × Reply))
      (acks : List Ack) : Type 0 where
    pub count : ℕ
    pub within : count ≤ length calls
    pub kept : IsKept now.volume (replay opening (take count calls))
    pub holds : (ack : Ack) → Contains acks ack → ack.calls ≤ count

  -- a run that is not over: the items so far are answered, and the rest is left
  pub record Stage (first now : Session D d) (script : List ℕ) (input : Input) (source before held : Option (List ℕ))
      (refused : Bool) (lines : ℕ) (acks : List Ack) : Type 0 where
    pub entries : List Entry
    pub rest : List ℕ
    pub so : AnsweredSo (state_of first) (state_of now) script before held refused lines entries rest
    pub left : IsLeft input source (length script) rest
    pub open_yet : StayOpen entries
    pub acks_are : map (λ ack. ack.calls) acks ≡ acknowledged 0 entries
    pub counted : now.calls ≡ length (calls_of entries)
    pub few : length (calls_of entries) ≤ MOST_CALLS_OF_A_LINE * taken input
    pub short : length entries ≤ taken input
    pub lasts : LastsFrom (view_now first.volume) (disk_of first.volume) (disk_of now.volume) (calls_of entries) acks
    pub keeping : Keeping (view_now first.volume) now (calls_of entries) acks
    pub spending : (n : ℕ) → IsFresh n first.volume → Spending n first now entries

  -- a run that is over: what it served, and what a crash leaves behind it
  pub record SessionRun (first now : Session D d) (script : List ℕ) (before held : Option (List ℕ)) (ran : Ran)
      (acks : List Ack) : Type 0 where
    pub calls : List (Call × Reply)
    pub run : RunOf (state_of first) (state_of now) script before held ran calls (map (λ ack. ack.calls) acks)
    pub stored : HasLetGo ran.end run.last.acks → IsStored now.volume
    pub lasts : LastsFrom (view_now first.volume) (disk_of first.volume) (disk_of now.volume) calls acks
    pub bounded : (n : ℕ) → IsFresh n first.volume → Bounded n 0 (state_of first) run.entries
