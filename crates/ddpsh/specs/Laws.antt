-- Laws of the definitions: from one state an item has one answer and leaves one state, and so a script has one run; over
-- an image the states are fixed; and few lines want no epoch.
use Rattle.std.specs.Prelude.{◌≡◌, ◌≤◌, ◌<◌, ◌+◌, ℕ, false, List, [], length, take}
use Rattle.meta_log.specs.Meta.{last_epoch}
use Rattle.plain_volume.specs.declared.call.Call.{Call}
use Rattle.plain_volume.specs.declared.call.Reply.{Reply}
use Rattle.volume_core.specs.States.{IsStateOf, wears_at, wants_in, wants_but_epochs}
use Rattle.ddpsh.specs.States.{State}
use Rattle.script_items.specs.Script.{Item}
use Rattle.answer_text.specs.Answers.{Answer}
use Rattle.ddpsh.specs.Answers.{Comes}
use Rattle.ddpsh.specs.Runs.{Entry, Served}

-- from one state an item makes the same calls with the same replies, has one answer, and leaves one state
abbrev pub ItemsHaveOneAnswer : Type 0
ItemsHaveOneAnswer = (item : Item) (before : State) (calls others : List (Call × Reply)) (answer other : Answer)
    (after later : State)
    → Comes item before calls answer after → Comes item before others other later
    → (calls ≡ others) × (answer ≡ other) × (after ≡ later)

-- From one state a script that is answered to its end has one list of entries, each an item with its calls, its answer
-- and the state that it leaves: so it prints one output, and leaves one last state.
abbrev pub ScriptsHaveOneRun : Type 0
ScriptsHaveOneRun = (opening : State) (script : List ℕ) (es others : List Entry) (now later : State)
    → Served opening script es [] now → Served opening script others [] later
    → (es ≡ others) × (now ≡ later)

-- Over an image that is mounted a script fixes the first state, whole, and each entry: two runs over it have the same
-- entries as far as both go.
abbrev pub ImagesFixStates : Type 0
ImagesFixStates = (image : List ℕ) (opening start : State) (script : List ℕ) (es others : List Entry)
    (rest left : List ℕ) (now later : State)
    → IsStateOf image opening → IsStateOf image start
    → Served opening script es rest now → Served start script others left later
    → (opening ≡ start) × (take (length others) es ≡ take (length es) others)

-- a state after so many lines of a run that opened with this epoch, which does not fall, and takes one a line at most
abbrev pub HasEpochWithin : ℕ → ℕ → State → Type 0
HasEpochWithin opened lines s = (opened ≤ s.pending.epoch) × (s.pending.epoch ≤ opened + lines)

-- Over an image that is mounted no epoch is wanting while the answered lines are too few to come to the last one: the
-- inside and the number of clusters tell what each call wants.
abbrev pub FewLinesWantNoEpoch : Type 0
FewLinesWantNoEpoch = (image : List ℕ) (opening : State) (script : List ℕ) (es : List Entry) (rest : List ℕ)
    (now : State) → IsStateOf image opening → Served opening script es rest now
    → opening.pending.epoch + length es < last_epoch
    → HasEpochWithin opening.pending.epoch (length es) now × (wears_at now ≡ false)
    × ((call : Call) → wants_in now call ≡ wants_but_epochs now.clusters now.inside call)
