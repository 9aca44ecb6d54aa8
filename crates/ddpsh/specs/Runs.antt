-- Runs over a script.
use Rattle.std.specs.Prelude.{◌≡◌, ◌+◌, ◌&&◌, ℕ, Bool, false, List, [], ◌∷◌, ◌++◌, ◌||◌, cond, length}
use Rattle.std.specs.List.{list_any}
use Rattle.plain_volume.specs.Step.{Legal, replay}
use Rattle.plain_volume.specs.declared.call.Call.{Call}
use Rattle.plain_volume.specs.declared.call.Reply.{Reply}
use Rattle.volume_inside.specs.Inside.{Inside}
use Rattle.volume_core.specs.States.{plain_in}
use Rattle.volume_core.specs.Moves.{inside_after}
use Rattle.ddpsh.specs.States.{State}
use Rattle.script_items.specs.Script.{Item, BeginsWith}
use Rattle.answer_text.specs.Answers.{Answer, text_of, is_refused, is_answered, is_accepted}
use Rattle.ddpsh.specs.Answers.{is_durable, is_exit, Comes}

-- an item that was answered: its calls with their replies, and its answer
pub record Entry : Type 0 where
  pub item : Item
  pub calls : List (Call × Reply)
  pub answer : Answer
  -- the state that it leaves
  pub after : State

abbrev pub items_of : List Entry → List Item
items_of [] = []
items_of (e ∷ es) = e.item ∷ items_of es

abbrev pub calls_of : List Entry → List (Call × Reply)
calls_of [] = []
calls_of (e ∷ es) = e.calls ++ calls_of es

-- what is printed for them, in order
abbrev pub output_of : List Entry → List ℕ
output_of [] = []
output_of (e ∷ es) = text_of e.answer ++ output_of es

abbrev pub AreAnswered : State → List Entry → Type 0
AreAnswered before [] = Unit {0}
AreAnswered before (e ∷ es) = Comes e.item before e.calls e.answer e.after × AreAnswered e.after es

abbrev pub state_behind : State → List Entry → State
state_behind before [] = before
state_behind before (e ∷ es) = state_behind e.after es

abbrev pub some_refused : List Entry → Bool
some_refused [] = false
some_refused (e ∷ es) = is_refused e.answer || some_refused es

abbrev pub answered_lines : List Entry → ℕ
answered_lines [] = 0
answered_lines (e ∷ es) = cond (is_answered e.answer) 1 0 + answered_lines es

-- an `exit` that let the volume go
abbrev pub lets_go : Entry → Bool
lets_go e = is_exit e.item && is_accepted e.answer

-- none of these let the volume go
abbrev pub StayOpen : List Entry → Type 0
StayOpen es = list_any lets_go es ≡ false

-- a `flush` or an `exit` that was answered `ok`
abbrev pub acknowledges : Item → Answer → Bool
acknowledges item answer = is_durable item && is_accepted answer

abbrev pub one_if : Bool → ℕ → List ℕ
one_if given n = cond given (n ∷ []) []

-- how many calls were made by each acknowledgement that these gave, where n were made before them
abbrev pub acknowledged : ℕ → List Entry → List ℕ
acknowledged n [] = []
acknowledged n (e ∷ es) =
    one_if (acknowledges e.item e.answer) (n + length e.calls) ++ acknowledged (n + length e.calls) es

-- what calls with their replies leave of an inside
abbrev pub insides_after : List (Call × Reply) → Inside → Inside
insides_after [] i = i
insides_after (pair ∷ calls) i = insides_after calls (inside_after pair.0 pair.1 i)

-- calls with lawful replies, from one state to the next
pub record Made (v w : State) (calls : List (Call × Reply)) : Type 0 where
  pub legal : Legal (plain_in v) calls
  pub now : plain_in w ≡ replay (plain_in v) calls
  pub inside : w.inside ≡ insides_after calls v.inside
  pub clusters : w.clusters ≡ v.clusters

-- these are the first items of the script with their answers, the rest stands behind them, and they leave this state
pub record Served (opening : State) (script : List ℕ) (es : List Entry) (rest : List ℕ) (now : State) : Type 0 where
  pub items : BeginsWith (items_of es) script rest
  pub answers : AreAnswered opening es
  pub state : now ≡ state_behind opening es
  pub made : Made opening now (calls_of es)
