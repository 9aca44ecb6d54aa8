-- From one state a script has one run, and an image has one state.
use Rattle.std.proofs.Common.{◌≡◌, ◌+◌, ◌-◌, ℕ, true, List, [], ◌∷◌, length, take, replicate, codes, Some, Ok, refl, sym, ◌∙◌, ap, subst, arith}
use Rattle.meta_log.specs.Meta.{epoch_in, place_in}
use Rattle.plain_volume.specs.declared.call.Call.{Call}
use Rattle.plain_volume.specs.declared.call.Call.TheVariants as call
use Rattle.plain_volume.specs.declared.call.Fault.TheVariants as fault
use Rattle.plain_volume.specs.declared.call.Reply.{Reply}
use Rattle.plain_volume.specs.declared.call.Reply.TheVariants as reply
use Rattle.volume_inside.proofs.Insides.{inside_once}
use Rattle.volume_inside.specs.Layout.{journal_at, half_bytes, data_clusters}
use Rattle.volume_tables.specs.Mount.{read_meta}
use Rattle.volume_tables.specs.Pending.{settled}
use Rattle.volume_core.specs.Moves.{Moves, is_told}
use Rattle.volume_core.specs.States.{IsStateOf}
use Rattle.cmdlet_line.specs.Lines.{Ask, Silent, Create, Write, Read, Fill, Length, Rename, Delete, Digest, Stat, Listing, Flush, Exit}
use Rattle.ddpsh.specs.States.{State, reply_in}
use Rattle.script_items.specs.Script.{Item, Bad, Bare, Paid, Cut, Spoilt, BeginsWith, behind_item}
use Rattle.answer_text.specs.Answers.{Answer, Nothing, Refused, refusal_text, said}
use Rattle.ddpsh.specs.Answers.{OneCall, NoCall, Lists, Unmounts, Serves, Comes}
use Rattle.ddpsh.specs.Runs.{Entry, items_of, AreAnswered, state_behind}
use Rattle.ddpsh.specs.Laws.{ItemsHaveOneAnswer, ScriptsHaveOneRun, ImagesFixStates}

-- a reply that prints an answer tells the state that it leaves
told_said : (r : Reply) (answer : Answer) → said r ≡ Some answer → is_told r ≡ true
told_said (reply.Refused fault.Failed) answer says = absurd (let no : ⊥ = cc in no)
told_said (reply.Refused fault.Memory) answer says = absurd (let no : ⊥ = cc in no)
told_said other answer says = refl

-- two calls from one state with the reply of that state leave one state
moved_same : (c : Call) (before after later : State) (answer : Answer) → said (reply_in before c) ≡ Some answer
    → Moves c (reply_in before c) before after → Moves c (reply_in before c) before later → after ≡ later
moved_same c before after later answer says one two =
    let told = told_said (reply_in before c) answer says in one.told told ∙ sym (two.told told)

-- the same calls, answer and state
abbrev Same : List (Call × Reply) → List (Call × Reply) → Answer → Answer → State → State → Type 0
Same calls others answer other after later = (calls ≡ others) × (answer ≡ other) × (after ≡ later)

one_call_same : (c : Call) (before : State) (calls others : List (Call × Reply)) (answer other : Answer) (after later : State)
    → OneCall c before calls answer after → OneCall c before others other later → Same calls others answer other after later
one_call_same c before calls others answer other after later x y =
    let says : Some answer ≡ Some other = sym x.says ∙ y.says in
    (x.calls_are ∙ sym y.calls_are, cc, moved_same c before after later answer x.says x.moves y.moves)

no_call_same : (says : State → Answer) (before : State) (calls others : List (Call × Reply)) (answer other : Answer) (after later : State)
    → NoCall says before calls answer after → NoCall says before others other later → Same calls others answer other after later
no_call_same says before calls others answer other after later x y =
    (x.calls_are ∙ sym y.calls_are, x.says_so ∙ sym y.says_so, x.leaves ∙ sym y.leaves)

unmounts_same : (before : State) (calls others : List (Call × Reply)) (answer other : Answer) (after later : State)
    → Unmounts before calls answer after → Unmounts before others other later → Same calls others answer other after later
unmounts_same before calls others answer other after later x y =
    let says : Some answer ≡ Some other = sym x.says ∙ y.says in
    (x.calls_are ∙ sym y.calls_are, cc, moved_same call.Flush before after later answer x.says x.moves y.moves)

lists_same : (before : State) (calls others : List (Call × Reply)) (answer other : Answer) (after later : State)
    → Lists before calls answer after → Lists before others other later → Same calls others answer other after later
lists_same before calls others answer other after later x y =
    (x.calls_are ∙ sym y.calls_are, x.says ∙ sym y.says, x.leaves ∙ sym y.leaves)

serves_same : (ask : Ask) (payload : List ℕ) (before : State) (calls others : List (Call × Reply)) (answer other : Answer) (after later : State)
    → Serves ask payload before calls answer after → Serves ask payload before others other later → Same calls others answer other after later
serves_same Silent payload = no_call_same (λ before. Nothing)
serves_same (Create name) payload = one_call_same (call.Create name)
serves_same (Write name at count) payload = one_call_same (call.Write name at payload)
serves_same (Read name at count) payload = one_call_same (call.Read name at count)
serves_same (Fill name at count byte) payload = one_call_same (call.Write name at (replicate count byte))
serves_same (Length name size) payload = one_call_same (call.SetLength name size)
serves_same (Rename source target) payload = one_call_same (call.Rename source target)
serves_same (Delete name) payload = one_call_same (call.Delete name)
serves_same (Digest name) payload = one_call_same (call.Digest name)
serves_same (Stat name) payload = one_call_same (call.Stat name)
serves_same Listing payload = lists_same
serves_same Flush payload = one_call_same call.Flush
serves_same Exit payload = unmounts_same

pub item_same : ItemsHaveOneAnswer
item_same (Bad refusal) = no_call_same (λ before. Refused (refusal_text refusal))
item_same (Bare ask) = serves_same ask []
item_same (Paid ask payload) = serves_same ask payload
item_same Cut = no_call_same (λ before. Refused (codes " Cut"))
item_same Spoilt = no_call_same (λ before. Refused (codes " PayloadEnd"))

-- ---- all lines

-- the first entries of two runs from one state
first_same : (e f : Entry) (v : State) → f.item ≡ e.item → Comes e.item v e.calls e.answer e.after
    → Comes f.item v f.calls f.answer f.after → e ≡ f
first_same e f v item one two =
    let first : Comes e.item v f.calls f.answer f.after =
    subst (λ (i : Item). Comes i v f.calls f.answer f.after) item two in
    let same : Same e.calls f.calls e.answer f.answer e.after f.after =
    item_same e.item v e.calls f.calls e.answer f.answer e.after f.after one first in
    λ i. record { item = sym item i; calls = same.0 i; answer = same.1 i; after = same.2 i }

-- as far as both go
fronts_same : (es others : List Entry) (v : State) (script rest left : List ℕ) → BeginsWith (items_of es) script rest
    → BeginsWith (items_of others) script left → AreAnswered v es → AreAnswered v others
    → take (length others) es ≡ take (length es) others
fronts_same [] [] v script rest left h k a b = refl
fronts_same [] (f ∷ others) v script rest left h k a b = refl
fronts_same (e ∷ es) [] v script rest left h k a b = refl
fronts_same (e ∷ es) (f ∷ others) v script rest left h k a b =
    let same : e ≡ f = first_same e f v (k.1 ∙ sym h.1) a.0 b.0 in
    let behind : AreAnswered e.after others = subst (λ (d : Entry). AreAnswered d.after others) (sym same) b.1 in
    let more = fronts_same es others e.after (behind_item script) rest left h.2 k.2 a.1 behind in
    λ i. same i ∷ more i

entries_same : (es others : List Entry) (v : State) (script : List ℕ) → BeginsWith (items_of es) script []
    → BeginsWith (items_of others) script [] → AreAnswered v es → AreAnswered v others → es ≡ others
entries_same [] [] v script h k a b = refl
entries_same [] (f ∷ others) v script h k a b = absurd (omega (arith, k.0, ap length h))
entries_same (e ∷ es) [] v script h k a b = absurd (omega (arith, h.0, ap length k))
entries_same (e ∷ es) (f ∷ others) v script h k a b =
    let same : e ≡ f = first_same e f v (k.1 ∙ sym h.1) a.0 b.0 in
    let behind : AreAnswered e.after others = subst (λ (d : Entry). AreAnswered d.after others) (sym same) b.1 in
    let more = entries_same es others e.after (behind_item script) h.2 k.2 a.1 behind in
    λ i. same i ∷ more i

pub script_same : ScriptsHaveOneRun
script_same opening script es others now later x y =
    let same = entries_same es others opening script x.items y.items x.answers y.answers in
    (same, x.state ∙ (ap (state_behind opening) same ∙ sym y.state))

-- ---- the first state

-- an image has one state
one_state : (image : List ℕ) (s t : State) → IsStateOf image s → IsStateOf image t → s ≡ t
one_state image s t one two =
    let same : Ok s.inside ≡ Ok t.inside = inside_once read_meta image (Ok s.inside) (Ok t.inside) one.inside two.inside in
    let inside : s.inside ≡ t.inside = cc in
    let clusters : s.clusters ≡ t.clusters = omega (arith, one.clusters, two.clusters) in
    let waits : s.pending ≡ t.pending =
    one.pending
    ∙ ((λ i. settled (epoch_in journal_at (half_bytes (clusters i)) image)
    (place_in journal_at (half_bytes (clusters i)) image)
    (data_clusters (clusters i) - (length ((inside i).blocks) + length ((inside i).pages))))
    ∙ sym two.pending) in
    λ i. record { clusters = clusters i; inside = inside i; pending = waits i }

pub states_fixed : ImagesFixStates
states_fixed image opening start script es others rest left now later one two served other =
    let same : opening ≡ start = one_state image opening start one two in (
      same,
      fronts_same es others opening script rest left served.items other.items served.answers
          (subst (λ (s : State). AreAnswered s others) (sym same) other.answers),
    )
