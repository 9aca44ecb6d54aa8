-- A run goes on by one item.
use Rattle.std.proofs.Common.{◌≡◌, ◌<◌, ◌+◌, ◌||◌, ℕ, Bool, true, false, cond, List, [], ◌∷◌, ◌++◌, length, refl, sym, ◌∙◌, ap, subst, arith, append_assoc, append-nil, length-append}
use Rattle.plain_volume.specs.Volume.{Volume}
use Rattle.plain_volume.specs.Step.{Legal, replay, after}
use Rattle.plain_volume.specs.declared.call.Call.{Call}
use Rattle.plain_volume.specs.declared.call.Reply.{Reply}
use Rattle.std.specs.List.{list_any}
use Rattle.volume_inside.specs.Inside.{Inside}
use Rattle.volume_core.specs.States.{plain_in}
use Rattle.volume_core.specs.Moves.{inside_after}
use Rattle.ddpsh.specs.States.{State}
use Rattle.script_items.specs.Script.{first_item, behind_item, BeginsWith}
use Rattle.answer_text.specs.Answers.{Answer, text_of, is_refused, is_answered}
use Rattle.ddpsh.specs.Answers.{Comes}
use Rattle.ddpsh.specs.Runs.{Entry, items_of, calls_of, output_of, AreAnswered, state_behind, some_refused, answered_lines, acknowledges, acknowledged, one_if, lets_go, StayOpen, insides_after, Made, Served}

pub replays : (v : Volume) (first second : List (Call × Reply)) → replay v (first ++ second) ≡ replay (replay v first) second
replays v [] second = refl
replays v (pair ∷ first) second = replays (after v pair.0 pair.1) first second

legal_then : (v : Volume) (first second : List (Call × Reply)) → Legal v first → Legal (replay v first) second → Legal v (first ++ second)
legal_then v [] second first_legal rest = rest
legal_then v (pair ∷ first) second first_legal rest = (first_legal.0, legal_then (after v pair.0 pair.1) first second first_legal.1 rest)

insides_split : (i : Inside) (first second : List (Call × Reply)) → insides_after (first ++ second) i ≡ insides_after second (insides_after first i)
insides_split i [] second = refl
insides_split i (pair ∷ first) second = insides_split (inside_after pair.0 pair.1 i) first second

pub made_none : (v : State) → Made v v []
made_none v = record { legal = tt; now = refl; inside = refl; clusters = refl }

pub made_then : (u v w : State) (first second : List (Call × Reply)) → Made u v first → Made v w second → Made u w (first ++ second)
made_then u v w first second one two = record {
  legal = legal_then (plain_in u) first second one.legal (subst (λ (x : Volume). Legal x second) one.now two.legal);
  now = two.now ∙ (ap (λ x. replay x second) one.now ∙ sym (replays (plain_in u) first second));
  inside = two.inside ∙ (ap (insides_after second) one.inside ∙ sym (insides_split u.inside first second));
  clusters = two.clusters ∙ one.clusters;
}

pub calls_more : (es : List Entry) (e : Entry) → calls_of (es ++ e ∷ []) ≡ calls_of es ++ e.calls
calls_more [] e = append-nil e.calls
calls_more (d ∷ es) e = ap (λ x. d.calls ++ x) (calls_more es e) ∙ sym (append_assoc d.calls (calls_of es) e.calls)

pub output_more : (es : List Entry) (e : Entry) → output_of (es ++ e ∷ []) ≡ output_of es ++ text_of e.answer
output_more [] e = append-nil (text_of e.answer)
output_more (d ∷ es) e = ap (λ x. text_of d.answer ++ x) (output_more es e) ∙ sym (append_assoc (text_of d.answer) (output_of es) (text_of e.answer))

pub refused_more : (es : List Entry) (e : Entry) → some_refused (es ++ e ∷ []) ≡ (some_refused es || is_refused e.answer)
refused_more [] e = elim (is_refused e.answer) as (λ b. (b || false) ≡ b) [ true ↦ refl | false ↦ refl ]
refused_more (d ∷ es) e = ap (λ b. is_refused d.answer || b) (refused_more es e) ∙ elim (is_refused d.answer) as (λ b. (b || (some_refused es || is_refused e.answer)) ≡ ((b || some_refused es) || is_refused e.answer)) [ true ↦ refl | false ↦ refl ]

pub counts_more : (es : List Entry) (e : Entry) → answered_lines (es ++ e ∷ []) ≡ answered_lines es + cond (is_answered e.answer) 1 0
counts_more [] e = omega arith
counts_more (d ∷ es) e = omega (arith, counts_more es e)

acks_from : (n m : ℕ) (es : List Entry) → n ≡ m → acknowledged n es ≡ acknowledged m es
acks_from n m es e = ap (λ k. acknowledged k es) e

pub acks_more : (n : ℕ) (es : List Entry) (e : Entry) → acknowledged n (es ++ e ∷ [])
    ≡ acknowledged n es ++ one_if (acknowledges e.item e.answer) (n + (length (calls_of es) + length e.calls))
acks_more n [] e = append-nil (one_if (acknowledges e.item e.answer) (n + length e.calls))
    ∙ (let same : n + length e.calls ≡ n + (0 + length e.calls) = omega arith in ap (one_if (acknowledges e.item e.answer)) same)
acks_more n (d ∷ es) e =
    let last : Bool = acknowledges e.item e.answer in
    let one : List ℕ = one_if (acknowledges d.item d.answer) (n + length d.calls) in
    let same : (n + length d.calls) + (length (calls_of es) + length e.calls) ≡ n + (length (d.calls ++ calls_of es) + length e.calls) =
    omega (arith, length-append d.calls (calls_of es)) in
    ap (λ x. one ++ x) (acks_more (n + length d.calls) es e ∙ ap (λ k. acknowledged (n + length d.calls) es ++ one_if last k) same)
    ∙ sym (append_assoc one (acknowledged (n + length d.calls) es) (one_if last (n + (length (d.calls ++ calls_of es) + length e.calls))))

or_false : (a b : Bool) → a ≡ false → b ≡ false → (a || b) ≡ false
or_false false b x y = y
or_false true b x y = x

open_split : (a b c : Bool) → (a || b) ≡ false → (b ≡ false → c ≡ false) → (a || c) ≡ false
open_split true b c h f = h
open_split false b c h f = f h

pub open_more : (es : List Entry) (e : Entry) → StayOpen es → lets_go e ≡ false → StayOpen (es ++ e ∷ [])
open_more [] e so last = or_false (lets_go e) false last refl
open_more (d ∷ es) e so last = open_split (lets_go d) (list_any lets_go es) (list_any lets_go (es ++ e ∷ [])) so (λ h. open_more es e h last)

answered_more : (v : State) (es : List Entry) (e : Entry) → AreAnswered v es → Comes e.item (state_behind v es) e.calls e.answer e.after → AreAnswered v (es ++ e ∷ [])
answered_more v [] e known h = (h, tt)
answered_more v (d ∷ es) e known h = (known.0, answered_more d.after es e known.1 h)

left_more : (v : State) (es : List Entry) (e : Entry) → e.after ≡ state_behind v (es ++ e ∷ [])
left_more v [] e = refl
left_more v (d ∷ es) e = left_more d.after es e

begins_more : (es : List Entry) (e : Entry) (script rest : List ℕ) → BeginsWith (items_of es) script rest → 0 < length rest → e.item ≡ first_item rest → BeginsWith (items_of (es ++ e ∷ [])) script (behind_item rest)
begins_more [] e script rest h some is = (subst (λ (s : List ℕ). 0 < length s) h some, is ∙ ap first_item h, ap behind_item h)
begins_more (d ∷ es) e script rest h some is = (h.0, h.1, begins_more es e (behind_item script) rest h.2 some is)

pub served_start : (v : State) (script : List ℕ) → Served v script [] script v
served_start v script = record { items = refl; answers = tt; state = refl; made = made_none v }

pub one_more : (v now w : State) (script rest : List ℕ) (es : List Entry) (calls : List (Call × Reply)) (answer : Answer) → Served v script es rest now → 0 < length rest
    → Comes (first_item rest) now calls answer w → Made now w calls
    → Served v script (es ++ (record { item = first_item rest; calls = calls; answer = answer; after = w }) ∷ []) (behind_item rest) w
one_more v now w script rest es calls answer run some comes made =
    let e : Entry = record { item = first_item rest; calls = calls; answer = answer; after = w } in
    let here : Comes (first_item rest) (state_behind v es) calls answer w = subst (λ (x : State). Comes (first_item rest) x calls answer w) run.state comes in
    record {
      items = begins_more es e script rest run.items some refl;
      answers = answered_more v es e run.answers here;
      state = left_more v es e;
      made = subst (λ (x : List (Call × Reply)). Made v w x) (sym (calls_more es e)) (made_then v now w (calls_of es) calls run.made made);
    }
