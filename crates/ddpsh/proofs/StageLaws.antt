-- The loop over items.
use Rattle.std.proofs.Common.{◌≡◌, ◌≤◌, ◌<◌, ◌+◌, ◌*◌, ◌^◌, ◌||◌, ◌&&◌, ℕ, zero, suc, Bool, true, false, cond, List, [], ◌∷◌, ◌++◌, length, map, Option, Some, Result, Ok, Err, refl, sym, ◌∙◌, ap, subst, arith, append-nil, length-append}
use Rattle.std.proofs.lemmas.Bool.{false≢true}
use Rattle.std.proofs.lemmas.List.{map-append}
use Rattle.vdisk.specs.declared.disk.Disk.{Ghosts}
use Rattle.plain_volume.specs.Step.{replay}
use Rattle.plain_volume.specs.declared.call.Call.{Call}
use Rattle.plain_volume.specs.declared.call.Reply.{Reply}
use Rattle.cmdlet_line.specs.Lines.{Exit}
use Rattle.ddpsh.specs.States.{State}
use Rattle.script_items.specs.Script.{Item, Bare, first_item, behind_item}
use Rattle.answer_text.specs.Answers.{Answer, Nothing, Accepted, Refused, text_of, is_refused, is_answered, is_accepted}
use Rattle.ddpsh.specs.Answers.{is_exit, Comes}
use Rattle.ddpsh.specs.Runs.{Entry, Made, lets_go, calls_of, output_of, some_refused, acknowledges, acknowledged, one_if}
use Rattle.ddpsh.specs.Ends.{Ends, AnsweredSo, HasLetGo, StaysOpenUntil, stop_end, fault_end, kind_refused, kind_counted}
use Rattle.ddpsh.specs.Saying.{kind_of}
use Rattle.answer_text.specs.Saying.{exit_kind}
use Rattle.script_items.specs.Input.{ahead, taken, IsLeft}
use Rattle.script_items.specs.Reading.{IsItem, is_some_byte}
use Rattle.answer_text.specs.Told.{IsPut}
use Rattle.volume_core.specs.Volumes.{disk_of, view_now, stopped, IsKept}
use Rattle.ddpsh.specs.Bounds.{IsFresh, WantsAreSpent}
use Rattle.ddpsh.specs.Served.{IsDurable, IsStored}
use Rattle.ddpsh.specs.Crashes.{LastsFrom, Carries}
use Rattle.ddpsh.specs.Sessions.{state_of, ack_now, counted_up, is_last, LineEnds, EndEnds, EndRun}
use Rattle.ddpsh.specs.Steps.{acks_when, session_end, DoesStep, DoesEndStep, Spending, Keeping, Stage, SessionRun}
use Rattle.ddpsh.specs.declared.acks.Ack.{Ack}
use Rattle.script_items.specs.declared.input.Input.{Input}
use Rattle.script_items.specs.declared.input.ScriptFault.{ScriptFault}
use Rattle.script_items.specs.declared.input.ScriptFault.TheVariants as fault
use Rattle.ddpsh.specs.declared.ending.End.{End}
use Rattle.ddpsh.specs.declared.ending.End.TheVariants as ends
use Rattle.answer_text.specs.declared.answers.Answered.{Answered}
use Rattle.answer_text.specs.declared.answers.Answered.TheVariants as answered
use Rattle.answer_text.specs.declared.stops.SessionFault.{SessionFault}
use Rattle.answer_text.specs.declared.stops.SessionFault.TheVariants as stop
use Rattle.ddpsh.specs.declared.session.Session.{Session}
use Rattle.ddpsh.proofs.RunLaws.{served_start, made_none, made_then, one_more, calls_more, output_more, refused_more, counts_more, acks_more, open_more}
use Rattle.ddpsh.proofs.BoundLaws.{spending_start, spending_more}
use Rattle.ddpsh.proofs.CrashLaws.{lasts_start, lasts_more, keeping_more, lasts_acked, keeping_acked}
use Rattle.ddpsh.proofs.CallLaws.{starts_none}
use Rattle.answer_text.proofs.PutLaws.{put_none, put_then}

nonempty : (s : List ℕ) → true ≡ is_some_byte s → 0 < length s
nonempty [] h = cc
nonempty (b ∷ s) h = omega arith

empty : (s : List ℕ) → false ≡ is_some_byte s → s ≡ []
empty [] h = refl
empty (b ∷ s) h = cc

kind_is_refused : (exits : Bool) (answer : Answer) → kind_refused (exit_kind exits answer) ≡ is_refused answer
kind_is_refused true Nothing = refl
kind_is_refused true (Accepted more) = refl
kind_is_refused true (Refused more) = refl
kind_is_refused false Nothing = refl
kind_is_refused false (Accepted more) = refl
kind_is_refused false (Refused more) = refl

pub kind_counts : (exits : Bool) (answer : Answer) → kind_counted (exit_kind exits answer) ≡ cond (is_answered answer) 1 0
kind_counts true Nothing = refl
kind_counts true (Accepted more) = refl
kind_counts true (Refused more) = refl
kind_counts false Nothing = refl
kind_counts false (Accepted more) = refl
kind_counts false (Refused more) = refl

kind_goes : (exits : Bool) (answer : Answer) → is_last (exit_kind exits answer) ≡ (exits && is_accepted answer)
kind_goes true Nothing = refl
kind_goes true (Accepted more) = refl
kind_goes true (Refused more) = refl
kind_goes false Nothing = refl
kind_goes false (Accepted more) = refl
kind_goes false (Refused more) = refl

-- one more item is answered
so_more : (v now w : State) (script : List ℕ) (before held after : Option (List ℕ)) (refused : Bool) (lines : ℕ) (es : List Entry) (rest : List ℕ) (calls : List (Call × Reply)) (answer : Answer) (kind : Answered)
    → AnsweredSo v now script before held refused lines es rest → 0 < length rest → Comes (first_item rest) now calls answer w → Made now w calls
    → kind ≡ kind_of (first_item rest) answer → IsPut held (text_of answer) after
    → AnsweredSo v w script before after (refused || kind_refused kind) (lines + kind_counted kind) (es ++ (record { item = first_item rest; calls = calls; answer = answer; after = w }) ∷ []) (behind_item rest)
so_more v now w script before held after refused lines es rest calls answer kind so some comes made is put =
    let e : Entry = record { item = first_item rest; calls = calls; answer = answer; after = w } in
    let refuses : kind_refused kind ≡ is_refused answer = ap kind_refused is ∙ kind_is_refused (is_exit (first_item rest)) answer in
    let counts : kind_counted kind ≡ cond (is_answered answer) 1 0 = ap kind_counted is ∙ kind_counts (is_exit (first_item rest)) answer in
    record {
      served = one_more v now w script rest es calls answer so.served some comes made;
      output = subst (λ (x : List ℕ). IsPut before x after) (sym (output_more es e)) (put_then before held after (output_of es) (text_of answer) so.output put);
      refusals = ap (λ b. b || kind_refused kind) so.refusals ∙ (ap (λ b. some_refused es || b) refuses ∙ sym (refused_more es e));
      counts = omega (arith, so.counts, counts, counts_more es e);
    }

acks_map : (acks : List Ack) (durable : Bool) (ack : Ack) → map (λ a. a.calls) (acks ++ acks_when durable ack) ≡ map (λ a. a.calls) acks ++ one_if durable ack.calls
acks_map acks true ack = map-append (λ a. a.calls) acks (ack ∷ [])
acks_map acks false ack = map-append (λ a. a.calls) acks []

-- a count of calls does not come to the end of its type
counted_well : (count now more n taken : ℕ) → now ≡ counted_up count more → count ≡ n → n ≤ 1048576 * taken → taken ≤ 2 ^ 40 → more ≤ 1048576 → now ≡ n + more
counted_well count now zero n taken is same few within small = omega (arith, is, same)
counted_well count now (suc more) n taken is same few within small = omega (arith, is, same, few, within, small)

abbrev entry_of : Item → List (Call × Reply) → Answer → State → Entry
entry_of item calls answer w = record { item = item; calls = calls; answer = answer; after = w }

pub left_start : (input : Input) (source : Option (List ℕ)) (s : List ℕ) → ahead input ≡ [] → input.came ≡ 0 → source ≡ Some s → IsLeft input source (length s) s
left_start input source s none came told = record { rest = s; told = told; whole = sym (ap (λ x. x ++ s) none); counted = omega (arith, came) }

-- an `exit` that let the volume go acknowledges
exit_acknowledges : (item : Item) (answer : Answer) → (is_exit item && is_accepted answer) ≡ true → acknowledges item answer ≡ true
exit_acknowledges (Bare Exit) answer h = h
exit_acknowledges other answer h = absurd (false≢true h)

module _ {D : Type 0} {d : Ghosts D} where
  stored_if : (w : Session D d) (durable : Bool) (n : ℕ) → (durable ≡ true → IsDurable w.volume) → (one_if durable n ≡ [] → ⊥) → IsStored w.volume
  stored_if w true n stands h = (stands refl).stored
  stored_if w false n stands h = absurd (h refl)

  stop_stored : (f : SessionFault) (w : Session D d) (durable : Bool) (n : ℕ) → (durable ≡ true → IsDurable w.volume) → HasLetGo (stop_end f) (one_if durable n) → IsStored w.volume
  stop_stored stop.Device w durable n stands h = absurd h
  stop_stored stop.Memory w durable n stands h = absurd h
  stop_stored stop.Sink w durable n stands h = stored_if w durable n stands h

  over_stored : (ended : Result Answered SessionFault) (w : Session D d) (durable : Bool) (n : ℕ) (v : State) → (durable ≡ true → IsDurable w.volume) → EndEnds ended v durable
      → HasLetGo (session_end ended) (one_if durable n) → IsStored w.volume
  over_stored (Ok answered.Ok) w durable n v stands ends h = (stands ends.3).stored
  over_stored (Ok answered.Refused) w durable n v stands ends h = absurd h
  over_stored (Ok answered.Silent) w durable n v stands ends h = absurd ends
  over_stored (Ok answered.Exit) w durable n v stands ends h = absurd ends
  over_stored (Err stop.Device) w durable n v stands ends h = absurd h
  over_stored (Err stop.Memory) w durable n v stands ends h = absurd h
  over_stored (Err stop.Sink) w durable n v stands ends h = absurd ends

  -- what a line, or the end of a script, adds to what is told of crashes
  module _ (first old new : Session D d) (calls more : List (Call × Reply)) (acks later : List Ack) (durable : Bool)
      (so : Made (state_of first) (state_of old) calls) (made : Made (state_of old) (state_of new) more) (carries : Carries old.volume new.volume more)
      (count : new.calls ≡ length (calls ++ more)) (stands : durable ≡ true → IsDurable new.volume) (are : later ≡ acks ++ acks_when durable (ack_now new)) where
    now_is : view_now new.volume ≡ replay (view_now first.volume) (calls ++ more)
    now_is = (made_then (state_of first) (state_of old) (state_of new) calls more so made).now

    lasts_when : (b : Bool) → (b ≡ true → IsDurable new.volume) → LastsFrom (view_now first.volume) (disk_of first.volume) (disk_of new.volume) (calls ++ more) acks
        → LastsFrom (view_now first.volume) (disk_of first.volume) (disk_of new.volume) (calls ++ more) (acks ++ acks_when b (ack_now new))
    lasts_when true keeps lasts = lasts_acked (view_now first.volume) (disk_of first.volume) new (calls ++ more) acks now_is count (keeps refl).kept lasts
    lasts_when false keeps lasts = subst (λ (x : List Ack). LastsFrom (view_now first.volume) (disk_of first.volume) (disk_of new.volume) (calls ++ more) x) (sym (append-nil acks)) lasts

    keeping_when : (b : Bool) → (b ≡ true → IsDurable new.volume) → Keeping (view_now first.volume) new (calls ++ more) acks
        → Keeping (view_now first.volume) new (calls ++ more) (acks ++ acks_when b (ack_now new))
    keeping_when true keeps keeping = keeping_acked (view_now first.volume) (disk_of first.volume) new (calls ++ more) acks now_is count (keeps refl).kept keeping
    keeping_when false keeps keeping = subst (λ (x : List Ack). Keeping (view_now first.volume) new (calls ++ more) x) (sym (append-nil acks)) keeping

    pub step_lasts : LastsFrom (view_now first.volume) (disk_of first.volume) (disk_of old.volume) calls acks → Keeping (view_now first.volume) old calls acks
        → LastsFrom (view_now first.volume) (disk_of first.volume) (disk_of new.volume) (calls ++ more) later
    step_lasts lasts keeping =
        subst (λ (x : List Ack). LastsFrom (view_now first.volume) (disk_of first.volume) (disk_of new.volume) (calls ++ more) x) (sym are)
        (lasts_when durable stands (lasts_more (view_now first.volume) (disk_of first.volume) old new calls more acks so.now carries lasts keeping))

    pub step_keeping : stopped new.volume ≡ false → Keeping (view_now first.volume) old calls acks → Keeping (view_now first.volume) new (calls ++ more) later
    step_keeping runs keeping =
        subst (λ (x : List Ack). Keeping (view_now first.volume) new (calls ++ more) x) (sym are)
        (keeping_when durable stands (keeping_more (view_now first.volume) (disk_of first.volume) old new calls more acks so.now carries runs keeping))

  pub stage_start : (v : Session D d) (s : List ℕ) (input : Input) (source before : Option (List ℕ)) → ahead input ≡ [] → input.came ≡ 0 → source ≡ Some s → v.calls ≡ 0
      → IsKept v.volume (view_now v.volume) → WantsAreSpent v.volume → Stage v v s input source before before false 0 []
  stage_start v s input source before none came told count kept law = record {
    entries = [];
    rest = s;
    so = record { served = served_start (state_of v) s; output = put_none before; refusals = refl; counts = refl };
    left = record { rest = s; told = told; whole = sym (ap (λ x. x ++ s) none); counted = omega (arith, came) };
    open_yet = refl;
    acks_are = refl;
    counted = count;
    few = omega arith;
    short = omega arith;
    lasts = lasts_start v;
    keeping = record { count = 0; within = omega arith; kept = kept; holds = λ ack here. absurd (omega (arith, here.1)) };
    spending = λ n fresh. spending_start n v law fresh;
  }

  module _ (first now w : Session D d) (s : List ℕ) (input later : Input) (source then before held after : Option (List ℕ)) (refused : Bool) (lines : ℕ) (acks more : List Ack)
      (line payload : List ℕ) (item : Item) (so : Stage first now s input source before held refused lines acks)
      (is : item ≡ first_item so.rest) (few : taken input ≤ 2 ^ 40) where
    count_more : (calls : List (Call × Reply)) → w.calls ≡ counted_up now.calls (length calls) → length calls ≤ 1048576 → w.calls ≡ length (calls_of so.entries) + length calls
    count_more calls counted small = counted_well now.calls w.calls (length calls) (length (calls_of so.entries)) (taken input) counted so.counted so.few few small

    count_joined : (calls : List (Call × Reply)) → w.calls ≡ length (calls_of so.entries) + length calls → w.calls ≡ length (calls_of so.entries ++ calls)
    count_joined calls counted = omega (arith, counted, length-append (calls_of so.entries) calls)

    some_left : IsItem so.rest true line payload later then (length s) → 0 < length so.rest
    some_left read = nonempty so.rest read.some

    -- an item that was answered whole
    module _ (calls : List (Call × Reply)) (durable : Bool) (a : Answered) (answer : Answer) (comes : Comes (first_item so.rest) (state_of now) calls answer (state_of w))
        (kind : a ≡ kind_of (first_item so.rest) answer) (acked : durable ≡ acknowledges (first_item so.rest) answer) (put : IsPut held (text_of answer) after)
        (made : Made (state_of now) (state_of w) calls) (count : w.calls ≡ length (calls_of so.entries) + length calls)
        (are : more ≡ acks ++ acks_when durable (ack_now w)) (read : IsItem so.rest true line payload later then (length s)) where
      answered_so : AnsweredSo (state_of first) (state_of w) s before after (refused || kind_refused a) (lines + kind_counted a)
          (so.entries ++ entry_of (first_item so.rest) calls answer (state_of w) ∷ []) (behind_item so.rest)
      answered_so = so_more (state_of first) (state_of now) (state_of w) s before held after refused lines so.entries so.rest calls answer a so.so (some_left read) comes made kind put

      acks_so : map (λ x. x.calls) more ≡ acknowledged 0 (so.entries ++ entry_of (first_item so.rest) calls answer (state_of w) ∷ [])
      acks_so =
          let same : w.calls ≡ 0 + (length (calls_of so.entries) + length calls) = omega (arith, count) in
          ap (map (λ (x : Ack). x.calls)) are ∙ (acks_map acks durable (ack_now w) ∙ (ap (λ x. x ++ one_if durable w.calls) so.acks_are
          ∙ (ap (λ b. acknowledged 0 so.entries ++ one_if b w.calls) acked
          ∙ (ap (λ k. acknowledged 0 so.entries ++ one_if (acknowledges (first_item so.rest) answer) k) same
          ∙ sym (acks_more 0 so.entries (entry_of (first_item so.rest) calls answer (state_of w)))))))

      calls_so : calls_of (so.entries ++ entry_of (first_item so.rest) calls answer (state_of w) ∷ []) ≡ calls_of so.entries ++ calls
      calls_so = calls_more so.entries (entry_of (first_item so.rest) calls answer (state_of w))

      goes_so : (b : Bool) → is_last a ≡ b → lets_go (entry_of (first_item so.rest) calls answer (state_of w)) ≡ b
      goes_so b h = sym (kind_goes (is_exit (first_item so.rest)) answer) ∙ (sym (ap is_last kind) ∙ h)

    lasts_so : (calls : List (Call × Reply)) (durable : Bool) → Made (state_of now) (state_of w) calls → Carries now.volume w.volume calls → w.calls ≡ length (calls_of so.entries) + length calls
        → (durable ≡ true → IsDurable w.volume) → more ≡ acks ++ acks_when durable (ack_now w)
        → LastsFrom (view_now first.volume) (disk_of first.volume) (disk_of w.volume) (calls_of so.entries ++ calls) more
    lasts_so calls durable made carries count kept are =
        step_lasts first now w (calls_of so.entries) calls acks more durable so.so.served.made made carries (count_joined calls count) kept are so.lasts so.keeping

    keeping_so : (calls : List (Call × Reply)) (durable : Bool) → Made (state_of now) (state_of w) calls → Carries now.volume w.volume calls → w.calls ≡ length (calls_of so.entries) + length calls
        → (durable ≡ true → IsDurable w.volume) → more ≡ acks ++ acks_when durable (ack_now w) → stopped w.volume ≡ false
        → Keeping (view_now first.volume) w (calls_of so.entries ++ calls) more
    keeping_so calls durable made carries count kept are runs =
        step_keeping first now w (calls_of so.entries) calls acks more durable so.so.served.made made carries (count_joined calls count) kept are runs so.keeping

    item_ends : (r : Result Answered SessionFault) (calls : List (Call × Reply)) (durable : Bool) → LineEnds r item (state_of now) (state_of w) calls durable held after
        → LineEnds r (first_item so.rest) (state_of now) (state_of w) calls durable held after
    item_ends r calls durable ends = subst (λ (i : Item). LineEnds r i (state_of now) (state_of w) calls durable held after) is ends

    -- one more line over a fresh volume
    spending_so : (n : ℕ) (e : Entry) → e.after ≡ state_of w → Carries now.volume w.volume e.calls
        → stopped w.volume ≡ false → WantsAreSpent w.volume → IsFresh n first.volume
        → Spending n first w (so.entries ++ e ∷ [])
    spending_so n e left carries runs law fresh =
        spending_more n first now w so.entries e left carries runs law (omega (arith, so.short, few))
        (so.spending n fresh)

    pub stage_more : (a : Answered) → IsItem so.rest true line payload later then (length s) → taken input < taken later → is_last a ≡ false → stopped w.volume ≡ false
        → WantsAreSpent w.volume → DoesStep item now w held after (Ok a) acks more
        → Stage first w s later then before after (refused || kind_refused a) (lines + kind_counted a) more
    stage_more a read grows going runs law step =
        let ends = item_ends (Ok a) step.run.calls step.durable step.run.ends in
        let count : w.calls ≡ length (calls_of so.entries) + length step.run.calls = count_more step.run.calls step.run.counted step.run.few in
        let e : Entry = entry_of (first_item so.rest) step.run.calls ends.0 (state_of w) in
        let es : List Entry = so.entries ++ e ∷ [] in
        let joined : calls_of es ≡ calls_of so.entries ++ step.run.calls =
        calls_so step.run.calls step.durable a ends.0 ends.1 ends.2 ends.3 ends.4 step.run.made count step.acks_are read in
        record {
          entries = es;
          rest = behind_item so.rest;
          so = answered_so step.run.calls step.durable a ends.0 ends.1 ends.2 ends.3 ends.4 step.run.made count step.acks_are read;
          left = read.left refl;
          open_yet = open_more so.entries (entry_of (first_item so.rest) step.run.calls ends.0 (state_of w)) so.open_yet
              (goes_so step.run.calls step.durable a ends.0 ends.1 ends.2 ends.3 ends.4 step.run.made count step.acks_are read false going);
          acks_are = acks_so step.run.calls step.durable a ends.0 ends.1 ends.2 ends.3 ends.4 step.run.made count step.acks_are read;
          counted = count_joined step.run.calls count ∙ ap length (sym joined);
          few = omega (arith, ap length joined, length-append (calls_of so.entries) step.run.calls, so.few, step.run.few, grows);
          short = omega (arith, so.short, grows, length-append so.entries (e ∷ []));
          lasts = subst (λ (c : List (Call × Reply)). LastsFrom (view_now first.volume) (disk_of first.volume) (disk_of w.volume) c more) (sym joined)
              (lasts_so step.run.calls step.durable step.run.made step.run.carries count step.run.stands step.acks_are);
          keeping = subst (λ (c : List (Call × Reply)). Keeping (view_now first.volume) w c more) (sym joined)
              (keeping_so step.run.calls step.durable step.run.made step.run.carries count step.run.stands step.acks_are runs);
          spending = λ n fresh. spending_so n e refl step.run.carries runs law fresh;
        }

    pub stage_exit : (a : Answered) → a ≡ answered.Exit → IsItem so.rest true line payload later then (length s)
        → stopped w.volume ≡ false → WantsAreSpent w.volume → DoesStep item now w held after (Ok a) acks more
        → SessionRun first w s before after (record { end = ends.Exit; refused = refused || kind_refused a; lines = lines + kind_counted a }) more
    stage_exit a exits read runs law step =
        let ends = item_ends (Ok a) step.run.calls step.durable step.run.ends in
        let count : w.calls ≡ length (calls_of so.entries) + length step.run.calls = count_more step.run.calls step.run.counted step.run.few in
        let e : Entry = entry_of (first_item so.rest) step.run.calls ends.0 (state_of w) in
        let es : List Entry = so.entries ++ e ∷ [] in
        let joined : calls_of es ≡ calls_of so.entries ++ step.run.calls =
        calls_so step.run.calls step.durable a ends.0 ends.1 ends.2 ends.3 ends.4 step.run.made count step.acks_are read in
        record {
          calls = calls_of so.entries ++ step.run.calls;
          run = record {
            entries = es;
            rest = behind_item so.rest;
            stage = state_of w;
            last = record { calls = []; acks = []; before = after; held = after };
            so = answered_so step.run.calls step.durable a ends.0 ends.1 ends.2 ends.3 ends.4 step.run.made count step.acks_are read;
            made = made_none (state_of w);
            ending = (refl, refl, refl);
            held_is = refl;
            goes = (
              so.entries,
              e,
              refl,
              so.open_yet,
              goes_so step.run.calls step.durable a ends.0 ends.1 ends.2 ends.3 ends.4 step.run.made count step.acks_are read true (ap is_last exits),
            );
            calls_are = sym joined ∙ sym (append-nil (calls_of es));
            acks_are = acks_so step.run.calls step.durable a ends.0 ends.1 ends.2 ends.3 ends.4 step.run.made count step.acks_are read ∙ sym (append-nil (acknowledged 0 es));
          };
          stored = λ h.
              let gone : lets_go (entry_of (first_item so.rest) step.run.calls ends.0 (state_of w)) ≡ true =
              goes_so step.run.calls step.durable a ends.0 ends.1 ends.2 ends.3 ends.4 step.run.made count step.acks_are read true (ap is_last exits) in
              (step.run.stands (ends.3 ∙ exit_acknowledges (first_item so.rest) ends.0 gone)).stored;
          lasts = lasts_so step.run.calls step.durable step.run.made step.run.carries count step.run.stands step.acks_are;
          bounded = λ n fresh. (spending_so n e refl step.run.carries runs law fresh).bounded;
        }

    stopped_ends : (f : SessionFault) (calls : List (Call × Reply)) (durable : Bool) → LineEnds (Err f) (first_item so.rest) (state_of now) (state_of w) calls durable held after
        → w.calls ≡ length (calls_of so.entries) + length calls
        → Ends (stop_end f) so.rest (state_of now) (state_of w) (length (calls_of so.entries)) (record { calls = calls; acks = one_if durable w.calls; before = held; held = after })
    stopped_ends stop.Device calls durable ends count = record { starts = ends.0; acks = ap (λ b. one_if b w.calls) ends.1; held = ends.2 }
    stopped_ends stop.Memory calls durable ends count = record { starts = ends.0; acks = ap (λ b. one_if b w.calls) ends.1; held = ends.2 }
    stopped_ends stop.Sink calls durable ends count = record {
      answer = ends.0;
      comes = ends.1;
      put = ends.3;
      acks = ap (λ b. one_if b w.calls) ends.2 ∙ ap (one_if (is_exit (first_item so.rest) && is_accepted ends.0)) count;
    }

    stays_open : (f : SessionFault) → StaysOpenUntil (stop_end f) so.entries
    stays_open stop.Device = so.open_yet
    stays_open stop.Memory = so.open_yet
    stays_open stop.Sink = so.open_yet

    pub stage_stop : (f : SessionFault) → DoesStep item now w held after (Err f) acks more → SessionRun first w s before after (record { end = stop_end f; refused = refused; lines = lines }) more
    stage_stop f step =
        let ends = item_ends (Err f) step.run.calls step.durable step.run.ends in
        let count : w.calls ≡ length (calls_of so.entries) + length step.run.calls = count_more step.run.calls step.run.counted step.run.few in
        record {
          calls = calls_of so.entries ++ step.run.calls;
          run = record {
            entries = so.entries;
            rest = so.rest;
            stage = state_of now;
            last = record { calls = step.run.calls; acks = one_if step.durable w.calls; before = held; held = after };
            so = so.so;
            made = step.run.made;
            ending = stopped_ends f step.run.calls step.durable ends count;
            held_is = refl;
            goes = stays_open f;
            calls_are = refl;
            acks_are = ap (map (λ (x : Ack). x.calls)) step.acks_are ∙ (acks_map acks step.durable (ack_now w) ∙ ap (λ x. x ++ one_if step.durable w.calls) so.acks_are);
          };
          stored = stop_stored f w step.durable w.calls step.run.stands;
          lasts = lasts_so step.run.calls step.durable step.run.made step.run.carries count step.run.stands step.acks_are;
          bounded = λ n fresh. (so.spending n fresh).bounded;
        }

  module _ (first now : Session D d) (s : List ℕ) (input : Input) (source before held : Option (List ℕ)) (refused : Bool) (lines : ℕ) (acks : List Ack)
      (so : Stage first now s input source before held refused lines acks) where
    fault_ends : (f : ScriptFault) → Ends (fault_end f) so.rest (state_of now) (state_of now) (length (calls_of so.entries)) (record { calls = []; acks = []; before = held; held = held })
    fault_ends fault.Failed = (refl, refl, refl)
    fault_ends fault.TooLong = (refl, refl, refl)
    fault_ends fault.Memory = record { starts = starts_none (first_item so.rest) (state_of now); acks = refl; held = refl }

    fault_open : (f : ScriptFault) → StaysOpenUntil (fault_end f) so.entries
    fault_open fault.Failed = so.open_yet
    fault_open fault.TooLong = so.open_yet
    fault_open fault.Memory = so.open_yet

    fault_kept : (f : ScriptFault) → HasLetGo (fault_end f) [] → IsStored now.volume
    fault_kept fault.Failed h = absurd h
    fault_kept fault.TooLong h = absurd h
    fault_kept fault.Memory h = absurd h

    -- the script is not read on
    pub stage_fault : (f : ScriptFault) → SessionRun first now s before held (record { end = fault_end f; refused = refused; lines = lines }) acks
    stage_fault f = record {
      calls = calls_of so.entries;
      run = record {
        entries = so.entries;
        rest = so.rest;
        stage = state_of now;
        last = record { calls = []; acks = []; before = held; held = held };
        so = so.so;
        made = made_none (state_of now);
        ending = fault_ends f;
        held_is = refl;
        goes = fault_open f;
        calls_are = sym (append-nil (calls_of so.entries));
        acks_are = so.acks_are ∙ sym (append-nil (acknowledged 0 so.entries));
      };
      stored = fault_kept f;
      lasts = so.lasts;
      bounded = λ n fresh. (so.spending n fresh).bounded;
    }

    over_ends : (w : Session D d) (ended : Result Answered SessionFault) (durable : Bool) → so.rest ≡ [] → w.calls ≡ length (calls_of so.entries) → EndEnds ended (state_of now) durable
        → Ends (session_end ended) so.rest (state_of now) (state_of w) (length (calls_of so.entries)) (record { calls = []; acks = one_if durable w.calls; before = held; held = held })
    over_ends w (Ok answered.Ok) durable none count ends = record {
      read = none;
      answer = ends.0;
      flushed = ends.1;
      accepted = ends.2;
      no_call = refl;
      acks = ap (λ b. one_if b w.calls) ends.3 ∙ ap (λ k. k ∷ []) count;
      held = refl;
    }
    over_ends w (Ok answered.Refused) durable none count ends = record {
      read = none;
      answer = ends.0;
      flushed = ends.1;
      refused = ends.2;
      none = (refl, ap (λ b. one_if b w.calls) ends.3, refl);
    }
    over_ends w (Ok answered.Silent) durable none count ends = absurd ends
    over_ends w (Ok answered.Exit) durable none count ends = absurd ends
    over_ends w (Err stop.Device) durable none count ends =
        record { starts = starts_none (first_item so.rest) (state_of now); acks = ap (λ b. one_if b w.calls) ends; held = refl }
    over_ends w (Err stop.Memory) durable none count ends =
        record { starts = starts_none (first_item so.rest) (state_of now); acks = ap (λ b. one_if b w.calls) ends; held = refl }
    over_ends w (Err stop.Sink) durable none count ends = absurd ends

    over_open : (ended : Result Answered SessionFault) (durable : Bool) → EndEnds ended (state_of now) durable → StaysOpenUntil (session_end ended) so.entries
    over_open (Ok answered.Ok) durable ends = so.open_yet
    over_open (Ok answered.Refused) durable ends = so.open_yet
    over_open (Ok answered.Silent) durable ends = absurd ends
    over_open (Ok answered.Exit) durable ends = absurd ends
    over_open (Err stop.Device) durable ends = so.open_yet
    over_open (Err stop.Memory) durable ends = so.open_yet
    over_open (Err stop.Sink) durable ends = absurd ends

    stage_ended : (w : Session D d) (ended : Result Answered SessionFault) (durable : Bool) (more : List Ack) → so.rest ≡ [] → EndRun now w ended durable → more ≡ acks ++ acks_when durable (ack_now w)
        → SessionRun first w s before held (record { end = session_end ended; refused = refused; lines = lines }) more
    stage_ended w ended durable more none run are =
        let count : w.calls ≡ length (calls_of so.entries) = run.counted ∙ so.counted in
        let joined : w.calls ≡ length (calls_of so.entries ++ []) = count ∙ ap length (sym (append-nil (calls_of so.entries))) in
        record {
          calls = calls_of so.entries ++ [];
          run = record {
            entries = so.entries;
            rest = so.rest;
            stage = state_of now;
            last = record { calls = []; acks = one_if durable w.calls; before = held; held = held };
            so = so.so;
            made = run.made;
            ending = over_ends w ended durable none count run.ends;
            held_is = refl;
            goes = over_open ended durable run.ends;
            calls_are = refl;
            acks_are = ap (map (λ (x : Ack). x.calls)) are ∙ (acks_map acks durable (ack_now w) ∙ ap (λ x. x ++ one_if durable w.calls) so.acks_are);
          };
          stored = over_stored ended w durable w.calls (state_of now) run.stands run.ends;
          lasts = step_lasts first now w (calls_of so.entries) [] acks more durable so.so.served.made run.made run.carries joined run.stands are so.lasts so.keeping;
          bounded = λ n fresh. (so.spending n fresh).bounded;
        }

    -- the script is at its end
    pub stage_over : (w : Session D d) (later : Input) (then : Option (List ℕ)) (line payload : List ℕ) (end : End) (more : List Ack) → IsItem so.rest false line payload later then (length s)
        → DoesEndStep now w end acks more → SessionRun first w s before held (record { end = end; refused = refused; lines = lines }) more
    stage_over w later then line payload end more read step =
        subst (λ (e : End). SessionRun first w s before held (record { end = e; refused = refused; lines = lines }) more) (sym step.end_is)
        (stage_ended w step.ended step.durable more (empty so.rest read.some) step.run step.acks_are)

  -- memory was wanting before the script was read
  pub stage_none : (v : Session D d) (s : List ℕ) (before : Option (List ℕ)) → WantsAreSpent v.volume
      → SessionRun v v s before before (record { end = ends.Memory; refused = false; lines = 0 }) []
  stage_none v s before law = record {
    calls = [];
    run = record {
      entries = [];
      rest = s;
      stage = state_of v;
      last = record { calls = []; acks = []; before = before; held = before };
      so = record { served = served_start (state_of v) s; output = put_none before; refusals = refl; counts = refl };
      made = made_none (state_of v);
      ending = record { starts = starts_none (first_item s) (state_of v); acks = refl; held = refl };
      held_is = refl;
      goes = refl;
      calls_are = refl;
      acks_are = refl;
    };
    stored = λ h. absurd h;
    lasts = lasts_start v;
    bounded = λ n fresh. (spending_start n v law fresh).bounded;
  }

pub fault_long : (f : ScriptFault) → fault_end f ≡ ends.TooLong → f ≡ fault.TooLong
fault_long fault.Failed h = cc
fault_long fault.TooLong h = refl
fault_long fault.Memory h = cc

pub is_exit_last : (a : Answered) → is_last a ≡ true → a ≡ answered.Exit
is_exit_last answered.Exit h = refl
is_exit_last answered.Ok h = absurd (false≢true h)
is_exit_last answered.Refused h = absurd (false≢true h)
is_exit_last answered.Silent h = absurd (false≢true h)
