-- A line of a session, from what its item came to.
use Rattle.std.proofs.Common.{◌≡◌, ◌<◌, ◌+◌, ◌-◌, ◌^◌, ◌||◌, ◌&&◌, min, ℕ, zero, suc, Bool, true, false, cond, nat_lt, List, [], ◌++◌, length, drop, take, Option, Some, None, Result, Ok, Err, IfOk, ◌⊎◌, inl, inr, refl, sym, ◌∙◌, ap, subst, arith, append-nil}
use Rattle.std.proofs.lemmas.Bool.{false≢true}
use Rattle.vdisk.specs.declared.disk.Disk.{Ghosts}
use Rattle.plain_volume.specs.declared.call.Call.{Call}
use Rattle.plain_volume.specs.declared.call.Call.TheVariants as call
use Rattle.plain_volume.specs.declared.call.Reply.{Reply}
use Rattle.plain_volume.specs.declared.call.Fault.{Fault}
use Rattle.plain_volume.specs.declared.call.Fault.TheVariants as fault
use Rattle.cmdlet_line.specs.declared.lines.Line.{Line}
use Rattle.cmdlet_line.specs.declared.lines.LineFault.{LineFault}
use Rattle.cmdlet_line.specs.Spelled.{AreInRange}
use Rattle.cmdlet_line.specs.Lines.{Ask, Refusal, Gives, ask_of, Silent, Create, Write, Read, Fill, Length, Rename, Delete, Digest, Stat, Listing, Flush, Exit}
use Rattle.ddpsh.specs.States.{State}
use Rattle.script_items.specs.Script.{Item, Paid, Cut, Spoilt, item_of, ends_well}
use Rattle.answer_text.specs.Answers.{Answer, Nothing, Accepted, Refused, fault_text, is_accepted}
use Rattle.ddpsh.specs.Answers.{Comes, Starts, is_durable, is_exit}
use Rattle.ddpsh.specs.Runs.{Made, acknowledges}
use Rattle.answer_text.specs.Saying.{exit_kind, is_ok}
use Rattle.ddpsh.specs.Saying.{asks_flush, is_flushed, ended_by}
use Rattle.answer_text.specs.Told.{IsPut, IsPutInPart}
use Rattle.volume_core.specs.Volumes.{disk_of}
use Rattle.ddpsh.specs.Crashes.{Carries}
use Rattle.ddpsh.specs.Served.{asked_as, volume_state, IsDurable}
use Rattle.ddpsh.specs.Sessions.{state_of, ack_now, acks_if, counted_up, let_go, acknowledge, LineEnds, EndEnds, HasCome, DoesLine, DoesEnd}
use Rattle.ddpsh.specs.Acks.{ack_list}
use Rattle.ddpsh.specs.Steps.{acks_when, session_end, DoesStep, DoesEndStep}
use Rattle.ddpsh.specs.declared.acks.Ack.{Ack}
use Rattle.answer_text.specs.declared.answers.Answered.{Answered}
use Rattle.answer_text.specs.declared.answers.Answered.TheVariants as answered
use Rattle.ddpsh.specs.declared.ending.End.{End}
use Rattle.ddpsh.specs.declared.ending.End.TheVariants as ends
use Rattle.answer_text.specs.declared.stops.SessionFault.{SessionFault}
use Rattle.answer_text.specs.declared.stops.SessionFault.TheVariants as stop
use Rattle.volume_core.specs.declared.volume.Volume.{Volume as Engine}
use Rattle.ddpsh.specs.declared.session.Session.{Session}
use Rattle.ddpsh.proofs.RunLaws.{made_none}
use Rattle.ddpsh.proofs.CrashLaws.{carries_none, carries_call}
use Rattle.ddpsh.proofs.CallLaws.{starts_none, Flushed, flush_made, flush_kept, flush_says}

-- a paid line is no `flush` and no `exit`
pub paid_fact : (P : Item → Bool) (less : Bool) (well : Bool) (ask : Ask) (payload : List ℕ) → P Cut ≡ false → P Spoilt ≡ false → P (Paid ask payload) ≡ false
    → P (cond less Cut (cond well (Paid ask payload) Spoilt)) ≡ false
paid_fact P true well ask payload x y z = x
paid_fact P false true ask payload x y z = z
paid_fact P false false ask payload x y z = y

-- a line is durable where it is a `flush` or an `exit`, and it is not both
pub durable_item : (asked : Result Ask Refusal) (behind : List ℕ) → is_durable (item_of asked behind) ≡ (asks_flush asked || is_exit (item_of asked behind))
durable_item (Err refusal) behind = refl
durable_item (Ok Silent) behind = refl
durable_item (Ok (Create name)) behind = refl
durable_item (Ok (Write name at count)) behind =
    paid_fact is_durable (nat_lt (length behind) count) (ends_well (drop count behind)) (Write name at count) (take count behind) refl refl refl
    ∙ sym (paid_fact is_exit (nat_lt (length behind) count) (ends_well (drop count behind)) (Write name at count) (take count behind) refl refl refl)
durable_item (Ok (Read name at count)) behind = refl
durable_item (Ok (Fill name at count byte)) behind = refl
durable_item (Ok (Length name size)) behind = refl
durable_item (Ok (Rename source target)) behind = refl
durable_item (Ok (Delete name)) behind = refl
durable_item (Ok (Digest name)) behind = refl
durable_item (Ok (Stat name)) behind = refl
durable_item (Ok Listing) behind = refl
durable_item (Ok Flush) behind = refl
durable_item (Ok Exit) behind = refl

pub flush_no_exit : (asked : Result Ask Refusal) (behind : List ℕ) → (asks_flush asked && is_exit (item_of asked behind)) ≡ false
flush_no_exit (Err refusal) behind = refl
flush_no_exit (Ok Flush) behind = refl
flush_no_exit (Ok other) behind = refl

no_memory : (fault.Memory ≡ fault.Failed) ⊎ (fault.Memory ≡ fault.Worn) → ⊥
no_memory (inl h) = cc
no_memory (inr h) = cc

listed : (durable : Bool) (ack : Ack) → ack_list (acks_if durable ack) ≡ acks_when durable ack
listed true ack = refl
listed false ack = refl

pub counted_sum : (n more sum : ℕ) → n < 2 ^ 64 → sum ≡ min (n + more) (2 ^ 64 - 1) → sum ≡ counted_up n more
counted_sum n zero sum small is = omega (arith, small, is)
counted_sum n (suc more) sum small is = is

or_true : (b : Bool) → (b || true) ≡ true
or_true true = refl
or_true false = refl

and_both : (a b c : Bool) → (a ≡ true → b ≡ true) → (a && c) ≡ true → (b && c) ≡ true
and_both true b c f h = rw (f refl) h
and_both false b c f h = absurd (false≢true h)

stop_ends : (item : Item) (v w : State) (calls : List (Call × Reply)) (held : Option (List ℕ)) (f : SessionFault) → (f ≡ stop.Sink → ⊥) → Starts item v calls → LineEnds (Err f) item v w calls false held held
stop_ends item v w calls held stop.Device other starts = (starts, refl, refl)
stop_ends item v w calls held stop.Memory other starts = (starts, refl, refl)
stop_ends item v w calls held stop.Sink other starts = absurd (other refl)

pub gives_as : (read : Result Line LineFault) (given : Result Ask Refusal) → Gives ask_of read given → given ≡ asked_as read
gives_as (Ok line) given h = h
gives_as (Err fault) given h = h

pub fits_as : (read : Result Line LineFault) (given : Result Ask Refusal) → Gives ask_of read given → ((ask : Ask) → given ≡ Ok ask → AreInRange ask) → IfOk (asked_as read) AreInRange
fits_as (Ok line) given gives law = law (ask_of line) gives
fits_as (Err fault) given gives law = tt

module _ {D : Type 0} {d : Ghosts D} where
  go_volume : (k : Answered) (s : Session D d) → (let_go k s).volume ≡ s.volume
  go_volume answered.Exit s = refl
  go_volume other s = refl

  go_calls : (k : Answered) (s : Session D d) → (let_go k s).calls ≡ s.calls
  go_calls answered.Exit s = refl
  go_calls other s = refl

  ack_volume : (b : Bool) (s : Session D d) → (acknowledge b s).volume ≡ s.volume
  ack_volume true s = refl
  ack_volume false s = refl

  ack_calls : (b : Bool) (s : Session D d) → (acknowledge b s).calls ≡ s.calls
  ack_calls true s = refl
  ack_calls false s = refl

  go_ack : (exits : Bool) (answer : Answer) (s : Session D d) → s.ack ≡ None → (let_go (exit_kind exits answer) s).ack ≡ acks_if (exits && is_accepted answer) (ack_now s)
  go_ack true Nothing s none = none
  go_ack true (Accepted more) s none = refl
  go_ack true (Refused more) s none = none
  go_ack false Nothing s none = none
  go_ack false (Accepted more) s none = none
  go_ack false (Refused more) s none = none

  both_ack : (flush exits : Bool) (answer : Answer) (s : Session D d) → s.ack ≡ None → (flush && exits) ≡ false
      → (acknowledge (flush && is_ok (exit_kind exits answer)) (let_go (exit_kind exits answer) s)).ack ≡ acks_if ((flush || exits) && is_accepted answer) (ack_now s)
  both_ack true true answer s none apart = absurd (false≢true (sym apart))
  both_ack true false Nothing s none apart = none
  both_ack true false (Accepted more) s none apart = refl
  both_ack true false (Refused more) s none apart = none
  both_ack false true Nothing s none apart = none
  both_ack false true (Accepted more) s none apart = refl
  both_ack false true (Refused more) s none apart = none
  both_ack false false Nothing s none apart = none
  both_ack false false (Accepted more) s none apart = none
  both_ack false false (Refused more) s none apart = none

  ack_same : (a b : Session D d) → a.volume ≡ b.volume → a.calls ≡ b.calls → ack_now a ≡ ack_now b
  ack_same a b volume calls = λ i. record { moment = (disk_of (volume i)).moment; calls = calls i }

  -- the run ends in a line before its answer
  pub line_stop : (item : Item) (old new : Session D d) (held : Option (List ℕ)) (text : List ℕ) (f : SessionFault) → (f ≡ stop.Sink → ⊥) → HasCome item old new (Err f) text → new.ack ≡ None
      → DoesLine item old new held held (Err f)
  line_stop item old new held text f not_sink come none = record {
    durable = false;
    run = record {
      calls = come.3.calls;
      made = come.3.legal;
      ends = stop_ends item (state_of old) (state_of new) come.3.calls held f not_sink come.3.starts;
      counted = come.1 ∙ ap (counted_up old.calls) come.3.count;
      few = omega (arith, come.2, come.3.count);
      carries = come.3.carries;
      stands = λ h. absurd (false≢true h);
    };
    ack = none;
  }

  module _ (item : Item) (old mid new : Session D d) (before held : Option (List ℕ)) (text : List ℕ) (kind : Answered) (come : HasCome item old mid (Ok kind) text)
      (volume : new.volume ≡ mid.volume) (calls : new.calls ≡ mid.calls) where
    came_made : Made (state_of old) (state_of new) come.3.calls
    came_made = subst (λ (v : Engine D d). Made (volume_state old.volume) (volume_state v) come.3.calls) (sym volume) come.3.legal

    came_comes : Comes item (state_of old) come.3.calls come.3.answer (state_of new)
    came_comes = subst (λ (v : Engine D d). Comes item (volume_state old.volume) come.3.calls come.3.answer (volume_state v)) (sym volume) come.3.comes

    came_counted : new.calls ≡ counted_up old.calls (length come.3.calls)
    came_counted = calls ∙ (come.1 ∙ ap (counted_up old.calls) come.3.count)

    came_carries : Carries old.volume new.volume come.3.calls
    came_carries = subst (λ (v : Engine D d). Carries old.volume v come.3.calls) (sym volume) come.3.carries

    came_kept : acknowledges item come.3.answer ≡ true → IsDurable new.volume
    came_kept h = subst (λ (v : Engine D d). IsDurable v) (sym volume) (come.3.durable h)

    -- the answer is written whole
    pub line_done : new.ack ≡ acks_if (acknowledges item come.3.answer) (ack_now mid) → IsPut before text held → DoesLine item old new before held (Ok kind)
    line_done ack put = record {
      durable = acknowledges item come.3.answer;
      run = record {
        calls = come.3.calls;
        made = came_made;
        ends = (come.3.answer, came_comes, come.3.kind_is, refl, subst (λ (t : List ℕ). IsPut before t held) come.3.text_is put);
        counted = came_counted;
        few = omega (arith, come.2, come.3.count);
        carries = came_carries;
        stands = came_kept;
      };
      ack = ack ∙ ap (acks_if (acknowledges item come.3.answer)) (sym (ack_same new mid volume calls));
    }

    -- the sink failed
    pub line_cut : new.ack ≡ acks_if (is_exit item && is_accepted come.3.answer) (ack_now mid) → (is_exit item ≡ true → is_durable item ≡ true) → IsPutInPart before text held
        → DoesLine item old new before held (Err stop.Sink)
    line_cut ack durable put = record {
      durable = is_exit item && is_accepted come.3.answer;
      run = record {
        calls = come.3.calls;
        made = came_made;
        ends = (come.3.answer, came_comes, refl, subst (λ (t : List ℕ). IsPutInPart before t held) come.3.text_is put);
        counted = came_counted;
        few = omega (arith, come.2, come.3.count);
        carries = came_carries;
        stands = λ h. came_kept (and_both (is_exit item) (is_durable item) (is_accepted come.3.answer) durable h);
      };
      ack = ack ∙ ap (acks_if (is_exit item && is_accepted come.3.answer)) (sym (ack_same new mid volume calls));
    }

  -- the two ends of a line that was served, by the functions of the code
  pub told_done : (asked : Result Ask Refusal) (behind : List ℕ) (old mid : Session D d) (before held : Option (List ℕ)) (text : List ℕ) (kind : Answered)
      → HasCome (item_of asked behind) old mid (Ok kind) text → mid.ack ≡ None → IsPut before text held
      → DoesLine (item_of asked behind) old (acknowledge (is_flushed asked kind) (let_go kind mid)) before held (Ok kind)
  told_done asked behind old mid before held text kind come none put =
      let item : Item = item_of asked behind in
      let ack : (acknowledge (is_flushed asked kind) (let_go kind mid)).ack ≡ acks_if (acknowledges item come.3.answer) (ack_now mid) =
      ap (λ (k : Answered). (acknowledge (is_flushed asked k) (let_go k mid)).ack) come.3.kind_is
      ∙ (both_ack (asks_flush asked) (is_exit item) come.3.answer mid none (flush_no_exit asked behind)
      ∙ ap (λ (b : Bool). acks_if (b && is_accepted come.3.answer) (ack_now mid)) (sym (durable_item asked behind))) in
      line_done item old mid (acknowledge (is_flushed asked kind) (let_go kind mid)) before held text kind come
      (ack_volume (is_flushed asked kind) (let_go kind mid) ∙ go_volume kind mid) (ack_calls (is_flushed asked kind) (let_go kind mid) ∙ go_calls kind mid) ack put

  pub told_cut : (asked : Result Ask Refusal) (behind : List ℕ) (old mid : Session D d) (before held : Option (List ℕ)) (text : List ℕ) (kind : Answered)
      → HasCome (item_of asked behind) old mid (Ok kind) text → mid.ack ≡ None → IsPutInPart before text held
      → DoesLine (item_of asked behind) old (let_go kind mid) before held (Err stop.Sink)
  told_cut asked behind old mid before held text kind come none put =
      let item : Item = item_of asked behind in
      line_cut item old mid (let_go kind mid) before held text kind come (go_volume kind mid) (go_calls kind mid)
      (ap (λ (k : Answered). (let_go k mid).ack) come.3.kind_is ∙ go_ack (is_exit item) come.3.answer mid none)
      (λ exits. durable_item asked behind ∙ (ap (λ b. asks_flush asked || b) exits ∙ or_true (asks_flush asked))) put

  -- the end of a script

  end_base : (old new : Session D d) (durable : Bool) (r : Result (Unit {0}) Fault) (result : Result Answered SessionFault) → Flushed old.volume new.volume r → new.calls ≡ old.calls
      → new.ack ≡ acks_if durable (ack_now new) → EndEnds result (state_of old) durable → (durable ≡ true → IsDurable new.volume) → DoesEnd old new result
  end_base old new durable r result did calls ack ends kept = record {
    durable = durable;
    run = record {
      made = flush_made old.volume new.volume r did;
      ends = ends;
      counted = calls;
      carries = carries_call call.Flush old.volume new.volume [] did.endures did.adds (omega arith);
      stands = kept;
    };
    ack = ack;
  }

  pub end_ok : (old new : Session D d) → Flushed old.volume new.volume (Ok tt) → new.calls ≡ old.calls → new.ack ≡ Some (ack_now new) → DoesEnd old new (Ok answered.Ok)
  end_ok old new did calls ack =
      end_base old new true (Ok tt) (Ok answered.Ok) did calls ack (Accepted [], flush_says old.volume new.volume (Ok tt) (Accepted []) did refl, refl, refl)
      (λ h. flush_kept old.volume new.volume (Ok tt) (Accepted []) refl refl did)

  pub end_refused : (old new : Session D d) (f : Fault) → (f ≡ fault.Failed) ⊎ (f ≡ fault.Worn) → Flushed old.volume new.volume (Err f) → new.calls ≡ old.calls → new.ack ≡ None → DoesEnd old new (ended_by f)
  end_refused old new fault.Failed may did calls ack = end_base old new false (Err fault.Failed) (Err stop.Device) did calls ack refl (λ h. absurd (false≢true h))
  end_refused old new fault.Memory may did calls ack = absurd (no_memory may)
  end_refused old new other may did calls ack =
      end_base old new false (Err other) (Ok answered.Refused) did calls ack
      (Refused (fault_text other), flush_says old.volume new.volume (Err other) (Refused (fault_text other)) did refl, refl, refl) (λ h. absurd (false≢true h))

  pub end_refused_as : (old new : Session D d) (f : Fault) (result : Result Answered SessionFault) → (f ≡ fault.Failed) ⊎ (f ≡ fault.Worn) → result ≡ ended_by f → Flushed old.volume new.volume (Err f) → new.calls ≡ old.calls → new.ack ≡ None
      → DoesEnd old new result
  end_refused_as old new f result may is did calls ack = subst (λ (r : Result Answered SessionFault). DoesEnd old new r) (sym is) (end_refused old new f may did calls ack)

  -- the ends of a line, as the code has them

  pub stop_as : (read : Result Line LineFault) (given : Result Ask Refusal) (behind : List ℕ) (old new : Session D d) (held : Option (List ℕ)) (text : List ℕ) (f : SessionFault) → Gives ask_of read given
      → (f ≡ stop.Sink → ⊥) → HasCome (item_of (asked_as read) behind) old new (Err f) text → new.ack ≡ None → DoesLine (item_of given behind) old new held held (Err f)
  stop_as read given behind old new held text f gives not_sink come none =
      subst (λ (a : Result Ask Refusal). DoesLine (item_of a behind) old new held held (Err f)) (sym (gives_as read given gives))
      (line_stop (item_of (asked_as read) behind) old new held text f not_sink come none)

  pub done_as : (read : Result Line LineFault) (given : Result Ask Refusal) (behind : List ℕ) (old mid gone new : Session D d) (before held : Option (List ℕ)) (text : List ℕ) (kind : Answered) (flushed : Bool)
      → Gives ask_of read given → HasCome (item_of (asked_as read) behind) old mid (Ok kind) text → mid.ack ≡ None → gone ≡ let_go kind mid → flushed ≡ is_flushed (asked_as read) kind
      → new ≡ acknowledge flushed gone → IsPut before text held → DoesLine (item_of given behind) old new before held (Ok kind)
  done_as read given behind old mid gone new before held text kind flushed gives come none goes flush acked put =
      let chain : new ≡ acknowledge (is_flushed (asked_as read) kind) (let_go kind mid) =
      acked ∙ (ap (λ (b : Bool). acknowledge b gone) flush ∙ ap (λ (x : Session D d). acknowledge (is_flushed (asked_as read) kind) x) goes) in
      subst (λ (a : Result Ask Refusal). DoesLine (item_of a behind) old new before held (Ok kind)) (sym (gives_as read given gives))
      (subst (λ (n : Session D d). DoesLine (item_of (asked_as read) behind) old n before held (Ok kind)) (sym chain)
      (told_done (asked_as read) behind old mid before held text kind come none put))

  pub cut_as : (read : Result Line LineFault) (given : Result Ask Refusal) (behind : List ℕ) (old mid gone : Session D d) (before held : Option (List ℕ)) (text : List ℕ) (kind : Answered)
      → Gives ask_of read given → HasCome (item_of (asked_as read) behind) old mid (Ok kind) text → mid.ack ≡ None → gone ≡ let_go kind mid → IsPutInPart before text held
      → DoesLine (item_of given behind) old gone before held (Err stop.Sink)
  cut_as read given behind old mid gone before held text kind gives come none goes put =
      subst (λ (a : Result Ask Refusal). DoesLine (item_of a behind) old gone before held (Err stop.Sink)) (sym (gives_as read given gives))
      (subst (λ (n : Session D d). DoesLine (item_of (asked_as read) behind) old n before held (Err stop.Sink)) (sym goes)
      (told_cut (asked_as read) behind old mid before held text kind come none put))

  -- steps of a run

  pub step_line : (item : Item) (old new : Session D d) (before held : Option (List ℕ)) (result : Result Answered SessionFault) (acks later : List Ack)
      → DoesLine item old new before held result → later ≡ acks ++ ack_list new.ack → DoesStep item old new before held result acks later
  step_line item old new before held result acks later does are = record {
    durable = does.durable;
    run = does.run;
    acks_are = are ∙ ap (λ x. acks ++ x) (ap ack_list does.ack ∙ listed does.durable (ack_now new));
  }

  pub step_none : (item : Item) (v : Session D d) (held : Option (List ℕ)) (acks later : List Ack) → later ≡ acks → DoesStep item v v held held (Err stop.Memory) acks later
  step_none item v held acks later are = record {
    durable = false;
    run = record {
      calls = [];
      made = made_none (state_of v);
      ends = (starts_none item (state_of v), refl, refl);
      counted = refl;
      few = omega arith;
      carries = carries_none v.volume;
      stands = λ h. absurd (false≢true h);
    };
    acks_are = are ∙ sym (append-nil acks);
  }

  pub step_end : (old new : Session D d) (result : Result Answered SessionFault) (acks later : List Ack) → DoesEnd old new result → later ≡ acks ++ ack_list new.ack
      → DoesEndStep old new (session_end result) acks later
  step_end old new result acks later does are = record {
    ended = result;
    end_is = refl;
    durable = does.durable;
    run = does.run;
    acks_are = are ∙ ap (λ x. acks ++ x) (ap ack_list does.ack ∙ listed does.durable (ack_now new));
  }

  pub step_end_none : (v : Session D d) (acks later : List Ack) → later ≡ acks → DoesEndStep v v ends.Memory acks later
  step_end_none v acks later are = record {
    ended = Err stop.Memory;
    end_is = refl;
    durable = false;
    run = record {
      made = made_none (state_of v);
      ends = refl;
      counted = refl;
      carries = carries_none v.volume;
      stands = λ h. absurd (false≢true h);
    };
    acks_are = are ∙ sym (append-nil acks);
  }

  pub step_line_as : (item : Item) (old new : Session D d) (before held : Option (List ℕ)) (result : Result Answered SessionFault) (acks room later : List Ack) (ack : Option Ack)
      → DoesLine item old new before held result → room ≡ acks → ack ≡ new.ack → later ≡ room ++ ack_list ack → DoesStep item old new before held result acks later
  step_line_as item old new before held result acks room later ack does same is are =
      step_line item old new before held result acks later does (are ∙ (ap (λ x. x ++ ack_list ack) same ∙ ap (λ a. acks ++ ack_list a) is))

  pub step_end_as : (old new : Session D d) (result : Result Answered SessionFault) (end : End) (acks room later : List Ack) (ack : Option Ack)
      → DoesEnd old new result → end ≡ session_end result → room ≡ acks → ack ≡ new.ack → later ≡ room ++ ack_list ack → DoesEndStep old new end acks later
  step_end_as old new result end acks room later ack does ending same is are =
      subst (λ (e : End). DoesEndStep old new e acks later) (sym ending)
      (step_end old new result acks later does (are ∙ (ap (λ x. x ++ ack_list ack) same ∙ ap (λ a. acks ++ ack_list a) is)))
