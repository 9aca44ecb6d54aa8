-- From the replies of calls to answers.
use Rattle.std.proofs.Common.{◌≡◌, ◌⊎◌, ◌<◌, ◌≤◌, ◌+◌, ◌-◌, ℕ, Bool, true, false, not, cond, nat_lt, List, [], ◌∷◌, ◌++◌, length, take, drop, codes, Option, Some, None, Result, Ok, Err, IfOk, OnOk, OnErr, IsErrOf, IsTrue, refl, sym, ◌∙◌, ap, subst, arith, inl, inr, ⊎_elim, append_assoc, append-nil, length-drop, length-take, length-append}
use Rattle.std.proofs.lemmas.Bool.{false≢true, lt-ltb, le-ltb}
use Rattle.std.proofs.lemmas.List.{drop_all}
use borrow.Rule.Slice.PartMut.{put_mid, post_of}
use Rattle.vdisk.specs.Causes.{Rose}
use Rattle.vdisk.specs.declared.disk.Disk.{Ghosts}
use Rattle.plain_volume.specs.Volume.{Volume}
use Rattle.plain_volume.specs.Volume.{Cell, is_lawful, cells_of, lost_where, is_within, bytes_of}
use Rattle.plain_volume.specs.Step.{plain, after, left_by, Step, StepOf, Outcome, MayLack, may_want, takes_memory, refuse_if, at_file, unless_lost, next_name, read, read_whole, digest, stat}
use Rattle.sha2.specs.Sha256.{sha256}
use Rattle.plain_volume.specs.Replies.{own_reply, done_reply}
use Rattle.plain_volume.specs.Laws.{OwnRepliesAreSteps}
use Rattle.plain_volume.specs.declared.call.Call.{Call}
use Rattle.plain_volume.specs.declared.call.Call.TheVariants as call
use Rattle.plain_volume.specs.declared.call.Reply.{Reply}
use Rattle.plain_volume.specs.declared.call.Reply.TheVariants as reply
use Rattle.plain_volume.specs.declared.call.Fault.{Fault}
use Rattle.plain_volume.specs.declared.call.Fault.TheVariants as fault
use Rattle.volume_tables.specs.Wants.{is_late, reply_of, IsReplied}
use Rattle.cmdlet_line.specs.Lines.{Ask, Create, Write, Read, Fill, Length, Rename, Delete, Digest, Stat, Listing, Flush, Exit}
use Rattle.meta_log.specs.Meta.{last_epoch}
use Rattle.volume_inside.specs.Inside.{Inside}
use Rattle.volume_core.specs.States.{plain_in, wears_at}
use Rattle.volume_core.proofs.Moving.{after_leaves}
use Rattle.volume_core.specs.Moves.{Moves, inside_after}
use Rattle.volume_core.specs.Replies.{RepliesOrMemory}
use Rattle.ddpsh.specs.States.{State, reply_in}
use Rattle.ddpsh.specs.Listing.{listing}
use Rattle.ddpsh.specs.Crashes.{Carries}
use Rattle.script_items.specs.Script.{Item, Bare, Paid, Cut, Spoilt, with_payload, ends_well}
use Rattle.answer_text.specs.Answers.{Answer, Nothing, Accepted, Refused, said, said_fault, number, fault_text, text_of, is_accepted}
use Rattle.ddpsh.specs.Answers.{Comes, Starts, Begun, OneCall, NoCall, OneBegun, is_exit}
use Rattle.ddpsh.specs.Runs.{Made, acknowledges}
use Rattle.answer_text.specs.Saying.{IsSaid, plain_kind, exit_kind}
use Rattle.ddpsh.specs.Saying.{kind_of}
use Rattle.volume_core.specs.Bounds.{AddsToSpent}
use Rattle.volume_core.specs.Volumes.{disk_of, view_now, stopped, IsKept, Endures}
use Rattle.volume_core.specs.Wants.{wants_of, IsWant}
use Rattle.ddpsh.specs.Served.{volume_state, IsStored, IsDurable, IsServed, IsBroken, ComesTo, StaysSame, IsSteady}
use Rattle.answer_text.specs.declared.answers.Answered.{Answered}
use Rattle.answer_text.specs.declared.answers.Answered.TheVariants as answered
use Rattle.answer_text.specs.declared.stops.SessionFault.{SessionFault}
use Rattle.answer_text.specs.declared.stops.SessionFault.TheVariants as stop
use Rattle.volume_core.specs.declared.volume.Volume.{Volume as Engine}
use Rattle.ddpsh.proofs.RunLaws.{made_none}
use Rattle.ddpsh.proofs.CrashLaws.{carries_none, carries_idle, carries_call}

begun_none : (ask : Ask) (payload : List ℕ) (v : State) → Begun ask payload v []
begun_none (Create name) payload v = inl refl
begun_none (Write name at count) payload v = inl refl
begun_none (Read name at count) payload v = inl refl
begun_none (Fill name at count byte) payload v = inl refl
begun_none (Length name size) payload v = inl refl
begun_none (Rename source target) payload v = inl refl
begun_none (Delete name) payload v = inl refl
begun_none (Digest name) payload v = inl refl
begun_none (Stat name) payload v = inl refl
begun_none Listing payload v = record {
  front = [];
  rest = listing None (plain_in v);
  last = [];
  whole = refl;
  calls_are = refl;
  wanted = inl refl;
}
begun_none Flush payload v = inl refl
begun_none other payload v = refl

pub starts_none : (item : Item) (v : State) → Starts item v []
starts_none (Bare ask) v = begun_none ask [] v
starts_none (Paid ask payload) v = begun_none ask payload v
starts_none other v = refl

pub reply_cases : (outcome : Outcome) (want : Option Fault) → (reply_of outcome want ≡ own_reply outcome)
    ⊎ ((f : Fault) × (want ≡ Some f) × (reply_of outcome want ≡ reply.Refused f) × IsTrue (is_late outcome))
reply_cases (Ok answer) None = inl refl
reply_cases (Ok answer) (Some f) = inr (f, refl, refl, refl)
reply_cases (Err (fault.Damaged place)) None = inl refl
reply_cases (Err (fault.Damaged place)) (Some f) = inr (f, refl, refl, refl)
reply_cases (Err other) want = inl refl

lack_ok : (call : Call) (answer : Reply × Volume) (f : Fault) → IsTrue (may_want call f) → MayLack call (Ok answer) f
lack_ok call answer fault.Memory h = absurd (false≢true h)
lack_ok call answer other h = h

lack_damaged : (call : Call) (place : ℕ) (f : Fault) → IsTrue (may_want call f) → MayLack call (Err (fault.Damaged place)) f
lack_damaged call place fault.Memory h = absurd (false≢true h)
lack_damaged call place other h = h

lack_late : (call : Call) (outcome : Outcome) (f : Fault) → IsTrue (is_late outcome) → IsTrue (may_want call f) → MayLack call outcome f
lack_late call (Ok answer) f late h = lack_ok call answer f h
lack_late call (Err (fault.Damaged place)) f late h = lack_damaged call place f h
lack_late call (Err other) f late h = absurd (false≢true late)

refused_step : (call : Call) (v : Volume) (f : Fault) (given : Reply) → given ≡ reply.Refused f → IsTrue (is_late (plain v call)) → IsTrue (may_want call f) → Step v call given (after v call given)
refused_step call v f given is late may =
    let P : Reply → Type 0 = λ g. StepOf call (plain v call) v g (left_by (plain v call) v g) in
    let here : P (reply.Refused f) = (refl, inr (lack_late call (plain v call) f late may)) in
    subst P (sym is) here

own_step : OwnRepliesAreSteps → (v : Volume) (call : Call) (given : Reply) → (given ≡ own_reply (plain v call)) ⊎ ((given ≡ reply.Refused fault.Memory) × IsTrue (takes_memory call)) → Step v call given (after v call given)
own_step law v call given own = law v (after v call given) call given (record { own = own; left = refl })

-- what a call answers: want of memory only where it takes some
abbrev pub Replied : Call → Outcome → Option Fault → ℕ → ℕ → Reply → Type 0
Replied call outcome want before now given = IsReplied outcome want before now given ⊎ ((given ≡ reply.Refused fault.Memory) × IsTrue (takes_memory call))

pub step_of : OwnRepliesAreSteps → (v : Volume) (call : Call) (want : Option Fault) (given : Reply) (before now : ℕ) → IsTrue (may_want call fault.Failed) → IsWant call want
    → Replied call (plain v call) want before now given → Step v call given (after v call given)
step_of law v call want given before now fails wanted (inl (inl own)) = ⊎_elim
    (λ same. own_step law v call given (inl (own ∙ same)))
    (λ lacks. refused_step call v lacks.0 given (own ∙ lacks.2) lacks.3 (subst (λ (o : Option Fault). IsWant call o) lacks.1 wanted))
    (reply_cases (plain v call) want)
step_of law v call want given before now fails wanted (inl (inr failed)) = refused_step call v fault.Failed given failed.0 failed.1 fails
step_of law v call want given before now fails wanted (inr memory) = own_step law v call given (inr memory)

-- a reply that prints an answer is that of the state
own_said : (call : Call) (outcome : Outcome) (want : Option Fault) (given : Reply) (answer : Answer) (before now : ℕ) → Replied call outcome want before now given → said given ≡ Some answer → given ≡ reply_of outcome want
own_said call outcome want given answer before now (inl (inl own)) says = own
own_said call outcome want given answer before now (inl (inr failed)) says = absurd (let bad : None ≡ Some answer = sym (ap said failed.0) ∙ says in cc)
own_said call outcome want given answer before now (inr memory) says = absurd (let bad : None ≡ Some answer = sym (ap said memory.0) ∙ says in cc)

-- what was replied where a line was begun
begun_given : (call : Call) (outcome : Outcome) (want : Option Fault) (given : Reply) (before now : ℕ) → Replied call outcome want before now given
    → (given ≡ reply_of outcome want) ⊎ (((given ≡ reply.Refused fault.Memory) × IsTrue (takes_memory call)) ⊎ (given ≡ reply.Refused fault.Failed))
begun_given call outcome want given before now (inl (inl own)) = inl own
begun_given call outcome want given before now (inl (inr failed)) = inr (inr failed.0)
begun_given call outcome want given before now (inr memory) = inr (inl memory)

-- an answer of a line before it is written
abbrev pub Says : Reply → List ℕ → Answered → Type 0
Says given text kind = (answer : Answer) × (said given ≡ Some answer) × IsSaid kind text answer

-- facts on results
on_ok_known : {A E : Type 0} (r : Result A E) (P : Type 0) → P → OnOk r P
on_ok_known (Ok x) P h = h
on_ok_known (Err e) P h = tt

not_memory : (r : Result Answered SessionFault) (f : SessionFault) → IsErrOf r f → OnErr r (IsErrOf r stop.Memory) → (f ≡ stop.Memory → ⊥) → ⊥
not_memory (Ok x) f h memory other = let bad : Ok x ≡ Err f = h in absurd (let no : ⊥ = cc in no)
not_memory (Err e) f h memory other = let same : Err e ≡ Err f = h in let is : Err e ≡ Err stop.Memory = memory in other (let e : f ≡ stop.Memory = cc in e)

runs_unless : (r : Result Answered SessionFault) (s : Bool) → (s ≡ true → IsErrOf r stop.Device) → OnOk r (s ≡ false)
runs_unless (Ok x) true h = let bad : Ok x ≡ Err stop.Device = h refl in absurd (let no : ⊥ = cc in no)
runs_unless (Ok x) false h = refl
runs_unless (Err e) s h = tt

pub reply_unwanting : (outcome : Outcome) → reply_of outcome None ≡ own_reply outcome
reply_unwanting (Ok answer) = refl
reply_unwanting (Err (fault.Damaged place)) = refl
reply_unwanting (Err other) = refl

-- an answer that is known
pub known_said : (r : Result Answered SessionFault) (given : Reply) (answer : Answer) (text : List ℕ) → said given ≡ Some answer → IfOk r (λ a. IsSaid a text answer) → IfOk r (Says given text)
known_said (Ok a) given answer text is said = (answer, is, said)
known_said (Err f) given answer text is said = tt

-- how a line of this one call fits its item
pub record Fits (item : Item) (call : Call) : Type 0 where
  pub comes : (v w : State) (calls : List (Call × Reply)) (answer : Answer) → OneCall call v calls answer w → Comes item v calls answer w
  pub starts : (v : State) (calls : List (Call × Reply)) → OneBegun call v calls → Starts item v calls
  pub kind : (answer : Answer) → kind_of item answer ≡ plain_kind answer

stat_inside : (i : Inside) (name : List ℕ) (given : Reply) → inside_after (call.Stat name) given i ≡ i
stat_inside i name (reply.Refused f) = refl
stat_inside i name other = refl

module _ {D : Type 0} {d : Ghosts D} where
  -- what a call over a volume did
  pub record Called (call : Call) (old new : Engine D d) (given : Reply) : Type 0 where
    pub law : OwnRepliesAreSteps
    pub replied : Replied call (plain (view_now old) call) (wants_of old call) (disk_of old).faults (disk_of new).faults given
    pub left : view_now new ≡ after (view_now old) call given
    pub want : IsWant call (wants_of old call)
    pub fails : IsTrue (may_want call fault.Failed)
    pub moves : Moves call given (volume_state old) (volume_state new)
    pub endures : Endures old new
    pub adds : AddsToSpent call old new

  -- what a call did that looks at the volume alone, and wants no resource but memory
  pub record Told (call : Call) (v : Engine D d) (given : Reply) : Type 0 where
    pub law : OwnRepliesAreSteps
    pub own : (given ≡ own_reply (plain (view_now v) call)) ⊎ ((given ≡ reply.Refused fault.Memory) × IsTrue (takes_memory call))
    pub moves : Moves call given (volume_state v) (volume_state v)
    pub left : view_now v ≡ after (view_now v) call given
    pub unwanting : wants_of v call ≡ None

  -- what a call of a line did
  record Stepped (call : Call) (old new : Engine D d) (given : Reply) : Type 0 where
    pub step : Step (view_now old) call given (after (view_now old) call given)
    pub replied : Replied call (plain (view_now old) call) (wants_of old call) (disk_of old).faults (disk_of new).faults given
    pub left : view_now new ≡ after (view_now old) call given
    pub moves : Moves call given (volume_state old) (volume_state new)
    pub carries : Carries old new ((call, given) ∷ [])

  stepped_call : (call : Call) (old new : Engine D d) (given : Reply) → Called call old new given → Stepped call old new given
  stepped_call call old new given did = record {
    step = step_of did.law (view_now old) call (wants_of old call) given (disk_of old).faults (disk_of new).faults did.fails did.want did.replied;
    replied = did.replied;
    left = did.left;
    moves = did.moves;
    carries = carries_call call old new ((call, given) ∷ []) did.endures did.adds (omega arith);
  }

  told_reply : (call : Call) (v : Engine D d) (given : Reply) → Told call v given → Replied call (plain (view_now v) call) (wants_of v call) (disk_of v).faults (disk_of v).faults given
  told_reply call v given did = ⊎_elim
      (λ own. inl (inl (own ∙ (sym (reply_unwanting (plain (view_now v) call)) ∙ ap (reply_of (plain (view_now v) call)) (sym did.unwanting)))))
      (λ memory. inr memory) did.own

  stepped_told : (call : Call) (v : Engine D d) (given : Reply) → Told call v given → Stepped call v v given
  stepped_told call v given did = record {
    step = own_step did.law (view_now v) call given did.own;
    replied = told_reply call v given did;
    left = did.left;
    moves = did.moves;
    carries = carries_idle v ((call, given) ∷ []);
  }

  -- a call that takes memory
  pub took : (call : Call) (old new : Engine D d) (given : Reply) → IsTrue (takes_memory call) → RepliesOrMemory call old new given → Replied call (plain (view_now old) call) (wants_of old call) (disk_of old).faults (disk_of new).faults given
  took call old new given takes (inl replied) = inl replied
  took call old new given takes (inr memory) = inr (memory, takes)

  -- a file's length is asked for
  pub stat_moves : (v : Engine D d) (name : List ℕ) (given : Reply)
      → (wears_at (volume_state v) ≡ true → (volume_state v).pending.epoch ≡ last_epoch)
      → Moves (call.Stat name) given (volume_state v) (volume_state v)
  stat_moves v name given law = record {
    told = λ told. sym (after_leaves (call.Stat name) given (volume_state v) refl refl refl);
    inside = sym (stat_inside (volume_state v).inside name given);
    clusters = refl;
    reads = λ none. refl;
    stands = omega arith;
    epoch = λ h. omega arith;
    wears = law;
  }

  made_one : (call : Call) (old new : Engine D d) (given : Reply) → Stepped call old new given → Made (volume_state old) (volume_state new) ((call, given) ∷ [])
  made_one call old new given did = record { legal = (did.step, tt); now = did.left; inside = did.moves.inside; clusters = did.moves.clusters }

  served_call : (item : Item) (call : Call) (old new : Engine D d) (given : Reply) (kind : Answered) (text : List ℕ) → Stepped call old new given → Fits item call
      → ((answer : Answer) → said given ≡ Some answer → acknowledges item answer ≡ true → IsDurable new) → Says given text kind → IsServed item old new 1 kind text
  served_call item call old new given kind text did fits durable says =
      let own : given ≡ reply_in (volume_state old) call =
      own_said call (plain (view_now old) call) (wants_of old call) given says.0 (disk_of old).faults (disk_of new).faults did.replied says.1 in
      record {
        calls = (call, given) ∷ [];
        answer = says.0;
        comes = fits.comes (volume_state old) (volume_state new) ((call, given) ∷ []) says.0 (record {
          calls_are = ap (λ g. (call, g) ∷ []) own;
          says = sym (ap said own) ∙ says.1;
          leaves = did.left ∙ ap (after (view_now old) call) own;
          moves = subst (λ (g : Reply). Moves call g (volume_state old) (volume_state new)) own did.moves;
        });
        legal = made_one call old new given did;
        count = refl;
        carries = did.carries;
        durable = durable says.0 says.1;
        text_is = says.2.text_is;
        kind_is = says.2.kind_is ∙ sym (fits.kind says.0);
      }

  broke_call : (item : Item) (call : Call) (old new : Engine D d) (given : Reply) → Stepped call old new given → Fits item call → IsBroken item old new 1
  broke_call item call old new given did fits = record {
    calls = (call, given) ∷ [];
    starts = fits.starts (volume_state old) ((call, given) ∷ [])
        (inr (given, refl, begun_given call (plain (view_now old) call) (wants_of old call) given (disk_of old).faults (disk_of new).faults did.replied));
    legal = made_one call old new given did;
    count = refl;
    carries = did.carries;
  }

  pub comes_call : (item : Item) (call : Call) (old new : Engine D d) (given : Reply) (text : List ℕ) (r : Result Answered SessionFault) → Called call old new given → Fits item call
      → ((answer : Answer) → said given ≡ Some answer → acknowledges item answer ≡ true → IsDurable new) → IfOk r (Says given text) → ComesTo item old new 1 r text
  comes_call item call old new given text (Ok kind) did fits durable says = served_call item call old new given kind text (stepped_call call old new given did) fits durable says
  comes_call item call old new given text (Err f) did fits durable says = broke_call item call old new given (stepped_call call old new given did) fits

  pub comes_told : (item : Item) (call : Call) (v : Engine D d) (given : Reply) (text : List ℕ) (r : Result Answered SessionFault) → Told call v given → Fits item call
      → ((answer : Answer) → acknowledges item answer ≡ false) → IfOk r (Says given text) → ComesTo item v v 1 r text
  comes_told item call v given text (Ok kind) did fits undurable says =
      served_call item call v v given kind text (stepped_told call v given did) fits (λ answer said durable. absurd (false≢true (sym (undurable answer) ∙ durable))) says
  comes_told item call v given text (Err f) did fits undurable says = broke_call item call v v given (stepped_told call v given did) fits

  pub broke_none : (item : Item) (v : Engine D d) → IsBroken item v v 0
  broke_none item v = record { calls = []; starts = starts_none item (volume_state v); legal = made_none (volume_state v); count = refl; carries = carries_none v }

  -- a line that makes no call
  pub comes_none : (item : Item) (v : Engine D d) (says : State → Answer) (text : List ℕ) (r : Result Answered SessionFault)
      → ((s : State) (calls : List (Call × Reply)) (answer : Answer) → NoCall says s calls answer s → Comes item s calls answer s)
      → ((answer : Answer) → kind_of item answer ≡ plain_kind answer) → (acknowledges item (says (volume_state v)) ≡ false)
      → IfOk r (λ a. IsSaid a text (says (volume_state v))) → ComesTo item v v 0 r text
  comes_none item v says text (Ok kind) shape plain_one undurable said = record {
    calls = [];
    answer = says (volume_state v);
    comes = shape (volume_state v) [] (says (volume_state v)) (record { calls_are = refl; says_so = refl; leaves = refl });
    legal = made_none (volume_state v);
    count = refl;
    carries = carries_none v;
    durable = λ h. absurd (false≢true (sym undurable ∙ h));
    text_is = said.text_is;
    kind_is = said.kind_is ∙ sym (plain_one (says (volume_state v)));
  }
  comes_none item v says text (Err f) shape plain_one undurable said = broke_none item v

  -- over every disk

  pub steady_none : (v : Engine D d) (r : Result Answered SessionFault) → stopped v ≡ false → OnErr r (IsErrOf r stop.Memory) → IsSteady v v (record { made = 0; ended = r })
  steady_none v r runs memory = record {
    later = omega arith;
    same = λ x h. h;
    device = λ h. absurd (not_memory r stop.Device h memory (λ e. cc));
    no_sink = λ h. not_memory r stop.Sink h memory (λ e. cc);
    runs = on_ok_known r (stopped v ≡ false) runs;
    few = omega arith;
  }

  pub steady_call : (old new : Engine D d) (made : ℕ) (given : Result (Unit {0}) Fault) (r : Result Answered SessionFault) → made ≤ 1
      → (stopped new ≡ true → IsErrOf given fault.Failed) → (IsErrOf given fault.Failed → Rose (disk_of old).faults (disk_of new).faults)
      → (IsErrOf r stop.Device → IsErrOf given fault.Failed) → (IsErrOf given fault.Failed → IsErrOf r stop.Device) → (IsErrOf r stop.Sink → ⊥)
      → (disk_of old).faults ≤ (disk_of new).faults → StaysSame old new → IsSteady old new (record { made = made; ended = r })
  steady_call old new made given r few stops failed device back no_sink later same = record {
    later = later;
    same = same;
    device = λ h. failed (device h);
    no_sink = no_sink;
    runs = runs_unless r (stopped new) (λ h. back (stops h));
    few = omega (arith, few);
  }

-- a refusal is no `ok`
pub refused_said : (f : Fault) (answer : Answer) → said_fault f ≡ Some answer → is_accepted answer ≡ false
refused_said fault.Failed answer h = absurd (let no : ⊥ = cc in no)
refused_said fault.Memory answer h = absurd (let no : ⊥ = cc in no)
refused_said other answer h =
    let e : Refused (fault_text other) ≡ answer = cc in subst (λ (a : Answer). is_accepted a ≡ false) e refl

-- a flush by its reply
flush_said : (v : Volume) (want : Option Fault) (before now : ℕ) (r : Result (Unit {0}) Fault) (answer : Answer) → IsReplied (plain v call.Flush) want before now (done_reply r)
    → said (done_reply r) ≡ Some answer → said (reply_of (plain v call.Flush) want) ≡ Some answer
flush_said v want before now r answer replied says =
    sym (ap said (own_said call.Flush (plain v call.Flush) want (done_reply r) answer before now (inl replied) says)) ∙ says

flush_wants : (w f : Fault) → IsWant call.Flush (Some w) → f ≡ w → (f ≡ fault.Failed) ⊎ (f ≡ fault.Worn)
flush_wants fault.Failed f may is = inl is
flush_wants fault.Worn f may is = inr is
flush_wants other f may is = absurd (false≢true may)

faults_of_flush : (v : Volume) (want : Option Fault) (before now : ℕ) (f : Fault) → IsWant call.Flush want
    → IsReplied (plain v call.Flush) want before now (done_reply (Err f)) → (f ≡ fault.Failed) ⊎ (f ≡ fault.Worn)
faults_of_flush v None before now f may (inl is) =
    let no : reply.Refused f ≡ reply.Done = is in absurd (let never : ⊥ = cc in never)
faults_of_flush v (Some w) before now f may (inl is) =
    let same : reply.Refused f ≡ reply.Refused w = is in flush_wants w f may cc
faults_of_flush v want before now f may (inr failed) =
    let same : reply.Refused f ≡ reply.Refused fault.Failed = failed.0 in inl cc

flush_inside : (i : Inside) (r : Result (Unit {0}) Fault) → inside_after call.Flush (done_reply r) i ≡ i
flush_inside i (Ok done) = refl
flush_inside i (Err f) = refl

flush_after : (v : Volume) (r : Result (Unit {0}) Fault) → after v call.Flush (done_reply r) ≡ v
flush_after v (Ok done) = refl
flush_after v (Err f) = refl

refused_kind : (answer : Answer) → is_accepted answer ≡ false → kind_of (Bare Exit) answer ≡ plain_kind answer
refused_kind Nothing h = refl
refused_kind (Accepted more) h = absurd (false≢true (sym h))
refused_kind (Refused more) h = refl

module _ {D : Type 0} {d : Ghosts D} where
  -- what a flush did
  pub record Flushed (old new : Engine D d) (r : Result (Unit {0}) Fault) : Type 0 where
    pub replied : IsReplied (plain (view_now old) call.Flush) (wants_of old call.Flush) (disk_of old).faults (disk_of new).faults (done_reply r)
    pub left : view_now new ≡ after (view_now old) call.Flush (done_reply r)
    pub durable : OnOk r (IsKept new (view_now old))
    pub stored : OnOk r (IsStored new)
    pub moves : Moves call.Flush (done_reply r) (volume_state old) (volume_state new)
    pub endures : Endures old new
    pub adds : AddsToSpent call.Flush old new

  -- a flush is refused because the device failed, or for want of an epoch
  pub flush_faults : (old new : Engine D d) (f : Fault) → IsWant call.Flush (wants_of old call.Flush)
      → IsReplied (plain (view_now old) call.Flush) (wants_of old call.Flush) (disk_of old).faults (disk_of new).faults (done_reply (Err f))
      → (f ≡ fault.Failed) ⊎ (f ≡ fault.Worn)
  flush_faults old new f = faults_of_flush (view_now old) (wants_of old call.Flush) (disk_of old).faults (disk_of new).faults f

  pub flush_view : (old new : Engine D d) (r : Result (Unit {0}) Fault) → Flushed old new r → view_now new ≡ view_now old
  flush_view old new r did = did.left ∙ flush_after (view_now old) r

  pub flush_made : (old new : Engine D d) (r : Result (Unit {0}) Fault) → Flushed old new r → Made (volume_state old) (volume_state new) []
  flush_made old new r did = record { legal = tt; now = flush_view old new r did; inside = did.moves.inside ∙ flush_inside (volume_state old).inside r; clusters = did.moves.clusters }

  pub flush_kept : (old new : Engine D d) (r : Result (Unit {0}) Fault) (answer : Answer) → said (done_reply r) ≡ Some answer → is_accepted answer ≡ true → Flushed old new r → IsDurable new
  flush_kept old new (Ok done) answer says given did = record { kept = subst (λ (w : Volume). IsKept new w) (sym (flush_view old new (Ok done) did)) did.durable; stored = did.stored }
  flush_kept old new (Err f) answer says given did = absurd (false≢true (sym (refused_said f answer says) ∙ given))

  pub flush_says : (old new : Engine D d) (r : Result (Unit {0}) Fault) (answer : Answer) → Flushed old new r → said (done_reply r) ≡ Some answer
      → said (reply_in (volume_state old) call.Flush) ≡ Some answer
  flush_says old new r answer did says = flush_said (view_now old) (wants_of old call.Flush) (disk_of old).faults (disk_of new).faults r answer did.replied says

  -- a flush that prints an answer moves as its state replies
  flush_moves : (old new : Engine D d) (r : Result (Unit {0}) Fault) (answer : Answer) → Flushed old new r → said (done_reply r) ≡ Some answer
      → Moves call.Flush (reply_in (volume_state old) call.Flush) (volume_state old) (volume_state new)
  flush_moves old new r answer did says =
      subst (λ (g : Reply). Moves call.Flush g (volume_state old) (volume_state new))
      (own_said call.Flush (plain (view_now old) call.Flush) (wants_of old call.Flush) (done_reply r) answer (disk_of old).faults (disk_of new).faults (inl did.replied) says) did.moves

  -- an `exit` let the volume go
  pub exit_done : (old new : Engine D d) (text : List ℕ) → Flushed old new (Ok tt) → text ≡ text_of (Accepted []) → ComesTo (Bare Exit) old new 0 (Ok answered.Exit) text
  exit_done old new text did is = record {
    calls = [];
    answer = Accepted [];
    comes = record { calls_are = refl; says = flush_says old new (Ok tt) (Accepted []) did refl; moves = flush_moves old new (Ok tt) (Accepted []) did refl };
    legal = flush_made old new (Ok tt) did;
    count = refl;
    carries = carries_call call.Flush old new [] did.endures did.adds (omega arith);
    durable = λ h. flush_kept old new (Ok tt) (Accepted []) refl refl did;
    text_is = is;
    kind_is = refl;
  }

  -- an `exit` was refused
  pub exit_refused : (old new : Engine D d) (text : List ℕ) (f : Fault) (r : Result Answered SessionFault) → Flushed old new (Err f)
      → IfOk r (λ a. (answer : Answer) × (said_fault f ≡ Some answer) × IsSaid a text answer) → ComesTo (Bare Exit) old new 0 r text
  exit_refused old new text f (Ok kind) did said = record {
    calls = [];
    answer = said.0;
    comes = record { calls_are = refl; says = flush_says old new (Err f) said.0 did said.1; moves = flush_moves old new (Err f) said.0 did said.1 };
    legal = flush_made old new (Err f) did;
    count = refl;
    carries = carries_call call.Flush old new [] did.endures did.adds (omega arith);
    durable = λ h. absurd (false≢true (sym (refused_said f said.0 said.1) ∙ h));
    text_is = said.2.text_is;
    kind_is = said.2.kind_is ∙ sym (refused_kind said.0 (refused_said f said.0 said.1));
  }
  exit_refused old new text f (Err stop) did said = record {
    calls = [];
    starts = refl;
    legal = flush_made old new (Err f) did;
    count = refl;
    carries = carries_call call.Flush old new [] did.endures did.adds (omega arith);
  }

-- the bytes behind a place
pub size_room : (text : List ℕ) (place count : ℕ) → length text ≡ place + count → length (take (length text - place) (drop place text)) ≡ count
size_room text place count whole = omega (arith, whole, length-take (length text - place) (drop place text), length-drop place text)

none_behind : (text : List ℕ) (place : ℕ) → post_of place (length text - place) text ≡ []
none_behind text place = drop_all (length text - place) (drop place text) (omega (arith, length-drop place text))

put_is : (text out : List ℕ) (place : ℕ) → put_mid place (length text - place) text out ≡ take place text ++ out
put_is text out place = ap (λ x. take place text ++ (out ++ x)) (none_behind text place) ∙ ap (λ x. take place text ++ x) (append-nil out)

pub put_size : (text out : List ℕ) (place count : ℕ) → length text ≡ place + count → length out ≡ count → length (put_mid place (length text - place) text out) ≡ length text
put_size text out place count whole size = ap length (put_is text out place) ∙ omega (arith, whole, size, length-append (take place text) out, length-take place text)

-- the answer to a read: its head, the bytes in their place, and a newline
pub read_text : (text out : List ℕ) (place count : ℕ) → take place text ≡ codes "ok" ++ (number count ++ 10 ∷ []) → length out ≡ count
    → put_mid place (length text - place) text out ++ 10 ∷ [] ≡ text_of (Accepted (number (length out) ++ 10 ∷ out))
read_text text out place count head size =
    let joined : put_mid place (length text - place) text out ≡ (codes "ok" ++ (number (length out) ++ 10 ∷ [])) ++ out =
    put_is text out place ∙ ap (λ x. x ++ out) (head ∙ ap (λ k. codes "ok" ++ (number k ++ 10 ∷ [])) (sym size)) in
    let apart : (codes "ok" ++ (number (length out) ++ 10 ∷ [])) ++ out ≡ codes "ok" ++ (number (length out) ++ 10 ∷ out) =
    append_assoc (codes "ok") (number (length out) ++ 10 ∷ []) out ∙ ap (λ x. codes "ok" ++ x) (append_assoc (number (length out)) (10 ∷ []) out) in
    ap (λ x. x ++ 10 ∷ []) (joined ∙ apart)

-- a read changes no volume
abbrev Stays : Volume → Outcome → Type 0
Stays v outcome = (given : Reply) → left_by outcome v given ≡ v

stays_err : (v : Volume) (f : Fault) → Stays v (Err f)
stays_err v f (reply.Refused other) = refl
stays_err v f other = refl

stays_ok : (v : Volume) (answer : Reply) → Stays v (Ok (answer, v))
stays_ok v answer (reply.Refused other) = refl
stays_ok v answer other = refl

stays_if : (v : Volume) (test : Bool) (f : Fault) (rest : Outcome) → Stays v rest → Stays v (refuse_if test f rest)
stays_if v true f rest h = stays_err v f
stays_if v false f rest h = h

stays_file : (v : Volume) (cells : Option (List Cell)) (rest : List Cell → Outcome) → ((cs : List Cell) → Stays v (rest cs)) → Stays v (at_file cells rest)
stays_file v None rest h = stays_err v fault.NoFile
stays_file v (Some cs) rest h = h cs

stays_lost : (v : Volume) (place : Option ℕ) (rest : Outcome) → Stays v rest → Stays v (unless_lost place rest)
stays_lost v None rest h = h
stays_lost v (Some place) rest h = stays_err v (fault.Damaged place)

pub read_after : (v : Volume) (name : List ℕ) (at count : ℕ) (given : Reply) → after v (call.Read name at count) given ≡ v
read_after v name at count =
    stays_if v (not (is_lawful name)) fault.BadName (at_file (cells_of name v) (read at count v))
    (stays_file v (cells_of name v) (read at count v) (λ cells.
    stays_if v (nat_lt (length cells) (at + count)) (fault.OutsideFile (length cells)) (read_whole at count v cells)
    (stays_lost v (lost_where (is_within at count) 0 cells) (Ok (reply.Bytes (bytes_of (take count (drop at cells))), v)) (stays_ok v (reply.Bytes (bytes_of (take count (drop at cells))))))))

pub digest_after : (v : Volume) (name : List ℕ) (given : Reply) → after v (call.Digest name) given ≡ v
digest_after v name =
    stays_if v (not (is_lawful name)) fault.BadName (at_file (cells_of name v) (digest v))
    (stays_file v (cells_of name v) (digest v) (λ cells.
    stays_lost v (lost_where (λ p. true) 0 cells) (Ok (reply.Digest (sha256 (bytes_of cells)), v)) (stays_ok v (reply.Digest (sha256 (bytes_of cells))))))

pub stat_after : (v : Volume) (name : List ℕ) (given : Reply) → after v (call.Stat name) given ≡ v
stat_after v name =
    stays_if v (not (is_lawful name)) fault.BadName (at_file (cells_of name v) (stat v))
    (stays_file v (cells_of name v) (stat v) (λ cells. stays_ok v (reply.Length (length cells))))

pub next_after : (v : Volume) (above : Option (List ℕ)) (given : Reply) → after v (call.Next above) given ≡ v
next_after v above = stays_ok v (reply.Name (next_name above v))

-- the end of the answer to a read
pub ended_said : (r : Result Answered SessionFault) (text front out : List ℕ) → text ≡ text → IfOk r (λ a. text ≡ front ++ 10 ∷ []) → IfOk r (λ a. a ≡ answered.Ok)
    → front ++ 10 ∷ [] ≡ text_of (Accepted (number (length out) ++ 10 ∷ out)) → IfOk r (Says (reply.Bytes out) text)
ended_said (Ok a) text front out same joined ok whole = (Accepted (number (length out) ++ 10 ∷ out), refl, record { text_is = joined ∙ whole; kind_is = ok })
ended_said (Err f) text front out same joined ok whole = tt

pub plain_exit : (answer : Answer) → exit_kind false answer ≡ plain_kind answer
plain_exit Nothing = refl
plain_exit (Accepted more) = refl
plain_exit (Refused more) = refl

-- a line of one call that is no `flush`
pub fits_once : (item : Item) (call : Call) → ((v w : State) (calls : List (Call × Reply)) (answer : Answer) → OneCall call v calls answer w → Comes item v calls answer w)
    → ((v : State) (calls : List (Call × Reply)) → OneBegun call v calls → Starts item v calls) → is_exit item ≡ false → Fits item call
fits_once item call comes starts none = record { comes = comes; starts = starts; kind = λ answer. ap (λ b. exit_kind b answer) none ∙ plain_exit answer }

module _ {D : Type 0} {d : Ghosts D} where
  -- the bytes that are written are those that the line asks for
  pub filled_as : (name : List ℕ) (at : ℕ) (bytes asked : List ℕ) (old new : Engine D d) (given : Reply) → bytes ≡ asked → Called (call.Write name at bytes) old new given
      → Called (call.Write name at asked) old new given
  filled_as name at bytes asked old new given same did = subst (λ (x : List ℕ). Called (call.Write name at x) old new given) same did

  -- the bytes that are read are as many as the line asks for
  pub called_as : (name : List ℕ) (at size count : ℕ) (old new : Engine D d) (given : Reply) → size ≡ count → Called (call.Read name at size) old new given → Called (call.Read name at count) old new given
  called_as name at size count old new given same did = subst (λ (k : ℕ). Called (call.Read name at k) old new given) same did

spoilt_end : (b : Bool) (item : Item) → true ≡ not b → cond b item Spoilt ≡ Spoilt
spoilt_end true item h = absurd (let no : ⊥ = cc in no)
spoilt_end false item h = refl

paid_end : (b : Bool) (item : Item) → false ≡ not b → cond b item Spoilt ≡ item
paid_end true item h = refl
paid_end false item h = absurd (let no : ⊥ = cc in no)

-- a `write` line with what stands behind it
pub cut_item : (ask : Ask) (behind : List ℕ) (count : ℕ) → length behind < count → with_payload ask behind (Some count) ≡ Cut
cut_item ask behind count less = rw (lt-ltb (length behind) count less) refl

pub spoilt_item : (ask : Ask) (behind : List ℕ) (count : ℕ) → count ≤ length behind → true ≡ not (ends_well (drop count behind)) → with_payload ask behind (Some count) ≡ Spoilt
spoilt_item ask behind count enough bad = rw (le-ltb (length behind) count enough) (spoilt_end (ends_well (drop count behind)) (Paid ask (take count behind)) bad)

pub paid_item : (ask : Ask) (behind : List ℕ) (count : ℕ) → count ≤ length behind → false ≡ not (ends_well (drop count behind)) → with_payload ask behind (Some count) ≡ Paid ask (take count behind)
paid_item ask behind count enough good = rw (le-ltb (length behind) count enough) (paid_end (ends_well (drop count behind)) (Paid ask (take count behind)) good)
