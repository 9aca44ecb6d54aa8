-- Readings of a clock, line by line.
use Rattle.std.proofs.Common.{◌≡◌, ◌⊎◌, ◌+◌, ◌++◌, ◌∷◌, [], ℕ, Bool, true, false, not, cond, ◌||◌, is_some, List, length, Option, Some, None, option_map, Result, Ok, Err, IsErrOf, refl, sym, ◌∙◌, ap, subst, arith, inl, inr, append_assoc, append-nil, length-append}
use Rattle.vdisk.specs.Streams.{Answers}
use Rattle.vdisk.specs.declared.disk.Disk.{Ghosts}
use Rattle.vdisk.specs.declared.disk.Failed.{Failed}
use Rattle.cmdlet_line.specs.Lines.{Ask, Silent, Create, Write, Read, Fill, Length, Rename, Delete, Digest, Stat, Listing, Flush, Exit, Refusal, Gives, ask_of}
use Rattle.cmdlet_line.specs.declared.lines.Line.{Line}
use Rattle.cmdlet_line.specs.declared.lines.LineFault.{LineFault}
use Rattle.plain_volume.specs.declared.call.Call.{Call}
use Rattle.plain_volume.specs.declared.call.Reply.{Reply}
use Rattle.plain_volume.specs.declared.call.Reply.TheVariants as reply
use Rattle.plain_volume.specs.declared.call.Fault.TheVariants as fault
use Rattle.hex.specs.Hex.{encode_lower}
use Rattle.ddpsh.specs.States.{State}
use Rattle.script_items.specs.Script.{Item, Bad, Bare, Paid, Cut, Spoilt, item_of}
use Rattle.answer_text.specs.Answers.{Answer, number, Accepted, Refused, said, fault_text, is_answered}
use Rattle.ddpsh.specs.Answers.{Serves, Comes, is_exit}
use Rattle.ddpsh.specs.Clocks.{IsRead, KeepsSecond, FailsUnread, ReadsClock, AreRead, ReadsOften, MayCut, IsCutStatus}
use Rattle.ddpsh.specs.Ends.{kind_counted, stop_end}
use Rattle.ddpsh.specs.Outcomes.{status_of}
use Rattle.ddpsh.specs.Saying.{kind_of}
use Rattle.ddpsh.specs.Served.{asked_as}
use Rattle.ddpsh.specs.Sessions.{let_go, acknowledge, is_over}
use Rattle.ddpsh.specs.Steps.{DoesStep}
use Rattle.volume_core.specs.Volumes.{stopped}
use Rattle.ddpsh.specs.declared.acks.Ack.{Ack}
use Rattle.answer_text.specs.declared.answers.Answered.{Answered}
use Rattle.answer_text.specs.declared.answers.Answered.TheVariants as answered
use Rattle.ddpsh.specs.declared.ending.End.{End}
use Rattle.ddpsh.specs.declared.ending.End.TheVariants as ends
use Rattle.ddpsh.specs.declared.session.Session.{Session}
use Rattle.answer_text.specs.declared.stops.SessionFault.{SessionFault}
use Rattle.answer_text.specs.declared.stops.SessionFault.TheVariants as stop
use Rattle.ddpsh.proofs.LineOfLaws.{paid_fact, gives_as}
use Rattle.ddpsh.proofs.StageLaws.{kind_counts}

-- ---- counts of seconds

none_told : (before now : Option (List ℕ)) → now ≡ before → AreRead 0 before now
none_told None now is = record { seconds = []; many = refl; told = is }
none_told (Some answers) now is = record { seconds = []; many = refl; told = is ∙ ap Some (sym (append-nil answers)) }

one_told : (before now : Option (List ℕ)) (second : ℕ) → Answers before now (Ok second) → AreRead 1 before now
one_told None now second is = record { seconds = second ∷ []; many = refl; told = is }
one_told (Some answers) now second is = record { seconds = second ∷ []; many = refl; told = is }

failed_told : (before now : Option (List ℕ)) (e : Failed) → Answers before now (Err e) → AreRead 0 before now
failed_told None now e is = none_told None now is
failed_told (Some answers) now e is = none_told (Some answers) now is

pub none_read : (answers : Option (List ℕ)) → AreRead 0 answers answers
none_read answers = none_told answers answers refl

behind_both : (first second : List ℕ) (before : Option (List ℕ))
    → option_map (λ x. x ++ second) (option_map (λ x. x ++ first) before) ≡ option_map (λ x. x ++ (first ++ second)) before
behind_both first second None = refl
behind_both first second (Some answers) = ap Some (append_assoc answers first second)

pub read_more : (m n : ℕ) (a b c : Option (List ℕ)) → AreRead m a b → AreRead n b c → AreRead (m + n) a c
read_more m n a b c one two = record {
  seconds = one.seconds ++ two.seconds;
  many = omega (arith, length-append one.seconds two.seconds, one.many, two.many);
  told = two.told ∙ (ap (option_map (λ (x : List ℕ). x ++ two.seconds)) one.told ∙ behind_both one.seconds two.seconds a);
}

-- ---- one line

abbrev is_silent : Result Ask Refusal → Bool
is_silent (Ok Silent) = true
is_silent other = false

abbrev asks_nothing : Item → Bool
asks_nothing (Bare Silent) = true
asks_nothing (Paid Silent payload) = true
asks_nothing other = false

silent_item : (asked : Result Ask Refusal) (behind : List ℕ) → asks_nothing (item_of asked behind) ≡ is_silent asked
silent_item (Err refusal) behind = refl
silent_item (Ok (Write name at count)) behind = paid_fact asks_nothing _ _ (Write name at count) _ refl refl refl
silent_item (Ok other) behind = refl

said_answered : (given : Reply) (answer : Answer) → said given ≡ Some answer → is_answered answer ≡ true
said_answered reply.Done answer says = let is : Accepted [] ≡ answer = cc in ap is_answered (sym is)
said_answered (reply.Bytes bytes) answer says = let is : Accepted (number (length bytes) ++ 10 ∷ bytes) ≡ answer = cc in ap is_answered (sym is)
said_answered (reply.Digest digest) answer says = let is : Accepted (32 ∷ encode_lower digest) ≡ answer = cc in ap is_answered (sym is)
said_answered (reply.Length size) answer says = let is : Accepted (number size) ≡ answer = cc in ap is_answered (sym is)
said_answered (reply.Name name) answer says = absurd (let no : ⊥ = cc in no)
said_answered (reply.Refused fault.Failed) answer says = absurd (let no : ⊥ = cc in no)
said_answered (reply.Refused fault.Memory) answer says = absurd (let no : ⊥ = cc in no)
said_answered (reply.Refused other) answer says = let is : Refused (fault_text other) ≡ answer = cc in ap is_answered (sym is)

serves_answered : (ask : Ask) (payload : List ℕ) (v w : State) (calls : List (Call × Reply)) (answer : Answer) → Serves ask payload v calls answer w
    → is_answered answer ≡ not (is_silent (Ok ask))
serves_answered Silent payload v w calls answer x = ap is_answered x.says_so
serves_answered (Create name) payload v w calls answer x = said_answered _ answer x.says
serves_answered (Write name at count) payload v w calls answer x = said_answered _ answer x.says
serves_answered (Read name at count) payload v w calls answer x = said_answered _ answer x.says
serves_answered (Fill name at count byte) payload v w calls answer x = said_answered _ answer x.says
serves_answered (Length name size) payload v w calls answer x = said_answered _ answer x.says
serves_answered (Rename source target) payload v w calls answer x = said_answered _ answer x.says
serves_answered (Delete name) payload v w calls answer x = said_answered _ answer x.says
serves_answered (Digest name) payload v w calls answer x = said_answered _ answer x.says
serves_answered (Stat name) payload v w calls answer x = said_answered _ answer x.says
serves_answered Listing payload v w calls answer x = ap is_answered x.says
serves_answered Flush payload v w calls answer x = said_answered _ answer x.says
serves_answered Exit payload v w calls answer x = said_answered _ answer x.says

ask_nothing : (ask : Ask) → asks_nothing (Bare ask) ≡ is_silent (Ok ask)
ask_nothing Silent = refl
ask_nothing other = refl

paid_nothing : (ask : Ask) (payload : List ℕ) → asks_nothing (Paid ask payload) ≡ is_silent (Ok ask)
paid_nothing Silent payload = refl
paid_nothing other payload = refl

comes_answered : (item : Item) (v w : State) (calls : List (Call × Reply)) (answer : Answer) → Comes item v calls answer w → is_answered answer ≡ not (asks_nothing item)
comes_answered (Bad refusal) v w calls answer x = ap is_answered x.says_so
comes_answered (Bare ask) v w calls answer x = serves_answered ask [] v w calls answer x ∙ ap not (sym (ask_nothing ask))
comes_answered (Paid ask payload) v w calls answer x = serves_answered ask payload v w calls answer x ∙ ap not (sym (paid_nothing ask payload))
comes_answered Cut v w calls answer x = ap is_answered x.says_so
comes_answered Spoilt v w calls answer x = ap is_answered x.says_so

-- a line that was answered, by what it asks
counted_asked : (asked : Result Ask Refusal) (behind : List ℕ) (v w : State) (calls : List (Call × Reply)) (answer : Answer) → Comes (item_of asked behind) v calls answer w
    → kind_counted (kind_of (item_of asked behind) answer) ≡ cond (not (is_silent asked)) 1 0
counted_asked asked behind v w calls answer comes =
    kind_counts (is_exit (item_of asked behind)) answer
    ∙ (ap (λ b. cond b 1 0) (comes_answered (item_of asked behind) v w calls answer comes)
    ∙ ap (λ b. cond (not b) 1 0) (silent_item asked behind))

answered_read : (asked : Result Ask Refusal) (before now : Option (List ℕ)) (kind : Answered) (read : Result ℕ Failed) → IsRead asked before now read → FailsUnread asked read (Ok kind)
    → AreRead (cond (not (is_silent asked)) 1 0) before now
answered_read (Ok Silent) before now kind read is fails = none_told before now is
answered_read other before now kind (Ok second) is fails = one_told before now second is
answered_read other before now kind (Err e) is fails = let bad : Ok kind ≡ Err stop.Device = fails in absurd (let no : ⊥ = cc in no)

begun_read : (asked : Result Ask Refusal) (before now : Option (List ℕ)) (read : Result ℕ Failed) → IsRead asked before now read → AreRead 0 before now ⊎ AreRead 1 before now
begun_read (Ok Silent) before now read is = inl (none_told before now is)
begun_read other before now (Ok second) is = inr (one_told before now second is)
begun_read other before now (Err e) is = inl (failed_told before now e is)

keeps_failed : (asked : Result Ask Refusal) (e : Failed) (n : ℕ) → KeepsSecond asked (Err e) n n
keeps_failed (Ok Silent) e n = refl
keeps_failed other e n = refl

fails_device : (asked : Result Ask Refusal) (read : Result ℕ Failed) → FailsUnread asked read (Err stop.Device)
fails_device (Ok Silent) read = tt
fails_device other (Ok second) = tt
fails_device other (Err e) = refl

fails_read : (asked : Result Ask Refusal) (second : ℕ) (result : Result Answered SessionFault) → FailsUnread asked (Ok second) result
fails_read (Ok Silent) second result = tt
fails_read other second result = tt

-- the clock failed
pub clock_failed : (asked : Result Ask Refusal) (before now : Option (List ℕ)) (n : ℕ) (read : Result ℕ Failed) (e : Failed) → read ≡ Err e → IsRead asked before now read
    → ReadsClock asked before now n n (Err stop.Device)
clock_failed asked before now n read e is told = record {
  read = read;
  is_read = told;
  keeps = subst (λ (x : Result ℕ Failed). KeepsSecond asked x n n) (sym is) (keeps_failed asked e n);
  fails = fails_device asked read;
}

-- the clock was read, or left alone
pub clock_read : (asked : Result Ask Refusal) (before now : Option (List ℕ)) (n second : ℕ) (read : Result ℕ Failed) (result : Result Answered SessionFault) → read ≡ Ok second
    → IsRead asked before now read → KeepsSecond asked (Ok second) n second → ReadsClock asked before now n second result
clock_read asked before now n second read result is told keeps = record {
  read = read;
  is_read = told;
  keeps = subst (λ (x : Result ℕ Failed). KeepsSecond asked x n second) (sym is) keeps;
  fails = subst (λ (x : Result ℕ Failed). FailsUnread asked x result) (sym is) (fails_read asked second result);
}

fails_later : (asked : Result Ask Refusal) (read : Result ℕ Failed) (kind : Answered) (result : Result Answered SessionFault) → FailsUnread asked read (Ok kind) → FailsUnread asked read result
fails_later (Ok Silent) read kind result fails = tt
fails_later other (Ok second) kind result fails = tt
fails_later other (Err e) kind result fails = let bad : Ok kind ≡ Err stop.Device = fails in absurd (let no : ⊥ = cc in no)

-- a clock that was read for what the code read from a line, was read for the line
pub clock_as : (read : Result Line LineFault) (given : Result Ask Refusal) (before now : Option (List ℕ)) (old new : ℕ) (result : Result Answered SessionFault) → Gives ask_of read given
    → ReadsClock (asked_as read) before now old new result → ReadsClock given before now old new result
clock_as read given before now old new result gives is =
    subst (λ (a : Result Ask Refusal). ReadsClock a before now old new result) (sym (gives_as read given gives)) is

-- the same where the answer is written then
pub clock_then : (read : Result Line LineFault) (given : Result Ask Refusal) (before now : Option (List ℕ)) (old mid new : ℕ) (kind : Answered) (result : Result Answered SessionFault) → Gives ask_of read given
    → new ≡ mid → ReadsClock (asked_as read) before now old mid (Ok kind) → ReadsClock given before now old new result
clock_then read given before now old mid new kind result gives same is =
    let later : ReadsClock (asked_as read) before now old new result = record {
      read = is.read;
      is_read = is.is_read;
      keeps = subst (λ (n : ℕ). KeepsSecond (asked_as read) is.read old n) (sym same) is.keeps;
      fails = fails_later (asked_as read) is.read kind result is.fails;
    } in
    clock_as read given before now old new result gives later

-- a test of a line's item is that of the item that the code has
pub test_as : (test : Item → Bool) (want : Bool) (read : Result Line LineFault) (given : Result Ask Refusal) (behind : List ℕ) → Gives ask_of read given
    → test (item_of given behind) ≡ want → test (item_of (asked_as read) behind) ≡ want
test_as test want read given behind gives h = subst (λ (a : Result Ask Refusal). test (item_of a behind) ≡ want) (gives_as read given gives) h

abbrev stopped_by : SessionFault → Result Answered SessionFault
stopped_by f = Err f

-- a line of the loop that has ended the run
pub often_stopped : (asked : Result Ask Refusal) (first before now : Option (List ℕ)) (lines old new : ℕ) (f : SessionFault)
    → AreRead lines first before → ReadsClock asked before now old new (Err f) ⊎ (IsErrOf (stopped_by f) stop.Memory × (now ≡ before))
    → ReadsOften lines (MayCut (stop_end f)) first now
often_stopped asked first before now lines old new f so (inl reads) = by (begun_read asked before now reads.read reads.is_read)
  where
    cuts : (g : SessionFault) → MayCut (stop_end g)
    cuts stop.Device = tt
    cuts stop.Memory = tt
    cuts stop.Sink = tt

    by : AreRead 0 before now ⊎ AreRead 1 before now → ReadsOften lines (MayCut (stop_end f)) first now
    by (inl none) = record { count = lines + 0; read = read_more lines 0 first before now so none; often = inl (omega arith) }
    by (inr one) = record { count = lines + 1; read = read_more lines 1 first before now so one; often = inr (refl, cuts f) }
often_stopped asked first before now lines old new f so (inr none) =
    record { count = lines + 0; read = read_more lines 0 first before now so (none_told before now none.1); often = inl (omega arith) }

pub often_so : (lines : ℕ) (P : Type 0) (first now : Option (List ℕ)) → AreRead lines first now → ReadsOften lines P first now
often_so lines P first now so = record { count = lines; read = so; often = inl refl }

cut_status : (end : End) (refused : Bool) → MayCut end → IsCutStatus (status_of end refused)
cut_status ends.Device refused h = inl refl
cut_status ends.Memory refused h = inr (inl refl)
cut_status ends.Sink refused h = inr (inr refl)
cut_status ends.Over refused h = absurd h
cut_status ends.Worn refused h = absurd h
cut_status ends.Exit refused h = absurd h
cut_status ends.Source refused h = absurd h
cut_status ends.TooLong refused h = absurd h
cut_status (ends.Refused reason) refused h = absurd h

pub often_status : (end : End) (refused : Bool) (lines more status : ℕ) (first now : Option (List ℕ)) → status ≡ status_of end refused → more ≡ lines
    → ReadsOften lines (MayCut end) first now → ReadsOften more (IsCutStatus status) first now
often_status end refused lines more status first now is same so = record { count = so.count; read = so.read; often = by so.often }
  where
    by : (so.count ≡ lines) ⊎ ((so.count ≡ lines + 1) × MayCut end) → (so.count ≡ more) ⊎ ((so.count ≡ more + 1) × IsCutStatus status)
    by (inl h) = inl (h ∙ sym same)
    by (inr h) = inr (omega (arith, h.0, same), subst IsCutStatus (sym is) (cut_status end refused h.1))

pub often_none : (lines status : ℕ) (answers : Option (List ℕ)) → lines ≡ 0 → ReadsOften lines (IsCutStatus status) answers answers
often_none lines status answers none = record { count = 0; read = none_read answers; often = inl (sym none) }

-- ---- sessions

or_none : (a b : Bool) → a ≡ false → b ≡ false → (a || b) ≡ false
or_none false b x y = y
or_none true b x y = x

pub or_left : (a b : Bool) → (a || b) ≡ false → a ≡ false
or_left false b h = refl
or_left true b h = h

module _ {D : Type 0} {d : Ghosts D} where
  -- a line of the loop that was answered
  pub step_read : (asked : Result Ask Refusal) (behind : List ℕ) (old new : Session D d) (held after : Option (List ℕ)) (kind : Answered) (acks later : List Ack)
      (before now : Option (List ℕ)) (was second : ℕ) → DoesStep (item_of asked behind) old new held after (Ok kind) acks later
      → ReadsClock asked before now was second (Ok kind) ⊎ (IsErrOf (Ok kind) stop.Memory × (now ≡ before)) → AreRead (kind_counted kind) before now
  step_read asked behind old new held after kind acks later before now was second step (inl reads) =
      let answer = step.run.ends.0 in
      let counts : kind_counted kind ≡ cond (not (is_silent asked)) 1 0 =
      ap kind_counted step.run.ends.2 ∙ counted_asked asked behind _ _ step.run.calls answer step.run.ends.1 in
      subst (λ (n : ℕ). AreRead n before now) (sym counts) (answered_read asked before now kind reads.read reads.is_read reads.fails)
  step_read asked behind old new held after kind acks later before now was second step (inr bad) =
      let no : Ok kind ≡ Err stop.Memory = bad.0 in absurd (let never : ⊥ = cc in never)

  go_second : (k : Answered) (s : Session D d) → (let_go k s).second ≡ s.second
  go_second answered.Exit s = refl
  go_second other s = refl

  ack_second : (b : Bool) (s : Session D d) → (acknowledge b s).second ≡ s.second
  ack_second true s = refl
  ack_second false s = refl

  pub gone_second : (k : Answered) (mid gone : Session D d) → gone ≡ let_go k mid → gone.second ≡ mid.second
  gone_second k mid gone is = ap (λ s. s.second) is ∙ go_second k mid

  pub acked_second : (k : Answered) (b : Bool) (mid gone new : Session D d) → gone ≡ let_go k mid → new ≡ acknowledge b gone → new.second ≡ mid.second
  acked_second k b mid gone new goes is = ap (λ s. s.second) is ∙ (ack_second b gone ∙ gone_second k mid gone goes)

  -- a session is over after an `exit` that let the volume go
  go_over : (k : Answered) (s : Session D d) → s.over ≡ false → s.ack ≡ None → stopped s.volume ≡ false → is_over (let_go k s) ≡ is_some (let_go k s).ack
  go_over answered.Exit s going none runs = refl
  go_over answered.Ok s going none runs = or_none s.over (stopped s.volume) going runs ∙ sym (ap is_some none)
  go_over answered.Refused s going none runs = or_none s.over (stopped s.volume) going runs ∙ sym (ap is_some none)
  go_over answered.Silent s going none runs = or_none s.over (stopped s.volume) going runs ∙ sym (ap is_some none)

  pub gone_over : (k : Answered) (mid gone : Session D d) → gone ≡ let_go k mid → mid.over ≡ false → mid.ack ≡ None → stopped mid.volume ≡ false → is_over gone ≡ is_some gone.ack
  gone_over k mid gone is going none runs = subst (λ (s : Session D d). is_over s ≡ is_some s.ack) (sym is) (go_over k mid going none runs)

  pub stays_open : (s : Session D d) → s.over ≡ false → stopped s.volume ≡ false → is_over s ≡ false
  stays_open s going runs = or_none s.over (stopped s.volume) going runs
