-- The files of a volume are listed one after the other.
use Rattle.std.proofs.Common.{◌≡◌, ◌≤◌, ◌+◌, ◌*◌, ℕ, Bool, true, false, not, cond, ◌&&◌, T, List, [], ◌∷◌, ◌++◌, length, All, Option, Some, None, Result, Ok, Err, IfOk, refl, sym, ◌∙◌, ap, subst, arith, inl, inr, ⊎_elim, append_assoc, append-nil, length-append}
use Rattle.std.proofs.lemmas.Bool.{false≢true}
use Rattle.std.proofs.lemmas.List.Elements.{All-head, All-tail}
use Rattle.std.specs.declared.cmp.Ordering.{Ordering}
use Rattle.std.specs.declared.cmp.Ordering.TheVariants.{Less, Equal, Greater}
use Rattle.std.specs.Ordering.{is_eq, is_lt, ordering_reverse}
use Rattle.std.specs.Cmp.{tied_itself}
use Rattle.std.specs.Cmp.Lexicographic.{nat_list_cmp_total}
use Rattle.std.specs.FinMap.Entries.{below_all, is_sorted}
use Rattle.plain_volume.specs.Volume.{Volume, Cell, name_cmp, cells_of, is_lawful, next_above, first_name, IsLawfulVolume}
use Rattle.plain_volume.specs.Step.{plain, after, Step, Legal, replay, refuse_if, at_file, stat, next_name}
use Rattle.plain_volume.specs.Replies.{own_reply, IsOwnOrMemory}
use Rattle.plain_volume.specs.declared.call.Call.{Call}
use Rattle.plain_volume.specs.declared.call.Call.TheVariants as call
use Rattle.plain_volume.specs.declared.call.Reply.{Reply}
use Rattle.plain_volume.specs.declared.call.Reply.TheVariants as reply
use Rattle.plain_volume.specs.declared.call.Fault.{Fault}
use Rattle.plain_volume.specs.declared.call.Fault.TheVariants as fault
use Rattle.vdisk.specs.declared.disk.Disk.{Ghosts}
use Rattle.cmdlet_line.specs.Lines.{Listing}
use Rattle.ddpsh.specs.Listing.{listing}
use Rattle.answer_text.specs.Answers.{file_line, file_lines, Accepted, number, text_of}
use Rattle.volume_core.specs.Replies.{length_reply, name_reply}
use Rattle.script_items.specs.Script.{Bare}
use Rattle.ddpsh.specs.Answers.{LacksMemory}
use Rattle.ddpsh.specs.Runs.{insides_after}
use Rattle.volume_inside.specs.Inside.{Inside}
use Rattle.volume_core.specs.Moves.{inside_after}
use Rattle.answer_text.specs.Saying.{IsSaid}
use Rattle.volume_core.specs.Volumes.{view_now}
use Rattle.ddpsh.specs.Served.{volume_state, IsBroken, ComesTo}
use Rattle.answer_text.specs.declared.answers.Answered.{Answered}
use Rattle.answer_text.specs.declared.stops.SessionFault.{SessionFault}
use Rattle.volume_core.specs.declared.volume.Volume.{Volume as Engine}
use Rattle.ddpsh.proofs.CrashLaws.{carries_idle}
use Rattle.ddpsh.proofs.CallLaws.{stat_after}

-- ---- calls that look

-- a call with its reply leaves the volume as it is
pub record Looks (v : Volume) (pair : Call × Reply) : Type 0 where
  pub step : Step v pair.0 pair.1 v
  pub left : after v pair.0 pair.1 ≡ v
  pub keeps : (i : Inside) → inside_after pair.0 pair.1 i ≡ i

abbrev pub AllLook : Volume → List (Call × Reply) → Type 0
AllLook v [] = Unit {0}
AllLook v (pair ∷ pairs) = Looks v pair × AllLook v pairs

look_legal : (v : Volume) (pairs : List (Call × Reply)) → AllLook v pairs → Legal v pairs
look_legal v [] h = tt
look_legal v (pair ∷ pairs) h =
    let one = h.0 in (
      subst (λ (w : Volume). Step v pair.0 pair.1 w) (sym one.left) one.step,
      subst (λ (w : Volume). Legal w pairs) (sym one.left) (look_legal v pairs h.1),
    )

look_replay : (v : Volume) (pairs : List (Call × Reply)) → AllLook v pairs → v ≡ replay v pairs
look_replay v [] h = refl
look_replay v (pair ∷ pairs) h =
    let one = h.0 in
    look_replay v pairs h.1 ∙ ap (λ (w : Volume). replay w pairs) (sym one.left)

look_insides : (v : Volume) (pairs : List (Call × Reply)) (i : Inside) → AllLook v pairs → i ≡ insides_after pairs i
look_insides v [] i h = refl
look_insides v (pair ∷ pairs) i h =
    let one = h.0 in
    look_insides v pairs i h.1 ∙ ap (insides_after pairs) (sym (one.keeps i))

look_more : (v : Volume) (first second : List (Call × Reply)) → AllLook v first → AllLook v second
    → AllLook v (first ++ second)
look_more v [] second one two = two
look_more v (pair ∷ first) second one two = (one.0, look_more v first second one.1 two)

look_next : (v : Volume) (above found : Option (List ℕ)) → next_name above v ≡ found
    → Looks v (call.Next above, reply.Name found)
look_next v above found is =
    record { step = ap (λ (o : Option (List ℕ)). Ok (reply.Name o, v)) is; left = refl; keeps = λ i. refl }

look_memory : (v : Volume) (above : Option (List ℕ)) → Looks v (call.Next above, reply.Refused fault.Memory)
look_memory v above = record { step = (refl, inr refl); left = refl; keeps = λ i. refl }

look_stat : (v : Volume) (name : List ℕ) (size : ℕ) → plain v (call.Stat name) ≡ Ok (reply.Length size, v)
    → Looks v (call.Stat name, reply.Length size)
look_stat v name size is = record { step = is; left = stat_after v name (reply.Length size); keeps = λ i. refl }

-- ---- names in order

first_true : (a b : Bool) → T (a && b) → T a
first_true true b p = tt
first_true false b p = p

second_true : (a b : Bool) → T (a && b) → T b
second_true true b p = p
second_true false b p = absurd p

less : (r : Ordering) → T (is_lt r) → r ≡ Less
less Less p = refl
less Equal p = absurd p
less Greater p = absurd p

true_lt : (r : Ordering) → T (is_lt r) → is_lt r ≡ true
true_lt Less p = refl
true_lt Equal p = absurd p
true_lt Greater p = absurd p

below_there : (a : List ℕ) (front rest : Volume) (f : List ℕ × List Cell) → T (below_all name_cmp a (front ++ f ∷ rest))
    → name_cmp a f.0 ≡ Less
below_there a [] rest f low = less (name_cmp a f.0) (first_true (is_lt (name_cmp a f.0)) (below_all name_cmp a rest) low)
below_there a (g ∷ front) rest f low =
    below_there a front rest f (second_true (is_lt (name_cmp a g.0)) (below_all name_cmp a (front ++ f ∷ rest)) low)

-- a name in front of a file is less than the file's
turned : (a b : List ℕ) → name_cmp a b ≡ Less → name_cmp b a ≡ Greater
turned a b is = nat_list_cmp_total.antisymm b a ∙ ap ordering_reverse is

next_first : (name : List ℕ) (rest : Volume) → T (below_all name_cmp name rest) → next_above name rest ≡ first_name rest
next_first name [] low = refl
next_first name (r ∷ rest) low =
    ap (λ b. cond b (Some r.0) (next_above name rest))
    (true_lt (name_cmp name r.0) (first_true (is_lt (name_cmp name r.0)) (below_all name_cmp name rest) low))

-- the name next to a file is that of the file behind it
next_behind : (front rest : Volume) (f : List ℕ × List Cell) → T (is_sorted name_cmp (front ++ f ∷ rest))
    → next_above f.0 (front ++ f ∷ rest) ≡ first_name rest
next_behind [] rest f sorted =
    ap (λ (r : Ordering). cond (is_lt r) (Some f.0) (next_above f.0 rest)) (tied_itself nat_list_cmp_total f.0)
    ∙ next_first f.0 rest (first_true (below_all name_cmp f.0 rest) (is_sorted name_cmp rest) sorted)
next_behind (g ∷ front) rest f sorted =
    let low = first_true (below_all name_cmp g.0 (front ++ f ∷ rest)) (is_sorted name_cmp (front ++ f ∷ rest)) sorted in
    let later = second_true (below_all name_cmp g.0 (front ++ f ∷ rest)) (is_sorted name_cmp (front ++ f ∷ rest)) sorted in
    ap (λ (r : Ordering). cond (is_lt r) (Some g.0) (next_above f.0 (front ++ f ∷ rest)))
    (turned g.0 f.0 (below_there g.0 front rest f low))
    ∙ next_behind front rest f later

found_there : (front rest : Volume) (f : List ℕ × List Cell) → T (is_sorted name_cmp (front ++ f ∷ rest))
    → cells_of f.0 (front ++ f ∷ rest) ≡ Some f.1
found_there [] rest f sorted =
    ap (λ (r : Ordering). cond (is_eq r) (Some f.1) (cells_of f.0 rest)) (tied_itself nat_list_cmp_total f.0)
found_there (g ∷ front) rest f sorted =
    let low = first_true (below_all name_cmp g.0 (front ++ f ∷ rest)) (is_sorted name_cmp (front ++ f ∷ rest)) sorted in
    let later = second_true (below_all name_cmp g.0 (front ++ f ∷ rest)) (is_sorted name_cmp (front ++ f ∷ rest)) sorted in
    ap (λ (r : Ordering). cond (is_eq r) (Some g.1) (cells_of f.0 (front ++ f ∷ rest)))
    (turned g.0 f.0 (below_there g.0 front rest f low))
    ∙ found_there front rest f later

lawful_there : (front rest : Volume) (f : List ℕ × List Cell) → All (λ file. is_lawful file.0 ≡ true) (front ++ f ∷ rest)
    → is_lawful f.0 ≡ true
lawful_there [] rest f all = All-head (λ file. is_lawful file.0 ≡ true) f rest all
lawful_there (g ∷ front) rest f all =
    lawful_there front rest f (All-tail (λ file. is_lawful file.0 ≡ true) g (front ++ f ∷ rest) all)

stat_there : (v front rest : Volume) (f : List ℕ × List Cell) → IsLawfulVolume v → v ≡ front ++ f ∷ rest
    → plain v (call.Stat f.0) ≡ Ok (reply.Length (length f.1), v)
stat_there v front rest f lawful is =
    let found : cells_of f.0 v ≡ Some f.1 = ap (cells_of f.0) is
    ∙ found_there front rest f (subst (λ (x : Volume). T (is_sorted name_cmp x)) is lawful.rising) in
    let named : is_lawful f.0 ≡ true =
    lawful_there front rest f (subst (λ (x : Volume). All (λ file. is_lawful file.0 ≡ true) x) is lawful.lawful) in
    ap (λ b. refuse_if (not b) fault.BadName (at_file (cells_of f.0 v) (stat v))) named
    ∙ ap (λ (o : Option (List Cell)). at_file o (stat v)) found

-- ---- how far a list has come

-- So many files are listed, the last of which has this name, and these are their lines.
pub record Listed (v : Volume) (count : ℕ) (last : Option (List ℕ)) (lines : List ℕ) : Type 0 where
  pub front : Volume
  pub rest : Volume
  pub done : List (Call × Reply)
  pub whole : v ≡ front ++ rest
  pub size : length front ≡ count
  pub next_is : next_name last v ≡ first_name rest
  pub lines_are : lines ≡ file_lines front
  pub calls : listing None v ≡ done ++ listing last rest
  pub made : length done ≡ 2 * count
  pub look : AllLook v done

pub listed_start : (v : Volume) (last : Option (List ℕ)) (lines : List ℕ) → last ≡ None → lines ≡ []
    → Listed v 0 last lines
listed_start v last lines none empty = record {
  front = [];
  rest = v;
  done = [];
  whole = refl;
  size = refl;
  next_is = ap (λ (o : Option (List ℕ)). next_name o v) none;
  lines_are = empty;
  calls = ap (λ (o : Option (List ℕ)). listing o v) (sym none);
  made = refl;
  look = tt;
}

lines_more : (front : Volume) (f : List ℕ × List Cell)
    → file_lines (front ++ f ∷ []) ≡ file_lines front ++ file_line (length f.1) f.0
lines_more [] f = append-nil (file_line (length f.1) f.0)
lines_more (g ∷ front) f =
    ap (λ x. file_line (length g.1) g.0 ++ x) (lines_more front f)
    ∙ sym (append_assoc (file_line (length g.1) g.0) (file_lines front) (file_line (length f.1) f.0))

-- what is next, by what stands behind
pub record Ahead (v : Volume) (rest : Volume) (name : List ℕ) : Type 0 where
  pub file : List ℕ × List Cell
  pub behind : Volume
  pub is : rest ≡ file ∷ behind
  pub named : file.0 ≡ name

ahead : (v rest : Volume) (name : List ℕ) → first_name rest ≡ Some name → Ahead v rest name
ahead v [] name is = absurd (let no : ⊥ = cc in no)
ahead v (f ∷ rest) name is = record { file = f; behind = rest; is = refl; named = (let e : f.0 ≡ name = cc in e) }

none_ahead : (rest : Volume) → first_name rest ≡ None → rest ≡ []
none_ahead [] is = refl
none_ahead (f ∷ rest) is = absurd (let no : ⊥ = cc in no)

-- the name that is given is that of the next file
pub name_of : (v : Volume) (last found : Option (List ℕ)) (r : Result (Option (List ℕ)) Fault) → r ≡ Ok found
    → IsOwnOrMemory v (call.Next last) (name_reply r) v → next_name last v ≡ found
name_of v last found r is own = ⊎_elim
    (λ same. let e : reply.Name found ≡ reply.Name (next_name last v) = sym (ap name_reply is) ∙ same in (let h : next_name last v ≡ found = cc in h))
    (λ memory. let e : reply.Name found ≡ reply.Refused fault.Memory = sym (ap name_reply is) ∙ memory.0 in absurd (let no : ⊥ = cc in no))
    own.own

-- a name is refused for want of memory alone
pub name_fault : (v : Volume) (last : Option (List ℕ)) (r : Result (Option (List ℕ)) Fault) (f : Fault) → r ≡ Err f
    → IsOwnOrMemory v (call.Next last) (name_reply r) v → f ≡ fault.Memory
name_fault v last r f is own = ⊎_elim
    (λ same. let e : reply.Refused f ≡ reply.Name (next_name last v) = sym (ap name_reply is) ∙ same in absurd (let no : ⊥ = cc in no))
    (λ memory. let e : reply.Refused f ≡ reply.Refused fault.Memory = sym (ap name_reply is) ∙ memory.0 in (let h : f ≡ fault.Memory = cc in h))
    own.own

-- the length that is given is that of the file
size_of : (v : Volume) (name : List ℕ) (r : Result ℕ Fault) (size : ℕ) → length_reply r ≡ own_reply (plain v (call.Stat name))
    → plain v (call.Stat name) ≡ Ok (reply.Length size, v) → r ≡ Ok size
size_of v name (Ok n) size given is = let e : reply.Length n ≡ reply.Length size = given ∙ ap own_reply is in (let h : Ok n ≡ Ok size = cc in h)
size_of v name (Err f) size given is = let e : reply.Refused f ≡ reply.Length size = given ∙ ap own_reply is in absurd (let no : ⊥ = cc in no)

module _ (v : Volume) (lawful : IsLawfulVolume v) (count : ℕ) (last : Option (List ℕ)) (lines : List ℕ)
    (so : Listed v count last lines) where
  whole_of : (file : List ℕ × List Cell) (behind : Volume) → so.rest ≡ file ∷ behind → v ≡ so.front ++ file ∷ behind
  whole_of file behind is = so.whole ∙ ap (λ (x : Volume). so.front ++ x) is

  -- a file that is found is not missed when its length is asked for
  pub stat_given : (name : List ℕ) (r : Result ℕ Fault) (f : Fault) → next_name last v ≡ Some name
      → length_reply r ≡ own_reply (plain v (call.Stat name)) → r ≡ Err f → ⊥
  stat_given name r f is given failed =
      let next = ahead v so.rest name (sym so.next_is ∙ is) in
      let there = stat_there v so.front next.behind next.file lawful (whole_of next.file next.behind next.is) in
      let ok : r ≡ Ok (length next.file.1) = size_of v name r (length next.file.1) given
      (subst (λ (n : List ℕ). plain v (call.Stat n) ≡ Ok (reply.Length (length next.file.1), v)) next.named there) in
      let no : ⊥ = cc in no

  listed_file : (name : List ℕ) (size : ℕ) (next : Ahead v so.rest name) → size ≡ length next.file.1 → next_name last v ≡ Some name
      → Listed v (count + 1) (Some name) (lines ++ file_line size name)
  listed_file name size next sized is =
      let f = next.file in
      let whole = whole_of f next.behind next.is in
      let there = stat_there v so.front next.behind f lawful whole in
      let sorted = subst (λ (x : Volume). T (is_sorted name_cmp x)) whole lawful.rising in
      let one : List (Call × Reply) = (call.Next last, reply.Name (Some f.0)) ∷ (call.Stat f.0, reply.Length (length f.1)) ∷ [] in
      record {
        front = so.front ++ f ∷ [];
        rest = next.behind;
        done = so.done ++ one;
        whole = whole ∙ sym (append_assoc so.front (f ∷ []) next.behind);
        size = omega (arith, so.size, length-append so.front (f ∷ []));
        next_is = ap (λ (n : List ℕ). next_above n v) (sym next.named) ∙ (ap (next_above f.0) whole ∙ next_behind so.front next.behind f sorted);
        lines_are = ap (λ x. x ++ file_line size name) so.lines_are
            ∙ (ap (λ n. file_lines so.front ++ file_line n name) sized
            ∙ (ap (λ (n : List ℕ). file_lines so.front ++ file_line (length f.1) n) (sym next.named) ∙ sym (lines_more so.front f)));
        calls = so.calls ∙ (ap (λ (x : Volume). so.done ++ listing last x) next.is
            ∙ (sym (append_assoc so.done one (listing (Some f.0) next.behind))
            ∙ ap (λ (n : List ℕ). (so.done ++ one) ++ listing (Some n) next.behind) next.named));
        made = omega (arith, so.made, length-append so.done one);
        look = look_more v so.done one so.look
            (look_next v last (Some f.0) (is ∙ ap Some (sym next.named)), (look_stat v f.0 (length f.1) there, tt));
      }

  pub listed_more : (name : List ℕ) (size : ℕ) (r : Result ℕ Fault) → next_name last v ≡ Some name
      → length_reply r ≡ own_reply (plain v (call.Stat name)) → r ≡ Ok size
      → Listed v (count + 1) (Some name) (lines ++ file_line size name)
  listed_more name size r is given ok =
      let next = ahead v so.rest name (sym so.next_is ∙ is) in
      let there = stat_there v so.front next.behind next.file lawful (whole_of next.file next.behind next.is) in
      let sized : r ≡ Ok (length next.file.1) = size_of v name r (length next.file.1) given
      (subst (λ (n : List ℕ). plain v (call.Stat n) ≡ Ok (reply.Length (length next.file.1), v)) next.named there) in
      let e : Ok size ≡ Ok (length next.file.1) = sym ok ∙ sized in
      listed_file name size next (let h : size ≡ length next.file.1 = cc in h) is

  -- not too many files are listed
  pub listed_few : count ≤ length v
  listed_few = omega (arith, so.size, ap length so.whole, length-append so.front so.rest)

lacks_next : (last : Option (List ℕ)) (rest : Volume)
    → LacksMemory (listing last rest) ((call.Next last, reply.Refused fault.Memory) ∷ [])
lacks_next last [] = (refl, refl)
lacks_next last (f ∷ rest) = (refl, refl)

module _ {D : Type 0} {d : Ghosts D} (v : Engine D d) (count : ℕ) (last : Option (List ℕ)) (lines : List ℕ)
    (so : Listed (view_now v) count last lines) where
  -- memory was wanting for a file's line
  pub broken_line : (made : ℕ) → made ≡ 2 * count → IsBroken (Bare Listing) v v made
  broken_line made is = record {
    calls = so.done;
    starts = record {
      front = so.done;
      rest = listing last so.rest;
      last = [];
      whole = so.calls;
      calls_are = sym (append-nil so.done);
      wanted = inl refl;
    };
    legal = record { legal = look_legal (view_now v) so.done so.look; now = look_replay (view_now v) so.done so.look; inside = look_insides (view_now v) so.done (volume_state v).inside so.look; clusters = refl };
    count = is ∙ sym so.made;
    carries = carries_idle v so.done;
  }

  -- memory was wanting for a name
  pub broken_name : (made : ℕ) → made ≡ 2 * count + 1 → IsBroken (Bare Listing) v v made
  broken_name made is =
      let wanted : List (Call × Reply) = (call.Next last, reply.Refused fault.Memory) ∷ [] in
      let look = look_more (view_now v) so.done wanted so.look (look_memory (view_now v) last, tt) in
      record {
        calls = so.done ++ wanted;
        starts = record {
          front = so.done;
          rest = listing last so.rest;
          last = wanted;
          whole = so.calls;
          calls_are = refl;
          wanted = inr (lacks_next last so.rest);
        };
        legal = record {
          legal = look_legal (view_now v) (so.done ++ wanted) look;
          now = look_replay (view_now v) (so.done ++ wanted) look;
          inside = look_insides (view_now v) (so.done ++ wanted) (volume_state v).inside look;
          clusters = refl;
        };
        count = omega (arith, is, so.made, length-append so.done wanted);
        carries = carries_idle v (so.done ++ wanted);
      }

  all_listed : next_name last (view_now v) ≡ None → view_now v ≡ so.front
  all_listed none = so.whole ∙ (ap (λ (x : Volume). so.front ++ x) (none_ahead so.rest (sym so.next_is ∙ none)) ∙ append-nil so.front)

  all_called : next_name last (view_now v) ≡ None → listing None (view_now v) ≡ so.done ++ (call.Next last, reply.Name None) ∷ []
  all_called none = so.calls ∙ ap (λ (x : Volume). so.done ++ listing last x) (none_ahead so.rest (sym so.next_is ∙ none))

  all_look : next_name last (view_now v) ≡ None → AllLook (view_now v) (listing None (view_now v))
  all_look none = subst (λ (x : List (Call × Reply)). AllLook (view_now v) x) (sym (all_called none))
      (look_more (view_now v) so.done ((call.Next last, reply.Name None) ∷ []) so.look (look_next (view_now v) last None none, tt))

  all_said : next_name last (view_now v) ≡ None
      → number count ++ lines ≡ number (length (view_now v)) ++ file_lines (view_now v)
  all_said none =
      let n : count ≡ length (view_now v) = sym so.size ∙ ap length (sym (all_listed none)) in
      ap (λ k. number k ++ lines) n ∙ ap (λ x. number (length (view_now v)) ++ x) (so.lines_are ∙ ap file_lines (sym (all_listed none)))

  -- all files are listed
  pub comes_list : (made : ℕ) (text : List ℕ) (r : Result Answered SessionFault) → made ≡ 2 * count + 1
      → next_name last (view_now v) ≡ None → IfOk r (λ a. IsSaid a text (Accepted (number count ++ lines)))
      → ComesTo (Bare Listing) v v made r text
  comes_list made text (Ok kind) is none said = record {
    calls = listing None (view_now v);
    answer = Accepted (number (length (view_now v)) ++ file_lines (view_now v));
    comes = record { calls_are = refl; says = refl; leaves = refl };
    legal = record {
      legal = look_legal (view_now v) (listing None (view_now v)) (all_look none);
      now = look_replay (view_now v) (listing None (view_now v)) (all_look none);
      inside = look_insides (view_now v) (listing None (view_now v)) (volume_state v).inside (all_look none);
      clusters = refl;
    };
    count = omega (arith, is, so.made, ap length (all_called none), length-append so.done ((call.Next last, reply.Name None) ∷ []));
    carries = carries_idle v (listing None (view_now v));
    durable = λ h. absurd (false≢true h);
    text_is = said.text_is ∙ ap (λ x. text_of (Accepted x)) (all_said none);
    kind_is = said.kind_is;
  }
  comes_list made text (Err f) is none said = record {
    calls = listing None (view_now v);
    starts = record {
      front = listing None (view_now v);
      rest = [];
      last = [];
      whole = sym (append-nil (listing None (view_now v)));
      calls_are = sym (append-nil (listing None (view_now v)));
      wanted = inl refl;
    };
    legal = record {
      legal = look_legal (view_now v) (listing None (view_now v)) (all_look none);
      now = look_replay (view_now v) (listing None (view_now v)) (all_look none);
      inside = look_insides (view_now v) (listing None (view_now v)) (volume_state v).inside (all_look none);
      clusters = refl;
    };
    count = omega (arith, is, so.made, ap length (all_called none), length-append so.done ((call.Next last, reply.Name None) ∷ []));
    carries = carries_idle v (listing None (view_now v));
  }
