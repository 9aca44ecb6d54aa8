-- Lines in a row take an epoch each at most, and none is wanting before the last one.
use Rattle.std.proofs.Common.{◌≡◌, ◌≤◌, ◌<◌, ◌+◌, ◌&&◌, ℕ, Bool, true, false, not, cond, nat_eq, nat_lt, List, [], ◌∷◌, length, replicate, codes, Option, Some, None, refl, sym, ◌∙◌, ap, subst, arith}
use Rattle.meta_log.specs.Meta.{last_epoch}
use Rattle.cmdlet_line.specs.Lines.{Ask, Silent, Create, Write, Read, Fill, Length, Rename, Delete, Digest, Stat, Listing, Flush, Exit}
use Rattle.plain_volume.specs.declared.call.Call.{Call}
use Rattle.plain_volume.specs.declared.call.Call.TheVariants as call
use Rattle.plain_volume.specs.declared.call.Reply.{Reply}
use Rattle.plain_volume.specs.declared.call.Reply.TheVariants as reply
use Rattle.plain_volume.specs.declared.call.Fault.{Fault}
use Rattle.plain_volume.specs.declared.call.Fault.TheVariants as fault
use Rattle.volume_inside.specs.Layout.{half_bytes}
use Rattle.volume_inside.specs.Rules.{next_id_of}
use Rattle.volume_tables.specs.Sizes.{tables_bytes}
use Rattle.volume_tables.specs.Pending.{Needs, Pending, last_id, wears_in, finds_room, settled}
use Rattle.volume_files.specs.Lengths.{for_file, length_of}
use Rattle.volume_files.specs.Needs.{create_needs, rename_needs, delete_needs, write_needs, length_needs}
use Rattle.volume_core.specs.Moves.{Moves}
use Rattle.volume_core.specs.States.{wears_at, wants_in, wants_but_epochs, wanting_in, write_wants_in, id_of_name, left_in, tables_told, IsStateOf}
use Rattle.ddpsh.specs.States.{State, reply_in}
use Rattle.script_items.specs.Script.{Item, Bad, Bare, Paid, Cut, Spoilt}
use Rattle.answer_text.specs.Answers.{Answer, Nothing, Refused, said, refusal_text}
use Rattle.ddpsh.specs.Answers.{OneCall, NoCall, Serves, Comes}
use Rattle.ddpsh.specs.Runs.{Entry, AreAnswered, state_behind}
use Rattle.ddpsh.specs.Laws.{HasEpochWithin, FewLinesWantNoEpoch}
use Rattle.ddpsh.proofs.BoundLaws.{changed_once}

-- ---- what is wanting where no epoch is

-- the state in which nothing waits for a commit, at the first epoch
abbrev fresh_in : State → State
fresh_in s = record { clusters = s.clusters; inside = s.inside; pending = settled 0 0 0 }

and_none : (a b : Bool) → b ≡ false → (a && b) ≡ false
and_none true b none = none
and_none false b none = refl

module _ (s : State) (fresh : wears_at s ≡ false) where
  wanting_fresh : (n : Needs) → wanting_in s n ≡ wanting_in (fresh_in s) n
  wanting_fresh n =
      ap (λ (b : Bool). cond (n.draws && nat_eq (next_id_of (tables_told s.inside)) last_id) (Some fault.Worn)
      (cond (nat_lt (half_bytes s.clusters) (tables_bytes (tables_told s.inside) + n.grows)) (Some fault.TableFull)
      (cond (nat_lt (left_in s) n.clusters) (Some (fault.Full n.clusters (left_in s)))
      (cond b (Some fault.Worn) None))))
      (and_none (not (finds_room s.pending n)) (wears_at s) fresh
      ∙ sym (and_none (not (finds_room (settled 0 0 0) n)) (wears_at (fresh_in s)) refl))

  file_fresh : (found : Option ℕ) (one other : ℕ → Option Fault) → ((id : ℕ) → one id ≡ other id)
      → for_file found one ≡ for_file found other
  file_fresh None one other h = refl
  file_fresh (Some id) one other h = h id

  write_fresh : (id at : ℕ) (bytes : List ℕ) → write_wants_in s id at bytes ≡ write_wants_in (fresh_in s) id at bytes
  write_fresh id at [] = refl
  write_fresh id at (b ∷ bytes) = wanting_fresh (write_needs (tables_told s.inside) id at (length (b ∷ bytes)))

  pub wants_fresh : (c : Call) → wants_in s c ≡ wants_but_epochs s.clusters s.inside c
  wants_fresh (call.Create name) = wanting_fresh (create_needs name)
  wants_fresh (call.Write name at bytes) = file_fresh (id_of_name s name) _ _ (λ id. write_fresh id at bytes)
  wants_fresh (call.SetLength name len) = file_fresh (id_of_name s name) _ _
      (λ id. wanting_fresh (length_needs (tables_told s.inside) id (length_of (tables_told s.inside) id) len))
  wants_fresh (call.Rename from to) = wanting_fresh (rename_needs from to)
  wants_fresh (call.Delete name) = wanting_fresh (delete_needs name)
  wants_fresh call.Flush = ap (λ (b : Bool). cond b (Some fault.Worn) None) fresh
  wants_fresh (call.Read name at count) = refl
  wants_fresh (call.Digest name) = refl
  wants_fresh (call.Stat name) = refl
  wants_fresh (call.Next after) = refl

-- ---- what a line does to the epoch

-- a commit is refused as worn only where the last epoch is taken
abbrev pub IsLateWorn : State → Type 0
IsLateWorn s = wears_at s ≡ true → s.pending.epoch ≡ last_epoch

-- a line takes an epoch at most, and one is wanting after it only at the last, if it was so before it
pub record Passes (before after : State) : Type 0 where
  pub stands : before.pending.epoch ≤ after.pending.epoch
  pub most : after.pending.epoch ≤ before.pending.epoch + 1
  pub wears : IsLateWorn before → IsLateWorn after

same_passes : (before after : State) → after ≡ before → Passes before after
same_passes before after same =
    subst (λ (s : State). Passes before s) (sym same)
    (record { stands = omega arith; most = omega arith; wears = λ was. was })

not_failed : (r : Reply) (answer : Answer) → said r ≡ Some answer → r ≡ reply.Refused fault.Failed → ⊥
not_failed r answer says failed =
    let none : ◌≡◌ {A = Option Answer} None (Some answer) = sym (ap said failed) ∙ says in (let no : ⊥ = cc in no)

moved_passes : (c : Call) (before after : State) (answer : Answer) → said (reply_in before c) ≡ Some answer
    → Moves c (reply_in before c) before after → Passes before after
moved_passes c before after answer says moves = record {
  stands = moves.stands;
  most = let taken = moves.epoch (not_failed (reply_in before c) answer says) in omega (arith, taken, changed_once c);
  wears = λ was. moves.wears;
}

module _ (before : State) (calls : List (Call × Reply)) (answer : Answer) (after : State) where
  call_passes : (c : Call) → OneCall c before calls answer after → Passes before after
  call_passes c one = moved_passes c before after answer one.says one.moves

  none_passes : (says : State → Answer) → NoCall says before calls answer after → Passes before after
  none_passes says one = same_passes before after one.leaves

  serves_passes : (ask : Ask) (payload : List ℕ) → Serves ask payload before calls answer after → Passes before after
  serves_passes Silent payload = none_passes (λ s. Nothing)
  serves_passes (Create name) payload = call_passes (call.Create name)
  serves_passes (Write name at count) payload = call_passes (call.Write name at payload)
  serves_passes (Read name at count) payload = call_passes (call.Read name at count)
  serves_passes (Fill name at count byte) payload = call_passes (call.Write name at (replicate count byte))
  serves_passes (Length name size) payload = call_passes (call.SetLength name size)
  serves_passes (Rename source target) payload = call_passes (call.Rename source target)
  serves_passes (Delete name) payload = call_passes (call.Delete name)
  serves_passes (Digest name) payload = call_passes (call.Digest name)
  serves_passes (Stat name) payload = call_passes (call.Stat name)
  serves_passes Listing payload = λ one. same_passes before after one.leaves
  serves_passes Flush payload = call_passes call.Flush
  serves_passes Exit payload = λ one. moved_passes call.Flush before after answer one.says one.moves

  item_passes : (item : Item) → Comes item before calls answer after → Passes before after
  item_passes (Bad refusal) = none_passes (λ s. Refused (refusal_text refusal))
  item_passes (Bare ask) = serves_passes ask []
  item_passes (Paid ask payload) = serves_passes ask payload
  item_passes Cut = none_passes (λ s. Refused (codes " Cut"))
  item_passes Spoilt = none_passes (λ s. Refused (codes " PayloadEnd"))

-- ---- lines in a row

-- a state after so many lines: an epoch is wanting only at the last
abbrev pub IsFresh : ℕ → ℕ → State → Type 0
IsFresh opened lines s = HasEpochWithin opened lines s × IsLateWorn s

pub fresh_start : (image : List ℕ) (s : State) → IsStateOf image s → IsFresh s.pending.epoch 0 s
fresh_start image s is =
    let never : wears_at s ≡ false = ap (λ (p : Pending). wears_in (half_bytes s.clusters) p) is.pending in
    ((omega arith, omega arith), λ wears. absurd (let clash : true ≡ false = sym wears ∙ never in cc))

pub fresh_more : (opened lines : ℕ) (e : Entry) (before : State) → Comes e.item before e.calls e.answer e.after
    → IsFresh opened lines before → IsFresh opened (lines + 1) e.after
fresh_more opened lines e before comes fresh =
    let p : Passes before e.after = item_passes before e.calls e.answer e.after e.item comes in
    let stands = p.stands in
    let most = p.most in
    let least = fresh.0.0 in
    let few = fresh.0.1 in
    ((omega (arith, stands, least), omega (arith, most, few)), p.wears fresh.1)

fresh_all : (opened lines : ℕ) (es : List Entry) (before : State) → AreAnswered before es → IsFresh opened lines before
    → IsFresh opened (lines + length es) (state_behind before es)
fresh_all opened lines [] before answers fresh =
    let most = fresh.0.1 in ((fresh.0.0, omega (arith, most)), fresh.1)
fresh_all opened lines (e ∷ es) before answers fresh =
    let rest = fresh_all opened (lines + 1) es e.after answers.1
    (fresh_more opened lines e before answers.0 fresh) in
    let most = rest.0.1 in
    ((rest.0.0, omega (arith, most)), rest.1)

-- too few lines to come to the last epoch
pub none_wears : (opened lines : ℕ) (s : State) → IsFresh opened lines s → opened + lines < last_epoch
    → wears_at s ≡ false
none_wears opened lines s fresh far = by (wears_at s) refl
  where
    by : (b : Bool) → wears_at s ≡ b → wears_at s ≡ false
    by true is =
        let last : s.pending.epoch ≡ last_epoch = fresh.1 is in
        let most : s.pending.epoch ≤ opened + lines = fresh.0.1 in
        absurd (omega (arith, last, most, far))
    by false is = is

pub few_want_none : FewLinesWantNoEpoch
few_want_none image opening script es rest now is served far =
    let all : IsFresh opening.pending.epoch (0 + length es) (state_behind opening es) =
    fresh_all opening.pending.epoch 0 es opening served.answers (fresh_start image opening is) in
    let here : IsFresh opening.pending.epoch (length es) now =
    subst (λ (s : State). IsFresh opening.pending.epoch (length es) s) (sym served.state)
    (let most = all.0.1 in ((all.0.0, omega (arith, most)), all.1)) in
    let fresh : wears_at now ≡ false = none_wears opening.pending.epoch (length es) now here far in
    (here.0, fresh, wants_fresh now fresh)
