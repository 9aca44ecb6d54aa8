-- The plain machine answers in the call's own kind.
use Rattle.std.proofs.Common.{◌≡◌, ◌⊎◌, ◌+◌, inl, inr, ℕ, Bool, true, false, not, nat_lt, IsTrue, List, length, take, drop, Option, Some, None, Ok, Err, refl, sym, ap, subst, true≢false}
use Rattle.sha2.specs.Sha256.{sha256}
use Rattle.plain_volume.specs.declared.limits.TheConstants.{MOST_BYTES_OF_A_FILE}
use Rattle.plain_volume.specs.Volume.{Volume, Cell, cells_of, is_lawful, resized, with_file, lost_where, is_within, bytes_of}
use Rattle.plain_volume.specs.Step.{Outcome, takes_memory, refuse_if, at_file, unless_lost, named, set_length, delete, read, read_whole, digest, stat, plain, StepOf, Step, left_by, after}
use Rattle.plain_volume.specs.Replies.{own_reply, IsOwnOrMemory}
use Rattle.plain_volume.specs.Laws.{answers, fits}
use Rattle.plain_volume.proofs.Lawful.{answer_of}
use Rattle.plain_volume.specs.declared.call.Call.{Call}
use Rattle.plain_volume.specs.declared.call.Call.TheVariants.{Create, Write, SetLength, Rename, Delete, Read, Digest, Stat, Next, Flush}
use Rattle.plain_volume.specs.declared.call.Reply.{Reply}
use Rattle.plain_volume.specs.declared.call.Reply.TheVariants as reply
use Rattle.plain_volume.specs.declared.call.Fault.{Fault}
use Rattle.plain_volume.specs.declared.call.Fault.TheVariants.{BadName, OutsideFile, TooLarge, Memory}

abbrev Suits : Call → Outcome → Type 0
Suits call (Err fault) = Unit {0}
Suits call (Ok answer) = answers call answer.0 ≡ true

suits : (v : Volume) (call : Call) → Suits call (plain v call)
suits v call = by (plain v call) (λ x is. (answer_of v call x is).kind)
  where
    by : (outcome : Outcome) → ((x : Reply × Volume) → outcome ≡ Ok x → answers call x.0 ≡ true) → Suits call outcome
    by (Err fault) h = tt
    by (Ok x) h = h x refl

pub reply_fits : (v w : Volume) (call : Call) (given : Reply) → Step v call given w → IsTrue (fits call given)
reply_fits v w call (reply.Refused fault) step = refl
reply_fits v w call reply.Done step = subst (Suits call) step (suits v call)
reply_fits v w call (reply.Bytes bytes) step = subst (Suits call) step (suits v call)
reply_fits v w call (reply.Digest digest) step = subst (Suits call) step (suits v call)
reply_fits v w call (reply.Length length) step = subst (Suits call) step (suits v call)
reply_fits v w call (reply.Name name) step = subst (Suits call) step (suits v call)

-- an outcome's own reply, which leaves what the outcome leaves
own_step : (call : Call) (outcome : Outcome) (v w : Volume) → Suits call outcome → w ≡ left_by outcome v (own_reply outcome) → StepOf call outcome v (own_reply outcome) w
own_step call (Err fault) v w h left = (left, inl refl)
own_step call (Ok (reply.Refused fault, u)) v w h left = absurd (true≢false (sym h))
own_step call (Ok (reply.Done, u)) v w h left = ap (λ x. Ok (reply.Done, x)) (sym left)
own_step call (Ok (reply.Bytes bytes, u)) v w h left = ap (λ x. Ok (reply.Bytes bytes, x)) (sym left)
own_step call (Ok (reply.Digest digest, u)) v w h left = ap (λ x. Ok (reply.Digest digest, x)) (sym left)
own_step call (Ok (reply.Length length, u)) v w h left = ap (λ x. Ok (reply.Length length, x)) (sym left)
own_step call (Ok (reply.Name name, u)) v w h left = ap (λ x. Ok (reply.Name name, x)) (sym left)

by_either : (v w : Volume) (call : Call) (given : Reply) → (given ≡ own_reply (plain v call)) ⊎ ((given ≡ reply.Refused Memory) × IsTrue (takes_memory call)) → w ≡ after v call given → Step v call given w
by_either v w call given (inl own) left =
    subst (λ r. w ≡ left_by (plain v call) v r → StepOf call (plain v call) v r w) (sym own) (own_step call (plain v call) v w (suits v call)) left
by_either v w call given (inr wanting) left =
    subst (λ r. w ≡ left_by (plain v call) v r → StepOf call (plain v call) v r w) (sym wanting.0) (λ same. (same, inr wanting.1)) left

pub own_is_step : (v w : Volume) (call : Call) (given : Reply) → IsOwnOrMemory v call given w → Step v call given w
own_is_step v w call given h = by_either v w call given h.own h.left

-- ---- no refusal of the plain machine's own is for want of memory

abbrev Remembers : Outcome → Type 0
Remembers (Err Memory) = ⊥
Remembers outcome = Unit {0}

refuse_remembers : (b : Bool) (fault : Fault) (rest : Outcome) → Remembers (Err fault) → Remembers rest → Remembers (refuse_if b fault rest)
refuse_remembers true fault rest own h = own
refuse_remembers false fault rest own h = h

file_remembers : (found : Option (List Cell)) (rest : List Cell → Outcome) → ((cells : List Cell) → Remembers (rest cells)) → Remembers (at_file found rest)
file_remembers None rest h = tt
file_remembers (Some cells) rest h = h cells

lost_remembers : (lost : Option ℕ) (rest : Outcome) → Remembers rest → Remembers (unless_lost lost rest)
lost_remembers None rest h = h
lost_remembers (Some place) rest h = tt

named_remembers : (name : List ℕ) (rest : Outcome) → Remembers rest → Remembers (named name rest)
named_remembers name rest h = refuse_remembers (not (is_lawful name)) BadName rest tt h

on_file_remembers : (v : Volume) (name : List ℕ) (rest : List Cell → Outcome) → ((cells : List Cell) → Remembers (rest cells)) → Remembers (named name (at_file (cells_of name v) rest))
on_file_remembers v name rest h = named_remembers name (at_file (cells_of name v) rest) (file_remembers (cells_of name v) rest h)

untaken_remembers : (v : Volume) (call : Call) → takes_memory call ≡ false → Remembers (plain v call)
untaken_remembers v (SetLength name len) none = on_file_remembers v name (set_length name len v)
    (λ cells. refuse_remembers (nat_lt MOST_BYTES_OF_A_FILE len) (TooLarge MOST_BYTES_OF_A_FILE) (Ok (reply.Done, with_file name (resized len cells) v)) tt tt)
untaken_remembers v (Delete name) none = on_file_remembers v name (delete name v) (λ cells. tt)
untaken_remembers v (Read name at count) none = on_file_remembers v name (read at count v)
    (λ cells. refuse_remembers (nat_lt (length cells) (at + count)) (OutsideFile (length cells)) (read_whole at count v cells) tt
    (lost_remembers (lost_where (is_within at count) 0 cells) (Ok (reply.Bytes (bytes_of (take count (drop at cells))), v)) tt))
untaken_remembers v (Digest name) none = on_file_remembers v name (digest v)
    (λ cells. lost_remembers (lost_where (λ p. true) 0 cells) (Ok (reply.Digest (sha256 (bytes_of cells)), v)) tt)
untaken_remembers v (Stat name) none = on_file_remembers v name (stat v) (λ cells. tt)
untaken_remembers v Flush none = tt
untaken_remembers v (Create name) none = absurd (true≢false none)
untaken_remembers v (Write name at bytes) none = absurd (true≢false none)
untaken_remembers v (Rename from to) none = absurd (true≢false none)
untaken_remembers v (Next after) none = absurd (true≢false none)

pub taker_lacks : (v w : Volume) (call : Call) → Step v call (reply.Refused Memory) w → IsTrue (takes_memory call)
taker_lacks v w call step = by (takes_memory call) refl step.1
  where
    by : (takes : Bool) → takes_memory call ≡ takes → (plain v call ≡ Err Memory) ⊎ IsTrue (takes_memory call) → IsTrue (takes_memory call)
    by true is either = is
    by false is (inl refused) = absurd (subst Remembers refused (untaken_remembers v call is))
    by false is (inr takes) = takes
