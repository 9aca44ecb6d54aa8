-- Refusals that no call is answered with.
use Rattle.std.specs.Prelude.{◌≡◌, ◌+◌, ℕ, Bool, true, false, not, nat_le, nat_lt, List, [], length, Option, Some, None}
use Rattle.std.specs.Prelude.{Result, Ok, Err, IsErrOf}
use Rattle.std.specs.Option.{is_some}
use Rattle.std.proofs.Common.{inl, inr, sym, ◌∙◌, subst}
use Rattle.std.proofs.lemmas.Bool.{false≢true}
use Rattle.plain_volume.specs.Volume.{Cell, Volume, is_lawful, cells_of, with_file, without_file, overwritten, resized}
use Rattle.plain_volume.specs.Step.{Outcome, plain, refuse_if, at_file, unless_lost, named, write, write_within, set_length}
use Rattle.plain_volume.specs.Step.{rename, delete, create, lost_beside}
use Rattle.plain_volume.specs.Replies.{own_reply, done_reply}
use Rattle.plain_volume.specs.declared.call.Call.{Call}
use Rattle.plain_volume.specs.declared.call.Call.TheVariants.{Create, SetLength, Rename, Delete}
use Rattle.plain_volume.specs.declared.call.Fault.{Fault}
use Rattle.plain_volume.specs.declared.call.Fault.TheVariants.{BadName, NoFile, Exists, TooLarge, Worn, Failed, Damaged}
use Rattle.plain_volume.specs.declared.call.Fault.TheVariants.{Memory}
use Rattle.plain_volume.specs.declared.call.Reply.TheVariants as reply
use Rattle.plain_volume.specs.declared.limits.TheConstants.{MOST_FILES, MOST_BYTES_OF_A_CALL, MOST_BYTES_OF_A_FILE}
use Rattle.volume_tables.specs.Wants.{reply_of, IsRepliedOrMemory}
use Rattle.volume_core.specs.Wants.{IsWant}

-- ---- what the plain machine refuses a call with

-- a refusal that is none of these
record IsLate (fault : Fault) : Type 0 where
  pub name : BadName ≡ fault → ⊥
  pub none : NoFile ≡ fault → ⊥
  pub exists : Exists ≡ fault → ⊥
  pub large : (most : ℕ) → TooLarge most ≡ fault → ⊥

damaged_late : (place : ℕ) → IsLate (Damaged place)
damaged_late place = record { name = λ is. cc; none = λ is. cc; exists = λ is. cc; large = λ most is. cc }

worn_late : IsLate Worn
worn_late = record { name = λ is. cc; none = λ is. cc; exists = λ is. cc; large = λ most is. cc }

module _ (fault : Fault) (late : IsLate fault) where
  -- a machine with this outcome does not refuse so
  abbrev Never : Outcome → Type 0
  Never outcome = own_reply outcome ≡ reply.Refused fault → ⊥

  never_if : (b : Bool) (other : Fault) (rest : Outcome) → (other ≡ fault → ⊥) → Never rest
      → Never (refuse_if b other rest)
  never_if true other rest differs never is = differs (cc)
  never_if false other rest differs never is = never is

  never_done : (w : Volume) → Never (Ok (reply.Done, w))
  never_done w is = cc

  never_file : (o : Option (List Cell)) (rest : List Cell → Outcome) → ((cells : List Cell) → Never (rest cells))
      → Never (at_file o rest)
  never_file None rest never is = late.none (cc)
  never_file (Some cells) rest never is = never cells is

  never_lost : (o : Option ℕ) (rest : Outcome) → ((place : ℕ) → Damaged place ≡ fault → ⊥) → Never rest
      → Never (unless_lost o rest)
  never_lost None rest differs never is = never is
  never_lost (Some place) rest differs never is = differs place (cc)

  module _ (v : Volume) (name : List ℕ) where
    of_file : (rest : List Cell → Outcome) → ((cells : List Cell) → Never (rest cells))
        → Never (named name (at_file (cells_of name v) rest))
    of_file rest never =
        never_if (not (is_lawful name)) BadName (at_file (cells_of name v) rest) late.name
        (never_file (cells_of name v) rest never)

    never_create : Never (plain v (Create name))
    never_create =
        never_if (not (is_lawful name)) BadName (refuse_if (is_some (cells_of name v)) Exists (create name v)) late.name
        (never_if (is_some (cells_of name v)) Exists (create name v) late.exists
        (never_if (nat_le MOST_FILES (length v)) (TooLarge MOST_FILES) (Ok (reply.Done, with_file name [] v))
        (late.large MOST_FILES) (never_done (with_file name [] v))))

    never_length : (len : ℕ) → Never (plain v (SetLength name len))
    never_length len = of_file (set_length name len v) (λ cells.
        never_if (nat_lt MOST_BYTES_OF_A_FILE len) (TooLarge MOST_BYTES_OF_A_FILE)
        (Ok (reply.Done, with_file name (resized len cells) v)) (late.large MOST_BYTES_OF_A_FILE)
        (never_done (with_file name (resized len cells) v)))

    never_delete : Never (plain v (Delete name))
    never_delete = of_file (delete name v) (λ cells. never_done (without_file name v))

    never_rename : (to : List ℕ) → Never (plain v (Rename name to))
    never_rename to =
        never_if (not (is_lawful name)) BadName (named to (at_file (cells_of name v) (rename name to v))) late.name
        (never_if (not (is_lawful to)) BadName (at_file (cells_of name v) (rename name to v)) late.name
        (never_file (cells_of name v) (rename name to v) (λ cells.
        never_if (is_some (cells_of to v)) Exists (Ok (reply.Done, with_file to cells (without_file name v))) late.exists
        (never_done (with_file to cells (without_file name v))))))

    never_write : (at : ℕ) (bytes : List ℕ) (cells : List Cell) → ((place : ℕ) → Damaged place ≡ fault → ⊥)
        → Never (write name at bytes v cells)
    never_write at bytes cells differs =
        never_if (nat_lt MOST_BYTES_OF_A_CALL (length bytes)) (TooLarge MOST_BYTES_OF_A_CALL)
        (write_within name at bytes v cells) (late.large MOST_BYTES_OF_A_CALL)
        (never_if (nat_lt MOST_BYTES_OF_A_FILE (at + length bytes)) (TooLarge MOST_BYTES_OF_A_FILE)
        (unless_lost (lost_beside at bytes cells) (Ok (reply.Done, with_file name (overwritten at bytes cells) v)))
        (late.large MOST_BYTES_OF_A_FILE)
        (never_lost (lost_beside at bytes cells) (Ok (reply.Done, with_file name (overwritten at bytes cells) v))
        differs (never_done (with_file name (overwritten at bytes cells) v))))

  -- ---- what a call is refused with

  own_never : (outcome : Outcome) (want : Option Fault) → Never outcome → (want ≡ Some fault → ⊥)
      → reply.Refused fault ≡ reply_of outcome want → ⊥
  own_never (Ok answer) (Some other) never wanted is = wanted (cc)
  own_never (Err (Damaged at)) (Some other) never wanted is = wanted (cc)
  own_never outcome want never wanted is = never (sym is)

  never_refused : (outcome : Outcome) (want : Option Fault) (before now : ℕ) (r : Result (Unit {0}) Fault)
      → Never outcome → (want ≡ Some fault → ⊥) → (Failed ≡ fault → ⊥) → (Memory ≡ fault → ⊥)
      → IsRepliedOrMemory outcome want before now (done_reply r) → IsErrOf r fault → ⊥
  never_refused outcome want before now r never wanted failed memory replied is = by replied
    where
      given : done_reply r ≡ reply.Refused fault
      given = λ i. done_reply (is i)

      by : IsRepliedOrMemory outcome want before now (done_reply r) → ⊥
      by (inl (inl own)) = own_never outcome want never wanted (sym given ∙ own)
      by (inl (inr fails)) = failed (let same : reply.Refused Failed ≡ reply.Refused fault = sym fails.0 ∙ given in cc)
      by (inr lacks) = memory (let same : reply.Refused Memory ≡ reply.Refused fault = sym lacks ∙ given in cc)

-- no call wants a lost cell
want_differs : (call : Call) (want : Option Fault) (place : ℕ) → IsWant call want → want ≡ Some (Damaged place) → ⊥
want_differs call want place may is = false≢true (subst (λ (o : Option Fault). IsWant call o) is may)

module _ (v : Volume) (name : List ℕ) (before now : ℕ) (r : Result (Unit {0}) Fault) (place : ℕ) where
  module _ (call : Call) (want : Option Fault) (may : IsWant call want) where
    undamaged : (outcome : Outcome) → Never (Damaged place) (damaged_late place) outcome
        → IsRepliedOrMemory outcome want before now (done_reply r) → IsErrOf r (Damaged place) → ⊥
    undamaged outcome never =
        never_refused (Damaged place) (damaged_late place) outcome want before now r never
        (want_differs call want place may) (λ is. cc) (λ is. cc)

  -- no call that changes files but a write looks for a lost cell
  pub create_undamaged : (want : Option Fault) → IsWant (Create name) want
      → IsRepliedOrMemory (plain v (Create name)) want before now (done_reply r) → IsErrOf r (Damaged place) → ⊥
  create_undamaged want may =
      undamaged (Create name) want may (plain v (Create name)) (never_create (Damaged place) (damaged_late place) v name)

  pub delete_undamaged : (want : Option Fault) → IsWant (Delete name) want
      → IsRepliedOrMemory (plain v (Delete name)) want before now (done_reply r) → IsErrOf r (Damaged place) → ⊥
  delete_undamaged want may =
      undamaged (Delete name) want may (plain v (Delete name)) (never_delete (Damaged place) (damaged_late place) v name)

  pub length_undamaged : (len : ℕ) (want : Option Fault) → IsWant (SetLength name len) want
      → IsRepliedOrMemory (plain v (SetLength name len)) want before now (done_reply r) → IsErrOf r (Damaged place) → ⊥
  length_undamaged len want may =
      undamaged (SetLength name len) want may (plain v (SetLength name len))
      (never_length (Damaged place) (damaged_late place) v name len)

  pub rename_undamaged : (to : List ℕ) (want : Option Fault) → IsWant (Rename name to) want
      → IsRepliedOrMemory (plain v (Rename name to)) want before now (done_reply r) → IsErrOf r (Damaged place) → ⊥
  rename_undamaged to want may =
      undamaged (Rename name to) want may (plain v (Rename name to))
      (never_rename (Damaged place) (damaged_late place) v name to)

-- a write that wants nothing is not refused as worn
pub write_unworn : (v : Volume) (name : List ℕ) (at : ℕ) (bytes : List ℕ) (cells : List Cell) (before now : ℕ)
    (r : Result (Unit {0}) Fault)
    → IsRepliedOrMemory (write name at bytes v cells) None before now (done_reply r) → IsErrOf r Worn → ⊥
write_unworn v name at bytes cells before now r =
    never_refused Worn worn_late (write name at bytes v cells) None before now r
    (never_write Worn worn_late v name at bytes cells (λ place is. cc)) (λ is. cc) (λ is. cc) (λ is. cc)
