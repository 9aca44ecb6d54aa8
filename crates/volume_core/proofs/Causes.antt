-- That a device failed is answered only where its count of faults rose.
use Rattle.std.specs.Prelude.{◌≡◌, ◌+◌, ℕ, Bool, true, false, not, nat_le, nat_lt, is_some, List, [], length}
use Rattle.std.specs.Prelude.{take, drop, Option, Some, None, Result, Ok, Err, IsErrOf}
use Rattle.std.proofs.Common.{inl, inr, sym, ap, ◌∙◌, ⊎_elim}
use Rattle.sha2.specs.Sha256.{sha256}
use Rattle.vdisk.specs.Causes.{Rose}
use Rattle.plain_volume.specs.declared.limits.TheConstants.{MOST_FILES, MOST_BYTES_OF_A_CALL, MOST_BYTES_OF_A_FILE}
use Rattle.plain_volume.specs.Volume.{Cell, Volume, cells_of, with_file, without_file, is_lawful, resized}
use Rattle.plain_volume.specs.Volume.{overwritten, lost_where, is_within, bytes_of}
use Rattle.plain_volume.specs.Step.{Outcome, plain, refuse_if, at_file, unless_lost, named, create, write}
use Rattle.plain_volume.specs.Step.{write_within, write_whole, lost_beside, set_length, rename, delete, read}
use Rattle.plain_volume.specs.Step.{read_whole, digest, stat}
use Rattle.plain_volume.specs.Replies.{own_reply, done_reply}
use Rattle.plain_volume.specs.declared.call.Call.{Call}
use Rattle.plain_volume.specs.declared.call.Call.TheVariants.{Create, Write, SetLength, Rename, Delete, Read, Digest}
use Rattle.plain_volume.specs.declared.call.Call.TheVariants.{Stat, Next, Flush}
use Rattle.plain_volume.specs.declared.call.Fault.{Fault}
use Rattle.plain_volume.specs.declared.call.Fault.TheVariants.{BadName, Exists, OutsideFile, TooLarge, Failed, Damaged}
use Rattle.plain_volume.specs.declared.call.Reply.{Reply}
use Rattle.plain_volume.specs.declared.call.Reply.TheVariants as reply
use Rattle.volume_tables.specs.Wants.{reply_of, IsReplied, IsRepliedOrMemory}

-- the plain machine has no device
abbrev IsSafe : Outcome → Type 0
IsSafe outcome = own_reply outcome ≡ reply.Refused Failed → ⊥

refuse_safe : (b : Bool) (fault : Fault) (rest : Outcome) → (fault ≡ Failed → ⊥) → IsSafe rest
    → IsSafe (refuse_if b fault rest)
refuse_safe true fault rest other safe is = other (cc)
refuse_safe false fault rest other safe is = safe is

file_safe : (cells : Option (List Cell)) (rest : List Cell → Outcome) → ((cells : List Cell) → IsSafe (rest cells))
    → IsSafe (at_file cells rest)
file_safe None rest safe is = cc
file_safe (Some cells) rest safe is = safe cells is

lost_safe : (place : Option ℕ) (rest : Outcome) → IsSafe rest → IsSafe (unless_lost place rest)
lost_safe None rest safe is = safe is
lost_safe (Some place) rest safe is = cc

bad_name_differs : BadName ≡ Failed → ⊥
bad_name_differs is = cc

exists_differs : Exists ≡ Failed → ⊥
exists_differs is = cc

outside_differs : (n : ℕ) → OutsideFile n ≡ Failed → ⊥
outside_differs n is = cc

large_differs : (n : ℕ) → TooLarge n ≡ Failed → ⊥
large_differs n is = cc

done_safe : (w : Volume) → IsSafe (Ok (reply.Done, w))
done_safe w is = cc

named_safe : (name : List ℕ) (rest : Outcome) → IsSafe rest → IsSafe (named name rest)
named_safe name rest safe = refuse_safe (not (is_lawful name)) BadName rest bad_name_differs safe

module _ (v : Volume) (name : List ℕ) where
  create_safe : IsSafe (plain v (Create name))
  create_safe =
      named_safe name (refuse_if (is_some (cells_of name v)) Exists (create name v))
      (refuse_safe (is_some (cells_of name v)) Exists (create name v) exists_differs
      (refuse_safe (nat_le MOST_FILES (length v)) (TooLarge MOST_FILES) (Ok (reply.Done, with_file name [] v))
      (large_differs MOST_FILES) (done_safe (with_file name [] v))))

  -- calls on the file of a name
  of_file_safe : (rest : List Cell → Outcome) → ((cells : List Cell) → IsSafe (rest cells))
      → IsSafe (named name (at_file (cells_of name v) rest))
  of_file_safe rest safe = named_safe name (at_file (cells_of name v) rest) (file_safe (cells_of name v) rest safe)

  write_safe : (at : ℕ) (bytes : List ℕ) (cells : List Cell) → IsSafe (write name at bytes v cells)
  write_safe at bytes cells =
      refuse_safe (nat_lt MOST_BYTES_OF_A_CALL (length bytes)) (TooLarge MOST_BYTES_OF_A_CALL)
      (write_within name at bytes v cells) (large_differs MOST_BYTES_OF_A_CALL)
      (refuse_safe (nat_lt MOST_BYTES_OF_A_FILE (at + length bytes)) (TooLarge MOST_BYTES_OF_A_FILE)
      (write_whole name at bytes v cells) (large_differs MOST_BYTES_OF_A_FILE)
      (lost_safe (lost_beside at bytes cells) (Ok (reply.Done, with_file name (overwritten at bytes cells) v))
      (done_safe (with_file name (overwritten at bytes cells) v))))

  length_safe : (len : ℕ) (cells : List Cell) → IsSafe (set_length name len v cells)
  length_safe len cells =
      refuse_safe (nat_lt MOST_BYTES_OF_A_FILE len) (TooLarge MOST_BYTES_OF_A_FILE)
      (Ok (reply.Done, with_file name (resized len cells) v)) (large_differs MOST_BYTES_OF_A_FILE)
      (done_safe (with_file name (resized len cells) v))

  rename_safe : (to : List ℕ) (cells : List Cell) → IsSafe (rename name to v cells)
  rename_safe to cells =
      refuse_safe (is_some (cells_of to v)) Exists (Ok (reply.Done, with_file to cells (without_file name v)))
      exists_differs (done_safe (with_file to cells (without_file name v)))

  read_safe : (at count : ℕ) (cells : List Cell) → IsSafe (read at count v cells)
  read_safe at count cells =
      refuse_safe (nat_lt (length cells) (at + count)) (OutsideFile (length cells)) (read_whole at count v cells)
      (outside_differs (length cells))
      (lost_safe (lost_where (is_within at count) 0 cells)
      (Ok (reply.Bytes (bytes_of (take count (drop at cells))), v)) (λ is. cc))

  digest_safe : (cells : List Cell) → IsSafe (digest v cells)
  digest_safe cells =
      lost_safe (lost_where (λ p. true) 0 cells) (Ok (reply.Digest (sha256 (bytes_of cells)), v)) (λ is. cc)

plain_safe : (v : Volume) (call : Call) → IsSafe (plain v call)
plain_safe v (Create name) = create_safe v name
plain_safe v (Write name at bytes) = of_file_safe v name (write name at bytes v) (write_safe v name at bytes)
plain_safe v (SetLength name len) = of_file_safe v name (set_length name len v) (length_safe v name len)
plain_safe v (Rename from to) =
    named_safe from (named to (at_file (cells_of from v) (rename from to v)))
    (named_safe to (at_file (cells_of from v) (rename from to v))
    (file_safe (cells_of from v) (rename from to v) (rename_safe v from to)))
plain_safe v (Delete name) =
    of_file_safe v name (delete name v) (λ cells. done_safe (without_file name v))
plain_safe v (Read name at count) = of_file_safe v name (read at count v) (read_safe v name at count)
plain_safe v (Digest name) = of_file_safe v name (digest v) (digest_safe v name)
plain_safe v (Stat name) = of_file_safe v name (stat v) (λ cells is. cc)
plain_safe v (Next above) = λ is. cc
plain_safe v Flush = λ is. cc

reply_safe : (outcome : Outcome) (want : Option Fault) → IsSafe outcome → (want ≡ Some Failed → ⊥)
    → reply.Refused Failed ≡ reply_of outcome want → ⊥
reply_safe (Ok answer) (Some fault) safe never is = never (cc)
reply_safe (Err (Damaged place)) (Some fault) safe never is = never (cc)
reply_safe outcome want safe never is = safe (sym is)

-- a refusal of the plain machine is none of the device
pub refused_not_failed : (v : Volume) (call : Call) (fault : Fault) → plain v call ≡ Err fault → fault ≡ Failed → ⊥
refused_not_failed v call fault is failed =
    plain_safe v call (ap own_reply is ∙ ap (λ (f : Fault). reply.Refused f) failed)

module _ (v : Volume) (call : Call) (want : Option Fault) (never : want ≡ Some Failed → ⊥) (before now : ℕ) where
  rose_by : (given : Reply) → IsReplied (plain v call) want before now given → given ≡ reply.Refused Failed
      → Rose before now
  rose_by given replied is = ⊎_elim
      (λ own. absurd (reply_safe (plain v call) want (plain_safe v call) never (sym is ∙ own)))
      (λ failed. failed.2)
      replied

  pub failed_rose : (r : Result (Unit {0}) Fault) → IsReplied (plain v call) want before now (done_reply r)
      → IsErrOf r Failed → Rose before now
  failed_rose r replied is = rose_by (done_reply r) replied (λ i. done_reply (is i))

  pub failed_rose_too : (r : Result (Unit {0}) Fault)
      → IsRepliedOrMemory (plain v call) want before now (done_reply r) → IsErrOf r Failed → Rose before now
  failed_rose_too r (inl replied) is = failed_rose r replied is
  failed_rose_too r (inr memory) is = absurd
      (let given : done_reply r ≡ reply.Refused Failed = λ i. done_reply (is i) in cc)
