-- The plain machine: what each call answers and leaves.
use Rattle.std.specs.Prelude.{◌≡◌, ◌⊎◌, ◌+◌, ℕ, Bool, true, false, not, IsTrue, nat_le, nat_lt, is_some, List, [], ◌∷◌, length, take, drop, Option, Some, None, Result, Ok, Err}
use Rattle.sha2.specs.Sha256.{sha256}
use Rattle.plain_volume.specs.Volume.{Cell, Volume, cells_of, with_file, without_file, is_lawful, resized, overwritten, lost_where, is_within, is_beside, bytes_of, next_above, first_name}
use Rattle.plain_volume.specs.declared.limits.TheConstants.{MOST_FILES, MOST_BYTES_OF_A_CALL, MOST_BYTES_OF_A_FILE}
use Rattle.plain_volume.specs.declared.call.Call.{Call}
use Rattle.plain_volume.specs.declared.call.Call.TheVariants.{Create, Write, SetLength, Rename, Delete, Read, Digest, Stat, Next, Flush}
use Rattle.plain_volume.specs.declared.call.Reply.{Reply}
use Rattle.plain_volume.specs.declared.call.Reply.TheVariants as reply
use Rattle.plain_volume.specs.declared.call.Fault.{Fault}
use Rattle.plain_volume.specs.declared.call.Fault.TheVariants.{BadName, NoFile, Exists, OutsideFile, TooLarge, Worn, TableFull, Full, Failed, Damaged, Memory}

-- what a call answers and leaves, or why it is refused
abbrev pub Outcome : Type 0
Outcome = Result (Reply × Volume) Fault

abbrev pub refuse_if : Bool → Fault → Outcome → Outcome
refuse_if true fault rest = Err fault
refuse_if false fault rest = rest

abbrev pub at_file : Option (List Cell) → (List Cell → Outcome) → Outcome
at_file None rest = Err NoFile
at_file (Some cells) rest = rest cells

abbrev pub unless_lost : Option ℕ → Outcome → Outcome
unless_lost None rest = rest
unless_lost (Some place) rest = Err (Damaged place)

abbrev pub named : List ℕ → Outcome → Outcome
named name rest = refuse_if (not (is_lawful name)) BadName rest

abbrev pub next_name : Option (List ℕ) → Volume → Option (List ℕ)
next_name None v = first_name v
next_name (Some name) v = next_above name v

-- the first lost cell beside a write; a write of no bytes looks at none
abbrev pub lost_beside : ℕ → List ℕ → List Cell → Option ℕ
lost_beside at [] cells = None
lost_beside at (b ∷ bs) cells = lost_where (is_beside at (length (b ∷ bs))) 0 cells

-- what is left of each call once its names are lawful, or once its file is found
abbrev pub create : List ℕ → Volume → Outcome
create name v =
    refuse_if (nat_le MOST_FILES (length v)) (TooLarge MOST_FILES) (Ok (reply.Done, with_file name [] v))

abbrev pub write_whole : List ℕ → ℕ → List ℕ → Volume → List Cell → Outcome
write_whole name at bytes v cells =
    unless_lost (lost_beside at bytes cells) (Ok (reply.Done, with_file name (overwritten at bytes cells) v))

abbrev pub write_within : List ℕ → ℕ → List ℕ → Volume → List Cell → Outcome
write_within name at bytes v cells =
    refuse_if (nat_lt MOST_BYTES_OF_A_FILE (at + length bytes)) (TooLarge MOST_BYTES_OF_A_FILE)
    (write_whole name at bytes v cells)

abbrev pub write : List ℕ → ℕ → List ℕ → Volume → List Cell → Outcome
write name at bytes v cells =
    refuse_if (nat_lt MOST_BYTES_OF_A_CALL (length bytes)) (TooLarge MOST_BYTES_OF_A_CALL)
    (write_within name at bytes v cells)

abbrev pub set_length : List ℕ → ℕ → Volume → List Cell → Outcome
set_length name len v cells =
    refuse_if (nat_lt MOST_BYTES_OF_A_FILE len) (TooLarge MOST_BYTES_OF_A_FILE)
    (Ok (reply.Done, with_file name (resized len cells) v))

abbrev pub rename : List ℕ → List ℕ → Volume → List Cell → Outcome
rename from to v cells =
    refuse_if (is_some (cells_of to v)) Exists (Ok (reply.Done, with_file to cells (without_file from v)))

abbrev pub delete : List ℕ → Volume → List Cell → Outcome
delete name v cells = Ok (reply.Done, without_file name v)

abbrev pub read_whole : ℕ → ℕ → Volume → List Cell → Outcome
read_whole at count v cells =
    unless_lost (lost_where (is_within at count) 0 cells)
    (Ok (reply.Bytes (bytes_of (take count (drop at cells))), v))

abbrev pub read : ℕ → ℕ → Volume → List Cell → Outcome
read at count v cells =
    refuse_if (nat_lt (length cells) (at + count)) (OutsideFile (length cells)) (read_whole at count v cells)

abbrev pub digest : Volume → List Cell → Outcome
digest v cells = unless_lost (lost_where (λ p. true) 0 cells) (Ok (reply.Digest (sha256 (bytes_of cells)), v))

abbrev pub stat : Volume → List Cell → Outcome
stat v cells = Ok (reply.Length (length cells), v)

-- each refusal in its order, and then the answer
abbrev pub plain : Volume → Call → Outcome
plain v (Create name) = named name (refuse_if (is_some (cells_of name v)) Exists (create name v))
plain v (Write name at bytes) = named name (at_file (cells_of name v) (write name at bytes v))
plain v (SetLength name len) = named name (at_file (cells_of name v) (set_length name len v))
plain v (Rename from to) = named from (named to (at_file (cells_of from v) (rename from to v)))
plain v (Delete name) = named name (at_file (cells_of name v) (delete name v))
plain v (Read name at count) = named name (at_file (cells_of name v) (read at count v))
plain v (Digest name) = named name (at_file (cells_of name v) (digest v))
plain v (Stat name) = named name (at_file (cells_of name v) (stat v))
plain v (Next above) = Ok (reply.Name (next_name above v), v)
plain v Flush = Ok (reply.Done, v)

-- calls that may find a counter at its end
abbrev pub may_be_worn : Call → Bool
may_be_worn (Read name at count) = false
may_be_worn (Digest name) = false
may_be_worn (Stat name) = false
may_be_worn (Next after) = false
may_be_worn call = true

-- calls that may find the tables full
abbrev pub may_fill_tables : Call → Bool
may_fill_tables (Create name) = true
may_fill_tables (Write name at bytes) = true
may_fill_tables (Rename from to) = true
may_fill_tables call = false

-- calls that may find no room for bytes
abbrev pub may_fill_disk : Call → Bool
may_fill_disk (Write name at bytes) = true
may_fill_disk call = false

-- calls that may reach the device
abbrev pub may_fail : Call → Bool
may_fail (Stat name) = false
may_fail (Next after) = false
may_fail call = true

-- calls that take memory: what they keep or tell is of no bound
abbrev pub takes_memory : Call → Bool
takes_memory (Create name) = true
takes_memory (Write name at bytes) = true
takes_memory (Rename from to) = true
takes_memory (Next after) = true
takes_memory call = false

-- the resources but for memory that a call may want
abbrev pub may_want : Call → Fault → Bool
may_want call Worn = may_be_worn call
may_want call TableFull = may_fill_tables call
may_want call (Full need free) = may_fill_disk call
may_want call Failed = may_fail call
may_want call fault = false

-- Want of a resource stands in the place of an answer, or of a lost cell, which is looked for later. Want of memory
-- may stand in any place, of a call that takes some.
abbrev pub MayLack : Call → Outcome → Fault → Type 0
MayLack call outcome Memory = IsTrue (takes_memory call)
MayLack call (Ok answer) fault = IsTrue (may_want call fault)
MayLack call (Err (Damaged place)) fault = IsTrue (may_want call fault)
MayLack call (Err other) fault = ⊥

-- a machine with this outcome of a call may answer this and leave this volume
abbrev pub StepOf : Call → Outcome → Volume → Reply → Volume → Type 0
StepOf call outcome v (reply.Refused fault) w = (w ≡ v) × ((outcome ≡ Err fault) ⊎ MayLack call outcome fault)
StepOf call outcome v given w = outcome ≡ Ok (given, w)

-- from the volume v the call may be answered so, and then leaves the volume w
abbrev pub Step : Volume → Call → Reply → Volume → Type 0
Step v call given w = StepOf call (plain v call) v given w

abbrev pub left_by : Outcome → Volume → Reply → Volume
left_by outcome v (reply.Refused fault) = v
left_by (Ok (answer, w)) v given = w
left_by (Err fault) v given = v

-- the volume after a call that was answered so
abbrev pub after : Volume → Call → Reply → Volume
after v call given = left_by (plain v call) v given

-- each pair of a call and its reply is a step from the volume that the pairs before it leave
abbrev pub Legal : Volume → List (Call × Reply) → Type 0
Legal v [] = Unit {0}
Legal v (pair ∷ pairs) = Step v pair.0 pair.1 (after v pair.0 pair.1) × Legal (after v pair.0 pair.1) pairs

-- the volume after all of them
abbrev pub replay : Volume → List (Call × Reply) → Volume
replay v [] = v
replay v (pair ∷ pairs) = replay (after v pair.0 pair.1) pairs
