-- What the plain machine answers, case by case, for code that meets it.
use Rattle.sha2.specs.Sha256.{sha256}
use Rattle.std.proofs.Common.{◌≡◌, ◌≢◌, inl, inr, ℕ, ◌+◌, ◌≤◌, ◌<◌, Bool, true, false, IsTrue, not, nat_le, nat_lt, is_some, List, [], length, take, drop, Option, Some, None, Ok, Err, refl, sym, ap, subst, ◌∙◌, arith, ◌⊎◌}
use Rattle.std.proofs.lemmas.Bool.Decides.{nat_tests}
use Rattle.plain_volume.specs.declared.limits.TheConstants.{MOST_FILES, MOST_BYTES_OF_A_CALL, MOST_BYTES_OF_A_FILE}
use Rattle.plain_volume.specs.Volume.{Cell, Volume, cells_of, with_file, is_lawful, overwritten, lost_where, is_within, bytes_of, without_file, resized}
use Rattle.plain_volume.specs.Step.{Outcome, takes_memory, refuse_if, at_file, unless_lost, named, plain, left_by, create, write, write_within, write_whole, read, read_whole, lost_beside, set_length, digest, rename}
use Rattle.plain_volume.specs.Replies.{own_reply, IsOwn, IsOwnOrMemory, IsOwnResult}
use Rattle.plain_volume.specs.declared.call.Call.{Call}
use Rattle.plain_volume.specs.declared.call.Call.TheVariants.{Create, Rename}
use Rattle.plain_volume.specs.declared.call.Reply.{Reply}
use Rattle.plain_volume.specs.declared.call.Reply.TheVariants as reply
use Rattle.plain_volume.specs.declared.call.Fault.{Fault}
use Rattle.plain_volume.specs.declared.call.Fault.TheVariants.{BadName, NoFile, Exists, OutsideFile, TooLarge, Memory}

-- ---- replies

pub own_refusal : (v : Volume) (call : Call) (fault : Fault) → plain v call ≡ Err fault → IsOwnOrMemory v call (reply.Refused fault) v
own_refusal v call fault is = record { own = inl (ap own_reply (sym is)); left = refl }

pub own_answer : (v : Volume) (call : Call) (given : Reply) (w : Volume) → plain v call ≡ Ok (given, w) → ((fault : Fault) → given ≢ reply.Refused fault) → IsOwnOrMemory v call given w
own_answer v call given w is no_refusal = record { own = inl (ap own_reply (sym is)); left = by given no_refusal is }
  where
    by : (r : Reply) → ((fault : Fault) → r ≢ reply.Refused fault) → plain v call ≡ Ok (given, w) → w ≡ left_by (plain v call) v r
    by (reply.Refused fault) no_refusal is = absurd (no_refusal fault refl)
    by reply.Done no_refusal is = subst (λ o. w ≡ left_by o v reply.Done) (sym is) refl
    by (reply.Bytes bytes) no_refusal is = subst (λ o. w ≡ left_by o v (reply.Bytes bytes)) (sym is) refl
    by (reply.Digest d) no_refusal is = subst (λ o. w ≡ left_by o v (reply.Digest d)) (sym is) refl
    by (reply.Length n) no_refusal is = subst (λ o. w ≡ left_by o v (reply.Length n)) (sym is) refl
    by (reply.Name name) no_refusal is = subst (λ o. w ≡ left_by o v (reply.Name name)) (sym is) refl

pub own_done : (v : Volume) (call : Call) (w : Volume) → plain v call ≡ Ok (reply.Done, w) → IsOwnOrMemory v call reply.Done w
own_done v call w is = own_answer v call reply.Done w is (λ fault e. cc)

-- an answer that is no refusal for want of memory
pub own_unless_memory : (v w : Volume) (call : Call) (given : Reply) → IsOwnOrMemory v call given w → given ≢ reply.Refused Memory → IsOwn v call given w
own_unless_memory v w call given step not_memory = by step.own
  where
    by : (given ≡ own_reply (plain v call)) ⊎ ((given ≡ reply.Refused Memory) × IsTrue (takes_memory call)) → IsOwn v call given w
    by (inl own) = record { own = own; left = step.left }
    by (inr wanting) = absurd (not_memory wanting.0)

-- code that passes on the refusal
pub passes_on : (v : Volume) (call : Call) (fault : Fault) → plain v call ≡ Err fault → IsOwnResult v call (Err fault) v
passes_on v call Memory is = refl
passes_on v call fault is = record { own = ap own_reply (sym is); left = refl }

-- ---- refusals, one by one

refused : (b : Bool) (fault : Fault) (rest : Outcome) → b ≡ true → refuse_if b fault rest ≡ Err fault
refused b fault rest e = subst (λ c. refuse_if c fault rest ≡ Err fault) (sym e) refl

passed : (b : Bool) (fault : Fault) (rest : Outcome) → b ≡ false → refuse_if b fault rest ≡ rest
passed b fault rest e = subst (λ c. refuse_if c fault rest ≡ rest) (sym e) refl

bad_name : (name : List ℕ) (rest : Outcome) → is_lawful name ≡ false → named name rest ≡ Err BadName
bad_name name rest e = refused (not (is_lawful name)) BadName rest (ap not e)

good_name : (name : List ℕ) (rest : Outcome) → is_lawful name ≡ true → named name rest ≡ rest
good_name name rest e = passed (not (is_lawful name)) BadName rest (ap not e)

no_file : (o : Option (List Cell)) (rest : List Cell → Outcome) → o ≡ None → at_file o rest ≡ Err NoFile
no_file o rest e = subst (λ (x : Option (List Cell)). at_file x rest ≡ Err NoFile) (sym e) refl

a_file : (o : Option (List Cell)) (rest : List Cell → Outcome) (cells : List Cell) → o ≡ Some cells → at_file o rest ≡ rest cells
a_file o rest cells e = subst (λ (x : Option (List Cell)). at_file x rest ≡ rest cells) (sym e) refl

whole : (o : Option ℕ) (rest : Outcome) → o ≡ None → unless_lost o rest ≡ rest
whole o rest e = subst (λ (x : Option ℕ). unless_lost x rest ≡ rest) (sym e) refl

is_over : (m n : ℕ) → m < n → nat_lt m n ≡ true
is_over m n h = grind (arith, nat_tests)

not_over : (m n : ℕ) → n ≤ m → nat_lt m n ≡ false
not_over m n h = grind (arith, nat_tests)

is_from : (m n : ℕ) → m ≤ n → nat_le m n ≡ true
is_from m n h = grind (arith, nat_tests)

not_from : (m n : ℕ) → n < m → nat_le m n ≡ false
not_from m n h = grind (arith, nat_tests)

-- ---- the calls

module _ (v : Volume) (name : List ℕ) where
  pub create_bad_name : is_lawful name ≡ false → plain v (Create name) ≡ Err BadName
  create_bad_name bad = bad_name name (refuse_if (is_some (cells_of name v)) Exists (create name v)) bad

  create_named : is_lawful name ≡ true → plain v (Create name) ≡ refuse_if (is_some (cells_of name v)) Exists (create name v)
  create_named good = good_name name (refuse_if (is_some (cells_of name v)) Exists (create name v)) good

  pub create_exists : (cells : List Cell) → is_lawful name ≡ true → cells_of name v ≡ Some cells → plain v (Create name) ≡ Err Exists
  create_exists cells good there = create_named good ∙ refused (is_some (cells_of name v)) Exists (create name v) (ap is_some there)

  create_new : is_lawful name ≡ true → cells_of name v ≡ None → plain v (Create name) ≡ create name v
  create_new good absent = create_named good ∙ passed (is_some (cells_of name v)) Exists (create name v) (ap is_some absent)

  pub create_too_many : is_lawful name ≡ true → cells_of name v ≡ None → MOST_FILES ≤ length v → plain v (Create name) ≡ Err (TooLarge MOST_FILES)
  create_too_many good absent full = create_new good absent ∙ refused (nat_le MOST_FILES (length v)) (TooLarge MOST_FILES) (Ok (reply.Done, with_file name [] v)) (is_from MOST_FILES (length v) full)

  pub create_done : is_lawful name ≡ true → cells_of name v ≡ None → length v < MOST_FILES → plain v (Create name) ≡ Ok (reply.Done, with_file name [] v)
  create_done good absent room = create_new good absent ∙ passed (nat_le MOST_FILES (length v)) (TooLarge MOST_FILES) (Ok (reply.Done, with_file name [] v)) (not_from MOST_FILES (length v) room)

-- the calls on one file: what is left once its name is lawful and it is found
module _ (v : Volume) (name : List ℕ) where
  pub file_bad_name : (rest : List Cell → Outcome) → is_lawful name ≡ false → named name (at_file (cells_of name v) rest) ≡ Err BadName
  file_bad_name rest bad = bad_name name (at_file (cells_of name v) rest) bad

  pub file_missing : (rest : List Cell → Outcome) → is_lawful name ≡ true → cells_of name v ≡ None → named name (at_file (cells_of name v) rest) ≡ Err NoFile
  file_missing rest good absent = good_name name (at_file (cells_of name v) rest) good ∙ no_file (cells_of name v) rest absent

  pub file_found : (rest : List Cell → Outcome) (cells : List Cell) → is_lawful name ≡ true → cells_of name v ≡ Some cells → named name (at_file (cells_of name v) rest) ≡ rest cells
  file_found rest cells good there = good_name name (at_file (cells_of name v) rest) good ∙ a_file (cells_of name v) rest cells there

module _ (v : Volume) (name : List ℕ) (cells : List Cell) where
  module _ (at : ℕ) (bytes : List ℕ) where
    pub write_too_much : MOST_BYTES_OF_A_CALL < length bytes → write name at bytes v cells ≡ Err (TooLarge MOST_BYTES_OF_A_CALL)
    write_too_much over = refused (nat_lt MOST_BYTES_OF_A_CALL (length bytes)) (TooLarge MOST_BYTES_OF_A_CALL) (write_within name at bytes v cells) (is_over MOST_BYTES_OF_A_CALL (length bytes) over)

    some_bytes : length bytes ≤ MOST_BYTES_OF_A_CALL → write name at bytes v cells ≡ write_within name at bytes v cells
    some_bytes fits = passed (nat_lt MOST_BYTES_OF_A_CALL (length bytes)) (TooLarge MOST_BYTES_OF_A_CALL) (write_within name at bytes v cells) (not_over MOST_BYTES_OF_A_CALL (length bytes) fits)

    pub write_too_far : length bytes ≤ MOST_BYTES_OF_A_CALL → MOST_BYTES_OF_A_FILE < at + length bytes → write name at bytes v cells ≡ Err (TooLarge MOST_BYTES_OF_A_FILE)
    write_too_far fits over = some_bytes fits ∙ refused (nat_lt MOST_BYTES_OF_A_FILE (at + length bytes)) (TooLarge MOST_BYTES_OF_A_FILE) (write_whole name at bytes v cells) (is_over MOST_BYTES_OF_A_FILE (at + length bytes) over)

    pub write_done : length bytes ≤ MOST_BYTES_OF_A_CALL → at + length bytes ≤ MOST_BYTES_OF_A_FILE → lost_beside at bytes cells ≡ None → write name at bytes v cells ≡ Ok (reply.Done, with_file name (overwritten at bytes cells) v)
    write_done fits within sound = some_bytes fits
        ∙ passed (nat_lt MOST_BYTES_OF_A_FILE (at + length bytes)) (TooLarge MOST_BYTES_OF_A_FILE) (write_whole name at bytes v cells) (not_over MOST_BYTES_OF_A_FILE (at + length bytes) within)
        ∙ whole (lost_beside at bytes cells) (Ok (reply.Done, with_file name (overwritten at bytes cells) v)) sound

  module _ (at count : ℕ) where
    pub read_outside : length cells < at + count → read at count v cells ≡ Err (OutsideFile (length cells))
    read_outside over = refused (nat_lt (length cells) (at + count)) (OutsideFile (length cells)) (read_whole at count v cells) (is_over (length cells) (at + count) over)

    pub read_done : at + count ≤ length cells → lost_where (is_within at count) 0 cells ≡ None → read at count v cells ≡ Ok (reply.Bytes (bytes_of (take count (drop at cells))), v)
    read_done within sound = passed (nat_lt (length cells) (at + count)) (OutsideFile (length cells)) (read_whole at count v cells) (not_over (length cells) (at + count) within)
        ∙ whole (lost_where (is_within at count) 0 cells) (Ok (reply.Bytes (bytes_of (take count (drop at cells))), v)) sound

module _ (v : Volume) (name : List ℕ) (cells : List Cell) where
  pub set_length_too_far : (len : ℕ) → MOST_BYTES_OF_A_FILE < len → set_length name len v cells ≡ Err (TooLarge MOST_BYTES_OF_A_FILE)
  set_length_too_far len over = refused (nat_lt MOST_BYTES_OF_A_FILE len) (TooLarge MOST_BYTES_OF_A_FILE) (Ok (reply.Done, with_file name (resized len cells) v)) (is_over MOST_BYTES_OF_A_FILE len over)

  pub set_length_done : (len : ℕ) → len ≤ MOST_BYTES_OF_A_FILE → set_length name len v cells ≡ Ok (reply.Done, with_file name (resized len cells) v)
  set_length_done len within = passed (nat_lt MOST_BYTES_OF_A_FILE len) (TooLarge MOST_BYTES_OF_A_FILE) (Ok (reply.Done, with_file name (resized len cells) v)) (not_over MOST_BYTES_OF_A_FILE len within)

  pub digest_done : lost_where (λ p. true) 0 cells ≡ None → digest v cells ≡ Ok (reply.Digest (sha256 (bytes_of cells)), v)
  digest_done sound = whole (lost_where (λ p. true) 0 cells) (Ok (reply.Digest (sha256 (bytes_of cells)), v)) sound

module _ (v : Volume) (from to : List ℕ) where
  pub rename_bad_from : is_lawful from ≡ false → plain v (Rename from to) ≡ Err BadName
  rename_bad_from bad = bad_name from (named to (at_file (cells_of from v) (rename from to v))) bad

  module _ (good : is_lawful from ≡ true) where
    rename_from : plain v (Rename from to) ≡ named to (at_file (cells_of from v) (rename from to v))
    rename_from = good_name from (named to (at_file (cells_of from v) (rename from to v))) good

    pub rename_bad_to : is_lawful to ≡ false → plain v (Rename from to) ≡ Err BadName
    rename_bad_to bad = rename_from ∙ bad_name to (at_file (cells_of from v) (rename from to v)) bad

    module _ (good_to : is_lawful to ≡ true) where
      rename_file : plain v (Rename from to) ≡ at_file (cells_of from v) (rename from to v)
      rename_file = rename_from ∙ good_name to (at_file (cells_of from v) (rename from to v)) good_to

      pub rename_missing : cells_of from v ≡ None → plain v (Rename from to) ≡ Err NoFile
      rename_missing absent = rename_file ∙ no_file (cells_of from v) (rename from to v) absent

      module _ (cells : List Cell) (there : cells_of from v ≡ Some cells) where
        rename_found : plain v (Rename from to) ≡ rename from to v cells
        rename_found = rename_file ∙ a_file (cells_of from v) (rename from to v) cells there

        pub rename_exists : (other : List Cell) → cells_of to v ≡ Some other → plain v (Rename from to) ≡ Err Exists
        rename_exists other taken = rename_found ∙ refused (is_some (cells_of to v)) Exists (Ok (reply.Done, with_file to cells (without_file from v))) (ap is_some taken)

        pub rename_done : cells_of to v ≡ None → plain v (Rename from to) ≡ Ok (reply.Done, with_file to cells (without_file from v))
        rename_done absent = rename_found ∙ passed (is_some (cells_of to v)) Exists (Ok (reply.Done, with_file to cells (without_file from v))) (ap is_some absent)
