-- What the plain machine answers to a write into a file that has lost no cell.
use Rattle.std.specs.Prelude.{◌≡◌, ◌⊎◌, ◌≤◌, ◌<◌, ◌+◌, ℕ, zero, suc, Bool, true, false, if◌then◌else◌, List, [], ◌∷◌, length, map}
use Rattle.std.specs.Prelude.{Option, Some, None, Result, Ok, Err, IsTrue, OnErr, IsErrOf, refl}
use Rattle.std.proofs.Common.{◌∙◌, ap, subst, inl, inr, ⊎_elim, arith, lt-ltb, le-ltb}
use Rattle.std.specs.List.{range_with_len}
use Rattle.std.specs.Ordering.{nat_cmp}
use Rattle.std.specs.FinMap.{find}
use Rattle.vdisk.specs.Causes.{Rose}
use Rattle.vdisk.specs.declared.disk.Disk.{Ghosts}
use Rattle.plain_volume.specs.Volume.{Cell, Byte, Lost, Volume, is_beside, lost_where, overwritten}
use Rattle.plain_volume.specs.Volume.{with_file as with_cells}
use Rattle.plain_volume.specs.Step.{Outcome, refuse_if, unless_lost, lost_beside, write, write_within, write_whole}
use Rattle.plain_volume.specs.Replies.{done_reply}
use Rattle.plain_volume.specs.declared.call.Reply.TheVariants as reply
use Rattle.plain_volume.specs.declared.call.Fault.{Fault}
use Rattle.plain_volume.specs.declared.call.Fault.TheVariants.{TooLarge, Failed, Memory}
use Rattle.plain_volume.specs.declared.limits.TheConstants.{MOST_BYTES_OF_A_CALL, MOST_BYTES_OF_A_FILE}
use Rattle.table_records.specs.declared.records.FileRecord.{FileRecord}
use Rattle.volume_inside.specs.Inside.{inside_at}
use Rattle.volume_inside.specs.Typed.{Typed}
use Rattle.volume_inside.specs.View.{cell, cells_or_none, file_cells}
use Rattle.volume_tables.specs.Tables.{tables_now, stopped, IsTables}
use Rattle.volume_tables.specs.declared.tables.Tables.{Tables}
use Rattle.volume_tables.specs.Sound.{IsKept, Endures}
use Rattle.volume_tables.specs.Wants.{is_late, wanting, IsRepliedOrMemory}
use Rattle.volume_tables.proofs.Wanted.{replied_done}
use Rattle.volume_files.specs.Needs.{write_needs}
use Rattle.volume_files.specs.Own.{AreOwnAround}
use Rattle.volume_files.specs.Reads.{byte_at}
use Rattle.volume_files.specs.Writing.{write_wants, IsWritten, AreWritten}
use Rattle.volume_files.proofs.Owned.{cell_byte, own_at}

-- ---- no cell beside the bytes is lost

bytes_are_whole : (f : ℕ → Cell) (byte : ℕ → ℕ) (a n : ℕ) (test : ℕ → Bool)
    → ((p : ℕ) → test p ≡ true → f p ≡ Byte (byte p)) → lost_where test a (map f (range_with_len a n)) ≡ None
bytes_are_whole f byte a zero test is = refl
bytes_are_whole f byte a (suc n) test is = by (f a) (is a) (bytes_are_whole f byte (a + 1) n test is)
  where
    passed : (b : Bool) → (b ≡ true → ⊥)
        → lost_where test (a + 1) (map f (range_with_len (a + 1) n)) ≡ None
        → (if b then Some a else lost_where test (a + 1) (map f (range_with_len (a + 1) n))) ≡ None
    passed true never rest = absurd (never refl)
    passed false never rest = rest

    by : (x : Cell) → (test a ≡ true → x ≡ Byte (byte a))
        → lost_where test (a + 1) (map f (range_with_len (a + 1) n)) ≡ None
        → lost_where test a (x ∷ map f (range_with_len (a + 1) n)) ≡ None
    by (Byte b) one rest = rest
    by Lost one rest = passed (test a) (λ yes. let clash : Lost ≡ Byte (byte a) = one yes in absurd (cc)) rest

pub beside_is_whole : (t : Typed) (image : List ℕ) (id at : ℕ) (bytes : List ℕ) → AreOwnAround t id at bytes
    → lost_beside at bytes (file_cells (inside_at t image) id) ≡ None
beside_is_whole t image id at [] own = refl
beside_is_whole t image id at (x ∷ xs) own = by (find nat_cmp id t.files) refl
  where
    by : (o : Option FileRecord) → find nat_cmp id t.files ≡ o
        → lost_where (is_beside at (length (x ∷ xs))) 0 (cells_or_none (inside_at t image) id o) ≡ None
    by None is = refl
    by (Some file) is =
        bytes_are_whole (cell (inside_at t image) id file) (λ p. byte_at (inside_at t image) id p) 0 file.length
        (is_beside at (length (x ∷ xs)))
        (λ p beside. cell_byte (inside_at t image) id p file
        (own_at t image id file is p (own p beside)))

-- ---- outcomes

module _ (name : List ℕ) (at : ℕ) (bytes : List ℕ) (v : Volume) (cells : List Cell) where
  pub too_many : MOST_BYTES_OF_A_CALL < length bytes → write name at bytes v cells ≡ Err (TooLarge MOST_BYTES_OF_A_CALL)
  too_many many =
      ap (λ (b : Bool). refuse_if b (TooLarge MOST_BYTES_OF_A_CALL) (write_within name at bytes v cells))
      (lt-ltb MOST_BYTES_OF_A_CALL (length bytes) many)

  few_is : length bytes ≤ MOST_BYTES_OF_A_CALL → write name at bytes v cells ≡ write_within name at bytes v cells
  few_is few =
      ap (λ (b : Bool). refuse_if b (TooLarge MOST_BYTES_OF_A_CALL) (write_within name at bytes v cells))
      (le-ltb MOST_BYTES_OF_A_CALL (length bytes) few)

  pub too_far : length bytes ≤ MOST_BYTES_OF_A_CALL → MOST_BYTES_OF_A_FILE < at + length bytes
      → write name at bytes v cells ≡ Err (TooLarge MOST_BYTES_OF_A_FILE)
  too_far few far =
      few_is few ∙ ap (λ (b : Bool). refuse_if b (TooLarge MOST_BYTES_OF_A_FILE) (write_whole name at bytes v cells))
      (lt-ltb MOST_BYTES_OF_A_FILE (at + length bytes) far)

  pub done : length bytes ≤ MOST_BYTES_OF_A_CALL → at + length bytes ≤ MOST_BYTES_OF_A_FILE
      → lost_beside at bytes cells ≡ None
      → write name at bytes v cells ≡ Ok (reply.Done, with_cells name (overwritten at bytes cells) v)
  done few near whole =
      few_is few
      ∙ ap (λ (b : Bool). refuse_if b (TooLarge MOST_BYTES_OF_A_FILE) (write_whole name at bytes v cells))
      (le-ltb MOST_BYTES_OF_A_FILE (at + length bytes) near)
      ∙ ap (λ (o : Option ℕ). unless_lost o (Ok (reply.Done, with_cells name (overwritten at bytes cells) v))) whole

  pub late : length bytes ≤ MOST_BYTES_OF_A_CALL → at + length bytes ≤ MOST_BYTES_OF_A_FILE
      → lost_beside at bytes cells ≡ None → IsTrue (is_late (write name at bytes v cells))
  late few near whole = ap (λ (o : Outcome). is_late o) (done few near whole)

-- ---- replies

pub rose_since : (before middle now : ℕ) → before ≤ middle → Rose middle now → Rose before now
rose_since before middle now later rose = omega (arith, later, rose)

-- the reply of a call that was made where nothing is wanting
pub reply_there : (outcome : Outcome) (w : Volume) (want : Option Fault) (before middle now : ℕ)
    (r : Result (Unit {0}) Fault)
    → outcome ≡ Ok (reply.Done, w) → want ≡ None → before ≤ middle → OnErr r (IsErrOf r Failed ⊎ IsErrOf r Memory)
    → (IsErrOf r Failed → Rose middle now) → IsRepliedOrMemory outcome want before now (done_reply r)
reply_there outcome w want before middle now (Ok x) is none later refused rose = inl
    (replied_done outcome reply.Done w want before now is none)
reply_there outcome w want before middle now (Err fault) is none later refused rose =
    ⊎_elim
    (λ failed.
    let same : fault ≡ Failed = cc in
    inl (inr (
      ap (λ (f : Fault). reply.Refused f) same,
      ap (λ (o : Outcome). is_late o) is,
      rose_since before middle
          now later (rose failed),
    )))
    (λ memory.
    let same : fault ≡ Memory = cc in
    inr (ap (λ (f : Fault). reply.Refused f) same))
    refused

module _ {D : Type 0} {d : Ghosts D} (t : Tables D d) (file at : ℕ) where
  pub wants_some : (bytes : List ℕ) → 0 < length bytes → write_wants t file at bytes ≡ wanting t
      (write_needs (tables_now t) file at (length bytes))
  wants_some [] some = absurd (omega (arith, some))
  wants_some (x ∷ xs) some = refl

  pub wants_nothing : (bytes : List ℕ) → length bytes ≡ 0 → write_wants t file at bytes ≡ None
  wants_nothing [] none = refl
  wants_nothing (x ∷ xs) none = absurd (omega (arith, none))

pub nothing_overwritten : (at : ℕ) (bytes : List ℕ) (cells : List Cell) → length bytes ≡ 0
    → cells ≡ overwritten at bytes cells
nothing_overwritten at [] cells none = refl
nothing_overwritten at (x ∷ xs) cells none = absurd (omega (arith, none))

pub nothing_written : (file at : ℕ) (bytes : List ℕ) (t : Typed) → length bytes ≡ 0 → AreWritten file at bytes t t
nothing_written file at [] t none = refl
nothing_written file at (x ∷ xs) t none = absurd (omega (arith, none))

pub some_written : (file at : ℕ) (bytes : List ℕ) (a b c : Typed) → 0 < length bytes → b ≡ a
    → IsWritten file at (at + length bytes) b c → AreWritten file at bytes a c
some_written file at [] a b c some same written = absurd (omega (arith, some))
some_written file at (x ∷ xs) a b c some same written = subst
    (λ (q : Typed). IsWritten file at (at + length (x ∷ xs)) q c) same written

-- stored tables are there after what endures
pub still_kept : {D : Type 0} {d : Ghosts D} (a b : Tables D d) (w : Volume) → Endures a b → stopped b ≡ false
    → IsKept a w → (stored : Typed) × IsTables b stored
still_kept a b w endures runs kept = ⊎_elim (λ one. (one.stored, one.tables)) (λ two. (two.stored, two.tables))
    (endures.kept w kept runs)
