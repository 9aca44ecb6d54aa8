-- What a write into the file of a name is for a volume.
use Rattle.std.specs.Prelude.{◌≡◌, ◌+◌, ℕ, Bool, true, false, not, nat_lt, List, [], ◌∷◌, length, Option, Some}
use Rattle.std.specs.Prelude.{None, Result, Ok, Err, OnOk, OnErr, refl}
use Rattle.std.proofs.Common.{inl, inr, sym, ap, ◌∙◌, subst}
use Rattle.vdisk.specs.declared.disk.Disk.{Ghosts}
use Rattle.plain_volume.specs.declared.limits.TheConstants.{MOST_BYTES_OF_A_CALL, MOST_BYTES_OF_A_FILE}
use Rattle.plain_volume.specs.Volume.{Cell, Volume, cells_of, is_lawful, with_file, overwritten}
use Rattle.plain_volume.specs.Step.{Outcome, plain, after, left_by, refuse_if, at_file, unless_lost, write}
use Rattle.plain_volume.specs.Step.{write_within, write_whole, lost_beside}
use Rattle.plain_volume.specs.Files.{RefusesFile}
use Rattle.plain_volume.specs.Replies.{done_reply}
use Rattle.plain_volume.specs.declared.call.Call.TheVariants.{Write}
use Rattle.plain_volume.specs.declared.call.Fault.{Fault}
use Rattle.plain_volume.specs.declared.call.Fault.TheVariants.{BadName, NoFile, TooLarge}
use Rattle.plain_volume.specs.declared.call.Reply.{Reply}
use Rattle.plain_volume.specs.declared.call.Reply.TheVariants as reply
use Rattle.plain_volume.proofs.Own.{file_found}
use Rattle.table_records.specs.declared.records.FileRecord.{FileRecord}
use Rattle.volume_inside.specs.Typed.{Typed}
use Rattle.volume_inside.specs.View.{file_cells, view}
use Rattle.volume_inside.proofs.Names.{view_of_one_file}
use Rattle.volume_tables.specs.Tables.{tables_now, inside_now, view_now, disk_of, clusters_in}
use Rattle.volume_tables.specs.declared.tables.Tables.{Tables}
use Rattle.volume_tables.specs.Sound.{IsSound}
use Rattle.volume_tables.specs.Wants.{reply_of, IsRepliedOrMemory}
use Rattle.volume_tables.proofs.Wanted.{IsEarly, replied_early}
use Rattle.volume_files.specs.Found.{IsFileOf}
use Rattle.volume_files.specs.Lengths.{for_file}
use Rattle.volume_files.specs.Writing.{AreWritten, write_wants}
use Rattle.volume_files.proofs.Found.{names_in_order}
use Rattle.volume_core.proofs.Told.{file_of}

-- ---- outcomes

early_of : (name : List ℕ) (o : Option (List Cell)) (unlawful : Bool) (fault : Fault)
    → refuse_if unlawful BadName (at_file o (λ cells. Err BadName)) ≡ Err fault → IsEarly fault
early_of name o true fault is = let same : BadName ≡ fault = cc in subst IsEarly same refl
early_of name None false fault is = let same : NoFile ≡ fault = cc in subst IsEarly same refl
early_of name (Some cells) false fault is = let same : BadName ≡ fault = cc in subst IsEarly same refl

-- where a file is not found each write into it is refused so, whatever is wanting
pub unfound_replied : (v : Volume) (name : List ℕ) (at : ℕ) (bytes : List ℕ) (fault : Fault) (want : Option Fault)
    (before now : ℕ) → RefusesFile v name fault
    → IsRepliedOrMemory (plain v (Write name at bytes)) want before now (reply.Refused fault)
unfound_replied v name at bytes fault want before now refused = inl (
    replied_early (plain v (Write name at bytes)) fault want before now (refused (write name at bytes v))
    (early_of name (cells_of name v) (not (is_lawful name)) fault (refused (λ cells. Err BadName))))

-- an outcome that is an answer was not refused
not_too_large : (b : Bool) (most : ℕ) (rest : Outcome) (want : Option Fault)
    → reply.Done ≡ reply_of (refuse_if b (TooLarge most) rest) want → refuse_if b (TooLarge most) rest ≡ rest
not_too_large true most rest None is = absurd (cc)
not_too_large true most rest (Some fault) is = absurd (cc)
not_too_large false most rest want is = refl

not_lost : (o : Option ℕ) (answer : Reply × Volume) (want : Option Fault)
    → reply.Done ≡ reply_of (unless_lost o (Ok answer)) want → unless_lost o (Ok answer) ≡ Ok answer
not_lost None answer want is = refl
not_lost (Some place) answer None is = absurd (cc)
not_lost (Some place) answer (Some fault) is = absurd (cc)

pub was_done : (outcome : Outcome) (want : Option Fault) (before now : ℕ)
    → IsRepliedOrMemory outcome want before now reply.Done → reply.Done ≡ reply_of outcome want
was_done outcome want before now (inl (inl own)) = own
was_done outcome want before now (inl (inr failed)) = absurd (let is = failed.0 in cc)
was_done outcome want before now (inr memory) = absurd (cc)

module _ (name : List ℕ) (at : ℕ) (bytes : List ℕ) (v : Volume) (cells : List Cell) (want : Option Fault) where
  -- what a write leaves that was done
  write_leaves : reply.Done ≡ reply_of (write name at bytes v cells) want
      → write name at bytes v cells ≡ Ok (reply.Done, with_file name (overwritten at bytes cells) v)
  write_leaves is =
      let first = not_too_large (nat_lt MOST_BYTES_OF_A_CALL (length bytes)) MOST_BYTES_OF_A_CALL
      (write_within name at bytes v cells) want is in
      let second = not_too_large (nat_lt MOST_BYTES_OF_A_FILE (at + length bytes)) MOST_BYTES_OF_A_FILE
      (write_whole name at bytes v cells) want (is ∙ ap (λ (o : Outcome). reply_of o want) first) in
      first ∙ (second
      ∙ not_lost (lost_beside at bytes cells) (reply.Done, with_file name (overwritten at bytes cells) v) want
      (is ∙ ap (λ (o : Outcome). reply_of o want) (first ∙ second)))

names_stay : (file at : ℕ) (bytes : List ℕ) (old new : Typed) → AreWritten file at bytes old new → new.names ≡ old.names
names_stay file at [] old new same = ap (λ (t : Typed). t.names) same
names_stay file at (b ∷ bytes) old new written = let e = written.extents in ap (λ (t : Typed). t.names) e.rest

module _ {D : Type 0} {d : Ghosts D} (t u : Tables D d) (sound : IsSound t) (name : List ℕ) (id : ℕ) (file : FileRecord)
    (is : IsFileOf t name id file) (at : ℕ) (bytes : List ℕ) where
  write_outcome : plain (view_now t) (Write name at bytes)
      ≡ write name at bytes (view_now t) (file_cells (inside_now t) id)
  write_outcome =
      file_found (view_now t) name (write name at bytes (view_now t)) (file_cells (inside_now t) id) is.lawful is.cells

  pub write_replied : (before now : ℕ) (given : Reply)
      → IsRepliedOrMemory (write name at bytes (view_now t) (file_cells (inside_now t) id)) (write_wants t id at bytes)
      before now given
      → IsRepliedOrMemory (plain (view_now t) (Write name at bytes))
      (for_file (file_of t name) (λ x. write_wants t x at bytes)) before now given
  write_replied before now given replied =
      subst (λ (p : Outcome × Option Fault). IsRepliedOrMemory p.0 p.1 before now given)
      (λ i. (sym write_outcome i, for_file (sym is.named i) (λ x. write_wants t x at bytes))) replied

  write_view : AreWritten id at bytes (tables_now t) (tables_now u)
      → ((other : ℕ) → (other ≡ id → ⊥) → file_cells (inside_now u) other ≡ file_cells (inside_now t) other)
      → file_cells (inside_now u) id ≡ overwritten at bytes (file_cells (inside_now t) id)
      → view_now u ≡ with_file name (overwritten at bytes (file_cells (inside_now t) id)) (view_now t)
  write_view written others same =
      view_of_one_file (clusters_in t) (tables_now t) (disk_of t).image name id sound.rules (names_in_order t) is.named
      (inside_now u) (names_stay id at bytes (tables_now t) (tables_now u) written) others
      ∙ ap (λ (cs : List Cell). with_file name cs (view_now t)) same

  pub write_left : (before now : ℕ) (r : Result (Unit {0}) Fault)
      → IsRepliedOrMemory (write name at bytes (view_now t) (file_cells (inside_now t) id)) (write_wants t id at bytes)
      before now (done_reply r)
      → OnOk r (AreWritten id at bytes (tables_now t) (tables_now u))
      → OnOk r ((other : ℕ) → (other ≡ id → ⊥) → file_cells (inside_now u) other ≡ file_cells (inside_now t) other)
      → OnOk r (file_cells (inside_now u) id ≡ overwritten at bytes (file_cells (inside_now t) id))
      → OnErr r (inside_now u ≡ inside_now t)
      → view_now u ≡ after (view_now t) (Write name at bytes) (done_reply r)
  write_left before now (Ok done) replied written others same still =
      let outcome = write_leaves name at bytes (view_now t) (file_cells (inside_now t) id) (write_wants t id at bytes)
      (was_done (write name at bytes (view_now t) (file_cells (inside_now t) id)) (write_wants t id at bytes) before now
      replied) in
      write_view written others same
      ∙ sym (ap (λ (o : Outcome). left_by o (view_now t) reply.Done) (write_outcome ∙ outcome))
  write_left before now (Err fault) replied written others same still = ap view still
