-- A call on the file of a name that has none is refused before anything waits for it.
use Rattle.std.specs.Prelude.{◌≡◌, ◌⊎◌, ℕ, Bool, true, false, not, List, Option, Some, None, IsSome, Result, Ok, Err, OnOk, refl}
use Rattle.std.proofs.Common.{inl, inr, ap, sym, ◌∙◌, subst, ⊎_elim}
use Rattle.std.specs.FinMap.{find}
use Rattle.std.specs.Ordering.{nat_cmp}
use Rattle.vdisk.specs.declared.disk.Disk.{Ghosts}
use Rattle.byte_map.specs.Words.{bytes_cmp}
use Rattle.plain_volume.specs.Volume.{Cell, is_lawful, cells_of}
use Rattle.plain_volume.specs.Step.{Outcome, plain, refuse_if, at_file, set_length, rename}
use Rattle.plain_volume.specs.Replies.{done_reply}
use Rattle.plain_volume.specs.declared.call.Call.{Call}
use Rattle.plain_volume.specs.declared.call.Call.TheVariants.{SetLength, Rename}
use Rattle.plain_volume.specs.declared.call.Fault.{Fault}
use Rattle.plain_volume.specs.declared.call.Fault.TheVariants.{BadName, NoFile, Worn, Failed, Memory}
use Rattle.plain_volume.specs.declared.call.Reply.TheVariants as reply
use Rattle.table_records.specs.declared.records.FileRecord.{FileRecord}
use Rattle.volume_inside.proofs.Changed.{view_without_name}
use Rattle.volume_tables.specs.Tables.{tables_now, inside_now, view_now}
use Rattle.volume_tables.specs.Wants.{reply_of, IsRepliedOrMemory}
use Rattle.volume_tables.specs.declared.tables.Tables.{Tables}
use Rattle.volume_tables.specs.Pending.{IsPending, pending_of}
use Rattle.volume_tables.specs.Sound.{IsSound}
use Rattle.volume_files.specs.Found.{IsFileOf}
use Rattle.volume_files.specs.Needs.{length_needs, rename_needs}
use Rattle.volume_files.specs.Needs.{rename_bytes}
use Rattle.volume_files.proofs.Found.{refuses_bad_name, refuses_no_file, file_is_there, is_file_of}
use Rattle.volume_core.specs.Moves.{pending_done}
use Rattle.volume_core.specs.States.{state_at}
use Rattle.volume_core.proofs.Waiting.{Waits, rename_waits, length_waits}
use Rattle.volume_core.proofs.Written.{was_done}

-- the machine finds no file
abbrev IsOff : Outcome → Type 0
IsOff outcome = (outcome ≡ Err BadName) ⊎ (outcome ≡ Err NoFile)

-- a call that was refused, and not as worn
abbrev IsUnworn : Result (Unit {0}) Fault → Type 0
IsUnworn r = (fault : Fault) × (r ≡ Err fault) × (fault ≡ Worn → ⊥)

off_unworn : (outcome : Outcome) (want : Option Fault) (before now : ℕ) (r : Result (Unit {0}) Fault) → IsOff outcome
    → IsRepliedOrMemory outcome want before now (done_reply r) → IsUnworn r
off_unworn outcome want before now (Ok done) off replied =
    let own = was_done outcome want before now replied in
    absurd (⊎_elim
    (λ is. let clash : reply.Done ≡ reply.Refused BadName = own ∙ ap (λ (o : Outcome). reply_of o want) is in clashes BadName clash)
    (λ is. let clash : reply.Done ≡ reply.Refused NoFile = own ∙ ap (λ (o : Outcome). reply_of o want) is in clashes NoFile clash)
    off)
  where
    clashes : (fault : Fault) → reply.Done ≡ reply.Refused fault → ⊥
    clashes fault clash = cc
off_unworn outcome want before now (Err fault) off replied = (fault, refl, λ worn. by replied off worn)
  where
    by : IsRepliedOrMemory outcome want before now (reply.Refused fault) → IsOff outcome → fault ≡ Worn → ⊥
    by (inl (inl own)) (inl is) worn =
        let other : reply.Refused fault ≡ reply.Refused BadName = own ∙ ap (λ (o : Outcome). reply_of o want) is in cc
    by (inl (inl own)) (inr is) worn =
        let other : reply.Refused fault ≡ reply.Refused NoFile = own ∙ ap (λ (o : Outcome). reply_of o want) is in cc
    by (inl (inr failed)) off worn = let other : reply.Refused fault ≡ reply.Refused Failed = failed.0 in cc
    by (inr memory) off worn = let other : reply.Refused fault ≡ reply.Refused Memory = memory in cc

no_file : (a b : Bool) (o : Option (List Cell)) (rest : List Cell → Outcome) → o ≡ None
    → IsOff (refuse_if a BadName (refuse_if b BadName (at_file o rest)))
no_file true b o rest none = inl refl
no_file false true o rest none = inl refl
no_file false false o rest none = inr (ap (λ (x : Option (List Cell)). at_file x rest) none)

module _ {D : Type 0} {d : Ghosts D} (t : Tables D d) (sound : IsSound t) (u : Tables D d) (r : Result (Unit {0}) Fault) where
  unworn_waits : (call : Call) → IsUnworn r → Waits t u call r
  unworn_waits call refused = record {
    done = subst (λ (x : Result (Unit {0}) Fault). OnOk x (pending_of u ≡ pending_done call (state_at t)))
        (sym refused.1) tt;
    worn = λ worn. absurd (refused.2 (let same : Err refused.0 ≡ Err Worn = sym refused.1 ∙ worn in cc));
  }

  pub rename_waits_by : (from to : List ℕ) (want : Option Fault) (before now : ℕ)
      → IsRepliedOrMemory (plain (view_now t) (Rename from to)) want before now (done_reply r)
      → ((id : ℕ) → find bytes_cmp from (tables_now t).names ≡ Some id → IsPending (rename_needs from to)
      (rename_bytes (tables_now t).names from to id) t u r)
      → Waits t u (Rename from to) r
  rename_waits_by from to want before now replied pending = by (find bytes_cmp from (tables_now t).names) refl
    where
      by : (o : Option ℕ) → find bytes_cmp from (tables_now t).names ≡ o → Waits t u (Rename from to) r
      by (Some id) named = rename_waits t sound u r from to id named (pending id named)
      by None none =
          unworn_waits (Rename from to)
          (off_unworn (plain (view_now t) (Rename from to)) want before now r
          (no_file (not (is_lawful from)) (not (is_lawful to)) (cells_of from (view_now t))
          (rename from to (view_now t)) (view_without_name (inside_now t) from none))
          replied)

  pub length_waits_by : (name : List ℕ) (len : ℕ) (want : Option Fault) (before now : ℕ)
      → IsRepliedOrMemory (plain (view_now t) (SetLength name len)) want before now (done_reply r)
      → ((id : ℕ) (file : FileRecord) → IsFileOf t name id file
      → IsPending (length_needs (tables_now t) id file.length len)
      (length_needs (tables_now t) id file.length len).records t u r)
      → Waits t u (SetLength name len) r
  length_waits_by name len want before now replied pending =
      by (is_lawful name) refl (find bytes_cmp name (tables_now t).names) refl
    where
      refused : IsOff (plain (view_now t) (SetLength name len)) → Waits t u (SetLength name len) r
      refused off =
          unworn_waits (SetLength name len)
          (off_unworn (plain (view_now t) (SetLength name len)) want before now r off replied)

      at_record : (id : ℕ) → find bytes_cmp name (tables_now t).names ≡ Some id → is_lawful name ≡ true
          → (o : Option FileRecord) → find nat_cmp id (tables_now t).files ≡ o → IsSome o
          → Waits t u (SetLength name len) r
      at_record id named lawful (Some file) there some =
          let is = is_file_of t sound.rules name id named file lawful there in
          length_waits t sound u r name len id file is (pending id file is)
      at_record id named lawful None there some = absurd (cc)

      by : (lawful : Bool) → is_lawful name ≡ lawful → (o : Option ℕ)
          → find bytes_cmp name (tables_now t).names ≡ o → Waits t u (SetLength name len) r
      by false unlawful o is = refused (inl (refuses_bad_name t name unlawful (set_length name len (view_now t))))
      by true lawful None none =
          refused (inr (refuses_no_file t name lawful none (set_length name len (view_now t))))
      by true lawful (Some id) named =
          at_record id named lawful (find nat_cmp id (tables_now t).files) refl
          (file_is_there t sound.rules name id named)
