-- What waits for a commit, and what becomes of it, is told by the state of a volume.
use Rattle.std.specs.Prelude.{◌≡◌, if◌then◌else◌, ℕ, false, List, [], ◌∷◌, length, Option, Some, Result, OnOk, IsErrOf}
use Rattle.std.specs.Prelude.{refl}
use Rattle.std.proofs.Common.{ap, sym, ◌∙◌}
use Rattle.std.proofs.lemmas.Result.{on_ok_weaker}
use Rattle.std.specs.FinMap.{find}
use Rattle.vdisk.specs.declared.disk.Disk.{Ghosts}
use Rattle.byte_map.specs.Words.{bytes_cmp}
use Rattle.plain_volume.specs.declared.call.Call.{Call}
use Rattle.plain_volume.specs.declared.call.Call.TheVariants.{Create, Write, SetLength, Rename, Delete, Flush}
use Rattle.plain_volume.specs.declared.call.Fault.{Fault}
use Rattle.plain_volume.specs.declared.call.Fault.TheVariants.{Worn}
use Rattle.table_records.specs.declared.records.FileRecord.{FileRecord}
use Rattle.volume_inside.specs.Layout.{half_bytes}
use Rattle.volume_tables.specs.Pending.{Needs, Pending, finds_room, committed, worn_out, spent, pending_of, committed_of}
use Rattle.volume_tables.specs.Pending.{after_commit, roomed_of, IsPending}
use Rattle.volume_tables.specs.Tables.{tables_now, inside_now, clusters_in, checkpoint_of, disk_of, stopped}
use Rattle.volume_tables.specs.declared.tables.Tables.{Tables}
use Rattle.volume_tables.specs.Sound.{IsSound}
use Rattle.volume_files.specs.Found.{IsFileOf}
use Rattle.volume_files.specs.Lengths.{length_in, length_of}
use Rattle.volume_files.specs.Needs.{create_needs, rename_needs, delete_needs, write_needs, length_needs}
use Rattle.volume_files.specs.Needs.{create_bytes, rename_bytes, delete_bytes, write_bytes}
use Rattle.volume_files.specs.Writing.{IsWritePending}
use Rattle.volume_core.specs.Moves.{pending_done, pending_worn, pending_lost, of_file, id_written_in, id_resized_in}
use Rattle.volume_core.specs.States.{state_at, committed_in, roomed_in, done_in, worn_in, tables_told}
use Rattle.volume_core.proofs.Settled.{all_free}
use Rattle.volume_core.proofs.Told.{checkpoint_told, left_told, sized, write_told, length_told}

-- What waits after a call with this result, as the state before it tells.
pub record Waits {D : Type 0} {d : Ghosts D} (t u : Tables D d) (call : Call) (r : Result (Unit {0}) Fault) : Type 0 where
  pub done : OnOk r (pending_of u ≡ pending_done call (state_at t))
  pub worn : IsErrOf r Worn → pending_of u ≡ pending_worn call (state_at t)

module _ {D : Type 0} {d : Ghosts D} (t : Tables D d) (sound : IsSound t) where
  committed_told : committed_of t ≡ committed_in (state_at t)
  committed_told = λ i. committed (half_bytes (clusters_in t)) (sym (checkpoint_told t sound) i)
      (sym (left_told t) i) (pending_of t)

  done_told : (n : Needs) (bytes : ℕ) → spent bytes n.clusters (roomed_of t n) ≡ done_in (state_at t) n bytes
  done_told n bytes = ap
      (λ (p : Pending). spent bytes n.clusters (if finds_room (pending_of t) n then pending_of t else p))
      committed_told

  -- what waits once there is room for a write into the file of a name
  pub write_roomed : (name : List ℕ) (id at : ℕ) (bytes : List ℕ) → find bytes_cmp name (tables_now t).names ≡ Some id
      → roomed_of t (write_needs (tables_now t) id at (length bytes)) ≡ pending_lost (Write name at bytes) (state_at t)
  write_roomed name id at bytes named =
      (λ i. if finds_room (pending_of t) (write_needs (tables_now t) id at (length bytes)) then pending_of t
      else committed_told i)
      ∙ ap (λ (n : Needs). roomed_in (state_at t) n)
      (sym (write_told (tables_now t) (disk_of t).image (sized t sound) id at (length bytes)))
      ∙ ap (λ (o : Option ℕ). of_file (state_at t) o
      (λ x. roomed_in (state_at t) (write_needs (tables_told (inside_now t)) x at (length bytes)))) (sym named)

  -- a commit
  pub commit_waits : (u : Tables D d) (r : Result (Unit {0}) Fault) → stopped t ≡ false
      → OnOk r (pending_of u ≡ after_commit t)
      → (IsErrOf r Worn → pending_of u ≡ worn_out (pending_of t)) → Waits t u Flush r
  commit_waits u r runs done worn = record {
    done = on_ok_weaker r (λ is. is ∙ ((λ i. committed (half_bytes (clusters_in t)) (checkpoint_of t)
        (all_free t sound runs i) (pending_of t)) ∙ committed_told)) done;
    worn = worn;
  }

  module _ (u : Tables D d) (call : Call) (r : Result (Unit {0}) Fault) where
    waits : (n : Needs) (bytes : ℕ) → done_in (state_at t) n bytes ≡ pending_done call (state_at t)
        → worn_in (state_at t) n ≡ pending_worn call (state_at t) → IsPending n bytes t u r → Waits t u call r
    waits n bytes done worn is = record {
      done = on_ok_weaker r (λ at. at ∙ (done_told n bytes ∙ done)) is.done;
      worn = λ refused. is.worn refused ∙ worn;
    }

  module _ (u : Tables D d) (r : Result (Unit {0}) Fault) where
    pub create_waits : (name : List ℕ) → IsPending (create_needs name) (create_bytes name) t u r
        → Waits t u (Create name) r
    create_waits name = waits u (Create name) r (create_needs name) (create_bytes name) refl refl

    pub rename_waits : (from to : List ℕ) (id : ℕ) → find bytes_cmp from (tables_now t).names ≡ Some id
        → IsPending (rename_needs from to) (rename_bytes (tables_now t).names from to id) t u r
        → Waits t u (Rename from to) r
    rename_waits from to id named =
        waits u (Rename from to) r (rename_needs from to) (rename_bytes (tables_now t).names from to id)
        (ap (λ (o : Option ℕ). of_file (state_at t) o (λ x. done_in (state_at t) (rename_needs from to)
        (rename_bytes (tables_now t).names from to x))) (sym named)) refl

    pub delete_waits : (name : List ℕ)
        → IsPending (delete_needs name) (delete_bytes (tables_now t).names name) t u r
        → Waits t u (Delete name) r
    delete_waits name =
        waits u (Delete name) r (delete_needs name) (delete_bytes (tables_now t).names name) refl refl

    pub length_waits : (name : List ℕ) (len id : ℕ) (file : FileRecord) → IsFileOf t name id file
        → IsPending (length_needs (tables_now t) id file.length len)
        (length_needs (tables_now t) id file.length len).records t u r
        → Waits t u (SetLength name len) r
    length_waits name len id file is =
        let needs = length_needs (tables_now t) id file.length len in
        let told : needs ≡ length_needs (tables_told (inside_now t)) id (length_of (tables_now t) id) len =
        sym (length_told (tables_now t) (disk_of t).image (sized t sound) id file.length len)
        ∙ ap (λ (o : Option FileRecord). length_needs (tables_told (inside_now t)) id (length_in o) len)
        (sym is.there) in
        waits u (SetLength name len) r needs needs.records
        (ap (λ (n : Needs). done_in (state_at t) n n.records) told
        ∙ ap (λ (o : Option ℕ). of_file (state_at t) o (λ x. id_resized_in (state_at t) x len)) (sym is.named)) refl

    write_waits : (name : List ℕ) (id at b : ℕ) (bytes : List ℕ)
        → find bytes_cmp name (tables_now t).names ≡ Some id
        → IsPending (write_needs (tables_now t) id at (length (b ∷ bytes)))
        (write_bytes at (length (b ∷ bytes))) t u r
        → Waits t u (Write name at (b ∷ bytes)) r
    write_waits name id at b bytes named =
        let needs = write_needs (tables_now t) id at (length (b ∷ bytes)) in
        waits u (Write name at (b ∷ bytes)) r needs (write_bytes at (length (b ∷ bytes)))
        (ap (λ (n : Needs). done_in (state_at t) n (write_bytes at (length (b ∷ bytes))))
        (sym (write_told (tables_now t) (disk_of t).image (sized t sound) id at (length (b ∷ bytes))))
        ∙ ap (λ (o : Option ℕ). of_file (state_at t) o (λ x. id_written_in (state_at t) x at (b ∷ bytes))) (sym named))
        refl

    pub write_waits_by : (name : List ℕ) (id at : ℕ) (bytes : List ℕ)
        → find bytes_cmp name (tables_now t).names ≡ Some id → IsWritePending id at bytes t u r
        → (bytes ≡ [] → IsErrOf r Worn → ⊥) → Waits t u (Write name at bytes) r
    write_waits_by name id at [] named pending unworn = record {
      done = on_ok_weaker r (λ same. ap (λ (x : Tables D d). pending_of x) same
          ∙ ap (λ (o : Option ℕ). of_file (state_at t) o (λ x. id_written_in (state_at t) x at [])) (sym named)) pending;
      worn = λ refused. absurd (unworn refl refused);
    }
    write_waits_by name id at (b ∷ bytes) named pending unworn = write_waits name id at b bytes named pending
