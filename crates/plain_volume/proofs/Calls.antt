-- The calls on files in the order of their names are the plain machine's own.
use Rattle.std.proofs.Common.{◌≡◌, ℕ, ◌+◌, ◌-◌, ◌<◌, ◌≤◌, List, [], ◌∷◌, length, take, drop, replicate, ◌++◌, Option, ◌≢◌, true, slice_set, insert, Ok, Err, refl, sym, ap, subst, ◌∙◌}
use Rattle.std.specs.List.{remove}
use Rattle.sha2.specs.Sha256.{sha256}
use Rattle.std.proofs.lemmas.List.{length-map, set-get_or}
use Rattle.plain_volume.specs.declared.limits.TheConstants.{MOST_FILES, MOST_BYTES_OF_A_CALL, MOST_BYTES_OF_A_FILE}
use Rattle.plain_volume.specs.Volume.{with_file, is_lawful, cells_from, is_within, overwritten, Volume, without_file}
use Rattle.plain_volume.specs.Volume.Cell.{Byte}
use Rattle.plain_volume.specs.Step.{write, read, set_length, delete, digest, stat, next_name, plain}
use Rattle.plain_volume.specs.Replies.{IsOwnOrMemory}
use Rattle.plain_volume.specs.declared.call.Call.TheVariants.{Create, Write, SetLength, Rename, Delete, Read, Digest, Stat, Next, Flush}
use Rattle.plain_volume.specs.declared.call.Reply.TheVariants as reply
use Rattle.plain_volume.specs.declared.call.Fault.TheVariants.{NoFile, Exists, OutsideFile, TooLarge}
use Rattle.plain_volume.proofs.Own.{own_refusal, own_done, own_answer, create_exists, create_too_many, create_done, file_missing, file_found, write_too_much, write_too_far, write_done, read_outside, read_done, set_length_too_far, set_length_done, digest_done, rename_missing, rename_exists, rename_done}
use Rattle.plain_volume.specs.Files.{Named, IsRising, BelongsAt, IsFileAt, RefusesFile, name_at, bytes_at, with_bytes_at, volume_of}
use Rattle.plain_volume.proofs.Cells.{none_lost, none_beside, bytes_read, cells_written, cells_resized, bytes_again}
use Rattle.plain_volume.proofs.Places.{found_cells, set_cells, absent_cells, insert_cells, remove_cells, rising_sorted}
use Rattle.plain_volume.proofs.Moves.{moved}

pub refuses_missing : (es : List Named) (name : List ℕ) (i : ℕ) → BelongsAt es name i → is_lawful name ≡ true → RefusesFile (volume_of es) name NoFile
refuses_missing es name i gap good rest = file_missing (volume_of es) name rest good (absent_cells name es i gap)

module _ (es : List Named) (name : List ℕ) (i : ℕ) where
  pub makes_none_again : IsRising es → i < length es → name_at es i ≡ name → is_lawful name ≡ true → IsOwnOrMemory (volume_of es) (Create name) (reply.Refused Exists) (volume_of es)
  makes_none_again up inside here good = own_refusal (volume_of es) (Create name) Exists (create_exists (volume_of es) name (cells_from (bytes_at es i)) good (found_cells name es i up inside here))

  pub makes_no_more : BelongsAt es name i → is_lawful name ≡ true → MOST_FILES ≤ length es → IsOwnOrMemory (volume_of es) (Create name) (reply.Refused (TooLarge MOST_FILES)) (volume_of es)
  makes_no_more gap good full = own_refusal (volume_of es) (Create name) (TooLarge MOST_FILES)
      (create_too_many (volume_of es) name good (absent_cells name es i gap) (subst (λ n. MOST_FILES ≤ n) (sym (length-map es (λ (e : Named). (e.0, cells_from e.1)))) full))

  pub makes_one : BelongsAt es name i → is_lawful name ≡ true → length es < MOST_FILES → IsOwnOrMemory (volume_of es) (Create name) reply.Done (volume_of (insert es i (name, [])))
  makes_one gap good room = own_done (volume_of es) (Create name) (volume_of (insert es i (name, [])))
      (create_done (volume_of es) name good (absent_cells name es i gap) (subst (λ n. n < MOST_FILES) (sym (length-map es (λ (e : Named). (e.0, cells_from e.1)))) room)
      ∙ ap (λ v. Ok (reply.Done, v)) (insert_cells name [] es i gap))

  module _ (file : IsFileAt es name i) where
    module _ (at : ℕ) (bytes : List ℕ) where
      writes : plain (volume_of es) (Write name at bytes) ≡ write name at bytes (volume_of es) (cells_from (bytes_at es i))
      writes = file_found (volume_of es) name (write name at bytes (volume_of es)) (cells_from (bytes_at es i)) file.lawful (found_cells name es i file.rising file.in_range file.here)

      pub writes_not_so_much : MOST_BYTES_OF_A_CALL < length bytes → IsOwnOrMemory (volume_of es) (Write name at bytes) (reply.Refused (TooLarge MOST_BYTES_OF_A_CALL)) (volume_of es)
      writes_not_so_much over = own_refusal (volume_of es) (Write name at bytes) (TooLarge MOST_BYTES_OF_A_CALL) (writes ∙ write_too_much (volume_of es) name (cells_from (bytes_at es i)) at bytes over)

      pub writes_not_so_far : length bytes ≤ MOST_BYTES_OF_A_CALL → MOST_BYTES_OF_A_FILE < at + length bytes → IsOwnOrMemory (volume_of es) (Write name at bytes) (reply.Refused (TooLarge MOST_BYTES_OF_A_FILE)) (volume_of es)
      writes_not_so_far fits over = own_refusal (volume_of es) (Write name at bytes) (TooLarge MOST_BYTES_OF_A_FILE) (writes ∙ write_too_far (volume_of es) name (cells_from (bytes_at es i)) at bytes fits over)

      written : length bytes ≤ MOST_BYTES_OF_A_CALL → at + length bytes ≤ MOST_BYTES_OF_A_FILE → plain (volume_of es) (Write name at bytes) ≡ Ok (reply.Done, with_file name (overwritten at bytes (cells_from (bytes_at es i))) (volume_of es))
      written fits within = writes ∙ write_done (volume_of es) name (cells_from (bytes_at es i)) at bytes fits within (none_beside at bytes (bytes_at es i))

    pub writes_bytes : (at : ℕ) (bytes : List ℕ) → bytes ≢ [] → length bytes ≤ MOST_BYTES_OF_A_CALL → at + length bytes ≤ MOST_BYTES_OF_A_FILE →
        IsOwnOrMemory (volume_of es) (Write name at bytes) reply.Done (volume_of (slice_set es i (name_at es i, with_bytes_at at bytes (bytes_at es i))))
    writes_bytes at [] some fits within = absurd (some refl)
    writes_bytes at (b ∷ bytes) some fits within =
        own_done (volume_of es) (Write name at (b ∷ bytes)) (volume_of (slice_set es i (name_at es i, with_bytes_at at (b ∷ bytes) (bytes_at es i))))
        (written at (b ∷ bytes) fits within
        ∙ ap (λ cells. Ok (reply.Done, with_file name cells (volume_of es))) (cells_written at b bytes (bytes_at es i))
        ∙ ap (λ v. Ok (reply.Done, v)) (set_cells name (with_bytes_at at (b ∷ bytes) (bytes_at es i)) es i file.rising file.in_range file.here)
        ∙ ap (λ n. Ok (reply.Done, volume_of (slice_set es i (n, with_bytes_at at (b ∷ bytes) (bytes_at es i))))) (sym file.here))

    pub writes_nothing : (at : ℕ) (bytes : List ℕ) → bytes ≡ [] → length bytes ≤ MOST_BYTES_OF_A_CALL → at + length bytes ≤ MOST_BYTES_OF_A_FILE → IsOwnOrMemory (volume_of es) (Write name at bytes) reply.Done (volume_of es)
    writes_nothing at (b ∷ bytes) none fits within = absurd (cc)
    writes_nothing at [] none fits within =
        own_done (volume_of es) (Write name at []) (volume_of es)
        (written at [] fits within
        ∙ ap (λ v. Ok (reply.Done, v)) (set_cells name (bytes_at es i) es i file.rising file.in_range file.here)
        ∙ ap (λ n. Ok (reply.Done, volume_of (slice_set es i (n, bytes_at es i)))) (sym file.here)
        ∙ ap (λ fs. Ok (reply.Done, volume_of fs)) (set-get_or es i ([], [])))

    module _ (at count : ℕ) where
      reads : plain (volume_of es) (Read name at count) ≡ read at count (volume_of es) (cells_from (bytes_at es i))
      reads = file_found (volume_of es) name (read at count (volume_of es)) (cells_from (bytes_at es i)) file.lawful (found_cells name es i file.rising file.in_range file.here)

      same_length : length (cells_from (bytes_at es i)) ≡ length (bytes_at es i)
      same_length = length-map (bytes_at es i) Byte

      pub reads_not_outside : length (bytes_at es i) < at + count → IsOwnOrMemory (volume_of es) (Read name at count) (reply.Refused (OutsideFile (length (bytes_at es i)))) (volume_of es)
      reads_not_outside over = own_refusal (volume_of es) (Read name at count) (OutsideFile (length (bytes_at es i)))
          (reads ∙ read_outside (volume_of es) name (cells_from (bytes_at es i)) at count (subst (λ n. n < at + count) (sym same_length) over) ∙ ap (λ n. Err (OutsideFile n)) same_length)

      pub reads_bytes : at + count ≤ length (bytes_at es i) → IsOwnOrMemory (volume_of es) (Read name at count) (reply.Bytes (take count (drop at (bytes_at es i)))) (volume_of es)
      reads_bytes within = own_answer (volume_of es) (Read name at count) (reply.Bytes (take count (drop at (bytes_at es i)))) (volume_of es)
          (reads ∙ read_done (volume_of es) name (cells_from (bytes_at es i)) at count (subst (λ n. at + count ≤ n) (sym same_length) within) (none_lost (is_within at count) 0 (bytes_at es i))
          ∙ ap (λ bytes. Ok (reply.Bytes bytes, volume_of es)) (bytes_read count at (bytes_at es i)))
          (λ fault e. cc)

    -- ---- the other calls on one file

    module _ (len : ℕ) where
      sets : plain (volume_of es) (SetLength name len) ≡ set_length name len (volume_of es) (cells_from (bytes_at es i))
      sets = file_found (volume_of es) name (set_length name len (volume_of es)) (cells_from (bytes_at es i)) file.lawful (found_cells name es i file.rising file.in_range file.here)

      pub sets_not_so_far : MOST_BYTES_OF_A_FILE < len → IsOwnOrMemory (volume_of es) (SetLength name len) (reply.Refused (TooLarge MOST_BYTES_OF_A_FILE)) (volume_of es)
      sets_not_so_far over = own_refusal (volume_of es) (SetLength name len) (TooLarge MOST_BYTES_OF_A_FILE) (sets ∙ set_length_too_far (volume_of es) name (cells_from (bytes_at es i)) len over)

      pub sets_length : len ≤ MOST_BYTES_OF_A_FILE → IsOwnOrMemory (volume_of es) (SetLength name len) reply.Done
          (volume_of (slice_set es i (name_at es i, take len (bytes_at es i) ++ replicate (len - length (bytes_at es i)) 0)))
      sets_length within = own_done (volume_of es) (SetLength name len) (volume_of (slice_set es i (name_at es i, take len (bytes_at es i) ++ replicate (len - length (bytes_at es i)) 0)))
          (sets ∙ set_length_done (volume_of es) name (cells_from (bytes_at es i)) len within
          ∙ ap (λ cells. Ok (reply.Done, with_file name cells (volume_of es))) (cells_resized len (bytes_at es i))
          ∙ ap (λ v. Ok (reply.Done, v)) (set_cells name (take len (bytes_at es i) ++ replicate (len - length (bytes_at es i)) 0) es i file.rising file.in_range file.here)
          ∙ ap (λ n. Ok (reply.Done, volume_of (slice_set es i (n, take len (bytes_at es i) ++ replicate (len - length (bytes_at es i)) 0)))) (sym file.here))

    pub deletes : IsOwnOrMemory (volume_of es) (Delete name) reply.Done (volume_of (remove es i))
    deletes = own_done (volume_of es) (Delete name) (volume_of (remove es i))
        (file_found (volume_of es) name (delete name (volume_of es)) (cells_from (bytes_at es i)) file.lawful (found_cells name es i file.rising file.in_range file.here)
        ∙ ap (λ v. Ok (reply.Done, v)) (remove_cells name es i file.rising file.in_range file.here))

    pub digests : IsOwnOrMemory (volume_of es) (Digest name) (reply.Digest (sha256 (bytes_at es i))) (volume_of es)
    digests = own_answer (volume_of es) (Digest name) (reply.Digest (sha256 (bytes_at es i))) (volume_of es)
        (file_found (volume_of es) name (digest (volume_of es)) (cells_from (bytes_at es i)) file.lawful (found_cells name es i file.rising file.in_range file.here)
        ∙ digest_done (volume_of es) name (cells_from (bytes_at es i)) (none_lost (λ p. true) 0 (bytes_at es i))
        ∙ ap (λ bytes. Ok (reply.Digest (sha256 bytes), volume_of es)) (bytes_again (bytes_at es i)))
        (λ fault e. cc)

    pub stats : IsOwnOrMemory (volume_of es) (Stat name) (reply.Length (length (bytes_at es i))) (volume_of es)
    stats = own_answer (volume_of es) (Stat name) (reply.Length (length (bytes_at es i))) (volume_of es)
        (file_found (volume_of es) name (stat (volume_of es)) (cells_from (bytes_at es i)) file.lawful (found_cells name es i file.rising file.in_range file.here)
        ∙ ap (λ n. Ok (reply.Length n, volume_of es)) (length-map (bytes_at es i) Byte))
        (λ fault e. cc)

pub nexts : (v : Volume) (above : Option (List ℕ)) → IsOwnOrMemory v (Next above) (reply.Name (next_name above v)) v
nexts v above = own_answer v (Next above) (reply.Name (next_name above v)) v refl (λ fault e. cc)

pub flushes : (v : Volume) → IsOwnOrMemory v Flush reply.Done v
flushes v = own_done v Flush v refl

-- ---- renaming

module _ (es : List Named) (from to : List ℕ) (good : is_lawful from ≡ true) (good_to : is_lawful to ≡ true) where
  pub renames_none : (i : ℕ) → BelongsAt es from i → IsOwnOrMemory (volume_of es) (Rename from to) (reply.Refused NoFile) (volume_of es)
  renames_none i gap = own_refusal (volume_of es) (Rename from to) NoFile (rename_missing (volume_of es) from to good good_to (absent_cells from es i gap))

  module _ (i : ℕ) (up : IsRising es) (inside : i < length es) (here : name_at es i ≡ from) where
    pub renames_not_over : (j : ℕ) → j < length es → name_at es j ≡ to → IsOwnOrMemory (volume_of es) (Rename from to) (reply.Refused Exists) (volume_of es)
    renames_not_over j within there = own_refusal (volume_of es) (Rename from to) Exists
        (rename_exists (volume_of es) from to good good_to (cells_from (bytes_at es i)) (found_cells from es i up inside here) (cells_from (bytes_at es j)) (found_cells to es j up within there))

    pub renames : (j : ℕ) → BelongsAt es to j → (w : Volume) → w ≡ without_file from (volume_of (insert es j (to, bytes_at es i))) → IsOwnOrMemory (volume_of es) (Rename from to) reply.Done w
    renames j gap w is = own_done (volume_of es) (Rename from to) w
        (rename_done (volume_of es) from to good good_to (cells_from (bytes_at es i)) (found_cells from es i up inside here) (absent_cells to es j gap)
        ∙ ap (λ v. Ok (reply.Done, v))
        (sym (moved from to (cells_from (bytes_at es i)) (volume_of es) (rising_sorted es up) (found_cells from es i up inside here) (absent_cells to es j gap))
        ∙ ap (without_file from) (insert_cells to (bytes_at es i) es j gap) ∙ sym is))
