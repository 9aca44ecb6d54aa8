-- Which resources may be wanting for a call.
use Rattle.std.specs.Prelude.{◌≡◌, ◌⊎◌, ◌≤◌, ◌+◌, ◌&&◌, ℕ, Bool, true, false, not, cond, nat_eq, nat_lt, IsTrue}
use Rattle.std.specs.Prelude.{List, [], ◌∷◌, length, Option, Some, None, refl}
use Rattle.std.proofs.Common.{inl, inr, ap, ◌∙◌, subst, ⊎_elim, arith}
use Rattle.std.proofs.lemmas.Bool.{le-ltb}
use Rattle.vdisk.specs.declared.disk.Disk.{Ghosts}
use Rattle.plain_volume.specs.Step.{may_be_worn, may_fill_tables, may_fill_disk}
use Rattle.plain_volume.specs.declared.call.Call.{Call}
use Rattle.plain_volume.specs.declared.call.Call.TheVariants.{Create, Write, SetLength, Rename, Delete}
use Rattle.plain_volume.specs.declared.call.Fault.{Fault}
use Rattle.plain_volume.specs.declared.call.Fault.TheVariants.{Worn, TableFull, Full, Failed}
use Rattle.volume_inside.specs.Layout.{half_bytes}
use Rattle.volume_inside.specs.Rules.{next_id_of}
use Rattle.volume_tables.specs.Tables.{tables_now, checkpoint_of, clusters_in, would_wear}
use Rattle.volume_tables.specs.declared.tables.Tables.{Tables}
use Rattle.volume_tables.specs.Wants.{Needs, wanting, has_room, free_of, last_id}
use Rattle.volume_files.specs.Needs.{create_needs, write_needs, length_needs, rename_needs, delete_needs}
use Rattle.volume_files.specs.Lengths.{for_file, length_of, length_wants}
use Rattle.volume_files.specs.Writing.{write_wants}
use Rattle.volume_core.specs.Wants.{IsWant}
use Rattle.volume_core.proofs.Told.{file_of}

-- the first of these that is wanting
abbrev first_want : Bool → Bool → Bool → ℕ → ℕ → Bool → Option Fault
first_want ids full few need free wears =
    cond ids (Some Worn) (cond full (Some TableFull) (cond few (Some (Full need free)) (cond wears (Some Worn) None)))

first_may : (call : Call) (ids full few : Bool) (need free : ℕ) (wears : Bool) → IsTrue (may_be_worn call)
    → (IsTrue full → IsTrue (may_fill_tables call)) → (IsTrue few → IsTrue (may_fill_disk call))
    → IsWant call (first_want ids full few need free wears)
first_may call true full few need free wears worn tables disk = worn
first_may call false true few need free wears worn tables disk = tables refl
first_may call false false true need free wears worn tables disk = disk refl
first_may call false false false need free true worn tables disk = worn
first_may call false false false need free false worn tables disk = tt

first_not_failed : (ids full few : Bool) (need free : ℕ) (wears : Bool)
    → first_want ids full few need free wears ≡ Some Failed → ⊥
first_not_failed true full few need free wears is = cc
first_not_failed false true few need free wears is = cc
first_not_failed false false true need free wears is = cc
first_not_failed false false false need free true is = cc
first_not_failed false false false need free false is = cc

module _ {D : Type 0} {d : Ghosts D} (t : Tables D d) where
  -- the tables now fit a half
  checkpoint_fits : checkpoint_of t ≤ half_bytes (clusters_in t)
  checkpoint_fits = subst (λ (n : ℕ). checkpoint_of t ≤ n) t.half t.log.fits

  not_fuller : (n : Needs) → n.grows ≡ 0 → nat_lt (half_bytes (clusters_in t)) (checkpoint_of t + n.grows) ≡ false
  not_fuller n none =
      ap (λ (k : ℕ). nat_lt (half_bytes (clusters_in t)) (checkpoint_of t + k)) none
      ∙ le-ltb (half_bytes (clusters_in t)) (checkpoint_of t + 0) (let fits = checkpoint_fits in omega (arith, fits))

  none_needed : (n : Needs) → n.clusters ≡ 0 → nat_lt (free_of t) n.clusters ≡ false
  none_needed n none = ap (λ (k : ℕ). nat_lt (free_of t) k) none ∙ le-ltb (free_of t) 0 (omega arith)

  wanting_may : (call : Call) (n : Needs) → IsTrue (may_be_worn call)
      → IsTrue (may_fill_tables call) ⊎ (n.grows ≡ 0) → IsTrue (may_fill_disk call) ⊎ (n.clusters ≡ 0)
      → IsWant call (wanting t n)
  wanting_may call n worn tables disk =
      first_may call (n.draws && nat_eq (next_id_of (tables_now t)) last_id)
      (nat_lt (half_bytes (clusters_in t)) (checkpoint_of t + n.grows)) (nat_lt (free_of t) n.clusters) n.clusters
      (free_of t) (not (has_room t n) && would_wear t) worn
      (λ full. ⊎_elim (λ may. may) (λ none. absurd (let not_full = not_fuller n none in cc)) tables)
      (λ few. ⊎_elim (λ may. may) (λ none. absurd (let not_few = none_needed n none in cc)) disk)

  wanting_not_failed : (n : Needs) → wanting t n ≡ Some Failed → ⊥
  wanting_not_failed n =
      first_not_failed (n.draws && nat_eq (next_id_of (tables_now t)) last_id)
      (nat_lt (half_bytes (clusters_in t)) (checkpoint_of t + n.grows)) (nat_lt (free_of t) n.clusters) n.clusters
      (free_of t) (not (has_room t n) && would_wear t)

  for_file_may : (call : Call) (file : Option ℕ) (want : ℕ → Option Fault) → ((id : ℕ) → IsWant call (want id))
      → IsWant call (for_file file want)
  for_file_may call None want may = tt
  for_file_may call (Some id) want may = may id

  for_file_not_failed : (file : Option ℕ) (want : ℕ → Option Fault) → ((id : ℕ) → want id ≡ Some Failed → ⊥)
      → for_file file want ≡ Some Failed → ⊥
  for_file_not_failed None want never is = cc
  for_file_not_failed (Some id) want never is = never id is

  pub create_may : (name : List ℕ) → IsWant (Create name) (wanting t (create_needs name))
  create_may name = wanting_may (Create name) (create_needs name) refl (inl refl) (inr refl)

  pub rename_may : (from to : List ℕ) → IsWant (Rename from to) (wanting t (rename_needs from to))
  rename_may from to = wanting_may (Rename from to) (rename_needs from to) refl (inl refl) (inr refl)

  pub delete_may : (name : List ℕ) → IsWant (Delete name) (wanting t (delete_needs name))
  delete_may name = wanting_may (Delete name) (delete_needs name) refl (inr refl) (inr refl)

  pub write_id_may : (name : List ℕ) (at : ℕ) (bytes : List ℕ) (file : ℕ)
      → IsWant (Write name at bytes) (write_wants t file at bytes)
  write_id_may name at [] file = tt
  write_id_may name at (b ∷ bytes) file =
      wanting_may (Write name at (b ∷ bytes)) (write_needs (tables_now t) file at (length (b ∷ bytes))) refl
      (inl refl) (inl refl)

  pub write_may : (name : List ℕ) (at : ℕ) (bytes : List ℕ)
      → IsWant (Write name at bytes) (for_file (file_of t name) (λ file. write_wants t file at bytes))
  write_may name at bytes =
      for_file_may (Write name at bytes) (file_of t name) (λ file. write_wants t file at bytes)
      (write_id_may name at bytes)

  pub length_may : (name : List ℕ) (len : ℕ) → IsWant (SetLength name len) (length_wants t name len)
  length_may name len =
      for_file_may (SetLength name len) (file_of t name)
      (λ id. wanting t (length_needs (tables_now t) id (length_of (tables_now t) id) len))
      (λ id. wanting_may (SetLength name len) (length_needs (tables_now t) id (length_of (tables_now t) id) len)
      refl (inr refl) (inr refl))

  pub create_not_failed : (name : List ℕ) → wanting t (create_needs name) ≡ Some Failed → ⊥
  create_not_failed name = wanting_not_failed (create_needs name)

  pub rename_not_failed : (from to : List ℕ) → wanting t (rename_needs from to) ≡ Some Failed → ⊥
  rename_not_failed from to = wanting_not_failed (rename_needs from to)

  pub delete_not_failed : (name : List ℕ) → wanting t (delete_needs name) ≡ Some Failed → ⊥
  delete_not_failed name = wanting_not_failed (delete_needs name)

  pub length_not_failed : (name : List ℕ) (len : ℕ) → length_wants t name len ≡ Some Failed → ⊥
  length_not_failed name len =
      for_file_not_failed (file_of t name)
      (λ id. wanting t (length_needs (tables_now t) id (length_of (tables_now t) id) len))
      (λ id. wanting_not_failed (length_needs (tables_now t) id (length_of (tables_now t) id) len))
