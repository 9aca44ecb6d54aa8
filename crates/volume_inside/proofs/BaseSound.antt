-- Which copy the chunk of a row is, and that it has the digest of the row.
use Rattle.std.specs.Prelude.{◌≡◌, ℕ, Bool, true, false, List, Option, Some, None, nat_eq, if◌then◌else◌, refl}
use Rattle.std.proofs.Common.{◌∙◌, ap, sym, subst}
use Rattle.std.specs.Ordering.{nat_cmp}
use Rattle.std.specs.Cmp.Lexicographic.{bytes_decides}
use Rattle.std.specs.FinMap.{find}
use Rattle.sha2.specs.Sha256.{sha256}
use Rattle.table_records.specs.Keys.{pair_cmp}
use Rattle.table_records.specs.declared.chunk_records.Row.{Row}
use Rattle.volume_inside.specs.Chunks.{Bases, is_sound, if_sound, or_else, own_chunk, own_or_none, chunk_or_none, chunk}
use Rattle.volume_inside.proofs.BaseGrown.{is_zero, is_not_zero}

sound_digest : (digest bytes : List ℕ) → is_sound digest bytes ≡ true → sha256 bytes ≡ digest
unfolding is_sound
sound_digest digest bytes sound = (bytes_decides (sha256 bytes) digest).0 sound

digest_sound : (digest bytes : List ℕ) → sha256 bytes ≡ digest → is_sound digest bytes ≡ true
unfolding is_sound
digest_sound digest bytes same = (bytes_decides (sha256 bytes) digest).1 same

copy_digest : (digest : List ℕ) (o : Option (List ℕ)) (bytes : List ℕ) → if_sound digest o ≡ Some bytes
    → sha256 bytes ≡ digest
copy_digest digest None bytes is = absurd (cc)
copy_digest digest (Some copy) bytes is = by (is_sound digest copy) refl is
  where
    by : (t : Bool) → is_sound digest copy ≡ t → (if t then Some copy else None) ≡ Some bytes → sha256 bytes ≡ digest
    by true sound same =
        let value : copy ≡ bytes = cc in
        subst (λ (x : List ℕ). sha256 x ≡ digest) value (sound_digest digest copy sound)
    by false sound same = absurd (cc)

copies_digest : (digest : List ℕ) (one two : Option (List ℕ)) (bytes : List ℕ)
    → or_else (if_sound digest one) (if_sound digest two) ≡ Some bytes → sha256 bytes ≡ digest
copies_digest digest one two bytes is = by (if_sound digest one) refl is
  where
    by : (o : Option (List ℕ)) → if_sound digest one ≡ o → or_else o (if_sound digest two) ≡ Some bytes
        → sha256 bytes ≡ digest
    by None first same = copy_digest digest two bytes same
    by (Some copy) first same = copy_digest digest one bytes (first ∙ same)

module _ (b : Bases) (id : ℕ) (row : Row) (there : find nat_cmp id b.rows ≡ Some row) where
  own_or_target : (t : Bool) → nat_eq row.redirect 0 ≡ t → chunk b id
      ≡ (if t then own_chunk b id row else own_or_none b row.redirect (find nat_cmp row.redirect b.rows))
  unfolding chunk
  own_or_target t is =
      ap (λ (o : Option Row). chunk_or_none b id o) there
      ∙ ap (λ (t : Bool). if t then own_chunk b id row else own_or_none b row.redirect (find nat_cmp row.redirect b.rows)) is

  pub own_is : row.redirect ≡ 0 → chunk b id ≡ own_chunk b id row
  own_is own = own_or_target true (is_zero row.redirect own)

  -- THE DIGEST of a chunk is that of its row
  pub chunk_digest : (bytes : List ℕ) → row.redirect ≡ 0 → chunk b id ≡ Some bytes → sha256 bytes ≡ row.digest
  chunk_digest bytes own is =
      copies_digest row.digest (find pair_cmp (id, 0) b.copies) (find pair_cmp (id, 1) b.copies) bytes (sym (own_is own) ∙ is)

  if_sound_found : (copy : ℕ) (bytes : List ℕ) → find pair_cmp (id, copy) b.copies ≡ Some bytes → sha256 bytes ≡ row.digest
      → if_sound row.digest (find pair_cmp (id, copy) b.copies) ≡ Some bytes
  if_sound_found copy bytes found same =
      ap (λ (o : Option (List ℕ)). if_sound row.digest o) found
      ∙ ap (λ (t : Bool). if t then Some bytes else None) (digest_sound row.digest bytes same)

  -- THE FIRST COPY is the chunk where it is sound
  pub chunk_first : (bytes : List ℕ) → row.redirect ≡ 0 → find pair_cmp (id, 0) b.copies ≡ Some bytes
      → sha256 bytes ≡ row.digest → chunk b id ≡ Some bytes
  chunk_first bytes own found same =
      own_is own
      ∙ ap (λ (o : Option (List ℕ)). or_else o (if_sound row.digest (find pair_cmp (id, 1) b.copies)))
      (if_sound_found 0 bytes found same)

  -- and the second one where the first is not
  pub chunk_second : (bytes : List ℕ) → row.redirect ≡ 0 → if_sound row.digest (find pair_cmp (id, 0) b.copies) ≡ None
      → find pair_cmp (id, 1) b.copies ≡ Some bytes → sha256 bytes ≡ row.digest → chunk b id ≡ Some bytes
  chunk_second bytes own none found same =
      own_is own
      ∙ ap (λ (o : Option (List ℕ)). or_else o (if_sound row.digest (find pair_cmp (id, 1) b.copies))) none
      ∙ if_sound_found 1 bytes found same

-- A REDIRECT reads as the chunk of its target
pub chunk_redirect : (b : Bases) (id : ℕ) (row target : Row) → find nat_cmp id b.rows ≡ Some row
    → (row.redirect ≡ 0 → ⊥) → find nat_cmp row.redirect b.rows ≡ Some target → target.redirect ≡ 0
    → chunk b id ≡ chunk b row.redirect
chunk_redirect b id row target there some found own =
    own_or_target b id row there false (is_not_zero row.redirect some)
    ∙ ap (λ (o : Option Row). own_or_none b row.redirect o) found
    ∙ sym (own_is b row.redirect target found own)
