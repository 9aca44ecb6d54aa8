-- Copies that have the digest of their row, and the rows whose copies are read.
use Rattle.std.specs.Prelude.{◌≡◌, ◌≤◌, ◌+◌, ℕ, Bool, true, false, cond, List, [], ◌∷◌, Option, Some, None, IsSome, IsSomeAnd, IsTrue, length, drop}
use Rattle.std.specs.Prelude.{if◌then◌else◌, refl}
use Rattle.std.proofs.Common.{◌∙◌, ap, sym, subst, arith, length-take}
use Rattle.std.specs.declared.cmp.Ordering.{Ordering}
use Rattle.std.specs.declared.cmp.Ordering.TheVariants.{Less, Equal, Greater}
use Rattle.std.specs.Ordering.{nat_cmp, is_eq}
use Rattle.std.specs.Cmp.Lexicographic.{bytes_decides}
use Rattle.std.specs.FinMap.{find}
use Rattle.std.proofs.lemmas.Map.Lookups.{exact_pairs, exact_unsigned}
use Rattle.sha2.specs.Sha256.{sha256}
use Rattle.vdisk.specs.Ranges.{part, part_part}
use Rattle.table_records.specs.Keys.{pair_cmp}
use Rattle.table_records.specs.declared.chunk_records.Row.{Row}
use Rattle.table_records.specs.declared.chunk_records.Place.{Place}
use Rattle.volume_inside.specs.ChunkTables.{ChunkTables, CopyKey}
use Rattle.volume_inside.specs.Chunks.{Bases, is_sound, if_sound, or_else, own_chunk, own_or_none, chunk_or_none, chunk}
use Rattle.volume_inside.specs.Chunks.{copy_of, copies_of, chunks_at, length_of, length_or_none}
use Rattle.volume_inside.specs.Entries.{each_found}
use Rattle.volume_inside.specs.Pages.{used_of, content}
use Rattle.volume_inside.proofs.BaseGrown.{is_not_zero}
use Rattle.volume_inside.proofs.BaseSound.{own_is}
use Rattle.row_reading.specs.Reading.{IsReadable, IsTextOf, IsRangeOf, IsFoundOf}

pub true_false : (b : Bool) → b ≡ true → b ≡ false → ⊥
true_false b is other = let clash : true ≡ false = sym is ∙ other in cc

-- ---- copies

abbrev some_copy : ChunkTables → CopyKey → List ℕ → Option Place → Option (List ℕ)
some_copy t k image None = None
some_copy t k image (Some p) = Some (copy_of t k p image)

-- the copy of a key is that of its place
find-copies : (t : ChunkTables) (k : CopyKey) (ps : List (CopyKey × Place)) (image : List ℕ)
    → find pair_cmp k (copies_of t ps image) ≡ some_copy t k image (find pair_cmp k ps)
find-copies t k [] image = refl
find-copies t k (p ∷ ps) image = by (pair_cmp k p.0) refl (find-copies t k ps image)
  where
    by : (r : Ordering) → pair_cmp k p.0 ≡ r → find pair_cmp k (copies_of t ps image) ≡ some_copy t k image (find pair_cmp k ps)
        → cond (is_eq r) (Some (copy_of t p.0 p.1 image)) (find pair_cmp k (copies_of t ps image))
        ≡ some_copy t k image (cond (is_eq r) (Some p.1) (find pair_cmp k ps))
    by Less is rest = rest
    by Greater is rest = rest
    by Equal is rest =
        let key : k ≡ p.0 = exact_pairs nat_cmp nat_cmp exact_unsigned exact_unsigned k p.0 is in
        ap (λ (x : CopyKey). Some (copy_of t x p.1 image)) (sym key)

-- bytes count as a copy where they have the digest
module _ (digest bytes : List ℕ) where
  sound_bytes : sha256 bytes ≡ digest → if_sound digest (Some bytes) ≡ Some bytes
  unfolding is_sound
  sound_bytes same = ap (λ (b : Bool). if b then Some bytes else None) ((bytes_decides (sha256 bytes) digest).1 same)

  unsound_bytes : (sha256 bytes ≡ digest → ⊥) → if_sound digest (Some bytes) ≡ None
  unfolding is_sound
  unsound_bytes differ = by (is_sound digest bytes) (λ is. differ (sound_is is))
    where
      sound_is : is_sound digest bytes ≡ true → sha256 bytes ≡ digest
      sound_is is = (bytes_decides (sha256 bytes) digest).0 is

      by : (b : Bool) → (b ≡ true → ⊥) → (if b then Some bytes else None) ≡ None
      by true never = absurd (never refl)
      by false never = refl

module _ (t : ChunkTables) (image : List ℕ) (id copy : ℕ) (row : Row) (there : find nat_cmp id t.rows ≡ Some row) where
  pub place_lies : (p : Place) → IsReadable t image → find pair_cmp (id, copy) t.places ≡ Some p
      → p.offset + row.length ≤ used_of t.containers p.container
  place_lies p readable found =
      let lies = each_found pair_cmp (exact_pairs nat_cmp nat_cmp exact_unsigned exact_unsigned)
      (λ k q. q.offset + length_of t.rows k.0 ≤ used_of t.containers q.container) (id, copy) p t.places found readable.places in
      let long = ap length_or_none there in
      omega (arith, lies, long)

  pub copy_none : find pair_cmp (id, copy) t.places ≡ None
      → if_sound row.digest (find pair_cmp (id, copy) (chunks_at t image).copies) ≡ None
  copy_none none = ap (λ (o : Option (List ℕ)). if_sound row.digest o)
      (find-copies t (id, copy) t.places image ∙ ap (λ (o : Option Place). some_copy t (id, copy) image o) none)

  copy_there : (p : Place) → find pair_cmp (id, copy) t.places ≡ Some p
      → find pair_cmp (id, copy) (chunks_at t image).copies ≡ Some (part p.offset row.length (content t p.container image))
  copy_there p found =
      find-copies t (id, copy) t.places image ∙ ap (λ (o : Option Place). some_copy t (id, copy) image o) found
      ∙ ap (λ (n : ℕ). Some (part p.offset n (content t p.container image))) (ap length_or_none there)

  pub copy_sound : (p : Place) → find pair_cmp (id, copy) t.places ≡ Some p
      → sha256 (part p.offset row.length (content t p.container image)) ≡ row.digest
      → if_sound row.digest (find pair_cmp (id, copy) (chunks_at t image).copies)
      ≡ Some (part p.offset row.length (content t p.container image))
  copy_sound p found same =
      ap (λ (o : Option (List ℕ)). if_sound row.digest o) (copy_there p found)
      ∙ sound_bytes row.digest (part p.offset row.length (content t p.container image)) same

  pub copy_unsound : (p : Place) → find pair_cmp (id, copy) t.places ≡ Some p
      → (sha256 (part p.offset row.length (content t p.container image)) ≡ row.digest → ⊥)
      → if_sound row.digest (find pair_cmp (id, copy) (chunks_at t image).copies) ≡ None
  copy_unsound p found differ =
      ap (λ (o : Option (List ℕ)). if_sound row.digest o) (copy_there p found)
      ∙ unsound_bytes row.digest (part p.offset row.length (content t p.container image)) differ

-- ---- the row whose copies are read

module _ (t : ChunkTables) (image : List ℕ) (id : ℕ) (row : Row) (there : find nat_cmp id t.rows ≡ Some row) where
  pub own_text : row.redirect ≡ 0 → IsTextOf t image id id row
  own_text none = record {
    found = there;
    long = sym (ap length_or_none there);
    reads = own_is (chunks_at t image) id row there none;
  }

  pub other_text : (to : Row) → (row.redirect ≡ 0 → ⊥) → find nat_cmp row.redirect t.rows ≡ Some to
      → to.length ≡ row.length → IsTextOf t image id row.redirect to
  unfolding chunk
  other_text to some found long = record {
    found = found;
    long = long ∙ sym (ap length_or_none there);
    reads = ap (λ (o : Option Row). chunk_or_none (chunks_at t image) id o) there
        ∙ ap (λ (b : Bool). if b then own_chunk (chunks_at t image) id row
        else own_or_none (chunks_at t image) row.redirect (find nat_cmp row.redirect t.rows))
        (is_not_zero row.redirect some)
        ∙ ap (λ (o : Option Row). own_or_none (chunks_at t image) row.redirect o) found;
  }

pub some_and_some : {A : Type 0} (P : A → Type 0) (o : Option A) → IsSomeAnd o P → IsSome o
some_and_some P None both = absurd both
some_and_some P (Some a) both = refl

-- a row that is not there has no chunk
pub no_chunk : (b : Bases) (id : ℕ) → find nat_cmp id b.rows ≡ None → chunk b id ≡ None
unfolding chunk
no_chunk b id none = ap (λ (o : Option Row). chunk_or_none b id o) none

-- ---- what was read

pub range_of : (o : Option (List ℕ)) (bytes : List ℕ) (from n : ℕ) (out : List ℕ) → o ≡ Some bytes
    → out ≡ part from n bytes → IsRangeOf o from n out
range_of o bytes from n out is read = subst (λ (q : Option (List ℕ)). IsRangeOf q from n out) (sym is) read

-- the first copy is read where it is sound, and the second one where the first is not
pub first_found : (one two : Option (List ℕ)) (n : ℕ) (out : List ℕ) → IsRangeOf one 0 n out
    → IsRangeOf (or_else one two) 0 n out
first_found None two n out read = absurd read
first_found (Some bytes) two n out read = read

pub second_is : (one two : Option (List ℕ)) → one ≡ None → or_else one two ≡ two
second_is one two none = ap (λ (o : Option (List ℕ)). or_else o two) none

-- a whole copy was read and hashed
module _ (t : ChunkTables) (image : List ℕ) (id copy : ℕ) (row : Row) (there : find nat_cmp id t.rows ≡ Some row) (p : Place)
    (found : find pair_cmp (id, copy) t.places ≡ Some p) (out : List ℕ)
    (whole : out ≡ part p.offset row.length (content t p.container image)) where
  pub copy_found : (b : Bool) → (IsTrue b → sha256 out ≡ row.digest) → (sha256 out ≡ row.digest → IsTrue b)
      → IsFoundOf (if_sound row.digest (find pair_cmp (id, copy) (chunks_at t image).copies)) 0 row.length b out
  copy_found true same sound =
      let start : p.offset ≡ p.offset + 0 = omega arith in
      range_of (if_sound row.digest (find pair_cmp (id, copy) (chunks_at t image).copies))
      (part p.offset row.length (content t p.container image)) 0 row.length out
      (copy_sound t image id copy row there p found (subst (λ (x : List ℕ). sha256 x ≡ row.digest) whole (same refl)))
      (whole ∙ ap (λ (at : ℕ). part at row.length (content t p.container image)) start
      ∙ sym (part_part p.offset row.length 0 row.length (content t p.container image) (omega arith)))
  copy_found false same sound =
      copy_unsound t image id copy row there p found
      (λ digest. let clash : false ≡ true = sound (subst (λ (x : List ℕ). sha256 x ≡ row.digest) (sym whole) digest) in cc)

-- ---- a chunk is no longer than its row

abbrev pub IsShort : ℕ → Option (List ℕ) → Type 0
IsShort n None = Unit {0}
IsShort n (Some bytes) = length bytes ≤ n

short_copy : (t : ChunkTables) (k : CopyKey) (image : List ℕ) (o : Option Place) → IsShort (length_of t.rows k.0) (some_copy t k image o)
short_copy t k image None = tt
short_copy t k image (Some p) = omega (arith, length-take (length_of t.rows k.0) (drop p.offset (content t p.container image)))

short_sound : (n : ℕ) (digest : List ℕ) (o : Option (List ℕ)) → IsShort n o → IsShort n (if_sound digest o)
short_sound n digest None short = tt
short_sound n digest (Some bytes) short = by (is_sound digest bytes)
  where
    by : (b : Bool) → IsShort n (if b then Some bytes else None)
    by true = short
    by false = tt

short_else : (n : ℕ) (one two : Option (List ℕ)) → IsShort n one → IsShort n two → IsShort n (or_else one two)
short_else n None two first second = second
short_else n (Some bytes) two first second = first

pub short_own : (t : ChunkTables) (image : List ℕ) (id : ℕ) (row : Row) → find nat_cmp id t.rows ≡ Some row
    → IsShort row.length (own_chunk (chunks_at t image) id row)
short_own t image id row there =
    let short : (copy : ℕ) → IsShort row.length (find pair_cmp (id, copy) (copies_of t t.places image)) =
    λ copy. subst (λ (o : Option (List ℕ)). IsShort row.length o) (sym (find-copies t (id, copy) t.places image))
    (subst (λ (n : ℕ). IsShort n (some_copy t (id, copy) image (find pair_cmp (id, copy) t.places))) (ap length_or_none there)
    (short_copy t (id, copy) image (find pair_cmp (id, copy) t.places))) in
    short_else row.length (if_sound row.digest (find pair_cmp (id, 0) (copies_of t t.places image)))
    (if_sound row.digest (find pair_cmp (id, 1) (copies_of t t.places image)))
    (short_sound row.length row.digest (find pair_cmp (id, 0) (copies_of t t.places image)) (short 0))
    (short_sound row.length row.digest (find pair_cmp (id, 1) (copies_of t t.places image)) (short 1))
