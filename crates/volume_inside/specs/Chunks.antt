-- What bases of files are made of: rows, and the bytes of their copies. A row reads as its chunk.
use Rattle.std.specs.Prelude.{ℕ, Bool, List, [], ◌∷◌, Option, Some, None, nat_eq, if◌then◌else◌}
use Rattle.std.specs.Ordering.{nat_cmp}
use Rattle.std.specs.Cmp.Lexicographic.{pointwise}
use Rattle.std.specs.FinMap.{find}
use Rattle.sha2.specs.Sha256.{sha256}
use Rattle.vdisk.specs.Ranges.{part}
use Rattle.table_records.specs.Keys.{pair_cmp}
use Rattle.table_records.specs.declared.chunk_records.Row.{Row}
use Rattle.table_records.specs.declared.chunk_records.Place.{Place}
use Rattle.volume_inside.specs.ChunkTables.{ChunkTables, CopyKey}
use Rattle.volume_inside.specs.Pages.{content}

-- the rows with the bytes of their copies, and no place of the image
pub record Bases : Type 0 where
  pub rows : List (ℕ × Row)
  pub copies : List (CopyKey × List ℕ)

-- ---- the bytes of copies

abbrev pub length_or_none : Option Row → ℕ
length_or_none None = 0
length_or_none (Some row) = row.length

abbrev pub length_of : List (ℕ × Row) → ℕ → ℕ
length_of rows id = length_or_none (find nat_cmp id rows)

abbrev pub copy_of : ChunkTables → CopyKey → Place → List ℕ → List ℕ
copy_of t k p image = part p.offset (length_of t.rows k.0) (content t p.container image)

abbrev pub copies_of : ChunkTables → List (CopyKey × Place) → List ℕ → List (CopyKey × List ℕ)
copies_of t [] image = []
copies_of t (e ∷ es) image = (e.0, copy_of t e.0 e.1 image) ∷ copies_of t es image

abbrev pub chunks_at : ChunkTables → List ℕ → Bases
chunks_at t image = record { rows = t.rows; copies = copies_of t t.places image }

-- ---- chunks

-- the SHA-256 of the bytes is this one
unfoldable pub is_sound : List ℕ → List ℕ → Bool
is_sound digest bytes = pointwise nat_eq (sha256 bytes) digest

abbrev pub if_sound : List ℕ → Option (List ℕ) → Option (List ℕ)
if_sound digest None = None
if_sound digest (Some bytes) = if is_sound digest bytes then Some bytes else None

abbrev pub or_else : Option (List ℕ) → Option (List ℕ) → Option (List ℕ)
or_else None o = o
or_else (Some bytes) o = Some bytes

-- the bytes of the first copy, 0 and then 1, whose SHA-256 is the row's
abbrev pub own_chunk : Bases → ℕ → Row → Option (List ℕ)
own_chunk b id row =
    or_else (if_sound row.digest (find pair_cmp (id, 0) b.copies)) (if_sound row.digest (find pair_cmp (id, 1) b.copies))

abbrev pub own_or_none : Bases → ℕ → Option Row → Option (List ℕ)
own_or_none b id None = None
own_or_none b id (Some row) = own_chunk b id row

abbrev pub chunk_or_none : Bases → ℕ → Option Row → Option (List ℕ)
chunk_or_none b id None = None
chunk_or_none b id (Some row) =
    if nat_eq row.redirect 0 then own_chunk b id row
    else own_or_none b row.redirect (find nat_cmp row.redirect b.rows)

-- THE CHUNK of a row: its bytes, of a redirected one those of its target; none where they are lost
unfoldable pub chunk : Bases → ℕ → Option (List ℕ)
chunk b id = chunk_or_none b id (find nat_cmp id b.rows)
