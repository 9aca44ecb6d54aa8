-- Words of the reading of rows.
use Rattle.std.specs.Prelude.{◌≡◌, ◌≤◌, ◌<◌, ◌+◌, ◌/◌, ℕ, Bool, true, false, List, length, Option, Some, None, IsSomeAnd}
use Rattle.std.specs.Ordering.{nat_cmp}
use Rattle.std.specs.FinMap.{find}
use Rattle.vdisk.specs.Ranges.{part}
use Rattle.table_records.specs.Keys.{pair_cmp}
use Rattle.table_records.specs.declared.chunk_records.Row.{Row}
use Rattle.table_records.specs.declared.chunk_records.Place.{Place}
use Rattle.stream_map.specs.declared.entry.Entry.{Entry}
use Rattle.stream_map.specs.Pieces.{total_length}
use Rattle.volume_inside.specs.ChunkChanges.{HasPages}
use Rattle.volume_inside.specs.ChunkRules.{AllEntries, EntryHolds}
use Rattle.volume_inside.specs.Chunks.{own_chunk, chunk, chunks_at, length_of}
use Rattle.volume_inside.specs.ChunkTables.{ChunkTables}
use Rattle.volume_inside.specs.Entries.{Each}
use Rattle.volume_inside.specs.Layout.{AreData}
use Rattle.volume_inside.specs.declared.layout.TheConstants.{CLUSTER_BYTES}
use Rattle.volume_inside.specs.declared.chunk_rules.TheConstants.{MOST_CONTAINER_BYTES}
use Rattle.volume_inside.specs.Pages.{used_of, page_clusters, content}

-- the bytes of a container can be read: each page as far as it is used is there, and lies in a data cluster of the image
pub record HasContent (t : ChunkTables) (image : List ℕ) (c : ℕ) : Type 0 where
  pub pages : HasPages t c image
  pub in_data : AreData (length image / CLUSTER_BYTES) (page_clusters t.clusters)
  pub few : used_of t.containers c ≤ MOST_CONTAINER_BYTES

-- the page of a container is in the cluster `first`, and so many from it on are in the clusters beside that
abbrev pub AreBeside : ChunkTables → ℕ → ℕ → ℕ → ℕ → Type 0
AreBeside t c index first count =
    (k : ℕ) → k < count → find pair_cmp (c, index + k) t.clusters ≡ Some (first + k)

-- WHAT CAN BE READ: each container, each copy, which lies in what is used, and each row that stands for another one
pub record IsReadable (t : ChunkTables) (image : List ℕ) : Type 0 where
  pub content : (c : ℕ) → HasContent t image c
  pub places : Each (λ k p. p.offset + length_of t.rows k.0 ≤ used_of t.containers p.container) t.places
  pub targets : (id : ℕ) (row : Row) → find nat_cmp id t.rows ≡ Some row → (row.redirect ≡ 0 → ⊥)
      → IsSomeAnd (find nat_cmp row.redirect t.rows) (λ to. to.length ≡ row.length)

-- the bytes of a chunk in a range, which is not lost
abbrev pub IsRangeOf : Option (List ℕ) → ℕ → ℕ → List ℕ → Type 0
IsRangeOf None from n out = ⊥
IsRangeOf (Some bytes) from n out = out ≡ part from n bytes

-- the bytes of a chunk in a range were read, or they are lost
abbrev pub IsFoundOf : Option (List ℕ) → ℕ → ℕ → Bool → List ℕ → Type 0
IsFoundOf chunk from n true out = IsRangeOf chunk from n out
IsFoundOf chunk from n false out = chunk ≡ None

-- the bytes of a row at a place, if there is one
abbrev pub bytes_if_some : ChunkTables → List ℕ → Row → Option Place → Option (List ℕ)
bytes_if_some t image row None = None
bytes_if_some t image row (Some p) = Some (part p.offset row.length (content t p.container image))

-- the place, if any, of the first copy of a row that has its digest
abbrev pub IsPicked : ChunkTables → List ℕ → ℕ → Row → Option Place → Type 0
IsPicked t image id row place = own_chunk (chunks_at t image) id row ≡ bytes_if_some t image row place

-- the row whose copies a row reads: its own, or those of the row that stands for it
pub record IsTextOf (t : ChunkTables) (image : List ℕ) (id own : ℕ) (text : Row) : Type 0 where
  pub found : find nat_cmp own t.rows ≡ Some text
  pub long : text.length ≡ length_of t.rows id
  pub reads : chunk (chunks_at t image) id ≡ own_chunk (chunks_at t image) own text

-- a place, if any, at which the bytes of a row lie in what is used
abbrev pub LiesIfSome : ChunkTables → Row → Option Place → Type 0
LiesIfSome t row None = Unit {0}
LiesIfSome t row (Some p) = p.offset + row.length ≤ used_of t.containers p.container

-- the sum of the lengths of entries, where each of them meets the rule of maps; none where one does not
abbrev pub IsSum : List (ℕ × Row) → List Entry → Option ℕ → Type 0
IsSum rows entries None = AllEntries (EntryHolds rows) entries → ⊥
IsSum rows entries (Some sum) = AllEntries (EntryHolds rows) entries × (sum ≡ total_length entries)
