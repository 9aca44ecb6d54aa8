-- The rules of the tables of chunks, each a fact over the tables that it reads, so that a change of another table
-- carries it over as it is.
use Rattle.std.specs.Prelude.{◌≡◌, ◌≤◌, ◌<◌, ◌+◌, ◌*◌, ◌%◌, ℕ, List, [], ◌∷◌, Option, Some, None, IsSome, IsSomeAnd, nat_eq, if◌then◌else◌}
use Rattle.std.specs.Ordering.{nat_cmp}
use Rattle.std.specs.FinMap.{find}
use Rattle.table_records.specs.Keys.{pair_cmp}
use Rattle.table_records.specs.declared.records.FileRecord.{FileRecord}
use Rattle.stream_map.specs.declared.entry.Entry.{Entry}
use Rattle.stream_map.specs.Pieces.{entries_in, total_length}
use Rattle.volume_inside.specs.Layout.{AreData}
use Rattle.volume_inside.specs.Entries.{Each}
use Rattle.table_records.specs.declared.chunk_records.Row.{Row}
use Rattle.table_records.specs.declared.chunk_records.Place.{Place}
use Rattle.table_records.specs.declared.chunk_records.Container.{Container}
use Rattle.volume_inside.specs.declared.chunk_rules.TheConstants.{DATA_ROW, ENTRY_BYTES, HOT_CONTAINER, MAP_ROW, MOST_CHUNK_BYTES, MOST_CONTAINER_BYTES, MOST_MAP_BYTES, PARTITIONS}
use Rattle.volume_inside.specs.declared.layout.TheConstants.{CLUSTER_BYTES}
use Rattle.volume_inside.specs.ChunkTables.{ChunkTables, CopyKey, PageKey}
use Rattle.volume_inside.specs.Pages.{page_clusters, used_of}
use Rattle.volume_inside.specs.Chunks.{Bases, chunk}
use Rattle.volume_inside.specs.Inside.{Inside}

-- ---- files: the map row is 0 exactly where nothing is covered (rule 3), and is a row of a map (rule 4)

pub record CoverHolds (file : FileRecord) : Type 0 where
  pub within : file.covers ≤ file.length
  pub no_map : file.covers ≡ 0 → file.map_row ≡ 0
  pub no_cover : file.map_row ≡ 0 → file.covers ≡ 0

-- no byte is covered, so that there is no map
abbrev pub HasNoBase : ℕ → FileRecord → Type 0
HasNoBase id file = file.covers ≡ 0

abbrev pub IsMapRow : Row → Type 0
IsMapRow row = row.kind ≡ MAP_ROW

abbrev pub MapRowHolds : List (ℕ × Row) → ℕ → FileRecord → Type 0
MapRowHolds rows id file = (file.map_row ≡ 0 → ⊥) → IsSomeAnd (find nat_cmp file.map_row rows) IsMapRow

-- ---- rows (rule 6) and redirects (rule 7)

pub record IsDataRow (row : Row) : Type 0 where
  pub some_bytes : 1 ≤ row.length
  pub short : row.length ≤ MOST_CHUNK_BYTES
  pub part : row.partition < PARTITIONS

pub record IsMapRecord (row : Row) : Type 0 where
  pub some_entry : ENTRY_BYTES ≤ row.length
  pub short : row.length ≤ MOST_MAP_BYTES
  pub entries : row.length % ENTRY_BYTES ≡ 0
  pub no_part : row.partition ≡ 0
  pub own : row.redirect ≡ 0

pub record RowHolds (next : ℕ) (id : ℕ) (row : Row) : Type 0 where
  pub some_id : 1 ≤ id
  pub drawn : id < next
  pub some_seen : 1 ≤ row.seen
  pub some_kind : 1 ≤ row.kind
  pub kind : row.kind ≤ MAP_ROW
  pub if_data : row.kind ≡ DATA_ROW → IsDataRow row
  pub if_map : row.kind ≡ MAP_ROW → IsMapRecord row

-- the row stands for one that is redirected: it has the same bytes, and its own
pub record IsTarget (id : ℕ) (row to : Row) : Type 0 where
  pub lower : row.redirect < id
  pub kind : to.kind ≡ DATA_ROW
  pub digest : to.digest ≡ row.digest
  pub length : to.length ≡ row.length
  pub own : to.redirect ≡ 0

abbrev pub RedirectHolds : List (ℕ × Row) → ℕ → Row → Type 0
RedirectHolds rows id row =
    (row.redirect ≡ 0 → ⊥) → IsSomeAnd (find nat_cmp row.redirect rows) (IsTarget id row)

-- ---- places (rule 8)

-- the kind of container in which a copy lies: that of its row, 1 of chunks and 2 of maps, and 3 of second copies
abbrev pub kind_of_copy : Row → ℕ → ℕ
kind_of_copy row copy = if nat_eq copy 0 then row.kind else HOT_CONTAINER

pub record PlaceOfHolds (containers : List (ℕ × Container)) (copy : ℕ) (p : Place) (row : Row) : Type 0 where
  pub own : row.redirect ≡ 0
  pub few : copy ≤ 1
  pub if_second : copy ≡ 1 → row.kind ≡ DATA_ROW
  pub kind : IsSomeAnd (find nat_cmp p.container containers) (λ c. c.kind ≡ kind_of_copy row copy)
  pub within : p.offset + row.length ≤ used_of containers p.container

abbrev pub PlaceHolds : List (ℕ × Row) → List (ℕ × Container) → CopyKey → Place → Type 0
PlaceHolds rows containers k p = IsSomeAnd (find nat_cmp k.0 rows) (PlaceOfHolds containers k.1 p)

abbrev pub FirstCopyHolds : List (CopyKey × Place) → ℕ → Row → Type 0
FirstCopyHolds places id row = row.redirect ≡ 0 → IsSome (find pair_cmp (id, 0) places)

-- ---- containers and their clusters (rule 9)

-- what the record alone tells
pub record ContainerRecordHolds (next : ℕ) (id : ℕ) (c : Container) : Type 0 where
  pub some_id : 1 ≤ id
  pub drawn : id < next
  pub some_kind : 1 ≤ c.kind
  pub kind : c.kind ≤ HOT_CONTAINER
  pub some_bytes : 1 ≤ c.used
  pub few : c.used ≤ MOST_CONTAINER_BYTES

-- each page as far as bytes are used has a cluster
pub record ContainerHolds (next : ℕ) (clusters : List (PageKey × ℕ)) (id : ℕ) (c : Container) : Type 0 where
  pub own : ContainerRecordHolds next id c
  pub whole : (index : ℕ) → CLUSTER_BYTES * index < c.used → IsSome (find pair_cmp (id, index) clusters)

pub record ClusterHolds (containers : List (ℕ × Container)) (k : PageKey) (cluster : ℕ) : Type 0 where
  pub of_container : IsSome (find nat_cmp k.0 containers)
  pub within : CLUSTER_BYTES * k.1 < used_of containers k.0

-- ---- all of these, of an image of n clusters whose tables draw this id next

abbrev pub RowsHold : ℕ → ChunkTables → Type 0
RowsHold next t = Each (RowHolds next) t.rows

abbrev pub RedirectsHold : ChunkTables → Type 0
RedirectsHold t = Each (RedirectHolds t.rows) t.rows

pub record PlacesHold (t : ChunkTables) : Type 0 where
  pub places : Each (PlaceHolds t.rows t.containers) t.places
  pub first_copies : Each (FirstCopyHolds t.places) t.rows

pub record ContainersHold (n next : ℕ) (t : ChunkTables) : Type 0 where
  pub containers : Each (ContainerHolds next t.clusters) t.containers
  pub clusters : Each (ClusterHolds t.containers) t.clusters
  pub in_data : AreData n (page_clusters t.clusters)

pub record ChunksHold (n next : ℕ) (t : ChunkTables) : Type 0 where
  pub rows : RowsHold next t
  pub redirects : RedirectsHold t
  pub places : PlacesHold t
  pub containers : ContainersHold n next t

-- ---- maps (rule 12), over what the image holds

pub record IsPieceOf (entry : Entry) (row : Row) : Type 0 where
  pub kind : row.kind ≡ DATA_ROW
  pub length : entry.length ≡ row.length

pub record EntryHolds (rows : List (ℕ × Row)) (entry : Entry) : Type 0 where
  pub some_bytes : 1 ≤ entry.length
  pub short : entry.length ≤ MOST_CHUNK_BYTES
  pub names_row : IsSomeAnd (find nat_cmp entry.id rows) (IsPieceOf entry)

abbrev pub AllEntries : (Entry → Type 0) → List Entry → Type 0
AllEntries P [] = Unit {0}
AllEntries P (e ∷ es) = P e × AllEntries P es

abbrev pub MapHolds : List (ℕ × Row) → ℕ → Option (List ℕ) → Type 0
MapHolds rows covers None = Unit {0}
MapHolds rows covers (Some map) =
    AllEntries (EntryHolds rows) (entries_in map) × (covers ≤ total_length (entries_in map))

-- the map of a file with a base, where it is not lost
abbrev pub BaseHolds : Bases → ℕ → FileRecord → Type 0
BaseHolds b id file = (file.covers ≡ 0 → ⊥) → MapHolds b.rows file.covers (chunk b file.map_row)

-- of each file (rule 12)
abbrev pub MapsHold : Inside → Type 0
MapsHold i = Each (BaseHolds i.bases) i.files
