-- The rules of a volume's tables, each a fact of its own over the tables that it reads: a change of another table leaves
-- it as it stands.
use Rattle.std.specs.Prelude.{◌≡◌, ◌⊎◌, ◌≤◌, ◌<◌, ◌+◌, ◌*◌, ◌-◌, ◌^◌, ℕ, Bool, true, List, length, Option, Some, None, IsSome, IsSomeAnd, ◌==◌}
use Rattle.std.specs.List.{filter, list_all}
use Rattle.std.specs.Ordering.{nat_cmp}
use Rattle.std.specs.FinMap.{find}
use Rattle.groundwork.specs.declared.limits.TheConstants.{LAST_ID}
use Rattle.byte_map.specs.Words.{Map}
use Rattle.plain_volume.specs.Volume.{is_lawful, is_lawful_text}
use Rattle.plain_volume.specs.declared.limits.TheConstants.{MOST_FILES, MOST_BYTES_OF_A_FILE}
use Rattle.table_records.specs.Keys.{single_cmp, kind_cmp}
use Rattle.table_records.specs.WellFormed.{AllWellFormed}
use Rattle.table_records.specs.declared.jobs.JobKind.{JobKind}
use Rattle.table_records.specs.declared.records.VolumeRecord.{VolumeRecord}
use Rattle.table_records.specs.declared.records.FileRecord.{FileRecord}
use Rattle.table_records.specs.declared.records.Extent.{Extent}
use Rattle.table_records.specs.declared.records.ResultRecord.{ResultRecord}
use Rattle.table_records.specs.declared.chunk_records.Row.{Row}
use Rattle.table_records.specs.declared.settings.Settings.{Settings}
use Rattle.volume_inside.specs.declared.rules.TheConstants.{LEAST_MINIMUM_SIZE, LEAST_THRESHOLD, MOST_AGE_DAYS}
use Rattle.volume_inside.specs.declared.layout.TheConstants.{CLUSTER_BYTES}
use Rattle.volume_inside.specs.Typed.{Typed, FileBlock, typed_of}
use Rattle.volume_inside.specs.Layout.{IsDataCluster}
use Rattle.volume_inside.specs.Entries.{Each}
use Rattle.volume_inside.specs.Inside.{inside_at}
pub use Rattle.volume_inside.specs.Lists.{IsOut, IsOnce}
use Rattle.volume_inside.specs.Named.{clusters_of}
use Rattle.volume_inside.specs.ChunkRules.{CoverHolds, HasNoBase, MapRowHolds, ChunksHold, RowsHold, RedirectsHold}
use Rattle.volume_inside.specs.ChunkRules.{PlacesHold, ContainersHold, MapsHold}

-- ---- the records that are always there

pub record IsVolumeRecord (v : VolumeRecord) : Type 0 where
  pub version : v.version ≡ 1
  pub some_id : 1 ≤ v.next_id
  pub last_id : v.next_id ≤ LAST_ID

-- each text has at least one byte, and only bytes that a name may have
abbrev pub are_lawful_texts : List (List ℕ) → Bool
are_lawful_texts texts = list_all is_lawful_text texts

pub record AreSettings (s : Settings) : Type 0 where
  pub least_size : LEAST_MINIMUM_SIZE ≤ s.minimum_size
  pub most_size : s.minimum_size ≤ MOST_BYTES_OF_A_FILE
  pub most_days : s.age_days ≤ MOST_AGE_DAYS
  pub least_threshold : LEAST_THRESHOLD ≤ s.threshold
  pub most_threshold : s.threshold ≤ 2 ^ 32 - 1
  pub folders : are_lawful_texts s.folders ≡ true
  pub types : are_lawful_texts s.types ≡ true

pub record IsResultRecord (r : ResultRecord) : Type 0 where
  pub known : r.result ≤ 6

pub record RecordsHold (volumes : List (Unit {0} × VolumeRecord)) (all : List (Unit {0} × Settings))
    (ends : List (JobKind × ResultRecord)) : Type 0 where
  pub volume : IsSomeAnd (find single_cmp tt volumes) IsVolumeRecord
  pub settings : IsSomeAnd (find single_cmp tt all) AreSettings
  pub results : (kind : JobKind) → IsSomeAnd (find kind_cmp kind ends) IsResultRecord

abbrev pub id_after : Option VolumeRecord → ℕ
id_after None = 0
id_after (Some v) = v.next_id

-- the id that is drawn next
abbrev pub next_id_of : Typed → ℕ
next_id_of t = id_after (find single_cmp tt t.volume)

-- ---- names

-- a name is lawful, and its file is there
pub record NameHolds (files : List (ℕ × FileRecord)) (name : List ℕ) (id : ℕ) : Type 0 where
  pub lawful : is_lawful name ≡ true
  pub names_file : IsSome (find nat_cmp id files)

-- the names of a file
abbrev pub names_of : ℕ → List (List ℕ × ℕ) → List (List ℕ × ℕ)
names_of id names = filter (λ e. e.1 == id) names

abbrev pub IsNamedOnce : List (List ℕ × ℕ) → ℕ → FileRecord → Type 0
IsNamedOnce names id file = length (names_of id names) ≡ 1

pub record NamesHold (all : List (List ℕ × ℕ)) (files : List (ℕ × FileRecord)) : Type 0 where
  pub names : Each (NameHolds files) all
  pub once : Each (IsNamedOnce all) files
  pub few : length all ≤ MOST_FILES

-- ---- files

-- an id that was drawn, where this one is next, a length that a file may have, and a map just where bytes are covered
pub record FileHolds (next : ℕ) (id : ℕ) (file : FileRecord) : Type 0 where
  pub some_id : 1 ≤ id
  pub drawn : id < next
  pub short : file.length ≤ MOST_BYTES_OF_A_FILE
  pub cover : CoverHolds file

abbrev pub FilesHold : ℕ → List (ℕ × FileRecord) → Type 0
FilesHold next files = Each (FileHolds next) files

-- the map row of each file that has one is a row of a map
abbrev pub MapRowsHold : List (ℕ × Row) → List (ℕ × FileRecord) → Type 0
MapRowsHold rows files = Each (MapRowHolds rows) files

-- no file has a base
abbrev pub AreBare : List (ℕ × FileRecord) → Type 0
AreBare files = Each HasNoBase files

-- ---- extents

-- the bytes of a block lie in the file, which is there
abbrev pub LiesIn : FileBlock → Extent → Option FileRecord → Type 0
LiesIn k e None = ⊥
LiesIn k e (Some file) = CLUSTER_BYTES * k.1 + e.valid ≤ file.length

pub record ExtentHolds (n : ℕ) (files : List (ℕ × FileRecord)) (k : FileBlock) (e : Extent) : Type 0 where
  pub in_file : LiesIn k e (find nat_cmp k.0 files)
  pub some_bytes : 1 ≤ e.valid
  pub in_cluster : e.valid ≤ CLUSTER_BYTES
  pub in_data : IsDataCluster n e.cluster

abbrev pub ExtentsHold : ℕ → List (ℕ × FileRecord) → List (FileBlock × Extent) → Type 0
ExtentsHold n files extents = Each (ExtentHolds n files) extents

-- ---- clusters

-- no cluster is named twice, by whichever tables name clusters
abbrev pub ClustersHold : Typed → Type 0
ClustersHold t = IsOnce (clusters_of t)

-- ---- all rules

-- the rules of the tables of a volume of n clusters
pub record RulesHold (n : ℕ) (t : Typed) : Type 0 where
  pub records : RecordsHold t.volume t.settings t.results
  pub names : NamesHold t.names t.files
  pub files : FilesHold (next_id_of t) t.files
  pub map_rows : MapRowsHold t.chunks.rows t.files
  pub extents : ExtentsHold n t.files t.extents
  pub chunks : ChunksHold n (next_id_of t) t.chunks
  pub clusters : ClustersHold t

-- The map is one of a volume of n clusters: its pairs are well formed, and its tables meet the rules.
pub record IsVolume (n : ℕ) (m : Map) : Type 0 where
  pub spelled : AllWellFormed m
  pub rules : RulesHold n (typed_of m)

-- ---- the least rule that is broken

-- the rule of this number is broken and is k, or it holds and k is a later one
abbrev pub Broken : ℕ → ℕ → Type 0 → Type 0 → Type 0
Broken k number rule later = ((k ≡ number) × (rule → ⊥)) ⊎ (rule × later)

-- Of the rules that tables alone tell, k is the first one that does not hold, or these hold and k is a later one. Rule 11
-- is on a table that no volume has yet.
abbrev pub IsLeastBrokenOr : ℕ → Map → ℕ → Type 0 → Type 0
IsLeastBrokenOr n m k later =
    let t = typed_of m in
    Broken k 1 (AllWellFormed m × RecordsHold t.volume t.settings t.results)
    (Broken k 2 (NamesHold t.names t.files)
    (Broken k 3 (FilesHold (next_id_of t) t.files)
    (Broken k 4 (MapRowsHold t.chunks.rows t.files)
    (Broken k 5 (ExtentsHold n t.files t.extents)
    (Broken k 6 (RowsHold (next_id_of t) t.chunks)
    (Broken k 7 (RedirectsHold t.chunks)
    (Broken k 8 (PlacesHold t.chunks)
    (Broken k 9 (ContainersHold n (next_id_of t) t.chunks)
    (Broken k 10 (ClustersHold t) later)))))))))

-- of the rules that tables alone tell, k is the first one that does not hold
abbrev pub IsLeastBrokenOfTables : ℕ → Map → ℕ → Type 0
IsLeastBrokenOfTables n m k = IsLeastBrokenOr n m k ⊥

-- Of all rules in their order, k is the first one that does not hold: the last one, on the maps of bases, is on what the
-- image holds.
abbrev pub IsLeastBroken : ℕ → Map → List ℕ → ℕ → Type 0
IsLeastBroken n m image k = IsLeastBrokenOr n m k (Broken k 12 (MapsHold (inside_at (typed_of m) image)) ⊥)
