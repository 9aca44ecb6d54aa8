-- That the tables of chunks meet their rules has one proof at most, and so has that of the maps of bases.
use Rattle.std.specs.Prelude.{ℕ, List, [], ◌∷◌, Option, Some, None}
use Rattle.std.proofs.Props.{props}
use mathlib.Core.HLevel.{×_prop, Unit-prop}
use Rattle.stream_map.specs.declared.entry.Entry.{Entry}
use Rattle.table_records.specs.declared.records.FileRecord.{FileRecord}
use Rattle.table_records.specs.declared.chunk_records.Row.{Row}
use Rattle.table_records.specs.declared.chunk_records.Place.{Place}
use Rattle.table_records.specs.declared.chunk_records.Container.{Container}
use Rattle.volume_inside.specs.ChunkTables.{ChunkTables, CopyKey, PageKey}
use Rattle.volume_inside.specs.Layout.{IsDataCluster, AreData}
use Rattle.volume_inside.specs.Pages.{page_clusters}
use Rattle.volume_inside.specs.Entries.{Each}
use Rattle.volume_inside.specs.Inside.{Inside}
use Rattle.stream_map.specs.Pieces.{entries_in}
use Rattle.volume_inside.specs.Chunks.{Bases, chunk}
use Rattle.volume_inside.specs.ChunkRules.{IsDataRow, IsMapRecord, RowHolds, IsTarget, RedirectHolds, PlaceOfHolds}
use Rattle.volume_inside.specs.ChunkRules.{PlaceHolds, FirstCopyHolds, ContainerRecordHolds, ContainerHolds, ClusterHolds}
use Rattle.volume_inside.specs.ChunkRules.{ChunksHold, EntryHolds, AllEntries, MapHolds, BaseHolds, MapsHold}

pub each_prop : {K V : Type 0} (P : K → V → Type 0) → ((k : K) (v : V) → IsProp (P k v)) → (es : List (K × V))
    → IsProp (Each P es)
each_prop P one [] = Unit-prop
each_prop P one (e ∷ es) = ×_prop (one e.0 e.1) (each_prop P one es)

data_row_prop : (row : Row) → IsProp (IsDataRow row)
data_row_prop row = Prim.hlevel props

map_record_prop : (row : Row) → IsProp (IsMapRecord row)
map_record_prop row = Prim.hlevel props

row_prop : (next id : ℕ) (row : Row) → IsProp (RowHolds next id row)
row_prop next id row = Prim.hlevel (props, data_row_prop row, map_record_prop row)

target_prop : (id : ℕ) (row to : Row) → IsProp (IsTarget id row to)
target_prop id row to = Prim.hlevel props

redirect_prop : (rows : List (ℕ × Row)) (id : ℕ) (row : Row) → IsProp (RedirectHolds rows id row)
redirect_prop rows id row = Prim.hlevel (props, target_prop)

place_of_prop : (containers : List (ℕ × Container)) (copy : ℕ) (p : Place) (row : Row)
    → IsProp (PlaceOfHolds containers copy p row)
place_of_prop containers copy p row = Prim.hlevel props

place_prop : (rows : List (ℕ × Row)) (containers : List (ℕ × Container)) (k : CopyKey) (p : Place)
    → IsProp (PlaceHolds rows containers k p)
place_prop rows containers k p = Prim.hlevel (props, place_of_prop)

container_record_prop : (next id : ℕ) (c : Container) → IsProp (ContainerRecordHolds next id c)
container_record_prop next id c = Prim.hlevel props

container_prop : (next : ℕ) (clusters : List (PageKey × ℕ)) (id : ℕ) (c : Container)
    → IsProp (ContainerHolds next clusters id c)
container_prop next clusters id c = Prim.hlevel (props, container_record_prop)

cluster_prop : (containers : List (ℕ × Container)) (k : PageKey) (cluster : ℕ)
    → IsProp (ClusterHolds containers k cluster)
cluster_prop containers k cluster = Prim.hlevel props

data_one_prop : (n c : ℕ) → IsProp (IsDataCluster n c)
data_one_prop n c = Prim.hlevel props

data_prop : (n : ℕ) (cs : List ℕ) → IsProp (AreData n cs)
data_prop n [] = Unit-prop
data_prop n (c ∷ cs) = ×_prop (data_one_prop n c) (data_prop n cs)

pub chunks_prop : (n next : ℕ) (t : ChunkTables) → IsProp (ChunksHold n next t)
chunks_prop n next t = Prim.hlevel (
  props,
  each_prop (RowHolds next) (row_prop next) t.rows,
  each_prop (RedirectHolds t.rows) (redirect_prop t.rows) t.rows,
  each_prop (PlaceHolds t.rows t.containers) (place_prop t.rows t.containers) t.places,
  each_prop (FirstCopyHolds t.places) (λ id row. Prim.hlevel props) t.rows,
  each_prop (ContainerHolds next t.clusters) (container_prop next t.clusters) t.containers,
  each_prop (ClusterHolds t.containers) (cluster_prop t.containers) t.clusters,
  data_prop n (page_clusters t.clusters),
)

entry_prop : (rows : List (ℕ × Row)) (e : Entry) → IsProp (EntryHolds rows e)
entry_prop rows e = Prim.hlevel props

entries_prop : (rows : List (ℕ × Row)) (es : List Entry) → IsProp (AllEntries (EntryHolds rows) es)
entries_prop rows [] = Unit-prop
entries_prop rows (e ∷ es) = ×_prop (entry_prop rows e) (entries_prop rows es)

map_prop : (rows : List (ℕ × Row)) (covers : ℕ) (o : Option (List ℕ)) → IsProp (MapHolds rows covers o)
map_prop rows covers None = Unit-prop
map_prop rows covers (Some map) = ×_prop (entries_prop rows (entries_in map)) (Prim.hlevel props)

base_prop : (b : Bases) (id : ℕ) (file : FileRecord) → IsProp (BaseHolds b id file)
base_prop b id file = Prim.hlevel (props, map_prop b.rows file.covers (chunk b file.map_row))

pub maps_prop : (i : Inside) → IsProp (MapsHold i)
maps_prop i = each_prop (BaseHolds i.bases) (base_prop i.bases) i.files
