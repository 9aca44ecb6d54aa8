-- A change of the journal's map, as one of all tables.
use Rattle.std.specs.Prelude.{◌≡◌, ℕ, not, List, Option, T}
use Rattle.std.specs.Ordering.{nat_cmp}
use Rattle.std.specs.FinMap.Entries.{is_sorted}
use Rattle.byte_map.specs.Words.{Map, bytes_cmp}
use Rattle.table_records.specs.Keys.{pair_cmp}
use Rattle.table_records.specs.Tables.{volume_codec, name_codec, file_codec, extent_codec, settings_codec, result_codec}
use Rattle.table_records.specs.Tables.{row_codec, place_codec, container_codec, cluster_codec}
use Rattle.table_records.specs.Changes.{IsPut, IsDropped, is_in_range, put_here, dropped_here}
use Rattle.table_records.specs.declared.jobs.JobKind.{JobKind}
use Rattle.table_records.specs.declared.records.VolumeRecord.{VolumeRecord}
use Rattle.table_records.specs.declared.records.FileRecord.{FileRecord}
use Rattle.table_records.specs.declared.records.Extent.{Extent}
use Rattle.table_records.specs.declared.chunk_records.Row.{Row}
use Rattle.table_records.specs.declared.chunk_records.Place.{Place}
use Rattle.table_records.specs.declared.chunk_records.Container.{Container}
use Rattle.table_records.specs.declared.records.ResultRecord.{ResultRecord}
use Rattle.table_records.specs.declared.settings.Settings.{Settings}
use Rattle.volume_inside.specs.ChunkTables.{ChunkTables, CopyKey, PageKey}
use Rattle.volume_inside.specs.Typed.{FileBlock, Typed, typed_of}
use Rattle.volume_inside.specs.Changes.{with_volume, with_name, with_file, with_extent, with_settings, with_result}
use Rattle.volume_inside.specs.Changes.{with_row, with_place, with_container, with_cluster}
use Rattle.volume_inside.specs.Changes.{keep_names, keep_files, keep_extents, keep_rows, keep_places, keep_containers}
use Rattle.volume_inside.specs.Changes.{keep_clusters}
use Rattle.volume_inside.proofs.Others.{put_others, dropped_others}

abbrev pub chunks_of : Typed → ChunkTables
chunks_of t = t.chunks

abbrev pub with_chunks : Typed → ChunkTables → Typed
with_chunks t chunks = record t { chunks = chunks }

module _ (m n : Map) (sorted : T (is_sorted bytes_cmp m)) where
  pub volume_put : (v : VolumeRecord) → IsPut volume_codec tt v m n → typed_of n ≡ with_volume v (typed_of m)
  volume_put v p = λ i. record (put_others volume_codec tt v m n p i) { volume = put_here volume_codec tt v m n sorted p i }

  pub name_put : (k : List ℕ) (v : ℕ) → IsPut name_codec k v m n → typed_of n ≡ with_name k v (typed_of m)
  name_put k v p = λ i. record (put_others name_codec k v m n p i) { names = put_here name_codec k v m n sorted p i }

  pub file_put : (k : ℕ) (v : FileRecord) → IsPut file_codec k v m n → typed_of n ≡ with_file k v (typed_of m)
  file_put k v p = λ i. record (put_others file_codec k v m n p i) { files = put_here file_codec k v m n sorted p i }

  pub extent_put : (k : FileBlock) (v : Extent) → IsPut extent_codec k v m n → typed_of n ≡ with_extent k v (typed_of m)
  extent_put k v p = λ i. record (put_others extent_codec k v m n p i) { extents = put_here extent_codec k v m n sorted p i }

  pub row_put : (k : ℕ) (v : Row) → IsPut row_codec k v m n → typed_of n ≡ with_row k v (typed_of m)
  row_put k v p = λ i. with_chunks (put_others row_codec k v m n p i)
      (record (chunks_of (put_others row_codec k v m n p i)) { rows = put_here row_codec k v m n sorted p i })

  pub place_put : (k : CopyKey) (v : Place) → IsPut place_codec k v m n → typed_of n ≡ with_place k v (typed_of m)
  place_put k v p = λ i. with_chunks (put_others place_codec k v m n p i)
      (record (chunks_of (put_others place_codec k v m n p i)) { places = put_here place_codec k v m n sorted p i })

  pub container_put : (k : ℕ) (v : Container) → IsPut container_codec k v m n → typed_of n ≡ with_container k v (typed_of m)
  container_put k v p = λ i. with_chunks (put_others container_codec k v m n p i)
      (record (chunks_of (put_others container_codec k v m n p i)) { containers = put_here container_codec k v m n sorted p i })

  pub cluster_put : (k : PageKey) (v : ℕ) → IsPut cluster_codec k v m n → typed_of n ≡ with_cluster k v (typed_of m)
  cluster_put k v p = λ i. with_chunks (put_others cluster_codec k v m n p i)
      (record (chunks_of (put_others cluster_codec k v m n p i)) { clusters = put_here cluster_codec k v m n sorted p i })

  pub settings_put : (v : Settings) → IsPut settings_codec tt v m n → typed_of n ≡ with_settings v (typed_of m)
  settings_put v p = λ i. record (put_others settings_codec tt v m n p i) { settings = put_here settings_codec tt v m n sorted p i }

  pub result_put : (k : JobKind) (v : ResultRecord) → IsPut result_codec k v m n → typed_of n ≡ with_result k v (typed_of m)
  result_put k v p = λ i. record (put_others result_codec k v m n p i) { results = put_here result_codec k v m n sorted p i }

module _ (m n : Map) where
  pub names_dropped : (from : List ℕ) (to : Option (List ℕ)) → IsDropped name_codec from to m n
      → typed_of n ≡ keep_names (λ k. not (is_in_range bytes_cmp from to k)) (typed_of m)
  names_dropped from to p =
      λ i. record (dropped_others name_codec from to m n p i) { names = dropped_here name_codec from to m n p i }

  pub files_dropped : (from : ℕ) (to : Option ℕ) → IsDropped file_codec from to m n
      → typed_of n ≡ keep_files (λ k. not (is_in_range nat_cmp from to k)) (typed_of m)
  files_dropped from to p =
      λ i. record (dropped_others file_codec from to m n p i) { files = dropped_here file_codec from to m n p i }

  pub extents_dropped : (from : FileBlock) (to : Option FileBlock) → IsDropped extent_codec from to m n
      → typed_of n ≡ keep_extents (λ k. not (is_in_range pair_cmp from to k)) (typed_of m)
  extents_dropped from to p =
      λ i. record (dropped_others extent_codec from to m n p i) { extents = dropped_here extent_codec from to m n p i }

  pub rows_dropped : (from : ℕ) (to : Option ℕ) → IsDropped row_codec from to m n
      → typed_of n ≡ keep_rows (λ k. not (is_in_range nat_cmp from to k)) (typed_of m)
  rows_dropped from to p = λ i. with_chunks (dropped_others row_codec from to m n p i)
      (record (chunks_of (dropped_others row_codec from to m n p i)) { rows = dropped_here row_codec from to m n p i })

  pub places_dropped : (from : CopyKey) (to : Option CopyKey) → IsDropped place_codec from to m n
      → typed_of n ≡ keep_places (λ k. not (is_in_range pair_cmp from to k)) (typed_of m)
  places_dropped from to p = λ i. with_chunks (dropped_others place_codec from to m n p i)
      (record (chunks_of (dropped_others place_codec from to m n p i)) { places = dropped_here place_codec from to m n p i })

  pub containers_dropped : (from : ℕ) (to : Option ℕ) → IsDropped container_codec from to m n
      → typed_of n ≡ keep_containers (λ k. not (is_in_range nat_cmp from to k)) (typed_of m)
  containers_dropped from to p = λ i. with_chunks (dropped_others container_codec from to m n p i)
      (record (chunks_of (dropped_others container_codec from to m n p i)) { containers = dropped_here container_codec from to m n p i })

  pub clusters_dropped : (from : PageKey) (to : Option PageKey) → IsDropped cluster_codec from to m n
      → typed_of n ≡ keep_clusters (λ k. not (is_in_range pair_cmp from to k)) (typed_of m)
  clusters_dropped from to p = λ i. with_chunks (dropped_others cluster_codec from to m n p i)
      (record (chunks_of (dropped_others cluster_codec from to m n p i)) { clusters = dropped_here cluster_codec from to m n p i })
