-- What look-ups in the journal's map rest on.
use Rattle.std.specs.Prelude.{ℕ}
use Rattle.byte_map.specs.Words.{Map}
use Rattle.table_records.specs.Codecs.{Codec, IsKeyed}
use Rattle.table_records.specs.Tables.{name_codec, file_codec, extent_codec, row_codec, place_codec, container_codec}
use Rattle.table_records.specs.Tables.{cluster_codec, IsTable}
use Rattle.table_records.proofs.Belongs.{keyed_by_numbers, name_is_table, file_is_table, extent_is_table}
use Rattle.table_records.proofs.Belongs.{row_is_table, place_is_table, container_is_table, cluster_is_table}
use Rattle.table_records.specs.declared.settings.Settings.{Settings}
use Rattle.volume_tables.specs.declared.ends.JobEnds.{JobEnds}
use Rattle.volume_tables.specs.Contents.{SortedAnd, HasContents}
use Rattle.volume_tables.proofs.Answers.{as_true}
use Rattle.volume_tables.proofs.Keyed.{all_of_test}

module _ {m : Map} {id : ℕ} {settings : Settings} {ends : JobEnds} (has : HasContents m id settings ends) where
  -- of any table
  pub table_ready : {K V : Type 0} (c : Codec K V) → IsTable c → SortedAnd (IsKeyed c) m
  table_ready c table = record {
    sorted = as_true has.sorted;
    has = keyed_by_numbers c table m (all_of_test m has.spelled);
  }

  pub names_ready : SortedAnd (IsKeyed name_codec) m
  names_ready = table_ready name_codec name_is_table

  pub files_ready : SortedAnd (IsKeyed file_codec) m
  files_ready = table_ready file_codec file_is_table

  pub extents_ready : SortedAnd (IsKeyed extent_codec) m
  extents_ready = table_ready extent_codec extent_is_table

  pub rows_ready : SortedAnd (IsKeyed row_codec) m
  rows_ready = table_ready row_codec row_is_table

  pub places_ready : SortedAnd (IsKeyed place_codec) m
  places_ready = table_ready place_codec place_is_table

  pub containers_ready : SortedAnd (IsKeyed container_codec) m
  containers_ready = table_ready container_codec container_is_table

  pub clusters_ready : SortedAnd (IsKeyed cluster_codec) m
  clusters_ready = table_ready cluster_codec cluster_is_table
