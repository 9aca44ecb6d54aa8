use Rattle.table_records.specs.Tables.{volume_codec, name_codec, file_codec, extent_codec, row_codec, place_codec, container_codec, cluster_codec, settings_codec, result_codec}
use Rattle.table_records.proofs.Belongs.{belongs, volume_is_table, name_is_table, file_is_table, extent_is_table, row_is_table, place_is_table, container_is_table, cluster_is_table, settings_are_table, result_is_table}
use Rattle.table_records.proofs.laws.pairs_belong_by_their_numbers.Goals as goal

pub returns-clause-volume : goal.returns-clause-volume
returns-clause-volume c = belongs volume_codec volume_is_table

pub returns-clause-names : goal.returns-clause-names
returns-clause-names c = belongs name_codec name_is_table

pub returns-clause-files : goal.returns-clause-files
returns-clause-files c = belongs file_codec file_is_table

pub returns-clause-extents : goal.returns-clause-extents
returns-clause-extents c = belongs extent_codec extent_is_table

pub returns-clause-settings : goal.returns-clause-settings
returns-clause-settings c = belongs settings_codec settings_are_table

pub returns-clause-results : goal.returns-clause-results
returns-clause-results c = belongs result_codec result_is_table

pub returns-clause-rows : goal.returns-clause-rows
returns-clause-rows c = belongs row_codec row_is_table

pub returns-clause-places : goal.returns-clause-places
returns-clause-places c = belongs place_codec place_is_table

pub returns-clause-containers : goal.returns-clause-containers
returns-clause-containers c = belongs container_codec container_is_table

pub returns-clause-clusters : goal.returns-clause-clusters
returns-clause-clusters c = belongs cluster_codec cluster_is_table
