use Rattle.table_records.specs.Tables.{volume_codec, name_codec, file_codec, extent_codec, row_codec, place_codec, container_codec, cluster_codec, settings_codec, result_codec}
use Rattle.table_records.proofs.Belongs.{keyed_by_numbers, volume_is_table, name_is_table, file_is_table, extent_is_table, row_is_table, place_is_table, container_is_table, cluster_is_table, settings_are_table, result_is_table}
use Rattle.table_records.proofs.laws.well_formed_maps_are_keyed.Goals as goal

pub returns-clause-volume : goal.returns-clause-volume
returns-clause-volume c = keyed_by_numbers volume_codec volume_is_table

pub returns-clause-names : goal.returns-clause-names
returns-clause-names c = keyed_by_numbers name_codec name_is_table

pub returns-clause-files : goal.returns-clause-files
returns-clause-files c = keyed_by_numbers file_codec file_is_table

pub returns-clause-extents : goal.returns-clause-extents
returns-clause-extents c = keyed_by_numbers extent_codec extent_is_table

pub returns-clause-settings : goal.returns-clause-settings
returns-clause-settings c = keyed_by_numbers settings_codec settings_are_table

pub returns-clause-results : goal.returns-clause-results
returns-clause-results c = keyed_by_numbers result_codec result_is_table

pub returns-clause-rows : goal.returns-clause-rows
returns-clause-rows c = keyed_by_numbers row_codec row_is_table

pub returns-clause-places : goal.returns-clause-places
returns-clause-places c = keyed_by_numbers place_codec place_is_table

pub returns-clause-containers : goal.returns-clause-containers
returns-clause-containers c = keyed_by_numbers container_codec container_is_table

pub returns-clause-clusters : goal.returns-clause-clusters
returns-clause-clusters c = keyed_by_numbers cluster_codec cluster_is_table
