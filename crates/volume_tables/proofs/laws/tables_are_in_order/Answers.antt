use Rattle.table_records.specs.Next.{sorted_typed}
use Rattle.table_records.specs.Tables.{name_codec, file_codec, extent_codec, row_codec, place_codec, container_codec}
use Rattle.table_records.specs.Tables.{cluster_codec}
use Rattle.volume_tables.specs.Log.{log_now}
use Rattle.volume_tables.proofs.Answers.{as_true}
use Rattle.volume_tables.proofs.laws.tables_are_in_order.Goals as goal

pub returns-clause-names : goal.returns-clause-names
returns-clause-names g c = sorted_typed name_codec (log_now c.args.tables.now.log)
    (as_true c.args.tables.now.contents.sorted)

pub returns-clause-files : goal.returns-clause-files
returns-clause-files g c = sorted_typed file_codec (log_now c.args.tables.now.log)
    (as_true c.args.tables.now.contents.sorted)

pub returns-clause-extents : goal.returns-clause-extents
returns-clause-extents g c = sorted_typed extent_codec (log_now c.args.tables.now.log)
    (as_true c.args.tables.now.contents.sorted)

pub returns-clause-rows : goal.returns-clause-rows
returns-clause-rows g c = sorted_typed row_codec (log_now c.args.tables.now.log)
    (as_true c.args.tables.now.contents.sorted)

pub returns-clause-places : goal.returns-clause-places
returns-clause-places g c = sorted_typed place_codec (log_now c.args.tables.now.log)
    (as_true c.args.tables.now.contents.sorted)

pub returns-clause-containers : goal.returns-clause-containers
returns-clause-containers g c = sorted_typed container_codec (log_now c.args.tables.now.log)
    (as_true c.args.tables.now.contents.sorted)

pub returns-clause-pages : goal.returns-clause-pages
returns-clause-pages g c = sorted_typed cluster_codec (log_now c.args.tables.now.log)
    (as_true c.args.tables.now.contents.sorted)
