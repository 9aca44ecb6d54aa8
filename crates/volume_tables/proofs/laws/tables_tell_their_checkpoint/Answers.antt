use Rattle.std.proofs.Common.{◌≡◌, List, length, ap, arith}
use Rattle.table_records.specs.Codecs.{typed}
use Rattle.table_records.specs.Tables.{result_codec}
use Rattle.table_records.specs.declared.jobs.JobKind.{JobKind}
use Rattle.table_records.specs.declared.records.VolumeRecord.{VolumeRecord}
use Rattle.table_records.specs.declared.records.ResultRecord.{ResultRecord}
use Rattle.table_records.specs.declared.settings.Settings.{Settings}
use Rattle.volume_tables.specs.Log.{log_now}
use Rattle.volume_tables.proofs.Measured.{measured}
use Rattle.volume_tables.proofs.laws.tables_tell_their_checkpoint.Goals as goal

pub returns-clause-length : goal.returns-clause-length
returns-clause-length g c =
    let t = c.args.tables.now in
    let four : length (typed result_codec (log_now t.log)) ≡ 4 =
    ap (λ (es : List (JobKind × ResultRecord)). length es) t.contents.ends_there in
    omega (arith, (measured (log_now t.log) t.contents.spelled).1, four)

pub returns-clause-volume : goal.returns-clause-volume
returns-clause-volume g c = ap (λ (es : List (Unit {0} × VolumeRecord)). length es) c.args.tables.now.contents.volume

pub returns-clause-settings : goal.returns-clause-settings
returns-clause-settings g c = ap
    (λ (es : List (Unit {0} × Settings)). length es) c.args.tables.now.contents.settings_there
