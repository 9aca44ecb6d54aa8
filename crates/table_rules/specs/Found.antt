-- The records that each volume has, as they were found in its tables.
use Rattle.std.specs.Prelude.{◌≡◌, ℕ, Some}
use Rattle.std.specs.FinMap.{find}
use Rattle.table_records.specs.Keys.{single_cmp, kind_cmp}
use Rattle.table_records.specs.declared.jobs.JobKind.{JobKind}
use Rattle.table_records.specs.declared.jobs.JobKind.TheVariants.{Optimization, GarbageCollection, Scrubbing, Unoptimization}
use Rattle.table_records.specs.declared.records.VolumeRecord.{VolumeRecord}
use Rattle.table_records.specs.declared.records.ResultRecord.{ResultRecord}
use Rattle.volume_inside.specs.Typed.{Typed}
use Rattle.table_rules.specs.declared.records.LastResults.{LastResults}
use Rattle.table_rules.specs.declared.records.Records.{Records}

-- the record of a volume with this next id
abbrev pub volume_record : ℕ → VolumeRecord
volume_record next_id = record { version = 1; next_id = next_id }

-- the result of a kind
abbrev pub result_of : JobKind → LastResults → ResultRecord
result_of Optimization r = r.optimization
result_of GarbageCollection r = r.garbage_collection
result_of Scrubbing r = r.scrubbing
result_of Unoptimization r = r.unoptimization

-- the results once that of a kind is this one
abbrev pub with_result_of : JobKind → ResultRecord → LastResults → LastResults
with_result_of Optimization end r = record r { optimization = end }
with_result_of GarbageCollection end r = record r { garbage_collection = end }
with_result_of Scrubbing end r = record r { scrubbing = end }
with_result_of Unoptimization end r = record r { unoptimization = end }

-- the tables have these records
pub record AreRecordsOf (t : Typed) (r : Records) : Type 0 where
  pub volume : find single_cmp tt t.volume ≡ Some (volume_record r.next_id)
  pub settings : find single_cmp tt t.settings ≡ Some r.settings
  pub results : (kind : JobKind) → find kind_cmp kind t.results ≡ Some (result_of kind r.results)
