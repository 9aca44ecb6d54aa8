use Rattle.std.proofs.Common.{◌≡◌, ◌+◌, length}
use Rattle.table_records.specs.Codecs.{typed}
use Rattle.table_records.specs.Tables.{name_codec}
use Rattle.volume_tables.specs.Log.{log_now}
use Rattle.volume_tables.proofs.raw_names.count_names.Given as goal

-- the names so far, and those that are left
abbrev pub invariant-loop-key : goal.invariant-loop-key
invariant-loop-key g l = l.count + length (typed name_codec l.walk) ≡ length (typed name_codec (log_now l.log))

abbrev pub decreases-loop-key : goal.decreases-loop-key
decreases-loop-key g l = length l.walk
