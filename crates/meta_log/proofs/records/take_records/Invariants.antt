use Rattle.std.proofs.Common.{length, ◌-◌}
use Rattle.meta_log.proofs.ReadRecords.{IsChangedTo}
use Rattle.meta_log.proofs.records.take_records.Given as goal

abbrev pub invariant-loop-place : goal.invariant-loop-place
invariant-loop-place l = IsChangedTo l.body l.fn.map l.place l.map

abbrev pub decreases-loop-place : goal.decreases-loop-place
decreases-loop-place l = length l.body - l.place
