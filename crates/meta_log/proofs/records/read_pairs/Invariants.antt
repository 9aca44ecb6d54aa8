use Rattle.std.proofs.Common.{length, ◌-◌}
use Rattle.meta_log.proofs.ReadRecords.{IsPairsTo}
use Rattle.meta_log.proofs.records.read_pairs.Given as goal

abbrev pub invariant-loop-place : goal.invariant-loop-place
invariant-loop-place l = IsPairsTo l.body l.place l.last l.map

abbrev pub decreases-loop-place : goal.decreases-loop-place
decreases-loop-place l = length l.body - l.place
