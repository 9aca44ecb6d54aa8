use Rattle.std.proofs.Common.{length, ◌-◌, ◌≤◌}
use Rattle.meta_log.specs.Reading.{IsReadTo}
use Rattle.meta_log.proofs.half.take_groups.Given as goal

abbrev pub invariant-loop-map : goal.invariant-loop-map
invariant-loop-map l = record {
  within : l.place ≤ length l.half;
  so : IsReadTo l.fn.from l.half l.fn.map → IsReadTo l.place l.half l.map;
}

abbrev pub decreases-loop-map : goal.decreases-loop-map
decreases-loop-map l = length l.half - l.place
