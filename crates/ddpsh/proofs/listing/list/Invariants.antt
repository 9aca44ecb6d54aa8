use Rattle.std.proofs.Common.{◌-◌}
use Rattle.volume_core.specs.Volumes.{view_now}
use Rattle.ddpsh.proofs.ListLaws.{Listed}
use Rattle.ddpsh.proofs.listing.list.Given as goal

abbrev pub invariant-loop-count : goal.invariant-loop-count
invariant-loop-count g l = Listed (view_now l.fn.volume) l.count l.last l.text.items

abbrev pub decreases-loop-count : goal.decreases-loop-count
decreases-loop-count g l = 65537 - l.count
