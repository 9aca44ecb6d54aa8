use Rattle.std.proofs.Common.{◌≡◌, length}
use Rattle.table_records.specs.Codecs.{typed}
use Rattle.table_records.specs.Tables.{extent_codec}
use Rattle.volume_tables.specs.Clusters.{all_deferred}
use Rattle.volume_tables.specs.Dropped.{extents_in, extents_left, AreUsedOnce}
use Rattle.volume_tables.specs.Log.{log_now}
use Rattle.volume_tables.proofs.raw_extents.defer_range.Given as goal

-- the clusters of the extents that are left are used, and are deferred at the end
abbrev pub invariant-loop-next : goal.invariant-loop-next
invariant-loop-next g l =
    let es = typed extent_codec (log_now l.log) in
    record {
      used : AreUsedOnce l.first l.space (extents_left l.next l.to es);
      same : all_deferred l.first (extents_left l.next l.to es) l.space ≡ all_deferred l.first
          (extents_in l.fn.from l.to es) l.fn.space;
    }

abbrev pub decreases-loop-next : goal.decreases-loop-next
decreases-loop-next g l = length (extents_left l.next l.to (typed extent_codec (log_now l.log)))
