use Rattle.std.proofs.Common.{◌≡◌, length}
use Rattle.table_records.specs.Codecs.{typed}
use Rattle.table_records.specs.Tables.{cluster_codec}
use Rattle.volume_inside.specs.Pages.{page_clusters}
use Rattle.volume_tables.specs.Clusters.{each_deferred}
use Rattle.volume_tables.specs.Dropped.{pages_in, entries_left, AreUsed}
use Rattle.volume_tables.specs.Log.{log_now}
use Rattle.volume_tables.proofs.raw_pages.defer_pages.Given as goal

-- the clusters of the pages that are left are used, and are deferred at the end
abbrev pub invariant-loop-next : goal.invariant-loop-next
invariant-loop-next g l =
    let es = typed cluster_codec (log_now l.log) in
    record {
      used : AreUsed l.first l.space (page_clusters (entries_left l.next l.to es));
      same : each_deferred l.first (page_clusters (entries_left l.next l.to es)) l.space ≡ each_deferred l.first
          (page_clusters (pages_in l.fn.from l.to es)) l.fn.space;
    }

abbrev pub decreases-loop-next : goal.decreases-loop-next
decreases-loop-next g l = length (entries_left l.next l.to (typed cluster_codec (log_now l.log)))
