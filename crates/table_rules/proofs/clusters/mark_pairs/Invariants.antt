use Rattle.std.proofs.Common.{◌≡◌, length}
use Rattle.std.specs.Prelude.{◌↔◌}
use Rattle.volume_inside.specs.Layout.{AreData, first_data_cluster, data_clusters}
use Rattle.table_rules.specs.Marks.{clusters_in, CanMark, marked}
use Rattle.table_rules.proofs.clusters.mark_pairs.Given as goal

-- the clusters that are left can be marked where all could, and give the same states
abbrev pub invariant-loop-key : goal.invariant-loop-key
invariant-loop-key g l =
    let first = first_data_cluster l.clusters in
    let all = clusters_in g.P.PairClusters.clusters l.map in
    let left = clusters_in g.P.PairClusters.clusters l.walk in
    record {
      can : CanMark first l.space left ↔ CanMark first l.fn.space all;
      same : marked first left l.space ≡ marked first all l.fn.space;
      size : length l.space ≡ data_clusters l.clusters;
      are : AreData l.clusters left;
    }

abbrev pub decreases-loop-key : goal.decreases-loop-key
decreases-loop-key g l = length l.walk
