use Rattle.std.specs.Prelude.{ℕ}
use Rattle.table_records.specs.Tables.{cluster_codec}
use Rattle.volume_inside.specs.ChunkTables.{PageKey}
use Rattle.volume_inside.specs.Layout.{IsDataCluster}
use Rattle.volume_inside.specs.Typed.{typed_of}
use Rattle.table_rules.proofs.Eaches.{each_of_pairs, pairs_of_each}
use Rattle.table_rules.proofs.Marking.{data_of_each, each_of_data}
use Rattle.table_rules.proofs.chunks.pages_are_data.Goals as goal

pub returns : goal.returns
returns c =
    let m = c.args.map.now in
    let n = c.args.clusters in
    let pages = (typed_of m).chunks.clusters in
    let P : PageKey → ℕ → Type 0 = λ key cluster. IsDataCluster n cluster in (
      λ e. data_of_each n pages (each_of_pairs cluster_codec P m (c.each.ensures.0 e)),
      λ all. c.each.ensures.1 (pairs_of_each cluster_codec P m (each_of_data n pages all)),
    )
