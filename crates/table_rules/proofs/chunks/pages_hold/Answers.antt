use Rattle.std.proofs.Common.{sym, ◌∙◌}
use Rattle.std.proofs.lemmas.Bool.{false≢true}
use Rattle.table_records.specs.Tables.{cluster_codec}
use Rattle.volume_inside.specs.ChunkRules.{ClusterHolds}
use Rattle.volume_inside.specs.Typed.{typed_of}
use Rattle.table_rules.proofs.Eaches.{each_of_pairs, pairs_of_each}
use Rattle.table_rules.proofs.chunks.pages_hold.Goals as goal

pub returns-then-each : goal.returns-then-each
returns-then-each c =
    let m = c.args.map.now in
    let P = ClusterHolds (typed_of m).chunks.containers in (
      λ e. (each_of_pairs cluster_codec P m (c.each.ensures.0 c.if-each.true), c.pages_are_data.ensures.0 e),
      λ all. c.pages_are_data.ensures.1 all.1,
    )

pub returns-else-each : goal.returns-else-each
returns-else-each c =
    let m = c.args.map.now in
    let P = ClusterHolds (typed_of m).chunks.containers in
    (λ e. absurd (false≢true (sym c.if-each.false ∙ e)), λ all. c.each.ensures.1 (pairs_of_each cluster_codec P m all.0))
