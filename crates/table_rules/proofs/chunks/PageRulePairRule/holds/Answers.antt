use Rattle.std.proofs.Common.{sym, refl}
use Rattle.table_records.specs.Tables.{cluster_codec}
use Rattle.table_records.specs.Values.{cluster_in}
use Rattle.volume_inside.specs.ChunkRules.{ClusterHolds}
use Rattle.volume_inside.specs.Typed.{typed_of}
use Rattle.table_rules.proofs.Eaches.{entry_meets}
use Rattle.table_rules.proofs.chunks.PageRulePairRule.holds.Goals as goal

pub returns-in-Some : goal.returns-in-Some
returns-in-Some c =
    let containers = (typed_of c.args.self.now.map.now).chunks.containers in
    let cluster = cluster_in c.args._value.now in
    entry_meets cluster_codec (ClusterHolds containers) c.args.key.now c.args._value.now c.read_key.result c.in-Some.key
    cluster c.page_holds.result c.read_key.ensures c.in-Some.is refl
    (c.page_holds.ensures containers c.in-Some.key.0 cluster (sym c.get.ensures))
