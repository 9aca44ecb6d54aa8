use Rattle.std.proofs.Common.{ℕ, sym, ◌∙◌, subst}
use Rattle.std.specs.Prelude.{◌↔◌, IsTrue}
use Rattle.std.proofs.lemmas.Bool.{false≢true}
use Rattle.table_records.specs.Tables.{container_codec}
use Rattle.volume_inside.specs.ChunkRules.{ContainerHolds, ContainersHold}
use Rattle.volume_inside.specs.Typed.{typed_of}
use Rattle.table_rules.proofs.Eaches.{each_of_pairs, pairs_of_each}
use Rattle.table_rules.proofs.chunks.containers_hold.Goals as goal

pub returns-then-each : goal.returns-then-each
returns-then-each c =
    let m = c.args.map.now in
    let t = typed_of m in
    let P = ContainerHolds c.args.next_id t.chunks.clusters in
    subst (λ (next : ℕ). IsTrue c.pages_hold.result ↔ ContainersHold c.args.clusters next t.chunks) (sym c.requires) (
      λ e. let pages = c.pages_hold.ensures.0 e in record {
        containers = each_of_pairs container_codec P m (c.each.ensures.0 c.if-each.true);
        clusters = pages.0;
        in_data = pages.1;
      },
      λ all. c.pages_hold.ensures.1 (all.clusters, all.in_data),
    )

pub returns-else-each : goal.returns-else-each
returns-else-each c =
    let m = c.args.map.now in
    let t = typed_of m in
    let P = ContainerHolds c.args.next_id t.chunks.clusters in
    subst (λ (next : ℕ). IsTrue c.each.result ↔ ContainersHold c.args.clusters next t.chunks) (sym c.requires)
    (λ e. absurd (false≢true (sym c.if-each.false ∙ e)), λ all. c.each.ensures.1 (pairs_of_each container_codec P m all.containers))
