use Rattle.std.proofs.Common.{◌∙◌, ℕ, List, ◌∷◌, ap, subst, sym}
use Rattle.std.specs.Prelude.{Option}
use Rattle.cluster_space.specs.declared.state.State.{State}
use Rattle.table_records.specs.Codecs.{typed}
use Rattle.table_records.specs.Tables.{cluster_codec}
use Rattle.volume_inside.specs.ChunkTables.{PageKey}
use Rattle.volume_inside.specs.Pages.{page_clusters}
use Rattle.volume_tables.specs.Clusters.{each_deferred}
use Rattle.volume_tables.specs.Dropped.{entries_above, entries_left, AreUsed}
use Rattle.volume_tables.specs.Log.{log_now}
use Rattle.volume_tables.proofs.Deferring.{later_used}
use Rattle.volume_tables.proofs.raw_pages.defer_pages.Goals as goal

pub loop-next-preserved : goal.loop-next-preserved
loop-next-preserved g c =
    let es = typed cluster_codec (log_now c.args.log.now) in
    let used : AreUsed c.args.first c.loop-next.space (page_clusters
    ((c.in-Some.key, c.in-Some.cluster) ∷ entries_above c.in-Some.key c.args.to
    (typed cluster_codec (log_now c.args.log.now)))) =
    subst (λ (o : Option (PageKey × ℕ)). AreUsed c.args.first c.loop-next.space (page_clusters
    (entries_left o c.args.to (typed cluster_codec (log_now c.args.log.now))))) c.in-Some.is
    c.loop-next.invariant.used in
    let left = c.next_in_range-next.ensures in
    let space = c.defer.ensures in
    record {
      used = subst (λ (p : List State × List (PageKey × ℕ)). AreUsed c.args.first p.0 (page_clusters p.1))
          (λ i. (sym space i, sym left i))
          (later_used c.args.first c.loop-next.space c.in-Some.cluster
          (page_clusters (entries_above c.in-Some.key c.args.to es)) used);
      same = (λ i. each_deferred c.args.first (page_clusters (left i)) (space i))
          ∙ ap (λ (o : Option (PageKey × ℕ)). each_deferred c.args.first (page_clusters
          (entries_left o c.args.to (typed cluster_codec (log_now c.args.log.now)))) c.loop-next.space)
          (sym c.in-Some.is)
          ∙ c.loop-next.invariant.same;
    }
