use Rattle.std.proofs.Common.{◌≡◌, ℕ, List, sym, ◌∙◌, ap, subst}
use Rattle.std.specs.Prelude.{Option, Some, None, IsSome, refl}
use Rattle.std.specs.FinMap.{find}
use Rattle.cluster_space.specs.declared.state.State.{State}
use Rattle.table_records.specs.Keys.{pair_cmp}
use Rattle.volume_inside.specs.Changes.{keep_clusters}
use Rattle.volume_inside.specs.ChunkTables.{PageKey}
use Rattle.volume_inside.specs.Layout.{first_data_cluster}
use Rattle.volume_inside.specs.Pages.{page_clusters}
use Rattle.volume_inside.specs.Typed.{Typed}
use Rattle.volume_tables.specs.Clusters.{each_deferred}
use Rattle.volume_tables.specs.Tables.{tables_now, states_of}
use Rattle.chunk_container.specs.Pages.{IsNoFreer}
use Rattle.chunk_container.proofs.PageKeys.{is_other, page_taken_back, range_is_one}
use Rattle.chunk_container.proofs.PageStates.{told, dropped_told, dropped_fewer, pages_sorted, held_now}
use Rattle.chunk_container.proofs.pages.take_back.Goals as goal

-- what is found, is something
found_one : (o : Option ℕ) → IsSome o → (c : ℕ) × (o ≡ Some c)
found_one None none = absurd (cc)
found_one (Some c) some = (c, refl)

pub returns-clause-tables : goal.returns-clause-tables
returns-clause-tables g c t cluster sorted none set =
    let k : PageKey = (c.args.key.0, c.args.key.1) in
    c.drop_cluster.ensures.tables ∙ ap (λ (q : Typed). keep_clusters (is_other k) q) set
    ∙ (λ i. record t { chunks = record t.chunks { clusters = page_taken_back k cluster t.chunks.clusters sorted none i } })

pub returns-clause-fewer : goal.returns-clause-fewer
returns-clause-fewer g c =
    let t = c.args.tables.now in
    let k : PageKey = (c.args.key.0, c.args.key.1) in
    let one = found_one (find pair_cmp k (tables_now t).chunks.clusters) c.requires.there in
    let states = c.drop_cluster.ensures.states ∙ (λ i. each_deferred (first_data_cluster t.clusters) (page_clusters
    (range_is_one k one.0 (tables_now t).chunks.clusters (pages_sorted t) one.1 i)) (states_of t)) in
    subst (λ (xs : List State). IsNoFreer (states_of t) xs) (sym states)
    (dropped_fewer t.clusters t.space (tables_now t) (held_now t) t.spaces (pages_sorted t) k one.0 one.1)

pub returns-clause-loses_none : goal.returns-clause-loses_none
returns-clause-loses_none g c runs =
    let t = c.args.tables.now in
    let k : PageKey = (c.args.key.0, c.args.key.1) in
    let one = found_one (find pair_cmp k (tables_now t).chunks.clusters) c.requires.there in
    let states = c.drop_cluster.ensures.states ∙ (λ i. each_deferred (first_data_cluster t.clusters) (page_clusters
    (range_is_one k one.0 (tables_now t).chunks.clusters (pages_sorted t) one.1 i)) (states_of t)) in
    (λ i. told (states i) (c.drop_cluster.ensures.tables i))
    ∙ dropped_told t.clusters t.space (tables_now t) (held_now t) t.spaces (pages_sorted t) k one.0 one.1
