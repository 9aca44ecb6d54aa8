use Rattle.std.proofs.Common.{◌≡◌, ◌≢◌, ℕ, ◌+◌, ◌-◌, List, sym, ◌∙◌, ap, subst, inr, refl, arith}
use Rattle.std.specs.Prelude.{Option, Some, IsSome}
use Rattle.std.specs.FinMap.{find}
use Rattle.cluster_space.specs.declared.state.State.{State}
use Rattle.cluster_space.specs.declared.state.State.TheVariants.{Deferred}
use Rattle.cluster_space.specs.States.{IsIn}
use Rattle.table_records.specs.Keys.{pair_cmp}
use Rattle.table_records.specs.declared.records.Extent.{Extent}
use Rattle.volume_inside.specs.Layout.{first_data_cluster}
use Rattle.volume_inside.specs.Lists.{IsOut}
use Rattle.volume_inside.specs.Named.{clusters_of}
use Rattle.volume_inside.specs.Typed.{Typed, FileBlock}
use Rattle.volume_inside.specs.Changes.{with_extent, keep_extents}
use Rattle.volume_tables.specs.Clusters.{all_deferred, with_replaced, used_at}
use Rattle.volume_tables.specs.Tables.{tables_now, states_of}
use Rattle.volume_files.proofs.Extents.{is_other, put_back, drop_back, range_is_one}
use Rattle.volume_files.proofs.Setting.{sorted_now, held_now, on_ok_there}
use Rattle.volume_files.proofs.Taking.{told, dropped_told, dropped_deferred, back_told, back_deferred}
use Rattle.volume_files.proofs.blocks.restore_extent.Goals as goal

-- what a key has is something
is_there : (o : Option Extent) (e : Extent) → o ≡ Some e → IsSome o
is_there o e is = subst (λ (p : Option Extent). IsSome p) (sym is) refl

pub set_extent-requires-clause-alone : goal.set_extent-requires-clause-alone
set_extent-requires-clause-alone g c =
    let t = c.args.tables.now in
    let o = c.in-Some.extent in
    let has = c.requires.deferred o c.in-Some.is in
    let place : first_data_cluster t.clusters + (o.cluster - first_data_cluster t.clusters) ≡ o.cluster = omega
    (arith, has.from_first) in
    inr (subst (λ (x : ℕ). IsOut x (clusters_of (tables_now t))) place
    (t.held.1.deferred_now (o.cluster - first_data_cluster t.clusters) has.is))

pub returns-in-None-clause-tables : goal.returns-in-None-clause-tables
returns-in-None-clause-tables g c t e sorted found set =
    let k : FileBlock = (c.args.key.0, c.args.key.1) in
    let back = drop_back k e t.extents sorted (found ∙ c.in-None.is) in
    c.drop_extent.ensures.tables ∙ ap (λ (q : Typed). keep_extents (is_other k) q) set
    ∙ (λ i. record t { extents = back i })

pub returns-in-None-clause-deferred : goal.returns-in-None-clause-deferred
returns-in-None-clause-deferred g c j is other =
    let t = c.args.tables.now in
    let k : FileBlock = (c.args.key.0, c.args.key.1) in
    let states = c.drop_extent.ensures.states ∙ (λ i. all_deferred (first_data_cluster t.clusters)
    (range_is_one k c.args.named (tables_now t).extents (sorted_now t) c.requires.there i) (states_of t)) in
    subst (λ (xs : List State). IsIn xs j Deferred) (sym states)
    (dropped_deferred t.clusters t.space (tables_now t) (held_now t) t.spaces (sorted_now t) k c.args.named c.requires.there j is)

pub returns-in-None-clause-loses_none : goal.returns-in-None-clause-loses_none
returns-in-None-clause-loses_none g c runs =
    let t = c.args.tables.now in
    let k : FileBlock = (c.args.key.0, c.args.key.1) in
    let states = c.drop_extent.ensures.states ∙ (λ i. all_deferred (first_data_cluster t.clusters)
    (range_is_one k c.args.named (tables_now t).extents (sorted_now t) c.requires.there i) (states_of t)) in
    (λ i. told (states i) (c.drop_extent.ensures.tables i)) ∙ dropped_told t.clusters t.space (tables_now t)
    (held_now t) t.spaces (sorted_now t) k c.args.named c.requires.there

pub returns-in-Some-clause-tables : goal.returns-in-Some-clause-tables
returns-in-Some-clause-tables g c t e sorted found set =
    let k : FileBlock = (c.args.key.0, c.args.key.1) in
    let o = c.in-Some.extent in
    let ok = on_ok_there c.set_extent.result (c.set_extent.ensures.set.in_place
    (is_there (find pair_cmp k (tables_now c.args.tables.now).extents) c.args.named c.requires.there))
    c.set_extent.ensures.ok in
    let back = put_back k e o t.extents sorted (found ∙ c.in-Some.is) in
    ok ∙ ap (λ (q : Typed). with_extent k o q) set ∙ (λ i. record t { extents = back i })

pub returns-in-Some-clause-deferred : goal.returns-in-Some-clause-deferred
returns-in-Some-clause-deferred g c j is other =
    let t = c.args.tables.now in
    let k : FileBlock = (c.args.key.0, c.args.key.1) in
    let o = c.in-Some.extent in
    let has = c.requires.deferred o c.in-Some.is in
    let differ : j ≢ o.cluster - first_data_cluster t.clusters = λ same. other o c.in-Some.is
    (omega (arith, same, has.from_first)) in
    let states = on_ok_there c.set_extent.result (c.set_extent.ensures.set.in_place
    (is_there (find pair_cmp k (tables_now c.args.tables.now).extents) c.args.named c.requires.there))
    c.set_extent.ensures.replaced
    ∙ ap (λ (was : Option Extent). with_replaced t.clusters was o.cluster (used_at t.clusters o.cluster t.space)) c.requires.there in
    subst (λ (xs : List State). IsIn xs j Deferred) (sym states)
    (back_deferred t.clusters t.space (tables_now t) (held_now t) t.spaces (sorted_now t) k c.args.named c.requires.there o has j is differ)

pub returns-in-Some-clause-loses_none : goal.returns-in-Some-clause-loses_none
returns-in-Some-clause-loses_none g c runs =
    let t = c.args.tables.now in
    let k : FileBlock = (c.args.key.0, c.args.key.1) in
    let o = c.in-Some.extent in
    let has = c.requires.deferred o c.in-Some.is in
    let states = on_ok_there c.set_extent.result (c.set_extent.ensures.set.in_place
    (is_there (find pair_cmp k (tables_now c.args.tables.now).extents) c.args.named c.requires.there))
    c.set_extent.ensures.replaced
    ∙ ap (λ (was : Option Extent). with_replaced t.clusters was o.cluster (used_at t.clusters o.cluster t.space)) c.requires.there in
    let ok = on_ok_there c.set_extent.result (c.set_extent.ensures.set.in_place
    (is_there (find pair_cmp k (tables_now c.args.tables.now).extents) c.args.named c.requires.there))
    c.set_extent.ensures.ok in
    (λ i. told (states i) (ok i)) ∙ back_told t.clusters t.space (tables_now t) (held_now t) t.spaces (sorted_now t)
    k c.args.named c.requires.there o has
