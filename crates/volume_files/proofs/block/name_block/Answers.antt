use Rattle.std.proofs.Common.{ℕ, ◌+◌, List, sym, ◌∙◌, ap, subst}
use Rattle.std.specs.Prelude.{Option}
use Rattle.std.specs.FinMap.{find}
use Rattle.cluster_space.specs.declared.state.State.{State}
use Rattle.cluster_space.specs.declared.state.State.TheVariants.{Deferred, Free}
use Rattle.cluster_space.specs.States.{free_in}
use Rattle.table_records.specs.Keys.{pair_cmp}
use Rattle.table_records.specs.declared.records.Extent.{Extent}
use Rattle.volume_inside.specs.Typed.{Typed, FileBlock}
use Rattle.volume_inside.specs.Changes.{with_extent}
use Rattle.volume_tables.specs.Clusters.{HasState, with_replaced, used_at}
use Rattle.volume_tables.specs.Tables.{tables_now}
use Rattle.volume_tables.proofs.Leaving.{leaves_then}
use Rattle.volume_files.proofs.Setting.{sorted_now, held_now, replaced_from, refused_from}
use Rattle.volume_files.proofs.Taking.{told, replaced_free, replaced_others, replaced_told, replaced_deferred, refused_told}
use Rattle.volume_files.proofs.block.name_block.Goals as goal

pub returns-in_err-set_extent-clause-leaves : goal.returns-in_err-set_extent-clause-leaves
returns-in_err-set_extent-clause-leaves g c =
    leaves_then g.met.D.Disk.same_next c.args.tables.now c.take_free.new.self c.set_extent.new.self
    c.take_free.ensures.leaves c.set_extent.ensures.leaves

pub returns-in_err-set_extent-clause-loses_none : goal.returns-in_err-set_extent-clause-loses_none
returns-in_err-set_extent-clause-loses_none g c runs =
    let t = c.args.tables.now in
    let u = c.take_free.new.self in
    let k : FileBlock = (c.args.key.0, c.args.key.1) in
    let w = c.take_free.ensures in
    let states = c.in_err-set_extent.ensures.refused ∙ refused_from t u k c.args.cluster
    c.take_free.ensures.leaves.clusters c.take_free.ensures.now w.used in
    (λ i. told (states i) ((c.in_err-set_extent.ensures.err ∙ c.take_free.ensures.now) i))
    ∙ refused_told t.clusters t.space (tables_now t) (held_now t) t.spaces (sorted_now t) k c.args.cluster
    c.requires.some (find pair_cmp k (tables_now t).extents) (λ i. find pair_cmp k (tables_now t).extents)

pub returns-clause-leaves : goal.returns-clause-leaves
returns-clause-leaves g c =
    leaves_then g.met.D.Disk.same_next c.args.tables.now c.take_free.new.self c.set_extent.new.self
    c.take_free.ensures.leaves c.set_extent.ensures.leaves

pub returns-clause-replaced : goal.returns-clause-replaced
returns-clause-replaced g c o found =
    let t = c.args.tables.now in
    let u = c.take_free.new.self in
    let s = c.set_extent.new.self in
    let k : FileBlock = (c.args.key.0, c.args.key.1) in
    let w = c.take_free.ensures in
    let states = c.in_ok-set_extent.ensures.replaced ∙ replaced_from t u k c.args.cluster
    c.take_free.ensures.leaves.clusters c.take_free.ensures.now w.used
    ∙ ap (λ (was : Option Extent). with_replaced t.clusters was c.args.cluster
    (used_at t.clusters c.args.cluster t.space)) found in
    let clusters = c.set_extent.ensures.leaves.clusters ∙ c.take_free.ensures.leaves.clusters in
    subst (λ (p : ℕ × List State). HasState p.0 p.1 Deferred o.cluster) (λ i. (sym clusters i, sym states i))
    (replaced_deferred t.clusters t.space (tables_now t) (held_now t) t.spaces (sorted_now t) k
    c.args.cluster c.requires.some o found)

pub returns-clause-free : goal.returns-clause-free
returns-clause-free g c =
    let t = c.args.tables.now in
    let u = c.take_free.new.self in
    let k : FileBlock = (c.args.key.0, c.args.key.1) in
    let w = c.take_free.ensures in
    let states = c.in_ok-set_extent.ensures.replaced ∙ replaced_from t u k c.args.cluster
    c.take_free.ensures.leaves.clusters c.take_free.ensures.now w.used in
    (λ i. free_in (states i) + 1)
    ∙ replaced_free t.clusters t.space (tables_now t) (held_now t) t.spaces (sorted_now t) k c.args.cluster
    c.requires.some (find pair_cmp k (tables_now t).extents) (λ i. find pair_cmp k (tables_now t).extents)

pub returns-clause-loses_none : goal.returns-clause-loses_none
returns-clause-loses_none g c runs =
    let t = c.args.tables.now in
    let u = c.take_free.new.self in
    let k : FileBlock = (c.args.key.0, c.args.key.1) in
    let e : Extent = record { cluster = c.args.cluster; valid = c.args.valid } in
    let w = c.take_free.ensures in
    let states = c.in_ok-set_extent.ensures.replaced ∙ replaced_from t u k c.args.cluster
    c.take_free.ensures.leaves.clusters c.take_free.ensures.now w.used in
    let tables = c.in_ok-set_extent.ensures.ok ∙ ap (λ (q : Typed). with_extent k e q) c.take_free.ensures.now in
    (λ i. told (states i) (tables i))
    ∙ replaced_told t.clusters t.space (tables_now t) (held_now t) t.spaces (sorted_now t) k c.args.cluster
    c.requires.some e (find pair_cmp k (tables_now t).extents) (λ i. find pair_cmp k (tables_now t).extents)

pub returns-clause-others : goal.returns-clause-others
returns-clause-others g c x differ has =
    let t = c.args.tables.now in
    let u = c.take_free.new.self in
    let k : FileBlock = (c.args.key.0, c.args.key.1) in
    let w = c.take_free.ensures in
    let states = c.in_ok-set_extent.ensures.replaced ∙ replaced_from t u k c.args.cluster w.leaves.clusters w.now w.used in
    let clusters = c.set_extent.ensures.leaves.clusters ∙ w.leaves.clusters in
    subst (λ (p : ℕ × List State). HasState p.0 p.1 Free x) (λ i. (sym clusters i, sym states i))
    (replaced_others t.clusters t.space (tables_now t) (held_now t) t.spaces (sorted_now t) k c.args.cluster
    c.requires.some x differ has (find pair_cmp k (tables_now t).extents)
    (λ i. find pair_cmp k (tables_now t).extents))
