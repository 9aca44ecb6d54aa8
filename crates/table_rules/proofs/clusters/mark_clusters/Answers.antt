use Rattle.std.proofs.Common.{◌≡◌, ℕ, List, replicate, sym, ◌∙◌, ap, subst}
use Rattle.std.proofs.lemmas.Bool.{false≢true}
use Rattle.cluster_space.specs.declared.state.State.{State}
use Rattle.cluster_space.specs.declared.state.State.TheVariants.{Free}
use Rattle.volume_inside.specs.Layout.{first_data_cluster, data_clusters}
use Rattle.volume_inside.specs.Named.{clusters_of}
use Rattle.volume_inside.specs.Typed.{typed_of}
use Rattle.table_rules.specs.Marks.{CanMark, marked}
use Rattle.table_rules.proofs.Marking.{fresh_once, fresh_filled}
use Rattle.table_rules.proofs.clusters.mark_clusters.Goals as goal

pub returns-then-mark_all-clause-filled : goal.returns-then-mark_all-clause-filled
returns-then-mark_all-clause-filled c =
    let n = c.args.clusters in
    let cs = clusters_of (typed_of c.args.map.now) in
    let first = first_data_cluster n in
    let fresh : c.in_ok-space.space ≡ replicate (data_clusters n) Free =
    c.in_ok-space.ensures ∙ ap (λ (k : ℕ). replicate k Free) c.data_clusters.ensures in
    let can = subst (λ (q : List State). CanMark first q cs) fresh (c.mark_all.ensures.free.0 c.if-mark_all.true) in
    let is = c.mark_all.ensures.marked c.if-mark_all.true ∙ ap (λ (q : List State). marked first cs q) fresh in
    fresh_filled n cs c.mark_all.new.space c.requires.data can is

pub returns-then-mark_all-clause-once : goal.returns-then-mark_all-clause-once
returns-then-mark_all-clause-once c =
    let n = c.args.clusters in
    let cs = clusters_of (typed_of c.args.map.now) in
    let first = first_data_cluster n in
    let fresh : c.in_ok-space.space ≡ replicate (data_clusters n) Free =
    c.in_ok-space.ensures ∙ ap (λ (k : ℕ). replicate k Free) c.data_clusters.ensures in
    let can = subst (λ (q : List State). CanMark first q cs) fresh (c.mark_all.ensures.free.0 c.if-mark_all.true) in
    (fresh_once n cs c.requires.data).0 can

pub returns-else-mark_all-clause-twice : goal.returns-else-mark_all-clause-twice
returns-else-mark_all-clause-twice c =
    let n = c.args.clusters in
    let cs = clusters_of (typed_of c.args.map.now) in
    let first = first_data_cluster n in
    let fresh : c.in_ok-space.space ≡ replicate (data_clusters n) Free =
    c.in_ok-space.ensures ∙ ap (λ (k : ℕ). replicate k Free) c.data_clusters.ensures in
    λ once.
    let can = (fresh_once n cs c.requires.data).1 once in
    let was = c.mark_all.ensures.free.1 (subst (λ (q : List State). CanMark first q cs) (sym fresh) can) in
    false≢true (sym c.if-mark_all.false ∙ was)
