use Rattle.std.proofs.Common.{ℕ, List, length, sym, ◌∙◌, ap, subst}
use Rattle.std.proofs.lemmas.Bool.{false≢true}
use Rattle.cluster_space.specs.declared.state.State.{State}
use Rattle.volume_inside.specs.Layout.{AreData, first_data_cluster}
use Rattle.volume_inside.specs.Named.{extent_clusters}
use Rattle.volume_inside.specs.Pages.{page_clusters}
use Rattle.volume_inside.specs.Typed.{typed_of}
use Rattle.table_rules.specs.Marks.{CanMark, marked, clusters_in, extent_in_pair}
use Rattle.table_rules.proofs.Marking.{can_mark_joined, marked_joined, length-marked, data_joined, extents_in_pairs, pages_in_pairs}
use Rattle.table_rules.proofs.clusters.mark_all.Goals as goal

pub mark_pairs-requires-clause-data : goal.mark_pairs-requires-clause-data
mark_pairs-requires-clause-data c =
    let t = typed_of c.args.map.now in
    subst (AreData c.args.clusters) (sym (extents_in_pairs c.args.map.now))
    (data_joined c.args.clusters (extent_clusters t.extents) (page_clusters t.chunks.clusters) c.requires.data).0

pub mark_pairs-requires-then-mark_pairs-clause-size : goal.mark_pairs-requires-then-mark_pairs-clause-size
mark_pairs-requires-then-mark_pairs-clause-size c =
    ap (λ (s : List State). length s) (c.mark_pairs.ensures.marked c.if-mark_pairs.true)
    ∙ length-marked (first_data_cluster c.args.clusters) (clusters_in extent_in_pair c.args.map.now) c.args.space.now
    ∙ c.requires.size

pub mark_pairs-requires-then-mark_pairs-clause-data : goal.mark_pairs-requires-then-mark_pairs-clause-data
mark_pairs-requires-then-mark_pairs-clause-data c =
    let t = typed_of c.args.map.now in
    subst (AreData c.args.clusters) (sym (pages_in_pairs c.args.map.now))
    (data_joined c.args.clusters (extent_clusters t.extents) (page_clusters t.chunks.clusters) c.requires.data).1

pub returns-then-mark_pairs-clause-free : goal.returns-then-mark_pairs-clause-free
returns-then-mark_pairs-clause-free c =
    let m = c.args.map.now in
    let first = first_data_cluster c.args.clusters in
    let xs = extent_clusters (typed_of m).extents in
    let ys = page_clusters (typed_of m).chunks.clusters in
    let s = c.args.space.now in
    let one = subst (λ (q : List ℕ). CanMark first s q) (extents_in_pairs m) (c.mark_pairs.ensures.free.0 c.if-mark_pairs.true) in
    let is = c.mark_pairs.ensures.marked c.if-mark_pairs.true ∙ ap (λ (q : List ℕ). marked first q s) (extents_in_pairs m) in
    let joined = can_mark_joined first xs ys s in
    let two = c.mark_pairs-then-mark_pairs.ensures.free in (
      λ e. joined.1 (
        one,
        subst (λ (q : List State). CanMark first q ys) is
            (subst (λ (q : List ℕ). CanMark first c.mark_pairs.new.space q) (pages_in_pairs m) (two.0 e)),
      ),
      λ can. two.1 (subst (λ (q : List ℕ). CanMark first c.mark_pairs.new.space q) (sym (pages_in_pairs m))
          (subst (λ (q : List State). CanMark first q ys) (sym is) (joined.0 can).1)),
    )

pub returns-then-mark_pairs-clause-marked : goal.returns-then-mark_pairs-clause-marked
returns-then-mark_pairs-clause-marked c = λ e.
    let m = c.args.map.now in
    let first = first_data_cluster c.args.clusters in
    let xs = extent_clusters (typed_of m).extents in
    let ys = page_clusters (typed_of m).chunks.clusters in
    let s = c.args.space.now in
    let is = c.mark_pairs.ensures.marked c.if-mark_pairs.true ∙ ap (λ (q : List ℕ). marked first q s) (extents_in_pairs m) in
    c.mark_pairs-then-mark_pairs.ensures.marked e
    ∙ ap (λ (q : List ℕ). marked first q c.mark_pairs.new.space) (pages_in_pairs m)
    ∙ ap (λ (q : List State). marked first ys q) is
    ∙ sym (marked_joined first xs ys s)

pub returns-else-mark_pairs-clause-free : goal.returns-else-mark_pairs-clause-free
returns-else-mark_pairs-clause-free c =
    let m = c.args.map.now in
    let first = first_data_cluster c.args.clusters in
    let s = c.args.space.now in
    let joined = can_mark_joined first (extent_clusters (typed_of m).extents) (page_clusters (typed_of m).chunks.clusters) s in (
      λ e. absurd (false≢true (sym c.if-mark_pairs.false ∙ e)),
      λ can. c.mark_pairs.ensures.free.1 (subst (λ (q : List ℕ). CanMark first s q) (sym (extents_in_pairs m)) (joined.0 can).0),
    )
