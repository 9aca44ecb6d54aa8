use Rattle.std.proofs.Common.{◌≡◌, ◌∙◌, ℕ, List, ap, arith, length, refl, subst, sym}
use Rattle.std.specs.Prelude.{not}
use Rattle.cluster_space.specs.declared.state.State.{State}
use Rattle.table_records.specs.Changes.{is_in_range}
use Rattle.table_records.specs.Keys.{pair_cmp}
use Rattle.table_records.specs.Tables.{cluster_codec}
use Rattle.volume_inside.specs.Changes.{keep_clusters}
use Rattle.volume_inside.specs.Layout.{first_data_cluster}
use Rattle.volume_inside.specs.Pages.{page_clusters}
use Rattle.volume_inside.proofs.Naming.{pages_parted}
use Rattle.volume_inside.specs.Tails.{AreTailsFree}
use Rattle.volume_inside.specs.Typed.{Typed, typed_of}
use Rattle.volume_inside.proofs.TailsOn.{tails_without_pages}
use Rattle.volume_tables.specs.Clusters.{AreHeld, each_deferred}
use Rattle.volume_tables.specs.Dropped.{pages_in, AreUsed}
use Rattle.volume_tables.specs.Log.{log_now}
use Rattle.volume_tables.proofs.WellFormed.{apart}
use Rattle.volume_tables.proofs.Puts.{clusters_dropped}
use Rattle.volume_tables.proofs.Ready.{clusters_ready}
use Rattle.volume_tables.proofs.RangeEnds.{end_exact}
use Rattle.volume_tables.proofs.Sizes.{cluster_key, end_size}
use Rattle.volume_tables.proofs.Setting.{drop_contents, drop_checkpoint, drop_now, drop_image}
use Rattle.volume_tables.proofs.Leaving.{staged_leaves, IsNoFreer}
use Rattle.volume_tables.proofs.Deferring.{gone_used, held_dropped, all_no_freer, all_length}
use Rattle.volume_tables.proofs.Counts.{drop_named}
use Rattle.volume_tables.proofs.tables.Tables.drop_cluster.Goals as goal

pub defer_pages-requires-clause-keyed : goal.defer_pages-requires-clause-keyed
defer_pages-requires-clause-keyed g c = clusters_ready c.args.self.now.contents

pub defer_pages-requires-clause-used : goal.defer_pages-requires-clause-used
defer_pages-requires-clause-used g c =
    let t = c.args.self.now in
    subst (λ (n : ℕ). AreUsed n t.space
    (page_clusters (pages_in c.args.from c.args.to (typed_of (log_now t.log)).chunks.clusters)))
    (sym c.first_cluster-first.ensures.is)
    (gone_used t.clusters t.space (typed_of (log_now t.log)) t.held t.spaces _ _
    (pages_parted (typed_of (log_now t.log)) (λ k. is_in_range pair_cmp c.args.from c.args.to k)))

pub drop_range-requires : goal.drop_range-requires
drop_range-requires g c b w key ends =
    let low = cluster_key b c.args.from key in
    let high = end_size cluster_codec 13 cluster_key (omega arith) c.args.to w ends in
    omega (arith, low, high, c.requires)

pub invariant_of-self-clause-spaces : goal.invariant_of-self-clause-spaces
invariant_of-self-clause-spaces g c =
    let t = c.args.self.now in
    ap (λ (xs : List State). length xs) c.defer_pages.ensures
    ∙ all_length c.first_cluster-first.result
    (page_clusters (pages_in c.args.from c.args.to (typed_of (log_now t.log)).chunks.clusters)) t.space ∙ t.spaces

pub invariant_of-self-clause-contents : goal.invariant_of-self-clause-contents
invariant_of-self-clause-contents g c =
    drop_contents cluster_codec c.args.self.now c.drop_range.new.log c.args.from c.args.to c.drop_range.ensures
    (apart 8 1 refl) (apart 8 9 refl) (apart 8 10 refl)

pub invariant_of-self-clause-held : goal.invariant_of-self-clause-held
invariant_of-self-clause-held g c =
    let t = c.args.self.now in
    let cs = page_clusters (pages_in c.args.from c.args.to (typed_of (log_now t.log)).chunks.clusters) in
    let space : c.defer_pages.new.space ≡ each_deferred (first_data_cluster t.clusters)
    (page_clusters (pages_in c.args.from c.args.to (typed_of (log_now t.log)).chunks.clusters)) t.space =
    c.defer_pages.ensures ∙ ap (λ (n : ℕ). each_deferred n cs t.space)
    c.first_cluster-first.ensures.is in
    let tables = clusters_dropped (log_now t.log)
    (log_now c.drop_range.new.log) c.args.from c.args.to c.drop_range.ensures.dropped in
    subst (λ (p : List State × Typed). AreHeld t.clusters p.0 p.1) (λ i. (sym space i, sym tables i))
    (held_dropped t.clusters t.space (typed_of (log_now t.log)) t.held t.spaces _ _
    (pages_parted (typed_of (log_now t.log)) (λ k. is_in_range pair_cmp c.args.from c.args.to k)))

pub invariant_of-self-clause-few : goal.invariant_of-self-clause-few
invariant_of-self-clause-few g c running worn =
    let p = c.drop_range.ensures in
    let low = cluster_key p.dropped.low c.args.from p.dropped.begins in
    let high = end_size cluster_codec 13 cluster_key (omega arith) c.args.to p.dropped.high p.dropped.ends in
    omega (arith, low, high, p.taken, c.requires)

pub invariant_of-self-clause-named : goal.invariant_of-self-clause-named
invariant_of-self-clause-named g c = drop_named c.args.self.now c.drop_range.new.log cluster_codec
    (apart 8 2 refl) c.args.from c.args.to c.drop_range.ensures

pub returns : goal.returns
returns g c = record {
  tables =
      let t = c.args.self.now in
      drop_now cluster_codec t c.drop_range.new.log c.args.from c.args.to c.drop_range.ensures
      (keep_clusters (λ k. not (is_in_range pair_cmp c.args.from c.args.to k))) (λ x. refl)
      (clusters_dropped (log_now t.log) (log_now c.drop_range.new.log) c.args.from c.args.to c.drop_range.ensures.dropped);
  checkpoint =
      drop_checkpoint cluster_codec c.args.self.now c.drop_range.new.log c.args.from c.args.to c.drop_range.ensures;
  staged =
      let p = c.drop_range.ensures in
      let low = cluster_key p.dropped.low c.args.from p.dropped.begins in
      let high = end_exact cluster_codec 13 cluster_key c.args.to p.dropped.high p.dropped.ends in
      omega (arith, low, high, p.taken);
  leaves =
      let t = c.args.self.now in
      staged_leaves t _ c.drop_range.ensures.quiet refl
      (subst (λ (xs : List State). IsNoFreer t.space xs) (sym c.defer_pages.ensures)
      (all_no_freer c.first_cluster-first.result
      (page_clusters (pages_in c.args.from c.args.to (typed_of (log_now t.log)).chunks.clusters)) t.space))
      refl refl (g.met.D.Disk.same_self t.log.disk)
      (λ stored is. subst (λ (q : Typed). AreTailsFree stored q.chunks)
      (sym (clusters_dropped (log_now t.log) (log_now c.drop_range.new.log) c.args.from c.args.to
      c.drop_range.ensures.dropped))
      (tails_without_pages stored (typed_of (log_now t.log)) (λ k. not (is_in_range pair_cmp c.args.from c.args.to k))
      is.tails));
  states =
      let t = c.args.self.now in
      c.defer_pages.ensures ∙ ap (λ (n : ℕ). each_deferred n
      (page_clusters (pages_in c.args.from c.args.to (typed_of (log_now t.log)).chunks.clusters)) t.space)
      c.first_cluster-first.ensures.is;
  image = drop_image c.args.self.now c.drop_range.new.log c.drop_range.ensures.quiet;
  running = c.drop_range.ensures.quiet.running;
}
