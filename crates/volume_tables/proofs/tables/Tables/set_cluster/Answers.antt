use Rattle.std.proofs.Common.{◌≡◌, ◌∙◌, ◌+◌, ◌-◌, ℕ, List, ap, arith, length, length-set, refl, rules, subst, sym}
use Rattle.std.specs.Prelude.{Ok, Err, Result, slice_set}
use Rattle.std.specs.FinMap.{find}
use Rattle.byte_map.specs.Words.{Map}
use Rattle.cluster_space.specs.declared.state.State.{State}
use Rattle.cluster_space.specs.declared.state.State.TheVariants.{Used}
use Rattle.plain_volume.specs.declared.call.Fault.{Fault}
use Rattle.table_records.specs.Keys.{pair_cmp}
use Rattle.table_records.specs.Next.{sorted_typed}
use Rattle.table_records.specs.Tables.{cluster_codec}
use Rattle.volume_inside.specs.Changes.{with_cluster}
use Rattle.volume_inside.specs.ChunkTables.{PageKey}
use Rattle.volume_inside.specs.Layout.{first_data_cluster}
use Rattle.volume_inside.specs.Named.{clusters_of}
use Rattle.volume_inside.specs.Lists.{IsOut}
use Rattle.volume_inside.specs.Tails.{AreTailsFree}
use Rattle.volume_inside.specs.Typed.{Typed, typed_of}
use Rattle.volume_inside.proofs.Spaces.{unnamed}
use Rattle.volume_inside.proofs.TailsOn.{tails_with_cluster}
use Rattle.volume_tables.specs.Clusters.{AreHeld, used_at}
use Rattle.volume_tables.specs.Log.{log_now}
use Rattle.volume_tables.specs.Tables.{tables_now, IsLogSet}
use Rattle.volume_tables.proofs.Answers.{as_true}
use Rattle.volume_tables.proofs.WellFormed.{apart, clusters_table}
use Rattle.volume_tables.proofs.Puts.{cluster_put}
use Rattle.volume_tables.proofs.Sizes.{cluster_key}
use Rattle.volume_tables.proofs.Held.{held_page}
use Rattle.volume_tables.proofs.Leaving.{quiet_leaves, staged_leaves, used_no_freer, IsNoFreer}
use Rattle.volume_tables.proofs.Setting.{as_put, entry_set, entry_contents, entry_few, entry_now}
use Rattle.volume_tables.proofs.Tailed.{pages_of_tables}
use Rattle.volume_tables.proofs.Counts.{entry_named}
use Rattle.volume_tables.proofs.tables.Tables.set_cluster.Goals as goal

pub put-requires : goal.put-requires
put-requires g c b w key value =
    let long = cluster_key b (c.args.key.0, c.args.key.1) key in
    let size = clusters_table.sized w value in
    omega (arith, long, size, c.requires.room)

pub returns-in_err-put : goal.returns-in_err-put
returns-in_err-put g c =
    let t = c.args.self.now in
    let k : PageKey = (c.args.key.0, c.args.key.1) in
    let refused : c.from_residual.result ≡ Err c.in_err-put.field-0.0 = search rules in
    record {
      ok = search rules;
      err = search rules;
      set = subst (λ (r : Result (Unit {0}) Fault). IsLogSet (find pair_cmp k (tables_now t).chunks.clusters) 22
          t.clusters t.log c.put.new.log r) (sym refused)
          (entry_set cluster_codec 4 clusters_table t c.put.new.log k c.args.cluster (Err c.in_err-put.field-0.0)
          (as_true t.contents.sorted) c.in_err-put.ensures 13
          (cluster_key c.in_err-put.ensures.key k c.in_err-put.ensures.spells) 22 refl);
      leaves = quiet_leaves t _ c.put.ensures.quiet refl refl refl refl (g.met.D.Disk.same_self t.log.disk)
          (ap (λ (m : Map). pages_of_tables (typed_of m)) c.in_err-put.ensures.err);
      used = search rules;
      unused = search rules;
    }

pub invariant_of-self-2-clause-spaces : goal.invariant_of-self-2-clause-spaces
invariant_of-self-2-clause-spaces g c =
    let t = c.args.self.now in
    ap (λ (xs : List State). length xs) c.mark_used.ensures
    ∙ length-set t.space (c.args.cluster - c.first_cluster-first.result) Used ∙ t.spaces

pub invariant_of-self-2-clause-contents : goal.invariant_of-self-2-clause-contents
invariant_of-self-2-clause-contents g c =
    let k : PageKey = (c.args.key.0, c.args.key.1) in
    entry_contents cluster_codec c.args.self.now c.put.new.log k c.args.cluster c.put.result c.put.ensures
    (apart 8 1 refl) (apart 8 9 refl) (apart 8 10 refl) clusters_table.joins

pub invariant_of-self-2-clause-held : goal.invariant_of-self-2-clause-held
invariant_of-self-2-clause-held g c =
    let t = c.args.self.now in
    let k : PageKey = (c.args.key.0, c.args.key.1) in
    let m = log_now t.log in
    let low = c.requires.free.from_first in
    let within = c.requires.free.is.within in
    let space : c.mark_used.new.self ≡ used_at t.clusters c.args.cluster t.space = c.mark_used.ensures
    ∙ ap (λ (n : ℕ). slice_set t.space (c.args.cluster - n) Used) c.first_cluster-first.ensures.is in
    let put = as_put cluster_codec k c.args.cluster t.log c.put.new.log (Ok c.in_ok-put.field-0) c.in_ok-put.ensures in
    subst (λ (p : List State × Typed). AreHeld t.clusters p.0 p.1)
    (λ i. (sym space i, sym (cluster_put m (log_now c.put.new.log) (as_true t.contents.sorted) k c.args.cluster put) i))
    (held_page t.clusters t.space (typed_of m) t.held k c.args.cluster
    (sorted_typed cluster_codec m (as_true t.contents.sorted)) (omega (arith, low, within, t.spaces)) c.requires.free)

pub invariant_of-self-2-clause-few : goal.invariant_of-self-2-clause-few
invariant_of-self-2-clause-few g c running worn =
    let k : PageKey = (c.args.key.0, c.args.key.1) in
    let key = cluster_key c.put.ensures.key k c.put.ensures.spells in
    let value = clusters_table.sized c.put.ensures.value c.put.ensures.whole in
    entry_few cluster_codec c.args.self.now c.put.new.log k c.args.cluster c.put.result c.put.ensures 22
    (omega (arith, key, value)) c.requires.room

pub invariant_of-self-2-clause-named : goal.invariant_of-self-2-clause-named
invariant_of-self-2-clause-named g c =
    let k : PageKey = (c.args.key.0, c.args.key.1) in
    entry_named c.args.self.now c.put.new.log cluster_codec (apart 8 2 refl) k c.args.cluster c.put.result c.put.ensures

pub returns : goal.returns
returns g c =
    let t = c.args.self.now in
    let k : PageKey = (c.args.key.0, c.args.key.1) in
    let m = log_now t.log in
    let p = c.in_ok-put.ensures in
    let low = c.requires.free.from_first in
    let place : first_data_cluster t.clusters + (c.args.cluster - first_data_cluster t.clusters) ≡ c.args.cluster =
    omega (arith, low) in
    let space : c.mark_used.new.self ≡ used_at t.clusters c.args.cluster t.space = c.mark_used.ensures
    ∙ ap (λ (n : ℕ). slice_set t.space (c.args.cluster - n) Used) c.first_cluster-first.ensures.is in
    let put = cluster_put m (log_now c.put.new.log) (as_true t.contents.sorted) k c.args.cluster
    (as_put cluster_codec k c.args.cluster t.log c.put.new.log (Ok c.in_ok-put.field-0) p) in
    record {
      ok = entry_now cluster_codec t c.put.new.log k c.args.cluster (Ok c.in_ok-put.field-0) p
          (with_cluster k c.args.cluster) (λ x. refl)
          (cluster_put m (log_now c.put.new.log) (as_true t.contents.sorted) k c.args.cluster);
      err = search rules;
      set = entry_set cluster_codec 4 clusters_table t c.put.new.log k c.args.cluster (Ok c.in_ok-put.field-0)
          (as_true t.contents.sorted) p 13 (cluster_key p.key k p.spells) 22 refl;
      leaves = staged_leaves t _ c.put.ensures.quiet refl
          (subst (λ (xs : List State). IsNoFreer t.space xs) (sym space) (used_no_freer t.clusters c.args.cluster t.space))
          refl refl (g.met.D.Disk.same_self t.log.disk)
          (λ stored is. subst (λ (q : Typed). AreTailsFree stored q.chunks) (sym put)
          (tails_with_cluster stored (typed_of m) k c.args.cluster is.tails
          (unnamed c.args.cluster stored (omega (arith, low))
          (subst (λ (x : ℕ). IsOut x (clusters_of stored)) place
          (is.free (c.args.cluster - first_data_cluster t.clusters) c.requires.free.is)))));
      used = space;
      unused = search rules;
    }
