use Rattle.std.proofs.Common.{◌≡◌, ℕ, ◌+◌, ◌/◌, ◌%◌, ◌∙◌, Bool, cond, sym, ap, subst, inl, arith}
use Rattle.std.specs.FinMap.{find}
use Rattle.cluster_space.specs.declared.state.State.TheVariants.{Used}
use Rattle.table_records.specs.Keys.{pair_cmp}
use Rattle.volume_inside.specs.Typed.{FileBlock, typed_of}
use Rattle.volume_tables.specs.Clusters.{HasState}
use Rattle.volume_tables.specs.Log.{log_now}
use Rattle.volume_tables.specs.Tables.{tables_now, states_of, staged_of}
use Rattle.volume_tables.proofs.Leaving.{found_used}
use Rattle.volume_files.specs.Needs.{set_at_end}
use Rattle.volume_files.proofs.Counted.{same_known}
use Rattle.volume_files.proofs.CutExtents.{cut_means, cut_is_cut}
use Rattle.volume_tables.proofs.Stagings.{as_ok}
use Rattle.volume_files.proofs.resizing.cut_end.Goals as goal

pub set_extent-requires-clause-taken : goal.set_extent-requires-clause-taken
set_extent-requires-clause-taken g c =
    let t = c.args.tables.now in
    let k : FileBlock = (c.args.id, c.args.length / 4096) in
    let h = cut_means (c.args.length % 4096) (find pair_cmp k (tables_now t).extents) c.in-Some.extent
    (sym c.cut_end_extent.ensures ∙ c.in-Some.is) in
    inl (subst (λ (x : ℕ). HasState t.clusters (states_of t) Used x) (sym h.cluster)
    (found_used t.clusters k h.old (states_of t) (typed_of (log_now t.log)) t.held t.spaces h.there))

pub returns-in-Some-clause-stages : goal.returns-in-Some-clause-stages
returns-in-Some-clause-stages g c =
    let t = c.args.tables.now in
    let u = c.set_extent.new.self in
    let k : FileBlock = (c.args.id, c.args.length / 4096) in
    let was = find pair_cmp k (tables_now t).extents in
    let is = sym c.cut_end_extent.ensures ∙ c.in-Some.is in
    let h = cut_means (c.args.length % 4096) was c.in-Some.extent is in
    let s = c.set_extent.ensures in
    let most : set_at_end (tables_now t) c.args.id c.args.length ≡ 24 =
    ap (λ (b : Bool). cond b 24 0) (cut_is_cut (c.args.length % 4096) was c.in-Some.extent is) in
    let more : staged_of u ≡ staged_of t + 24 =
    as_ok _ c.set_extent.result c.unwrap.result c.unwrap.ensures s.set.staged in
    let known = same_known t u k c.in-Some.extent h.old h.there h.cluster
    (as_ok _ c.set_extent.result c.unwrap.result c.unwrap.ensures s.ok)
    (as_ok _ c.set_extent.result c.unwrap.result c.unwrap.ensures s.replaced) in
    record {
      leaves = s.leaves;
      image = s.set.image;
      running = s.set.running;
      staged = omega (arith, most, more);
      free = known.0;
      counts = known.1;
    }
