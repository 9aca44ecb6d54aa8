use Rattle.std.proofs.Common.{◌≡◌, ℕ, sym, ◌∙◌, ap, subst}
use Rattle.std.specs.Prelude.{Option, Some}
use Rattle.std.specs.FinMap.{find}
use Rattle.table_records.specs.Keys.{pair_cmp}
use Rattle.volume_inside.specs.Typed.{Typed, FileBlock}
use Rattle.volume_inside.specs.Changes.{with_extent}
use Rattle.volume_inside.specs.Named.{clusters_of}
use Rattle.volume_inside.proofs.Naming.{IsPutIn, extent_put_in}
use Rattle.table_records.specs.Next.{sorted_typed}
use Rattle.table_records.specs.Tables.{extent_codec}
use Rattle.volume_tables.specs.Log.{log_now}
use Rattle.volume_tables.proofs.Answers.{as_true}
use Rattle.volume_tables.specs.Clusters.{cluster_at, with_other, with_spare}
use Rattle.volume_tables.specs.Tables.{states_of, tables_now}
use Rattle.volume_tables.proofs.Leaving.{space_leaves, leaves_then, used_no_freer, other_no_freer, spare_no_freer}
use Rattle.volume_tables.proofs.Leaving.{replaced_ready, set_then}
use Rattle.volume_tables.proofs.tables.Tables.set_extent.Goals as goal

pub give_up_replaced-requires : goal.give_up_replaced-requires
give_up_replaced-requires g c o stood differ =
    let k : FileBlock = (c.args.key.0, c.args.key.1) in
    let a = c.take_back.new.self in
    let p = c.put_extent.ensures in
    let now : Typed = tables_now a in
    let found : cluster_at (find pair_cmp k now.extents) ≡ Some o =
    ap (λ (q : Typed). cluster_at (find pair_cmp k q.extents)) c.take_back.ensures.tables
    ∙ ap cluster_at (sym c.requires.is) ∙ sym c.cluster_of-stood.ensures ∙ stood in
    let put : IsPutIn (clusters_of now) (clusters_of (with_extent k c.args.extent now))
    (cluster_at (find pair_cmp k now.extents)) c.args.extent.cluster =
    extent_put_in now k c.args.extent (sorted_typed extent_codec (log_now a.log) (as_true a.contents.sorted)) in
    replaced_ready a c.put_extent.new.self o c.args.extent.cluster
    (subst (λ (x : Typed × Option ℕ). IsPutIn (clusters_of now) (clusters_of x.0) x.1 c.args.extent.cluster)
    (λ i. (sym c.in-Ok.ensures.ok i, found i)) put) p.states p.leaves.clusters differ

pub returns-in-Ok : goal.returns-in-Ok
returns-in-Ok g c =
    let k : FileBlock = (c.args.key.0, c.args.key.1) in
    let t = c.args.self.now in
    let a = c.take_back.ensures in
    let p = c.put_extent.ensures in
    let clusters = p.leaves.clusters ∙ a.clusters in
    let b = c.give_up_replaced.ensures in
    record {
      ok = b.tables ∙ c.in-Ok.ensures.ok ∙ ap (λ (q : Typed). with_extent k c.args.extent q) a.tables;
      err = tt;
      set = set_then (λ (q : Typed). find pair_cmp k q.extents) 24 t c.take_back.new.self c.put_extent.new.self c.give_up_replaced.new.self _ a.tables a.clusters a.log
          b.log c.in-Ok.ensures.set;
      leaves =
          let next = g.met.D.Disk.same_next in
          let t = c.args.self.now in
          let a = c.take_back.ensures in
          let u = c.put_extent.new.self in
          let b = c.give_up_replaced.ensures in
          leaves_then next t c.take_back.new.self c.give_up_replaced.new.self
          (space_leaves t c.take_back.new.self a.log a.clusters a.ends a.worn _ a.states
          (used_no_freer t.clusters c.args.extent.cluster (states_of t)) (g.met.D.Disk.same_self t.log.disk))
          (leaves_then next c.take_back.new.self u c.give_up_replaced.new.self c.put_extent.ensures.leaves
          (space_leaves u c.give_up_replaced.new.self b.log b.clusters b.ends b.worn _ b.states
          (other_no_freer u.clusters c.cluster_of-stood.result c.args.extent.cluster (states_of u))
          (g.met.D.Disk.same_self u.log.disk)));
      replaced = b.states ∙ (λ i. with_other (clusters i) ((c.cluster_of-stood.ensures ∙ ap cluster_at c.requires.is) i) c.args.extent.cluster
          ((p.states ∙ a.states) i));
      refused = tt;
    }

pub returns-in-Err : goal.returns-in-Err
returns-in-Err g c =
    let k : FileBlock = (c.args.key.0, c.args.key.1) in
    let t = c.args.self.now in
    let a = c.take_back.ensures in
    let p = c.put_extent.ensures in
    let clusters = p.leaves.clusters ∙ a.clusters in
    let b = c.give_up_refused.ensures in
    record {
      ok = tt;
      err = b.tables ∙ c.in-Err.ensures.err ∙ a.tables;
      set = set_then (λ (q : Typed). find pair_cmp k q.extents) 24 t c.take_back.new.self c.put_extent.new.self c.give_up_refused.new.self _ a.tables a.clusters a.log
          b.log c.in-Err.ensures.set;
      leaves =
          let next = g.met.D.Disk.same_next in
          let t = c.args.self.now in
          let a = c.take_back.ensures in
          let u = c.put_extent.new.self in
          let b = c.give_up_refused.ensures in
          leaves_then next t c.take_back.new.self c.give_up_refused.new.self
          (space_leaves t c.take_back.new.self a.log a.clusters a.ends a.worn _ a.states
          (used_no_freer t.clusters c.args.extent.cluster (states_of t)) (g.met.D.Disk.same_self t.log.disk))
          (leaves_then next c.take_back.new.self u c.give_up_refused.new.self c.put_extent.ensures.leaves
          (space_leaves u c.give_up_refused.new.self b.log b.clusters b.ends b.worn _ b.states
          (spare_no_freer u.clusters c.cluster_of-stood.result c.args.extent.cluster (states_of u))
          (g.met.D.Disk.same_self u.log.disk)));
      replaced = tt;
      refused = b.states ∙ (λ i. with_spare (clusters i) ((c.cluster_of-stood.ensures ∙ ap cluster_at c.requires.is) i) c.args.extent.cluster
          ((p.states ∙ a.states) i));
    }
