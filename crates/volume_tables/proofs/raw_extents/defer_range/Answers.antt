use Rattle.std.proofs.Common.{◌∙◌, List, ◌∷◌, ap, subst, sym}
use Rattle.std.specs.Prelude.{Option}
use Rattle.cluster_space.specs.declared.state.State.{State}
use Rattle.table_records.specs.Codecs.{typed}
use Rattle.table_records.specs.Tables.{extent_codec}
use Rattle.table_records.specs.declared.records.Extent.{Extent}
use Rattle.volume_inside.specs.Typed.{FileBlock}
use Rattle.volume_tables.specs.Clusters.{all_deferred}
use Rattle.volume_tables.specs.Dropped.{extents_above, extents_left, AreUsedOnce}
use Rattle.volume_tables.specs.Log.{log_now}
use Rattle.volume_tables.proofs.Deferring.{rest_used}
use Rattle.volume_tables.proofs.raw_extents.defer_range.Goals as goal

pub loop-next-preserved : goal.loop-next-preserved
loop-next-preserved g c =
    let es = typed extent_codec (log_now c.args.log.now) in
    let used : AreUsedOnce c.args.first c.loop-next.space
    ((c.in-Some.key, c.in-Some.extent) ∷ extents_above c.in-Some.key c.args.to
    (typed extent_codec (log_now c.args.log.now))) =
    subst (λ (o : Option (FileBlock × Extent)). AreUsedOnce c.args.first c.loop-next.space
    (extents_left o c.args.to (typed extent_codec (log_now c.args.log.now)))) c.in-Some.is
    c.loop-next.invariant.used in
    let left = c.next_in_range-next.ensures in
    let space = c.defer.ensures in
    record {
      used = subst (λ (p : List State × List (FileBlock × Extent)). AreUsedOnce c.args.first p.0 p.1)
          (λ i. (sym space i, sym left i))
          (rest_used c.args.first c.loop-next.space (c.in-Some.key, c.in-Some.extent)
          (extents_above c.in-Some.key c.args.to es) used);
      same = (λ i. all_deferred c.args.first (left i) (space i))
          ∙ ap (λ (o : Option (FileBlock × Extent)). all_deferred c.args.first
          (extents_left o c.args.to (typed extent_codec (log_now c.args.log.now))) c.loop-next.space) (sym c.in-Some.is)
          ∙ c.loop-next.invariant.same;
    }
