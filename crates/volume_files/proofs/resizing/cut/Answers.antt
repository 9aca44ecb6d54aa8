use Rattle.std.proofs.Common.{◌+◌, ◌/◌, ◌∙◌, not, Some, arith}
use Rattle.table_records.specs.Changes.{is_in_range}
use Rattle.table_records.specs.Keys.{pair_cmp}
use Rattle.volume_inside.specs.Changes.{keep_extents}
use Rattle.volume_tables.specs.Tables.{tables_now}
use Rattle.volume_tables.proofs.Stagings.{stages_then}
use Rattle.volume_files.specs.Needs.{set_at_end}
use Rattle.volume_files.proofs.Counted.{dropped_known}
use Rattle.volume_files.proofs.CutExtents.{range_is_behind}
use Rattle.volume_files.proofs.resizing.cut.Goals as goal

pub returns-clause-tables : goal.returns-clause-tables
returns-clause-tables g c =
    c.drop_extent.ensures.tables
    ∙ (λ i. keep_extents (λ k. not (range_is_behind c.args.id c.args.length k i)) (c.cut_end.ensures.tables i))

pub returns-clause-stages : goal.returns-clause-stages
returns-clause-stages g c =
    let t = c.args.tables.now in
    let u = c.cut_end.new.tables in
    let s = c.drop_extent.new.self in
    let e = c.drop_extent.ensures in
    let most = set_at_end (tables_now t) c.args.id c.args.length in
    let known = dropped_known u s (λ k. is_in_range pair_cmp (c.args.id, (c.args.length + 4095) / 4096)
    (Some (c.args.id + 1, 0)) k) e.tables e.states in
    stages_then g.met.D.Disk.same_next most 31 (31 + most) t u s c.cut_end.ensures.stages
    (record {
      leaves = e.leaves;
      image = e.image;
      running = e.running;
      staged = e.staged;
      free = known.0;
      counts = known.1;
    })
    (omega arith)
