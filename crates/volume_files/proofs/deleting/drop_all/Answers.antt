use Rattle.std.proofs.Common.{◌+◌, Some, not, ◌∙◌, refl, arith}
use Rattle.table_records.specs.Changes.{is_in_range}
use Rattle.table_records.specs.Keys.{pair_cmp}
use Rattle.std.specs.Ordering.{nat_cmp}
use Rattle.volume_inside.specs.Changes.{keep_files, keep_extents}
use Rattle.volume_tables.specs.Tables.{tables_now}
use Rattle.volume_files.specs.Needs.{drop_bytes}
use Rattle.volume_tables.specs.Stages.{Stages}
use Rattle.volume_files.proofs.OneName.{drop_is_short}
use Rattle.volume_tables.proofs.Stagings.{stages_then, quiet_stages}
use Rattle.volume_files.proofs.Counted.{dropped_known}
use Rattle.volume_files.proofs.GoneFile.{file_range, block_range}
use Rattle.volume_files.proofs.deleting.drop_all.Goals as goal

pub returns-clause-tables : goal.returns-clause-tables
returns-clause-tables g c =
    let id = c.args.id in
    c.drop_extent.ensures.tables
    ∙ (λ i. keep_extents (λ k. not (block_range id k i))
    ((c.drop_file.ensures.tables ∙ (λ j. keep_files (λ x. not (file_range id x j)) (c.drop_one_name.ensures.tables j)))
    i))

pub drop_file-requires : goal.drop_file-requires
drop_file-requires g c =
    let t = c.args.tables.now in
    let name = c.args.name.now in
    let few = drop_is_short name (tables_now t).names c.requires.names in
    omega (arith, few, c.drop_one_name.ensures.stages.staged, c.requires.room)

pub drop_extent-requires : goal.drop_extent-requires
drop_extent-requires g c =
    let t = c.args.tables.now in
    let name = c.args.name.now in
    let few = drop_is_short name (tables_now t).names c.requires.names in
    omega (arith, few, c.drop_one_name.ensures.stages.staged, c.drop_file.ensures.staged, c.requires.room)

pub returns-clause-stages : goal.returns-clause-stages
returns-clause-stages g c =
    let next = g.met.D.Disk.same_next in
    let t = c.args.tables.now in
    let n = c.drop_one_name.new.tables in
    let f = c.drop_file.new.self in
    let e = c.drop_extent.new.self in
    let id = c.args.id in
    let one = drop_bytes (tables_now t).names c.args.name.now in
    let file = c.drop_file.ensures in
    let extent = c.drop_extent.ensures in
    let known = dropped_known f e (λ k. is_in_range pair_cmp (id, 0) (Some (id + 1, 0)) k) extent.tables
    extent.states in
    let second : Stages 23 n f = quiet_stages 23 n f file.leaves file.image file.running file.staged file.states
    (keep_files (λ x. not (is_in_range nat_cmp id (Some (id + 1)) x)) (tables_now n)) file.tables refl in
    let third : Stages 31 f e = record {
      leaves = extent.leaves;
      image = extent.image;
      running = extent.running;
      staged = extent.staged;
      free = known.0;
      counts = known.1;
    } in
    stages_then next (one + 23) 31 (54 + one) t f e
    (stages_then next one 23 (one + 23) t n f c.drop_one_name.ensures.stages second refl) third (omega arith)
