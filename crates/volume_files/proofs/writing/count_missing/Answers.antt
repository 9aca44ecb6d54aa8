use Rattle.std.proofs.Common.{refl, arith}
use Rattle.volume_tables.specs.Tables.{tables_now}
use Rattle.volume_files.proofs.Missing.{missing_counted}
use Rattle.volume_files.proofs.Setting.{sorted_now}
use Rattle.volume_files.proofs.writing.count_missing.Goals as goal

pub overflow_cast-result : goal.overflow_cast-result
overflow_cast-result g c =
    let t = c.args.tables.now in
    let all = missing_counted (tables_now t) c.args.file (sorted_now t) c.args.count c.args.first _ refl in
    omega (arith, all, c.count_extents-present.ensures, c.requires.low)

pub overflow_sub-result : goal.overflow_sub-result
overflow_sub-result g c =
    let t = c.args.tables.now in
    let all = missing_counted (tables_now t) c.args.file (sorted_now t) c.args.count c.args.first _ refl in
    omega (arith, all, c.count_extents-present.ensures)

pub returns-clause-is : goal.returns-clause-is
returns-clause-is g c =
    let t = c.args.tables.now in
    let all = missing_counted (tables_now t) c.args.file (sorted_now t) c.args.count c.args.first _ refl in
    omega (arith, all, c.count_extents-present.ensures)
