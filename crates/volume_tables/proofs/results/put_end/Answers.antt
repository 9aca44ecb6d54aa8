use Rattle.std.proofs.Common.{arith}
use Rattle.volume_tables.proofs.Sizes.{result_key}
use Rattle.volume_tables.proofs.WellFormed.{results_table}
use Rattle.volume_tables.proofs.Ending.{end_is_ok, end_all, end_sorted, end_spelled, end_staged, end_checkpoint}
use Rattle.volume_tables.proofs.results.put_end.Goals as goal

pub put-requires : goal.put-requires
put-requires g c b w key value =
    let long = result_key b c.args.kind key in
    let size = results_table.sized w value in
    omega (arith, long, size, c.requires.room)

pub unwrap-requires : goal.unwrap-requires
unwrap-requires g c = end_is_ok c.args.log.now c.put.new.log c.args.kind c.args.end c.put.result c.put.ensures
    c.requires.sorted c.requires.spelled c.requires.there

pub returns-clause-sorted : goal.returns-clause-sorted
returns-clause-sorted g c = end_sorted c.args.log.now c.put.new.log c.args.kind c.args.end c.put.result c.put.ensures
    c.requires.sorted c.requires.spelled c.requires.there

pub returns-clause-spelled : goal.returns-clause-spelled
returns-clause-spelled g c = end_spelled c.args.log.now c.put.new.log c.args.kind c.args.end c.put.result c.put.ensures
    c.requires.sorted c.requires.spelled c.requires.there

pub returns-clause-tables : goal.returns-clause-tables
returns-clause-tables g c = end_all c.args.log.now c.put.new.log c.args.kind c.args.end c.put.result c.put.ensures
    c.requires.sorted c.requires.spelled c.requires.there

pub returns-clause-staged : goal.returns-clause-staged
returns-clause-staged g c = end_staged c.args.log.now c.put.new.log c.args.kind c.args.end c.put.result c.put.ensures
    c.requires.sorted c.requires.spelled c.requires.there

pub returns-clause-checkpoint : goal.returns-clause-checkpoint
returns-clause-checkpoint g c = end_checkpoint c.args.log.now c.put.new.log c.args.kind c.args.end c.put.result
    c.put.ensures c.requires.sorted c.requires.spelled c.requires.there
