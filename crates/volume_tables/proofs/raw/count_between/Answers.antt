use Rattle.std.proofs.Common.{length, take, ◌∙◌}
use Rattle.byte_map.specs.Words.{pairs_between}
use Rattle.volume_tables.specs.Log.{log_now}
use Rattle.volume_tables.proofs.Ranged.{counted}
use Rattle.volume_tables.proofs.raw.count_between.Goals as goal

pub returns : goal.returns
returns g c keyed =
    let low = take c.write_key-low_length.result c.write_key-low_length.new.out in
    let high = take c.write_key-high_length.result c.write_key-high_length.new.out in
    let m = log_now c.args.log.now in
    ◌∙◌ {b = length (pairs_between low high m)} c.count_between.ensures
    (counted g.T.Table.codec low high c.args.from c.args.to c.write_key-low_length.ensures.spelled
    c.write_key-high_length.ensures.spelled m keyed.has)
