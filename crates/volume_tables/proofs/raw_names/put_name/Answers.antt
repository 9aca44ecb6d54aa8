use Rattle.std.proofs.Common.{take, arith}
use Rattle.table_records.specs.Tables.{name_codec}
use Rattle.volume_tables.proofs.Sizes.{name_key}
use Rattle.volume_tables.proofs.WellFormed.{names_table}
use Rattle.volume_tables.proofs.StagedPut.{staged_put}
use Rattle.volume_tables.proofs.Staged.{put_handed}
use Rattle.volume_tables.proofs.raw_names.put_name.Goals as goal

pub returns : goal.returns
returns g c =
    let s = c.stage_put.ensures in
    let k = c.write_key-length.ensures in
    let v = c.write_value-size.ensures in
    let key = take c.write_key-length.result c.write_key-length.new.out in
    let value = take c.write_value-size.result c.write_value-size.new.out in
    let key_size = name_key key c.args.name.now k.spelled in
    let value_size = names_table.sized value v.whole in
    staged_put name_codec c.args.name.now c.args.id c.args.log.now c.stage_put.new.self key value c.stage_put.result
    k.spelled v.whole v.spelled (omega (arith, key_size, value_size, c.requires.room)) s.full s.table s.in_place
    s.refused s.now s.staged s.unspent
    (record { log = s.log; disk = s.disk; place = s.place; running = s.stopped }) c.of_log.result c.of_log.ensures

pub of_log-requires : goal.of_log-requires
of_log-requires g c =
    let s = c.stage_put.ensures in
    let k = c.write_key-length.ensures in
    let v = c.write_value-size.ensures in
    let key_size = name_key (take c.write_key-length.result c.write_key-length.new.out) c.args.name.now k.spelled in
    let value_size = names_table.sized (take c.write_value-size.result c.write_value-size.new.out) v.whole in
    put_handed c.stage_put.result s.full (omega (arith, key_size, value_size, c.requires.room)) s.refused
