use Rattle.std.proofs.Common.{take}
use Rattle.volume_tables.proofs.StagedPut.{staged_put}
use Rattle.volume_tables.proofs.Staged.{put_handed}
use Rattle.volume_tables.proofs.raw.put.Goals as goal

pub returns : goal.returns
returns g c =
    let s = c.stage_put.ensures in
    let k = c.write_key-length.ensures in
    let v = c.write_value-size.ensures in
    let key = take c.write_key-length.result c.write_key-length.new.out in
    let value = take c.write_value-size.result c.write_value-size.new.out in
    staged_put g.T.Table.codec c.args.key c.args.value c.args.log.now c.stage_put.new.self key value c.stage_put.result
    k.spelled v.whole v.spelled (c.requires key value k.spelled v.whole) s.full s.table s.in_place s.refused s.now
    s.staged s.unspent
    (record { log = s.log; disk = s.disk; place = s.place; running = s.stopped }) c.of_log.result c.of_log.ensures

pub of_log-requires : goal.of_log-requires
of_log-requires g c =
    let s = c.stage_put.ensures in
    let k = c.write_key-length.ensures in
    let v = c.write_value-size.ensures in
    let key = take c.write_key-length.result c.write_key-length.new.out in
    let value = take c.write_value-size.result c.write_value-size.new.out in
    put_handed c.stage_put.result s.full (c.requires key value k.spelled v.whole) s.refused
