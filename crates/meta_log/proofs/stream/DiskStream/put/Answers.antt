use Rattle.std.proofs.Common.{◌+◌, length, arith}
use Rattle.meta_log.proofs.Streams.{within_wider}
use Rattle.meta_log.proofs.stream.DiskStream.put.Goals as goal

pub returns-in_err-make_room-clause-within : goal.returns-in_err-make_room-clause-within
returns-in_err-make_room-clause-within g c =
    let place = c.args.self.now.place in
    let n = length c.args.waiting.now.items in
    within_wider place n place (n + length c.args.bytes.now) (g.D.Disk.state c.args.disk.now) (g.D.Disk.state c.make_room.new.disk) (omega arith) (omega arith) c.make_room.ensures.within

pub returns-clause-within : goal.returns-clause-within
returns-clause-within g c =
    let place = c.args.self.now.place in
    let n = length c.args.waiting.now.items in
    within_wider place n place (n + length c.args.bytes.now) (g.D.Disk.state c.args.disk.now) (g.D.Disk.state c.make_room.new.disk) (omega arith) (omega arith) c.make_room.ensures.within
