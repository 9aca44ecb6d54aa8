use Rattle.std.proofs.Common.{◌+◌, length, arith}
use Rattle.meta_log.proofs.Streams.{within_on}
use Rattle.meta_log.proofs.body.HashedStream.finish.Goals as goal

pub returns-in_err-flush-clause-within : goal.returns-in_err-flush-clause-within
returns-in_err-flush-clause-within g c =
    let p = c.args.self.stream.place in
    let n = length c.args.waiting.now.items + length c.args.behind.now in
    let went = c.in_ok-put.ensures.goes_on in
    within_on p n c.put.new.self.place (length c.put.new.waiting.items) n (g.D.Disk.state c.args.disk.now) (g.D.Disk.state c.put.new.disk) (g.D.Disk.state c.flush.new.disk)
    went.low (omega arith) (omega (arith, went.count)) c.put.ensures.within c.flush.ensures.within

pub returns-clause-within : goal.returns-clause-within
returns-clause-within g c =
    let p = c.args.self.stream.place in
    let n = length c.args.waiting.now.items + length c.args.behind.now in
    let went = c.in_ok-put.ensures.goes_on in
    within_on p n c.put.new.self.place (length c.put.new.waiting.items) n (g.D.Disk.state c.args.disk.now) (g.D.Disk.state c.put.new.disk) (g.D.Disk.state c.flush.new.disk)
    went.low (omega arith) (omega (arith, went.count)) c.put.ensures.within c.flush.ensures.within
