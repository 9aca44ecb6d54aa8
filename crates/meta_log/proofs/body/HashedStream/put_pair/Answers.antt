use Rattle.std.proofs.Common.{◌+◌, length, arith}
use Rattle.meta_log.proofs.Streams.{within_wider, within_on}
use Rattle.meta_log.proofs.body.HashedStream.put_pair.Goals as goal

pub returns-in_err-put-clause-within : goal.returns-in_err-put-clause-within
returns-in_err-put-clause-within g c =
    let p = c.args.self.now.stream.place in
    let w = length c.args.waiting.now.items in
    let head = c.record_head-head.result in
    let n = w + (5 + (length c.args.key.now + length c.args.value.now)) in
    within_wider p (w + length head) p n (g.D.Disk.state c.args.disk.now) (g.D.Disk.state c.put.new.disk)
    (omega arith) (omega (arith, c.record_head-head.ensures.size)) c.put.ensures.within

pub returns-in_err-put-2-clause-within : goal.returns-in_err-put-2-clause-within
returns-in_err-put-2-clause-within g c =
    let p = c.args.self.now.stream.place in
    let w = length c.args.waiting.now.items in
    let head = c.record_head-head.result in
    let k = length c.args.key.now in
    let n = w + (5 + (k + length c.args.value.now)) in
    let first = c.in_ok-put.ensures.goes_on in
    let size = c.record_head-head.ensures.size in
    within_on p (w + length head) c.put.new.self.stream.place (length c.put.new.waiting.items + k) n (g.D.Disk.state c.args.disk.now) (g.D.Disk.state c.put.new.disk) (g.D.Disk.state c.put-2.new.disk)
    first.low (omega (arith, size)) (omega (arith, size, first.count)) c.put.ensures.within c.put-2.ensures.within

pub returns-clause-within : goal.returns-clause-within
returns-clause-within g c =
    let p = c.args.self.now.stream.place in
    let w = length c.args.waiting.now.items in
    let head = c.record_head-head.result in
    let k = length c.args.key.now in
    let v = length c.args.value.now in
    let n = w + (5 + (k + v)) in
    let first = c.in_ok-put.ensures.goes_on in
    let second = c.in_ok-put-2.ensures.goes_on in
    let size = c.record_head-head.ensures.size in
    let both = within_on p (w + length head) c.put.new.self.stream.place (length c.put.new.waiting.items + k) n (g.D.Disk.state c.args.disk.now) (g.D.Disk.state c.put.new.disk) (g.D.Disk.state c.put-2.new.disk)
    first.low (omega (arith, size)) (omega (arith, size, first.count)) c.put.ensures.within c.put-2.ensures.within in
    within_on p n c.put-2.new.self.stream.place (length c.put-2.new.waiting.items + v) n (g.D.Disk.state c.args.disk.now) (g.D.Disk.state c.put-2.new.disk) (g.D.Disk.state c.put-3.new.disk)
    (omega (arith, first.low, second.low)) (omega arith) (omega (arith, size, first.count, second.count)) both c.put-3.ensures.within
