use Rattle.std.proofs.Common.{arith, ◌≡◌, ◌+◌, ◌*◌, ◌++◌, [], ℕ, List, length, ap, subst}
use Rattle.std.proofs.lemmas.Result.{on_ok_weaker}
use Rattle.byteorder.specs.Endian.{big_bytes}
use Rattle.byte_map.specs.Words.{bytes_in}
use Rattle.sha2.specs.Hashers.{Holds256}
use Rattle.meta_log.specs.Checkpoint.{body_text}
use Rattle.meta_log.specs.Stream.{Advances}
use Rattle.meta_log.proofs.Checkpoints.{length_body}
use Rattle.meta_log.proofs.Streams.{advances_then, streamed_whole, within_wider, within_on}
use Rattle.meta_log.proofs.body.write_body.Goals as goal

pub returns-in_err-put_pairs-clause-within : goal.returns-in_err-put_pairs-clause-within
returns-in_err-put_pairs-clause-within g c =
    let sum = 5 * length c.args.map.now + bytes_in c.args.map.now in
    within_wider c.args.from (length c.clear.new.self.items + sum) c.args.from (sum + length c.args.behind.now) (g.D.Disk.state c.args.disk.now) (g.D.Disk.state c.put_pairs.new.disk)
    (omega arith) (omega (arith, ap length c.clear.ensures.items)) c.put_pairs.ensures.within

pub finish-requires-clause-range : goal.finish-requires-clause-range
finish-requires-clause-range g c =
    omega (arith, c.in_ok-put_pairs.ensures.goes_on.count, length_body c.args.map.now, ap length c.clear.ensures.items, c.requires.range, c.put_pairs.ensures.within.change.size)

pub returns-clause-text : goal.returns-clause-text
returns-clause-text g c told =
    let body = body_text c.args.map.now in
    let behind = c.args.behind.now in
    let from = c.args.from in
    let s = g.D.Disk.state c.args.disk.now in
    let s₁ = g.D.Disk.state c.put_pairs.new.disk in
    let s₂ = g.D.Disk.state c.finish.new.disk in
    let p₁ = c.put_pairs.new.self.stream.place in
    let w₁ = c.put_pairs.new.waiting.items in
    let next = p₁ + (length w₁ + length behind) in
    let first : Advances body from [] s p₁ w₁ s₁ = subst (λ (w : List ℕ). Advances body from w s p₁ w₁ s₁) c.clear.ensures.items c.in_ok-put_pairs.ensures.goes_on in
    on_ok_weaker c.finish.result (λ second. streamed_whole (body ++ behind) from s next s₂ (advances_then body behind from [] s p₁ w₁ s₁ next [] s₂ c.put_pairs.ensures.within.torn.tells first second) told)
    c.finish.ensures.goes_on

pub returns-clause-digest : goal.returns-clause-digest
returns-clause-digest g c =
    let body = body_text c.args.map.now in
    let epoch = c.to_be_bytes.result in
    let long = c.to_be_bytes-2.result in
    let one = c.update.ensures [] c.new-hasher.ensures in
    let two = c.update-2.ensures epoch one in
    let all : Holds256 c.put_pairs.new.self.hasher ((epoch ++ long) ++ body) = c.in_ok-put_pairs.ensures.hashed (epoch ++ long) two in
    let is : (epoch ++ long) ++ body ≡ (big_bytes 8 c.args.numbers.0 ++ big_bytes 4 c.args.numbers.1) ++ body = λ k. (c.to_be_bytes.ensures k ++ c.to_be_bytes-2.ensures k) ++ body in
    c.finish.ensures.digest ((big_bytes 8 c.args.numbers.0 ++ big_bytes 4 c.args.numbers.1) ++ body) (subst (λ (q : List ℕ). Holds256 c.put_pairs.new.self.hasher q) is all)

pub returns-clause-within : goal.returns-clause-within
returns-clause-within g c =
    let sum = 5 * length c.args.map.now + bytes_in c.args.map.now in
    let went = c.in_ok-put_pairs.ensures.goes_on in
    within_on c.args.from (length c.clear.new.self.items + sum) c.put_pairs.new.self.stream.place (length c.put_pairs.new.waiting.items + length c.args.behind.now) (sum + length c.args.behind.now)
    (g.D.Disk.state c.args.disk.now) (g.D.Disk.state c.put_pairs.new.disk) (g.D.Disk.state c.finish.new.disk)
    went.low (omega (arith, ap length c.clear.ensures.items)) (omega (arith, went.count, length_body c.args.map.now, ap length c.clear.ensures.items)) c.put_pairs.ensures.within c.finish.ensures.within
