use Rattle.std.proofs.Common.{rules, arith, ◌≡◌, ◌+◌, ◌*◌, ◌++◌, [], ℕ, List, length, sym, ap, subst, ◌∙◌, append_assoc}
use Rattle.std.proofs.lemmas.List.{append-nil}
use Rattle.byte_map.specs.Words.{bytes_in}
use Rattle.sha2.specs.Hashers.{Holds256}
use Rattle.meta_log.specs.Records.{Put}
use Rattle.meta_log.specs.Spelled.{bytes_of}
use Rattle.meta_log.specs.Short.{are_short}
use Rattle.meta_log.specs.Checkpoint.{body_text}
use Rattle.meta_log.specs.Stream.{Advances}
use Rattle.meta_log.proofs.Streams.{advances_none, advances_then, within_same, within_on}
use Rattle.meta_log.proofs.Bodies.{whole_end, whole_next, room_for, short_next}
use Rattle.meta_log.proofs.body.HashedStream.put_pairs.Goals as goal

pub loop-key-init : goal.loop-key-init
loop-key-init g c =
    let s = g.D.Disk.state c.args.disk.now in
    let m = c.args.map.now in
    let n = length c.args.waiting.now.items + (5 * length m + bytes_in m) in
    record {
      seen = [];
      whole = ap (λ q. body_text q) (sym c.walk-walk.ensures);
      short = ap (λ q. are_short q) c.walk-walk.ensures ∙ c.requires.short;
      went = advances_none c.args.self.now.stream.place c.args.waiting.now.items s;
      hashed = λ q holds. subst (λ (r : List ℕ). Holds256 c.args.self.now.hasher r) (sym (append-nil q)) holds;
      few = c.requires.few;
      within = within_same c.args.self.now.stream.place n s;
      room = omega arith;
      same = search rules;
      later = omega arith;
    }

pub put_pair-requires-clause-key : goal.put_pair-requires-clause-key
put_pair-requires-clause-key g c =
    let inv = c.loop-key.invariant in
    (short_next c.args.map.now inv.seen c.loop-key.walk inv.whole c.in-Some.key.now c.in-Some.value.now c.next.new.self c.in-Some.ensures.some inv.short).0

pub put_pair-requires-clause-value : goal.put_pair-requires-clause-value
put_pair-requires-clause-value g c =
    let inv = c.loop-key.invariant in
    (short_next c.args.map.now inv.seen c.loop-key.walk inv.whole c.in-Some.key.now c.in-Some.value.now c.next.new.self c.in-Some.ensures.some inv.short).1

pub put_pair-requires-clause-range : goal.put_pair-requires-clause-range
put_pair-requires-clause-range g c =
    let inv = c.loop-key.invariant in
    let room = room_for c.args.map.now inv.seen c.loop-key.walk inv.whole c.in-Some.key.now c.in-Some.value.now c.next.new.self c.in-Some.ensures.some in
    omega (arith, room, inv.went.count, inv.within.change.size, c.requires.range)

pub loop-key-smaller : goal.loop-key-smaller
loop-key-smaller g c = omega (arith, ap length c.in-Some.ensures.some)

pub returns-in_err-put_pair-clause-within : goal.returns-in_err-put_pair-clause-within
returns-in_err-put_pair-clause-within g c =
    let m = c.args.map.now in
    let inv = c.loop-key.invariant in
    let k = c.in-Some.key.now in
    let v = c.in-Some.value.now in
    let room = room_for m inv.seen c.loop-key.walk inv.whole k v c.next.new.self c.in-Some.ensures.some in
    let p = c.args.self.now.stream.place in
    let n = length c.args.waiting.now.items + (5 * length m + bytes_in m) in
    within_on p n c.loop-key.self.stream.place (length c.loop-key.waiting.items + (5 + (length k + length v))) n
    (g.D.Disk.state c.args.disk.now) (g.D.Disk.state c.loop-key.disk) (g.D.Disk.state c.put_pair.new.disk)
    inv.went.low (omega arith) (omega (arith, room, inv.went.count)) inv.within c.put_pair.ensures.within

pub returns-in_err-put_pair-clause-same : goal.returns-in_err-put_pair-clause-same
returns-in_err-put_pair-clause-same g c = g.met.D.Disk.same_next c.args.disk.now c.loop-key.disk c.put_pair.new.disk c.loop-key.invariant.same c.put_pair.ensures.same

pub loop-key-preserved : goal.loop-key-preserved
loop-key-preserved g c =
    let m = c.args.map.now in
    let inv = c.loop-key.invariant in
    let k = c.in-Some.key.now in
    let v = c.in-Some.value.now in
    let text = bytes_of (Put k v) in
    let is = c.in-Some.ensures.some in
    let room = room_for m inv.seen c.loop-key.walk inv.whole k v c.next.new.self is in
    let p = c.args.self.now.stream.place in
    let first = c.args.waiting.now.items in
    let n = length first + (5 * length m + bytes_in m) in
    let s₀ = g.D.Disk.state c.args.disk.now in
    let s₁ = g.D.Disk.state c.loop-key.disk in
    let s₂ = g.D.Disk.state c.put_pair.new.disk in
    record {
      seen = inv.seen ++ text;
      whole = whole_next m inv.seen c.loop-key.walk inv.whole k v c.next.new.self is;
      short = (short_next m inv.seen c.loop-key.walk inv.whole k v c.next.new.self is inv.short).2;
      went = advances_then inv.seen text p first s₀ c.loop-key.self.stream.place c.loop-key.waiting.items s₁ c.put_pair.new.self.stream.place c.put_pair.new.waiting.items s₂
          inv.within.torn.tells inv.went c.in_ok-put_pair.ensures.goes_on;
      hashed = λ q holds.
          let step = c.in_ok-put_pair.ensures.hashed (q ++ inv.seen) (inv.hashed q holds) in
          subst (λ (r : List ℕ). Holds256 c.put_pair.new.self.hasher r) (append_assoc q inv.seen text) step;
      few = c.in_ok-put_pair.ensures.few;
      within = within_on p n c.loop-key.self.stream.place (length c.loop-key.waiting.items + (5 + (length k + length v))) n s₀ s₁ s₂
          inv.went.low (omega arith) (omega (arith, room, inv.went.count)) inv.within c.put_pair.ensures.within;
      room = omega (arith, inv.room, c.put_pair.ensures.room);
      same = g.met.D.Disk.same_next c.args.disk.now c.loop-key.disk c.put_pair.new.disk inv.same c.put_pair.ensures.same;
      later = omega (arith, inv.later, c.put_pair.ensures.cause.later);
    }

pub returns-clause-goes_on : goal.returns-clause-goes_on
returns-clause-goes_on g c =
    let inv = c.loop-key.invariant in
    let none : c.loop-key.walk ≡ [] = search rules in
    subst (λ (q : List ℕ). Advances q c.args.self.now.stream.place c.args.waiting.now.items (g.D.Disk.state c.args.disk.now) c.loop-key.self.stream.place c.loop-key.waiting.items (g.D.Disk.state c.loop-key.disk))
    (sym (whole_end c.args.map.now inv.seen c.loop-key.walk inv.whole none)) inv.went

pub returns-clause-hashed : goal.returns-clause-hashed
returns-clause-hashed g c m holds =
    let inv = c.loop-key.invariant in
    let none : c.loop-key.walk ≡ [] = search rules in
    subst (λ (q : List ℕ). Holds256 c.loop-key.self.hasher (m ++ q)) (sym (whole_end c.args.map.now inv.seen c.loop-key.walk inv.whole none)) (inv.hashed m holds)
