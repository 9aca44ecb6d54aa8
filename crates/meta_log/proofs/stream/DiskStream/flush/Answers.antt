use Rattle.std.proofs.Common.{◌≡◌, ◌+◌, List, ℕ, [], length, subst, sym, rules}
use Rattle.std.specs.Prelude.{IsTrue}
use Rattle.vdisk.specs.Disk.{ChangedWithin, Holds}
use Rattle.meta_log.specs.Stream.{Advances}
use Rattle.meta_log.proofs.Streams.{flushed}
use Rattle.meta_log.proofs.stream.DiskStream.flush.Goals as goal

pub returns-clause-goes_on : goal.returns-clause-goes_on
returns-clause-goes_on g c =
    let s = g.D.Disk.state c.args.disk.now in
    let s₁ = g.D.Disk.state c.write.new.self in
    let place = c.args.self.now.place in
    let waiting = c.args.waiting.now.items in
    let change : ChangedWithin place (length waiting) s.image s₁.image = subst (λ (b : List ℕ). ChangedWithin place (length b) s.image s₁.image) c.deref.ensures.value c.write.ensures.image in
    let written : IsTrue s.tells → Holds s.image place waiting s₁.image = λ told. subst (λ (b : List ℕ). Holds s.image place b s₁.image) c.deref.ensures.value (c.in_ok-write.ensures.written told) in
    let long : length waiting ≡ c.len.result = search rules in
    let done = subst (λ (k : ℕ). Advances [] place waiting s (place + k) [] s₁) long (flushed place waiting s s₁ c.requires.range written change) in
    subst (λ (w : List ℕ). Advances [] place waiting s (place + c.len.result) w s₁) (sym c.clear.ensures.items) done
