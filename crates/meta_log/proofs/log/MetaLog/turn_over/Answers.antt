use Rattle.std.proofs.Common.{arith, ◌≡◌, ◌≤◌, ◌<◌, ◌+◌, ◌*◌, ◌^◌, ◌∙◌, ℕ, List, [], drop, length, inl, refl, sym, ap, subst}
use Rattle.std.specs.Prelude.{IsTrue}
use Rattle.std.proofs.lemmas.List.{drop-take}
use Rattle.vdisk.specs.Ranges.{changed_then, changed_wider}
use Rattle.meta_log.specs.Records.{records_of}
use Rattle.meta_log.specs.Ready.{Stands}
use Rattle.meta_log.specs.Turn.{turned}
use Rattle.meta_log.specs.Checkpoint.{body_text}
use Rattle.meta_log.specs.Log.{layout_of, state_of}
use Rattle.meta_log.proofs.Turns.{turning, turned_stands, turned_image}
use Rattle.meta_log.proofs.log.MetaLog.turn_over.Goals as goal

pub returns-in_err-close_gate-clause-moments : goal.returns-in_err-close_gate-clause-moments
returns-in_err-close_gate-clause-moments g c m log =
    let s = c.args.self.now in
    let l = layout_of s in
    let n = s.map in
    let some : 1 ≤ s.half = omega (arith, s.least) in
    c.close_gate.ensures.moments l m n log.stands refl refl some

pub returns-in_err-close_gate-clause-outside : goal.returns-in_err-close_gate-clause-outside
returns-in_err-close_gate-clause-outside g c =
    let s = c.args.self.now in
    changed_wider s.other_at 1 s.at (2 * s.half) (state_of s).image (g.D.Disk.state c.close_gate.new.disk).image s.other_low (omega (arith, s.other_high, s.least)) c.close_gate.ensures.within.change

pub returns-in_err-write_half-clause-moments : goal.returns-in_err-write_half-clause-moments
returns-in_err-write_half-clause-moments g c m log =
    let s = c.args.self.now in
    let l = layout_of s in
    let n = s.map in
    let some : 1 ≤ s.half = omega (arith, s.least) in
    let s₀ = state_of s in
    let s₁ = g.D.Disk.state c.close_gate.new.disk in
    let s₂ = g.D.Disk.state c.write_half.new.disk in
    let few : length (body_text n) < 2 ^ 32 = omega (arith, c.body_bytes-place.ensures.text, c.body_bytes-place.ensures.sum, s.fits, s.most) in
    let late : s.epoch + 1 < 2 ^ 63 = omega (arith, c.requires.epoch) in
    let sorted = c.body_bytes-place.ensures.sorted in
    let before = c.close_gate.ensures.moments l m n log.stands refl refl some in
    let shut = c.in_ok-close_gate.ensures.shut l m log.stands refl refl some in
    let told₁ : IsTrue s₁.tells = subst (λ b. IsTrue b) (sym c.close_gate.ensures.within.torn.tells) log.stands.told in
    turning l s₀ m log.stands some n late few sorted s.short s₁ shut before s₂ (c.write_half.ensures.moments told₁)

pub returns-in_err-write_half-clause-outside : goal.returns-in_err-write_half-clause-outside
returns-in_err-write_half-clause-outside g c =
    let s = c.args.self.now in
    let s₁ = g.D.Disk.state c.close_gate.new.disk in
    let s₂ = g.D.Disk.state c.write_half.new.disk in
    changed_then s.at (2 * s.half) (state_of s).image s₁.image s₂.image
    (changed_wider s.other_at 1 s.at (2 * s.half) (state_of s).image s₁.image s.other_low (omega (arith, s.other_high, s.least)) c.close_gate.ensures.within.change)
    (changed_wider s.other_at s.half s.at (2 * s.half) s₁.image s₂.image s.other_low (omega (arith, s.other_high)) c.write_half.ensures.within.change)

pub returns-clause-moments : goal.returns-clause-moments
returns-clause-moments g c m log =
    let s = c.args.self.now in
    let l = layout_of s in
    let n = s.map in
    let some : 1 ≤ s.half = omega (arith, s.least) in
    let s₀ = state_of s in
    let s₁ = g.D.Disk.state c.close_gate.new.disk in
    let s₂ = g.D.Disk.state c.write_half.new.disk in
    let few : length (body_text n) < 2 ^ 32 = omega (arith, c.body_bytes-place.ensures.text, c.body_bytes-place.ensures.sum, s.fits, s.most) in
    let late : s.epoch + 1 < 2 ^ 63 = omega (arith, c.requires.epoch) in
    let sorted = c.body_bytes-place.ensures.sorted in
    let before = c.close_gate.ensures.moments l m n log.stands refl refl some in
    let shut = c.in_ok-close_gate.ensures.shut l m log.stands refl refl some in
    let told₁ : IsTrue s₁.tells = subst (λ b. IsTrue b) (sym c.close_gate.ensures.within.torn.tells) log.stands.told in
    turning l s₀ m log.stands some n late few sorted s.short s₁ shut before s₂ (c.write_half.ensures.moments told₁)

pub returns-clause-ok : goal.returns-clause-ok
returns-clause-ok g c m log =
    let s = c.args.self.now in
    let l = layout_of s in
    let n = s.map in
    let some : 1 ≤ s.half = omega (arith, s.least) in
    let s₀ = state_of s in
    let s₁ = g.D.Disk.state c.close_gate.new.disk in
    let s₂ = g.D.Disk.state c.write_half.new.disk in
    let few : length (body_text n) < 2 ^ 32 = omega (arith, c.body_bytes-place.ensures.text, c.body_bytes-place.ensures.sum, s.fits, s.most) in
    let late : s.epoch + 1 < 2 ^ 63 = omega (arith, c.requires.epoch) in
    let sorted = c.body_bytes-place.ensures.sorted in
    let before = c.close_gate.ensures.moments l m n log.stands refl refl some in
    let shut = c.in_ok-close_gate.ensures.shut l m log.stands refl refl some in
    let told₁ : IsTrue s₁.tells = subst (λ b. IsTrue b) (sym c.close_gate.ensures.within.torn.tells) log.stands.told in
    let is = c.in_ok-write_half.ensures.written told₁ in
    let opened = c.in_ok-write_half.ensures.opened told₁ in
    let only = c.in_ok-write_half.ensures.durable told₁ in
    let place : c.body_bytes-place.result ≡ length (body_text n) = c.body_bytes-place.ensures.text in
    let stands = turned_stands l s₀ m log.stands some n late few sorted s.short s₁ shut before s₂ c.write_half.ensures.within.change c.write_half.ensures.within.torn.tells is opened only in
    record {
      stands = subst (λ (k : ℕ). Stands (turned l (45 + k)) s₂ n) (sym place) stands;
      records = [];
      spelled = ap (λ (q : List ℕ). records_of q) (ap (λ (q : List ℕ). drop 36 q) c.truncate.ensures.items ∙ drop-take 36 0 s.staged.items);
      now = refl;
    }

pub returns-clause-settled : goal.returns-clause-settled
returns-clause-settled g c m log image left =
    let s = c.args.self.now in
    let l = layout_of s in
    let n = s.map in
    let some : 1 ≤ s.half = omega (arith, s.least) in
    let s₀ = state_of s in
    let s₁ = g.D.Disk.state c.close_gate.new.disk in
    let s₂ = g.D.Disk.state c.write_half.new.disk in
    let few : length (body_text n) < 2 ^ 32 = omega (arith, c.body_bytes-place.ensures.text, c.body_bytes-place.ensures.sum, s.fits, s.most) in
    let late : s.epoch + 1 < 2 ^ 63 = omega (arith, c.requires.epoch) in
    let sorted = c.body_bytes-place.ensures.sorted in
    let before = c.close_gate.ensures.moments l m n log.stands refl refl some in
    let shut = c.in_ok-close_gate.ensures.shut l m log.stands refl refl some in
    let told₁ : IsTrue s₁.tells = subst (λ b. IsTrue b) (sym c.close_gate.ensures.within.torn.tells) log.stands.told in
    let is = c.in_ok-write_half.ensures.written told₁ in
    let opened = c.in_ok-write_half.ensures.opened told₁ in
    let only = c.in_ok-write_half.ensures.durable told₁ in
    let both = turned_image l s₀ m log.stands some n late few sorted s.short s₁ shut before s₂ c.write_half.ensures.within.change c.write_half.ensures.within.torn.tells is opened only image left in
    (both.0, inl both.1)

pub returns-clause-outside : goal.returns-clause-outside
returns-clause-outside g c =
    let s = c.args.self.now in
    let s₁ = g.D.Disk.state c.close_gate.new.disk in
    let s₂ = g.D.Disk.state c.write_half.new.disk in
    changed_then s.at (2 * s.half) (state_of s).image s₁.image s₂.image
    (changed_wider s.other_at 1 s.at (2 * s.half) (state_of s).image s₁.image s.other_low (omega (arith, s.other_high, s.least)) c.close_gate.ensures.within.change)
    (changed_wider s.other_at s.half s.at (2 * s.half) s₁.image s₂.image s.other_low (omega (arith, s.other_high)) c.write_half.ensures.within.change)
