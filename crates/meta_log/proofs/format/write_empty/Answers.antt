use Rattle.std.proofs.Common.{arith, ◌≡◌, ◌+◌, ◌*◌, get_or, subst, sym}
use Rattle.std.specs.Prelude.{IsTrue}
use Rattle.vdisk.specs.Disk.{Only}
use Rattle.vdisk.specs.Ranges.{part}
use Rattle.vdisk.specs.Steps.{Keeps, torn_write}
use Rattle.byte_map.specs.Words.{Map}
use Rattle.meta_log.specs.Checkpoint.{IsCheckpoint, IsHalfImage}
use Rattle.meta_log.proofs.Streams.{within_wider, within_then}
use Rattle.meta_log.proofs.Turns.{on_ok_both}
use Rattle.meta_log.proofs.Formats.{second_closing, first_closing, emptying, fresh_stands}
use Rattle.meta_log.proofs.format.write_empty.Goals as goal

pub returns-in_err-write-clause-moments : goal.returns-in_err-write-clause-moments
returns-in_err-write-clause-moments g c told =
    let at = c.args.at in
    let half = c.args.half in
    let s₀ = g.D.Disk.state c.args.disk.now in
    let s₁ = g.D.Disk.state c.write.new.self in
    let torn₁ = torn_write s₀ s₁ (at + half) 1 c.write.ensures.time c.write.ensures.crash in
    second_closing at half s₀ c.requires.least c.requires.range s₁ torn₁

pub returns-in_err-write-clause-within : goal.returns-in_err-write-clause-within
returns-in_err-write-clause-within g c =
    let at = c.args.at in
    let half = c.args.half in
    let s₀ = g.D.Disk.state c.args.disk.now in
    let s₁ = g.D.Disk.state c.write.new.self in
    let torn₁ = torn_write s₀ s₁ (at + half) 1 c.write.ensures.time c.write.ensures.crash in
    let first = within_wider (at + half) 1 at (2 * half) s₀ s₁ (omega arith) (omega (arith, c.requires.least)) (record { change = c.write.ensures.image; torn = torn₁ }) in
    first

pub returns-in_err-write_synced-clause-moments : goal.returns-in_err-write_synced-clause-moments
returns-in_err-write_synced-clause-moments g c told =
    let at = c.args.at in
    let half = c.args.half in
    let s₀ = g.D.Disk.state c.args.disk.now in
    let s₁ = g.D.Disk.state c.write.new.self in
    let torn₁ = torn_write s₀ s₁ (at + half) 1 c.write.ensures.time c.write.ensures.crash in
    let s₂ = g.D.Disk.state c.write_synced.new.disk in
    first_closing at half s₀ c.requires.least c.requires.range s₁ torn₁ s₂ c.write_synced.ensures.torn

pub returns-in_err-write_synced-clause-within : goal.returns-in_err-write_synced-clause-within
returns-in_err-write_synced-clause-within g c =
    let at = c.args.at in
    let half = c.args.half in
    let s₀ = g.D.Disk.state c.args.disk.now in
    let s₁ = g.D.Disk.state c.write.new.self in
    let torn₁ = torn_write s₀ s₁ (at + half) 1 c.write.ensures.time c.write.ensures.crash in
    let s₂ = g.D.Disk.state c.write_synced.new.disk in
    let first = within_wider (at + half) 1 at (2 * half) s₀ s₁ (omega arith) (omega (arith, c.requires.least)) (record { change = c.write.ensures.image; torn = torn₁ }) in
    let second = within_wider at 1 at (2 * half) s₁ s₂ (omega arith) (omega (arith, c.requires.least)) (record { change = c.write_synced.ensures.image; torn = c.write_synced.ensures.torn }) in
    within_then at (2 * half) s₀ s₁ s₂ first second

pub returns-clause-moments : goal.returns-clause-moments
returns-clause-moments g c told =
    let at = c.args.at in
    let half = c.args.half in
    let s₀ = g.D.Disk.state c.args.disk.now in
    let s₁ = g.D.Disk.state c.write.new.self in
    let torn₁ = torn_write s₀ s₁ (at + half) 1 c.write.ensures.time c.write.ensures.crash in
    let s₂ = g.D.Disk.state c.write_synced.new.disk in
    let s₃ = g.D.Disk.state c.write_half.new.disk in
    let told₁ : IsTrue s₁.tells = subst (λ b. IsTrue b) (sym c.write.ensures.time.tells) told in
    let told₂ : IsTrue s₂.tells = subst (λ b. IsTrue b) (sym c.write_synced.ensures.torn.tells) told₁ in
    let written₁ = c.in_ok-write.ensures.written told in
    let written₂ = c.in_ok-write_synced.ensures.written told₁ in
    let only₂ = c.in_ok-write_synced.ensures.durable told₁ in
    emptying at half s₀ c.requires.least c.requires.range s₁ torn₁ s₂ c.write_synced.ensures.torn c.write.ensures.image written₁ c.write_synced.ensures.image written₂ only₂ s₃
    (subst (λ (m : Map). Keeps s₂ s₃ (IsHalfImage at half s₂ 1 m)) c.requires.empty (c.write_half.ensures.moments told₂))

pub returns-clause-stands : goal.returns-clause-stands
returns-clause-stands g c told =
    let at = c.args.at in
    let half = c.args.half in
    let s₀ = g.D.Disk.state c.args.disk.now in
    let s₁ = g.D.Disk.state c.write.new.self in
    let torn₁ = torn_write s₀ s₁ (at + half) 1 c.write.ensures.time c.write.ensures.crash in
    let s₂ = g.D.Disk.state c.write_synced.new.disk in
    let s₃ = g.D.Disk.state c.write_half.new.disk in
    let told₁ : IsTrue s₁.tells = subst (λ b. IsTrue b) (sym c.write.ensures.time.tells) told in
    let told₂ : IsTrue s₂.tells = subst (λ b. IsTrue b) (sym c.write_synced.ensures.torn.tells) told₁ in
    let written₁ = c.in_ok-write.ensures.written told in
    let written₂ = c.in_ok-write_synced.ensures.written told₁ in
    let only₂ = c.in_ok-write_synced.ensures.durable told₁ in
    let told₃ : IsTrue s₃.tells = subst (λ b. IsTrue b) (sym c.write_half.ensures.within.torn.tells) told₂ in
    on_ok_both c.write_half.result (λ is rest.
    fresh_stands at half s₀ c.requires.least c.requires.range s₁ torn₁ s₂ c.write_synced.ensures.torn c.write.ensures.image written₁ c.write_synced.ensures.image written₂ only₂ s₃
    told₃ c.write_half.ensures.within.change (subst (λ (m : Map). IsCheckpoint 1 m (part at half s₃.image)) c.requires.empty is) rest.0 rest.1)
    (c.write_half.ensures.written told₂)
    (on_ok_both {R = (get_or (part at half s₃.image) 0 0 ≡ 1) × Only s₃.image s₃.may_leave} c.write_half.result (λ opened only. (opened, only)) (c.write_half.ensures.opened told₂) (c.write_half.ensures.durable told₂))

pub returns-clause-within : goal.returns-clause-within
returns-clause-within g c =
    let at = c.args.at in
    let half = c.args.half in
    let s₀ = g.D.Disk.state c.args.disk.now in
    let s₁ = g.D.Disk.state c.write.new.self in
    let torn₁ = torn_write s₀ s₁ (at + half) 1 c.write.ensures.time c.write.ensures.crash in
    let s₂ = g.D.Disk.state c.write_synced.new.disk in
    let s₃ = g.D.Disk.state c.write_half.new.disk in
    let first = within_wider (at + half) 1 at (2 * half) s₀ s₁ (omega arith) (omega (arith, c.requires.least)) (record { change = c.write.ensures.image; torn = torn₁ }) in
    let second = within_wider at 1 at (2 * half) s₁ s₂ (omega arith) (omega (arith, c.requires.least)) (record { change = c.write_synced.ensures.image; torn = c.write_synced.ensures.torn }) in
    within_then at (2 * half) s₀ s₂ s₃ (within_then at (2 * half) s₀ s₁ s₂ first second)
    (within_wider at half at (2 * half) s₂ s₃ (omega arith) (omega arith) c.write_half.ensures.within)
