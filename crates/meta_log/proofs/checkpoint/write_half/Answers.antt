use Rattle.std.proofs.Common.{arith, ◌+◌, ◌-◌, subst, sym}
use Rattle.std.specs.Prelude.{IsTrue}
use Rattle.std.proofs.lemmas.Result.{on_ok_weaker}
use Rattle.meta_log.proofs.Streams.{within_wider, within_then}
use Rattle.meta_log.proofs.Halves.{half_begun, half_gated, half_written}
use Rattle.meta_log.proofs.checkpoint.write_half.Goals as goal

pub returns-in_err-write_behind-clause-within : goal.returns-in_err-write_behind-clause-within
returns-in_err-write_behind-clause-within g c =
    within_wider (c.args.at + 1) (c.args.half - 1) c.args.at c.args.half (g.D.Disk.state c.args.disk.now) (g.D.Disk.state c.write_behind.new.disk)
    (omega arith) (omega (arith, c.requires.fits)) c.write_behind.ensures.within

pub returns-in_err-write_behind-clause-moments : goal.returns-in_err-write_behind-clause-moments
returns-in_err-write_behind-clause-moments g c told =
    half_begun c.args.at c.args.half c.args.epoch c.args.map.now (g.D.Disk.state c.args.disk.now) (g.D.Disk.state c.write_behind.new.disk) c.write_behind.ensures.within (omega (arith, c.requires.fits)) c.requires.range

pub returns-clause-moments : goal.returns-clause-moments
returns-clause-moments g c told =
    half_gated c.args.at c.args.half c.args.epoch c.args.map.now (g.D.Disk.state c.args.disk.now) (g.D.Disk.state c.write_behind.new.disk) c.write_behind.ensures.within (omega (arith, c.requires.fits)) c.requires.range
    (c.in_ok-write_behind.ensures.written told) (c.in_ok-write_behind.ensures.durable told) (g.D.Disk.state c.write_synced.new.disk) c.write_synced.ensures.torn

pub returns-clause-written : goal.returns-clause-written
returns-clause-written g c told =
    let told₁ = subst (λ b. IsTrue b) (sym c.write_behind.ensures.within.torn.tells) told in
    on_ok_weaker c.write_synced.result (λ holds.
    half_written c.args.at c.args.half c.args.epoch c.args.map.now (g.D.Disk.state c.args.disk.now) (g.D.Disk.state c.write_behind.new.disk) c.write_behind.ensures.within (omega (arith, c.requires.fits)) c.requires.range
    (c.in_ok-write_behind.ensures.written told) (c.in_ok-write_behind.ensures.durable told) (g.D.Disk.state c.write_synced.new.disk) c.write_synced.ensures.torn c.write_synced.ensures.image)
    (c.write_synced.ensures.written told₁)

pub returns-clause-within : goal.returns-clause-within
returns-clause-within g c =
    let s = g.D.Disk.state c.args.disk.now in
    let s₁ = g.D.Disk.state c.write_behind.new.disk in
    let s₂ = g.D.Disk.state c.write_synced.new.disk in
    within_then c.args.at c.args.half s s₁ s₂
    (within_wider (c.args.at + 1) (c.args.half - 1) c.args.at c.args.half s s₁ (omega arith) (omega (arith, c.requires.fits)) c.write_behind.ensures.within)
    (within_wider c.args.at 1 c.args.at c.args.half s₁ s₂ (omega arith) (omega (arith, c.requires.fits)) (record { change = c.write_synced.ensures.image; torn = c.write_synced.ensures.torn }))
