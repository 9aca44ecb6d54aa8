use Rattle.std.proofs.Common.{◌∙◌, ℕ, arith, subst}
use Rattle.std.proofs.lemmas.Result.{on_ok_weaker}
use Rattle.vdisk.specs.Steps.{TornWithin}
use Rattle.volume_tables.proofs.Committed.{superblock_put}
use Rattle.volume_tables.proofs.Formatted.{begun_grown, begun_written}
use Rattle.volume_tables.proofs.formatting.prepare.Goals as goal

pub returns-clause-written : goal.returns-clause-written
returns-clause-written g c told =
    let s₁ = g.D.Disk.state c.grow.new.self in
    let s₂ = g.D.Disk.state c.write_synced.new.disk in
    on_ok_weaker c.write_synced.result
    (λ written. superblock_put c.args.clusters c.args.superblock.now s₁.image s₂.image c.requires.cluster c.requires.is
    written
    (omega (arith, c.requires.some, c.in_ok-grow.ensures.grown, c.write_synced.ensures.image.size)))
    (c.write_synced.ensures.written (c.in_ok-grow.ensures.time.tells ∙ told))

pub returns-in_err-grow-clause-moments : goal.returns-in_err-grow-clause-moments
returns-in_err-grow-clause-moments g c =
    begun_grown c.args.clusters (g.D.Disk.state c.args.disk.now)
    (g.D.Disk.state c.grow.new.self) c.grow.ensures.time c.grow.ensures.crash

pub returns-clause-moments : goal.returns-clause-moments
returns-clause-moments g c =
    let s₁ = g.D.Disk.state c.grow.new.self in
    let s₂ = g.D.Disk.state c.write_synced.new.disk in
    begun_written c.args.clusters (g.D.Disk.state c.args.disk.now) s₁ s₂ c.grow.ensures.time c.grow.ensures.crash
    (subst (λ (n : ℕ). TornWithin 0 n s₁ s₂) c.requires.cluster c.write_synced.ensures.torn)
