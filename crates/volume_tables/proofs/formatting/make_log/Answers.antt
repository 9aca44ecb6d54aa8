use Rattle.std.proofs.Common.{ℕ, ◌∙◌, subst, inl, inr, ⊎_elim}
use Rattle.meta_log.specs.Format.{IsFormatImage}
use Rattle.vdisk.specs.Steps.{Keeps}
use Rattle.volume_tables.proofs.Formatted.{make_begun, make_journal}
use Rattle.volume_tables.proofs.formatting.make_log.Goals as goal

pub returns-in-Err-clause-moments_err : goal.returns-in-Err-clause-moments_err
returns-in-Err-clause-moments_err g c told =
    make_begun c.args.clusters (g.D.Disk.state c.args.disk) (g.D.Disk.state c.prepare.new.disk) c.in-Err.ensures.moments

pub returns-in-Ok-format-clause-moments : goal.returns-in-Ok-format-clause-moments
returns-in-Ok-format-clause-moments g c told =
    let s₁ = g.D.Disk.state c.prepare.new.disk in
    let s₂ = g.D.Disk.state c.in-Ok-format.log.disk in
    make_journal c.args.clusters (g.D.Disk.state c.args.disk) s₁ s₂ c.in-Ok.ensures.moments c.in-Ok.ensures.size
    (subst (λ (k : ℕ). Keeps s₁ s₂ (IsFormatImage 4096 k s₁)) c.half_bytes.ensures
    (c.in-Ok-format.ensures.moments (c.in-Ok.ensures.tells ∙ told)))

pub returns-in-Err-format-clause-moments_err : goal.returns-in-Err-format-clause-moments_err
returns-in-Err-format-clause-moments_err g c told =
    let s₁ = g.D.Disk.state c.prepare.new.disk in
    let s₂ = g.D.Disk.state c.in-Err-format.disk in
    make_journal c.args.clusters (g.D.Disk.state c.args.disk) s₁ s₂ c.in-Ok.ensures.moments c.in-Ok.ensures.size
    (subst (λ (k : ℕ). Keeps s₁ s₂ (IsFormatImage 4096 k s₁)) c.half_bytes.ensures
    (c.in-Err-format.ensures.moments_err (c.in-Ok.ensures.tells ∙ told)))

pub mount_fault-requires : goal.mount_fault-requires
mount_fault-requires g c =
    ⊎_elim (λ failed. inr (inl failed.0)) (λ memory. inr (inr memory)) c.in-Err-format.ensures.refused
