use Rattle.std.proofs.Common.{rules, ◌≡◌, ◌∷◌, [], ◌∙◌, ℕ, true, false, sym, subst}
use Rattle.vdisk.specs.Disk.{Holds}
use Rattle.meta_log.specs.Stream.{WritesWithin}
use Rattle.meta_log.proofs.Turns.{shut_already, shutting, shut, on_ok_both}
use Rattle.meta_log.proofs.turn_over.close_gate.Goals as goal

pub returns-then-not-may_be_open-clause-shut : goal.returns-then-not-may_be_open-clause-shut
returns-then-not-may_be_open-clause-shut g c l m stands at flag some =
    let closed : c.args.may_be_open ≡ false = search rules in
    shut_already l (g.D.Disk.state c.args.disk.now) m stands some (flag ∙ closed)

pub returns-clause-moments : goal.returns-clause-moments
returns-clause-moments g c l m n stands at flag some =
    let s = g.D.Disk.state c.args.disk.now in
    let s₁ = g.D.Disk.state c.write_synced.new.disk in
    let opened : c.args.may_be_open ≡ true = search rules in
    let within : WritesWithin l.other_at 1 s s₁ = subst (λ (k : ℕ). WritesWithin k 1 s s₁) (sym at) (record { change = c.write_synced.ensures.image; torn = c.write_synced.ensures.torn }) in
    shutting l s m stands some (flag ∙ opened) s₁ within n

pub returns-clause-shut : goal.returns-clause-shut
returns-clause-shut g c l m stands at flag some =
    let s = g.D.Disk.state c.args.disk.now in
    let s₁ = g.D.Disk.state c.write_synced.new.disk in
    let opened : c.args.may_be_open ≡ true = search rules in
    let within : WritesWithin l.other_at 1 s s₁ = subst (λ (k : ℕ). WritesWithin k 1 s s₁) (sym at) (record { change = c.write_synced.ensures.image; torn = c.write_synced.ensures.torn }) in
    on_ok_both c.write_synced.result (λ written only. shut l s m stands some (flag ∙ opened) s₁ within (subst (λ (k : ℕ). Holds s.image k (0 ∷ []) s₁.image) (sym at) written) only)
    (c.write_synced.ensures.written stands.told) (c.write_synced.ensures.durable stands.told)
