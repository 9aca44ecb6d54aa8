use Rattle.std.proofs.Common.{◌≡◌, ◌+◌, ◌<◌, ◌⊎◌, inl, inr, get_or, ◌∙◌, ap, arith, rules, drop, ◌++◌, ◌∷◌, []}
use Rattle.regression_chunker.proofs.Ring.{turned, ring_push}
use Rattle.regression_chunker.proofs.fingerprint.Print.push.Goals as goal
use Rattle.regression_chunker.proofs.fingerprint.Print.push.Goals.{then-self, else-self}

pub invariant_of-self : goal.invariant_of-self
invariant_of-self c =
    let there : c.self.inside.oldest < 48 = c.self.invariant.0 in
    let turns : ((c.self.inside.oldest ≡ 47) × (c.if-self.self ≡ 0)) ⊎ (c.if-self.self ≡ c.self.inside.oldest + 1) =
    elim c.if-self.branch [ then-self w ↦ inl (w.if-self.true, w.self-is) | else-self w ↦ inr w.self-is ] in
    let within : c.if-self.self < 48 =
    elim c.if-self.branch [ then-self w ↦ omega (arith, w.self-is) | else-self w ↦ omega (arith, w.self-is, w.if-self.false, there) ] in
    let old : get_or c.self.inside.ring c.self.inside.oldest 0 < 256 = search rules in (
      within,
      c.push-print.ensures
          ∙ ring_push c.self.inside.ring c.self.inside.oldest c.if-self.self c.args.byte c.self.inside.print c.self.told there turns old c.ranges.byte.fits c.self.invariant.1,
    )

pub returns-clause-window : goal.returns-clause-window
returns-clause-window c =
    let there : c.self.inside.oldest < 48 = c.self.invariant.0 in
    let turns : ((c.self.inside.oldest ≡ 47) × (c.if-self.self ≡ 0)) ⊎ (c.if-self.self ≡ c.self.inside.oldest + 1) =
    elim c.if-self.branch [ then-self w ↦ inl (w.if-self.true, w.self-is) | else-self w ↦ inr w.self-is ] in
    turned c.self.inside.ring c.self.inside.oldest c.if-self.self c.args.byte c.self.told there turns
    ∙ ap (λ l. drop 1 l ++ c.args.byte ∷ []) c.self.view_is

pub returns-clause-print : goal.returns-clause-print
returns-clause-print c =
    let there : c.self.inside.oldest < 48 = c.self.invariant.0 in
    let turns : ((c.self.inside.oldest ≡ 47) × (c.if-self.self ≡ 0)) ⊎ (c.if-self.self ≡ c.self.inside.oldest + 1) =
    elim c.if-self.branch [ then-self w ↦ inl (w.if-self.true, w.self-is) | else-self w ↦ inr w.self-is ] in
    let old : get_or c.self.inside.ring c.self.inside.oldest 0 < 256 = search rules in
    c.push-print.ensures
    ∙ ring_push c.self.inside.ring c.self.inside.oldest c.if-self.self c.args.byte c.self.inside.print c.self.told there turns old c.ranges.byte.fits c.self.invariant.1
