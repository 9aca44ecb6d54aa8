use Rattle.std.proofs.Common.{◌≡◌, ℕ, ◌-◌, ◌*◌, ◌%◌, ◌^◌, ◌<◌, ◌≤◌, refl, ◌∙◌, ap, arith, one-mul, mod-eq_of_lt, pow_mono}
use Rattle.std.proofs.lemmas.Nat.{and_mask}
use Rattle.regression_chunker.proofs.seen.is_match.Goals as goal

pub returns : goal.returns
returns c =
    let bits : ℕ = c.args.bits in
    let most : 2 ^ bits ≤ 2 ^ 63 = pow_mono (let le : bits ≤ 63 = omega (arith, c.requires) in le) in
    let fits : 2 ^ bits < 2 ^ 64 = omega (arith, most) in
    let ones : 1 * 2 ^ bits % 2 ^ 64 - 1 ≡ 2 ^ bits - 1 =
    ap (λ x. x % 2 ^ 64 - 1) (one-mul (2 ^ bits)) ∙ ap (λ x. x - 1) (mod-eq_of_lt fits) in
    rw ones (rw (and_mask c.args.print bits) refl)
