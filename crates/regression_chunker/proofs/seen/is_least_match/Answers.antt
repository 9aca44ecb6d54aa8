use Rattle.std.proofs.Common.{ℕ, ◌≡◌, ◌%◌, ◌^◌, ◌-◌, ◌==◌, bit_and, sym, ◌∙◌, ap, inl, inr}
use Rattle.std.proofs.lemmas.Bool.Decides.{eqb_tells}
use Rattle.std.proofs.lemmas.Nat.{and_mask}
use Rattle.regression_chunker.specs.Tables.{complement_of}
use Rattle.regression_chunker.proofs.Turns.{match_is_zero, zero_is_match}
use Rattle.regression_chunker.proofs.seen.is_least_match.Goals as goal

told : (complement print : ℕ) → complement ≡ complement_of print → (bit_and complement 4095 == 0) ≡ (print % 2 ^ 12 == 2 ^ 12 - 1)
told complement print is =
    let low : bit_and complement 4095 ≡ complement_of print % 2 ^ 12 = and_mask complement 12 ∙ ap (λ x. x % 2 ^ 12) is in
    elim (eqb_tells (print % 2 ^ 12) (2 ^ 12 - 1)) [
      | inl so ↦ elim (eqb_tells (bit_and complement 4095) 0) [
        | inl zeroed ↦ zeroed.0 ∙ sym so.0
        | inr not_zero ↦ absurd (not_zero.1 (low ∙ match_is_zero print so.1))
      ]
      | inr not_so ↦ elim (eqb_tells (bit_and complement 4095) 0) [
        | inl zeroed ↦ absurd (not_so.1 (zero_is_match print (sym low ∙ zeroed.1)))
        | inr not_zero ↦ not_zero.0 ∙ sym not_so.0
      ]
    ]

pub returns : goal.returns
returns c = told c.args.complement
