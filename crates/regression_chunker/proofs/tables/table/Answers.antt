use Rattle.std.proofs.Common.{ℕ, ◌+◌, ◌*◌, ◌≡◌, ◌≢◌, ◌<◌, ◌≤◌, inl, inr, List, length, get_or, sym, ◌∙◌, ap, arith, bit_xor}
use Rattle.std.specs.List.{slice_set}
use Rattle.std.proofs.lemmas.List.{get_or-set_same, get_or-set_other, length-set}
use Rattle.std.proofs.Math.Nat.{eq-or-lt_of_le}
use Rattle.regression_chunker.specs.Fingerprint.{times_x, times_x_to}
use Rattle.regression_chunker.proofs.Algebra.{entry_even, entry_odd, times_zero}
use Rattle.regression_chunker.proofs.tables.table.Goals as goal
use Rattle.regression_chunker.proofs.tables.table.Goals.{then-i-eq0, else-i-eq0}

two_more : (k i : ℕ) (t : List ℕ) (even odd : ℕ) → i < 128 → length t ≡ 256 → ((j : ℕ) → j < 2 * i → get_or t j 0 ≡ times_x_to k j) →
    even ≡ times_x_to k (2 * i) → odd ≡ times_x_to k (2 * i + 1) →
    (j : ℕ) → j < 2 * (i + 1) → get_or (slice_set (slice_set t (2 * i) even) (2 * i + 1) odd) j 0 ≡ times_x_to k j
two_more k i t even odd few long before is_even is_odd j less =
    let long2 : length (slice_set t (2 * i) even) ≡ 256 = length-set t (2 * i) even ∙ long in
    let le : j ≤ 2 * i + 1 = omega (arith, less) in
    elim (eq-or-lt_of_le le) [
      | inl is ↦ ap (λ x. get_or (slice_set (slice_set t (2 * i) even) (2 * i + 1) odd) x 0) is
          ∙ get_or-set_same (slice_set t (2 * i) even) (2 * i + 1) odd 0 (omega (arith, few, long2)) ∙ is_odd ∙ ap (λ x. times_x_to k x) (sym is)
      | inr below ↦
          get_or-set_other (slice_set t (2 * i) even) (2 * i + 1) j odd 0 (let ne : j ≢ 2 * i + 1 = omega (arith, below) in ne)
          ∙ (let le2 : j ≤ 2 * i = omega (arith, below) in elim (eq-or-lt_of_le le2) [
            | inl is ↦ ap (λ x. get_or (slice_set t (2 * i) even) x 0) is
                ∙ get_or-set_same t (2 * i) even 0 (omega (arith, few, long)) ∙ is_even ∙ ap (λ x. times_x_to k x) (sym is)
            | inr less2 ↦ get_or-set_other t (2 * i) j even 0 (let ne : j ≢ 2 * i = omega (arith, less2) in ne) ∙ before j less2
          ])
    ]

pub loop-i-preserved : goal.loop-i-preserved
loop-i-preserved c =
    let k : ℕ = c.args.bits in
    let i : ℕ = c.loop-i.i in
    let inv = c.loop-i.invariant in
    let known : c.if-i-eq0.times_x ≡ times_x_to k i = elim c.if-i-eq0.branch [
      | then-i-eq0 w ↦ w.times_x-is ∙ sym (times_zero k) ∙ ap (λ x. times_x_to k x) (sym w.if-i-eq0.true)
      | else-i-eq0 w ↦ w.times_x-is ∙ inv.rule i (omega (arith, w.if-i-eq0.false))
    ] in
    let even : c.times_x-even.result ≡ times_x_to k (2 * i) =
    c.times_x-even.ensures ∙ ap (λ x. times_x x) known ∙ entry_even k i c.loop-i-test.true in
    let odd : bit_xor c.times_x-even.result c.times_x_to-one.result ≡ times_x_to k (2 * i + 1) =
    ap (λ x. bit_xor x c.times_x_to-one.result) (c.times_x-even.ensures ∙ ap (λ x. times_x x) known)
    ∙ ap (λ x. bit_xor (times_x (times_x_to k i)) x) c.times_x_to-one.ensures ∙ entry_odd k i c.loop-i-test.true in
    record {
      whole = length-set (slice_set c.loop-i.entries (2 * i) c.times_x-even.result) (2 * i + 1) (bit_xor c.times_x-even.result c.times_x_to-one.result)
          ∙ length-set c.loop-i.entries (2 * i) c.times_x-even.result ∙ inv.whole;
      rule = two_more k i c.loop-i.entries c.times_x-even.result (bit_xor c.times_x-even.result c.times_x_to-one.result) c.loop-i-test.true inv.whole inv.rule even odd;
    }
