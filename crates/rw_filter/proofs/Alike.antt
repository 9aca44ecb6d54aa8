-- Cells in one block, on one side of what the base of a file covers, come all from the base, or none of them.
use Rattle.std.specs.Prelude.{◌≡◌, ◌≤◌, ◌<◌, ◌+◌, ◌/◌, ◌%◌, ℕ, true, is_some, refl}
use Rattle.std.proofs.Common.{sym, ◌∙◌, ap, inl, inr, arith}
use Rattle.std.specs.Ordering.{nat_cmp}
use Rattle.std.specs.FinMap.{find}
use Rattle.std.proofs.lemmas.Bool.{cases_lt, cond_below, cond_above}
use Rattle.table_records.specs.Keys.{pair_cmp}
use Rattle.volume_inside.specs.Typed.{Typed}
use Rattle.volume_files.specs.Own.{covered_in}
use Rattle.rw_filter.specs.Own.{is_own}

module _ (t : Typed) (id covers : ℕ) (is : covers ≡ covered_in (find nat_cmp id t.files)) where
  pub covered_own : (p : ℕ) → p < covers → is_own t id p ≡ is_some (find pair_cmp (id, p / 4096) t.extents)
  covered_own p low =
      sym (cond_below p (covered_in (find nat_cmp id t.files)) (is_some (find pair_cmp (id, p / 4096) t.extents)) true
      (omega (arith, low, is)))

  pub behind_own : (p : ℕ) → covers ≤ p → is_own t id p ≡ true
  behind_own p behind =
      sym (cond_above p (covered_in (find nat_cmp id t.files)) (is_some (find pair_cmp (id, p / 4096) t.extents)) true
      true (omega (arith, behind, is)) refl)

  pub alike : (place n : ℕ) → (place < covers → place + n ≤ covers) → (place < covers → place % 4096 + n ≤ 4096)
      → (k : ℕ) → k < n → is_own t id (place + k) ≡ is_own t id place
  alike place n beside in_block k low = elim (cases_lt place covers) [
    | inl covered ↦
        let within : place + n ≤ covers = beside covered in
        let block : place % 4096 + n ≤ 4096 = in_block covered in
        let same : (place + k) / 4096 ≡ place / 4096 = omega (arith, block, low) in
        covered_own (place + k) (omega (arith, within, low))
        ∙ ap (λ (b : ℕ). is_some (find pair_cmp (id, b) t.extents)) same
        ∙ sym (covered_own place covered)
    | inr behind ↦ behind_own (place + k) (omega (arith, behind)) ∙ sym (behind_own place behind)
  ]
