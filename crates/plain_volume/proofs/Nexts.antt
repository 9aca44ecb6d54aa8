-- The least name above a name, looked for from the front.
use Rattle.std.proofs.Common.{◌≡◌, ℕ, zero, suc, ◌+◌, ◌<◌, ◌≤◌, true, false, cond, List, [], ◌∷◌, length, drop, Some, None, refl, sym, ap, ◌∙◌, arith}
use Rattle.std.proofs.lemmas.List.{drop_all}
use Rattle.std.specs.Ordering.{is_lt}
use Rattle.plain_volume.specs.Volume.{name_cmp, next_above, first_name}
use Rattle.plain_volume.specs.Files.{Named, name_at, volume_of}

module _ (name : List ℕ) where
  -- a name that is not above is passed
  pub next_past : (es : List Named) (i : ℕ) → i < length es → is_lt (name_cmp name (name_at es i)) ≡ false → next_above name (volume_of (drop i es)) ≡ next_above name (volume_of (drop (i + 1) es))
  next_past [] i inside is = absurd (omega arith)
  next_past (e ∷ es) zero inside is = ap (λ b. cond b (Some e.0) (next_above name (volume_of es))) is
  next_past (e ∷ es) (suc i) inside is =
      let more : suc i + 1 ≡ suc (i + 1) = omega arith in
      next_past es i (omega arith) is ∙ ap (λ n. next_above name (volume_of (drop n (e ∷ es)))) (sym more)

  -- the first name that is above
  pub next_here : (es : List Named) (i : ℕ) → i < length es → is_lt (name_cmp name (name_at es i)) ≡ true → next_above name (volume_of (drop i es)) ≡ first_name (volume_of (drop i es))
  next_here [] i inside is = absurd (omega arith)
  next_here (e ∷ es) zero inside is = ap (λ b. cond b (Some e.0) (next_above name (volume_of es))) is
  next_here (e ∷ es) (suc i) inside is = next_here es i (omega arith) is

  pub next_nowhere : (es : List Named) (i : ℕ) → length es ≤ i → next_above name (volume_of (drop i es)) ≡ first_name (volume_of (drop i es))
  next_nowhere es i past = ap (λ fs. next_above name (volume_of fs)) (drop_all i es past) ∙ sym (ap (λ fs. first_name (volume_of fs)) (drop_all i es past))

pub first_at : (es : List Named) (i : ℕ) → i < length es → first_name (volume_of (drop i es)) ≡ Some (name_at es i)
first_at [] i inside = absurd (omega arith)
first_at (e ∷ es) zero inside = refl
first_at (e ∷ es) (suc i) inside = first_at es i (omega arith)

pub first_nowhere : (es : List Named) (i : ℕ) → length es ≤ i → first_name (volume_of (drop i es)) ≡ None
first_nowhere es i past = ap (λ fs. first_name (volume_of fs)) (drop_all i es past)
