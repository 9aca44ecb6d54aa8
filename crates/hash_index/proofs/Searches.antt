-- The search for the least candidate, and for an empty slot.
use Rattle.std.proofs.Common.{◌≡◌, ◌≢◌, ℕ, suc, ◌<◌, ◌≤◌, ◌+◌, ◌-◌, ◌⊎◌, inl, inr, List, [], ◌∷◌, true, refl, sym, ◌∙◌, ap, subst, arith, Option, Some, None, length, get_or, count_by, below_more}
use Rattle.std.proofs.lemmas.Bool.{cases_lt}
use Rattle.std.proofs.lemmas.Bool.Decides.{nat_tests}
use Rattle.std.proofs.lemmas.Grind.{common_steps}
use Rattle.hash_index.specs.Probe.{around, slot_at, is_used, Reaches, IsCandidate, IsLeast, IsNearer, FindsReached}

-- ---- the place so many steps on

pub around_within : (count home step : ℕ) → home < count → step < count → around count home step < count
unfolding around
around_within count home step h s = grind (arith, nat_tests)

-- each place is some steps from the home
pub around_each : (count home place : ℕ) → home < count → place < count → (step : ℕ) × (step < count) × (around count home step ≡ place)
unfolding around
around_each count home place h p = elim (cases_lt place home) [
  | inl before ↦ (place + (count - home), omega arith, grind (arith, nat_tests))
  | inr behind ↦ (place - home, omega arith, grind (arith, nat_tests))
]

-- ---- the least candidate

pub least_step : (ids : ℕ → ℕ) (C : ℕ → Type 0) (n : ℕ) (before : Option ℕ) (id : ℕ) (result : Option ℕ)
    → IsLeast ids C n before → ids n ≡ id → IsNearer C before id result → IsLeast ids C (n + 1) result
least_step ids C n None id None least at near =
    below_more (λ (j : ℕ). C (ids j) → ⊥) n least (λ c. near.1 (subst C at c))
least_step ids C n (Some found) id None least at near = let e : Some found ≡ None = near.0 in absurd (cc)
least_step ids C n None id (Some r) least at near =
    elim near.0 [
      | inl e ↦ (let no : None ≡ Some r = e in absurd (cc))
      | inr new ↦ (
        subst C (sym new.0) new.1,
        (n, omega arith, at ∙ sym new.0),
        below_more (λ (j : ℕ). C (ids j) → r ≤ ids j) n (λ j lt c. absurd (least j lt c))
            (λ c. let e : ids n ≡ id = at in let le : r ≤ id = near.1 (subst C at c) in omega arith),
      )
    ]
least_step ids C n (Some found) id (Some r) least at near =
    let le : r ≤ found = near.2 found refl in
    let here : C (ids n) → r ≤ ids n = λ c. (let e : ids n ≡ id = at in let low : r ≤ id = near.1 (subst C at c) in omega arith) in
    let below : (j : ℕ) → j < n → C (ids j) → r ≤ ids j = λ j lt c. (let low : found ≤ ids j = least.2 j lt c in omega arith) in
    elim near.0 [
      | inl e ↦
          (let same : found ≡ r = cc in (
            subst C same least.0,
            (least.1.0, omega (arith, least.1.1), least.1.2 ∙ same),
            below_more (λ (j : ℕ). C (ids j) → r ≤ ids j) n below here,
          ))
      | inr new ↦ (
        subst C (sym new.0) new.1,
        (n, omega arith, at ∙ sym new.0),
        below_more (λ (j : ℕ). C (ids j) → r ≤ ids j) n below here,
      )
    ]

-- where the search ended, each id that is reached was passed
passed : (slots : List ℕ) (home n id : ℕ) → 0 < id → (n ≡ length slots) ⊎ (slot_at (length slots) slots home n ≡ 0)
    → (reached : Reaches (length slots) slots home id) → reached.step < n
passed slots home n id some ended reached = elim ended [
  | inl e ↦ (let within : reached.step < length slots = reached.within in omega arith)
  | inr empty ↦ elim (cases_lt reached.step n) [
    | inl lt ↦ lt
    | inr ge ↦ elim (cases_lt n reached.step) [
      | inl beyond ↦ absurd (reached.filled n beyond empty)
      | inr le ↦
          (let same : reached.step ≡ n = omega arith in
          let there : slot_at (length slots) slots home reached.step ≡ id = reached.there in
          let zero_is : id ≡ 0 = sym there ∙ (ap (λ k. slot_at (length slots) slots home k) same ∙ empty) in
          absurd (omega arith))
    ]
  ]
]

pub finds_reached : (tells : ℕ → Option (List ℕ)) (slots : List ℕ) (home : ℕ) (digest : List ℕ) (after n : ℕ) (result : Option ℕ)
    → (n ≡ length slots) ⊎ (slot_at (length slots) slots home n ≡ 0)
    → IsLeast (λ j. slot_at (length slots) slots home j) (IsCandidate tells digest after) n result
    → FindsReached tells slots home digest after result
finds_reached tells slots home digest after n None ended least = λ id c reached.
    let above : after < id = c.0 in
    let lt : reached.step < n = passed slots home n id (omega arith) ended reached in
    least reached.step lt (subst (IsCandidate tells digest after) (sym reached.there) c)
finds_reached tells slots home digest after n (Some found) ended least = (
  least.0,
  (around (length slots) home least.1.0, least.1.2),
  λ id c reached.
      (let above : after < id = c.0 in
      let lt : reached.step < n = passed slots home n id (omega arith) ended reached in
      let low : found ≤ slot_at (length slots) slots home reached.step = least.2 reached.step lt (subst (IsCandidate tells digest after) (sym reached.there) c) in
      let e : slot_at (length slots) slots home reached.step ≡ id = reached.there in
      omega arith),
)

-- ---- the empty slot

used_yes : (id : ℕ) → id ≢ 0 → is_used id ≡ true
used_yes id h = grind (arith, nat_tests)

count_full : (slots : List ℕ) → ((place : ℕ) → place < length slots → get_or slots place 0 ≢ 0) → count_by is_used slots ≡ length slots
count_full [] full = refl
count_full (id ∷ slots) full =
    let rest : count_by is_used slots ≡ length slots = count_full slots (λ place lt. full (suc place) (omega arith)) in
    let here : is_used id ≡ true = used_yes id (full 0 (omega arith)) in
    grind (arith, common_steps)

-- slots that are not all filled have an empty one on the way round
pub not_all_filled : (slots : List ℕ) (home : ℕ) → home < length slots → count_by is_used slots < length slots
    → ((j : ℕ) → j < length slots → slot_at (length slots) slots home j ≢ 0) → ⊥
not_all_filled slots home lt room filled =
    let full : count_by is_used slots ≡ length slots = count_full slots (λ place below empty.
    (let step : (step : ℕ) × (step < length slots) × (around (length slots) home step ≡ place) = around_each (length slots) home place lt below in
    filled step.0 step.1 (ap (λ k. get_or slots k 0) step.2 ∙ empty))) in
    omega arith
