-- The three states of clusters, and their counts.
use Rattle.std.proofs.Common.{◌≡◌, ◌∙◌, ℕ, ◌+◌, ◌<◌, ◌⊎◌, inl, inr, Bool, true, false, cond, zero, suc, List, [], ◌∷◌, length, get_or, sym, ap, arith, refl}
use Rattle.std.specs.List.{count_by}
use Rattle.std.proofs.lemmas.List.Sums.{sum_by-cons}
use Rattle.std.proofs.lemmas.Bool.{true≢false}
use Rattle.cluster_space.specs.declared.state.State.{State}
use Rattle.cluster_space.specs.declared.state.State.TheVariants.{Free, Used, Deferred}
use Rattle.cluster_space.specs.States.{IsIn, is_free, is_used, is_deferred, free_in, used_in, deferred_in}

-- which state it is
one_of_three : (s : State) → (s ≡ Free) ⊎ ((s ≡ Used) ⊎ (s ≡ Deferred))
one_of_three Free = inl refl
one_of_three Used = inr (inl refl)
one_of_three Deferred = inr (inr refl)

pub has_a_state : (states : List State) (c : ℕ) → c < length states → IsIn states c Free ⊎ (IsIn states c Used ⊎ IsIn states c Deferred)
has_a_state states c h =
    elim (one_of_three (get_or states c Used)) [
      | inl e ↦ inl (record { within = h; state = e })
      | inr other ↦
          elim other [
            | inl e ↦ inr (inl (record { within = h; state = e }))
            | inr e ↦ inr (inr (record { within = h; state = e }))
          ]
    ]

pub is_within : (states : List State) (c : ℕ) → IsIn states c Free ⊎ (IsIn states c Used ⊎ IsIn states c Deferred) → c < length states
is_within states c (inl is) = is.within
is_within states c (inr (inl is)) = is.within
is_within states c (inr (inr is)) = is.within

-- a cluster in two states, of which one passes a test and the other does not
pub not_both : (q : State → Bool) (states : List State) (c : ℕ) (s t : State) → q s ≡ true → q t ≡ false → IsIn states c s × IsIn states c t → ⊥
not_both q states c s t passes fails both =
    true≢false (sym passes ∙ (ap q (sym (both.0.state) ∙ both.1.state) ∙ fails))

more : (q : State → Bool) (s : State) (ss : List State) → count_by q (s ∷ ss) ≡ cond (q s) 1 0 + count_by q ss
more q s ss = sum_by-cons (λ t. cond (q t) 1 0) s ss

one_count : (s : State) → cond (is_free s) 1 0 + cond (is_used s) 1 0 + cond (is_deferred s) 1 0 ≡ 1
one_count Free = refl
one_count Used = refl
one_count Deferred = refl

pub counts_of_all : (states : List State) → free_in states + used_in states + deferred_in states ≡ length states
counts_of_all [] = refl
counts_of_all (s ∷ ss) =
    let free : free_in (s ∷ ss) ≡ cond (is_free s) 1 0 + free_in ss = more is_free s ss in
    let used : used_in (s ∷ ss) ≡ cond (is_used s) 1 0 + used_in ss = more is_used s ss in
    let deferred : deferred_in (s ∷ ss) ≡ cond (is_deferred s) 1 0 + deferred_in ss = more is_deferred s ss in
    let one = one_count s in
    let rest = counts_of_all ss in
    let whole : length (s ∷ ss) ≡ suc (length ss) = refl in
    omega (arith, free, used, deferred, one, rest, whole)

-- a cluster of the rest, as one of the whole
later : (s : State) (ss : List State) (c : ℕ) → IsIn ss c Free → IsIn (s ∷ ss) (suc c) Free
later s ss c is =
    let h = is.within in
    record { within = omega (arith, h); state = is.state }

earlier : (s : State) (ss : List State) (c : ℕ) → IsIn (s ∷ ss) (suc c) Free → IsIn ss c Free
earlier s ss c is =
    let h = is.within in
    record { within = omega (arith, h); state = is.state }

pub none_free : (states : List State) → free_in states ≡ 0 → (c : ℕ) → IsIn states c Free → ⊥
none_free [] e c is = let h = is.within in omega (arith, h)
none_free (s ∷ ss) e zero is =
    let count : free_in (s ∷ ss) ≡ cond (is_free s) 1 0 + free_in ss = more is_free s ss in
    let one : ◌≡◌ {A = ℕ} (cond (is_free s) 1 0) 1 = ap (λ t. cond (is_free t) 1 0) is.state in
    omega (arith, e, count, one)
none_free (s ∷ ss) e (suc c) is =
    let count : free_in (s ∷ ss) ≡ cond (is_free s) 1 0 + free_in ss = more is_free s ss in
    none_free ss (omega (arith, e, count)) c (earlier s ss c is)

pub count_of_none : (states : List State) → ((c : ℕ) → IsIn states c Free → ⊥) → free_in states ≡ 0
count_of_none [] none = refl
count_of_none (Free ∷ ss) none = absurd (none 0 (record { within = omega arith; state = refl }))
count_of_none (Used ∷ ss) none =
    let count : free_in (Used ∷ ss) ≡ 0 + free_in ss = more is_free Used ss in
    let rest = count_of_none ss (λ c is. none (suc c) (later Used ss c is)) in
    omega (arith, count, rest)
count_of_none (Deferred ∷ ss) none =
    let count : free_in (Deferred ∷ ss) ≡ 0 + free_in ss = more is_free Deferred ss in
    let rest = count_of_none ss (λ c is. none (suc c) (later Deferred ss c is)) in
    omega (arith, count, rest)
