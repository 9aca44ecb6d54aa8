-- The room after a commit.
use Rattle.std.specs.Prelude.{◌≡◌, ◌⊎◌, ◌+◌, ℕ, Bool, cond, List, [], ◌∷◌, map, Result, Ok, Err, OnOk, OnErr, IsErrOf}
use Rattle.std.specs.Prelude.{refl}
use Rattle.std.proofs.Common.{arith, inl, inr}
use Rattle.std.specs.List.{count_by}
use Rattle.std.proofs.lemmas.List.Sums.{sum_by-cons}
use Rattle.plain_volume.specs.declared.call.Fault.{Fault}
use Rattle.plain_volume.specs.declared.call.Fault.TheVariants.{Worn, Failed}
use Rattle.cluster_space.specs.declared.state.State.{State}
use Rattle.cluster_space.specs.declared.state.State.TheVariants.{Free, Used, Deferred}
use Rattle.cluster_space.specs.States.{free_in, deferred_in, is_free, is_deferred, released}

more : (q : State → Bool) (s : State) (ss : List State) → count_by q (s ∷ ss) ≡ cond (q s) 1 0 + count_by q ss
more q s ss = sum_by-cons (λ t. cond (q t) 1 0) s ss

one : (s : State) → cond (is_free (released s)) 1 0 ≡ cond (is_free s) 1 0 + cond (is_deferred s) 1 0
one Free = refl
one Used = refl
one Deferred = refl

-- what was free and what was deferred is free
pub released_free : (states : List State) → free_in (map released states) ≡ free_in states + deferred_in states
released_free [] = refl
released_free (s ∷ ss) =
    let new : free_in (map released (s ∷ ss)) ≡ cond (is_free (released s)) 1 0 + free_in (map released ss) =
    more is_free (released s) (map released ss) in
    let free : free_in (s ∷ ss) ≡ cond (is_free s) 1 0 + free_in ss = more is_free s ss in
    let deferred : deferred_in (s ∷ ss) ≡ cond (is_deferred s) 1 0 + deferred_in ss = more is_deferred s ss in
    let here = one s in
    let rest = released_free ss in
    omega (arith, new, free, deferred, here, rest)

none_left : (s : State) → ◌≡◌ {A = ℕ} (cond (is_deferred (released s)) 1 0) 0
none_left Free = refl
none_left Used = refl
none_left Deferred = refl

-- and nothing is deferred
pub released_deferred : (states : List State) → deferred_in (map released states) ≡ 0
released_deferred [] = refl
released_deferred (s ∷ ss) =
    let new : deferred_in (map released (s ∷ ss)) ≡ cond (is_deferred (released s)) 1 0 + deferred_in
    (map released ss) = more is_deferred (released s) (map released ss) in
    let here = none_left s in
    let rest = released_deferred ss in
    omega (arith, new, here, rest)

pub both_ok : {A E : Type 0} (P Q : Type 0) (r : Result A E) → OnOk r P → OnOk r Q → OnOk r (P × Q)
both_ok P Q (Ok a) p q = (p, q)
both_ok P Q (Err e) p q = tt

-- a refusal that is not of the device leaves this
pub worn_then : {A : Type 0} (P : Type 0) (r : Result A Fault) → OnErr r (IsErrOf r Worn ⊎ IsErrOf r Failed)
    → (IsErrOf r Worn → P) → OnErr r (IsErrOf r Failed ⊎ P)
worn_then P (Ok a) refused then = tt
worn_then P (Err e) (inl worn) then = inr (then worn)
worn_then P (Err e) (inr failed) then = inl failed
