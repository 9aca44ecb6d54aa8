-- Where just the clusters of a list are used, as many are used as it has, and none is deferred.
use Rattle.std.specs.Prelude.{◌≡◌, ◌≤◌, ◌<◌, ◌+◌, ◌-◌, ℕ, cond, List, [], ◌∷◌, length, map, get_or, refl}
use Rattle.std.proofs.Common.{suc, inl, inr, ap, ◌∙◌, arith, set, length-set, get_or-set_same}
use Rattle.std.proofs.Common.{get_or-set_other}
use Rattle.std.proofs.lemmas.Bool.{cases_eq}
use Rattle.std.proofs.lemmas.List.Sums.{sum_by-set, sum_by-cons}
use Rattle.cluster_space.proofs.Counts.{counts_of_all}
use Rattle.cluster_space.specs.declared.state.State.{State}
use Rattle.cluster_space.specs.declared.state.State.TheVariants.{Free, Used, Deferred}
use Rattle.cluster_space.specs.States.{IsIn, is_used, is_deferred, free_in, used_in, deferred_in, released}
use Rattle.table_rules.specs.Marks.{AllUsed, IsFilled}
use Rattle.volume_inside.specs.Layout.{first_data_cluster, data_clusters, AreData}
use Rattle.volume_inside.specs.Lists.{IsOut, IsOnce}

-- a used cluster made free is one used cluster less, and no other deferred one
one_less : (states : List State) (p : ℕ) → IsIn states p Used
    → (used_in states ≡ used_in (set states p Free) + 1) × (deferred_in states ≡ deferred_in (set states p Free))
one_less states p is =
    let within = is.within in
    let used = sum_by-set (λ s. cond (is_used s) 1 0) states p Free Used within in
    let was : ◌≡◌ {A = ℕ} (cond (is_used (get_or states p Used)) 1 0) 1 = ap (λ s. cond (is_used s) 1 0) is.state in
    let deferred = sum_by-set (λ s. cond (is_deferred s) 1 0) states p Free Used within in
    let none : ◌≡◌ {A = ℕ} (cond (is_deferred (get_or states p Used)) 1 0) 0 =
    ap (λ s. cond (is_deferred s) 1 0) is.state in
    (omega (arith, used, was), omega (arith, deferred, none))

-- where each cluster is free
all_free : (states : List State) → ((k : ℕ) → k < length states → get_or states k Used ≡ Free)
    → (used_in states ≡ 0) × (deferred_in states ≡ 0)
all_free [] free = (refl, refl)
all_free (s ∷ ss) free =
    let rest = all_free ss (λ k low. free (suc k) (omega (arith, low))) in
    let here : s ≡ Free = free 0 (omega arith) in
    let used : used_in (s ∷ ss) ≡ cond (is_used s) 1 0 + used_in ss = sum_by-cons (λ t. cond (is_used t) 1 0) s ss in
    let deferred : deferred_in (s ∷ ss) ≡ cond (is_deferred s) 1 0 + deferred_in ss =
    sum_by-cons (λ t. cond (is_deferred t) 1 0) s ss in
    let no_use : ◌≡◌ {A = ℕ} (cond (is_used s) 1 0) 0 = ap (λ t. cond (is_used t) 1 0) here in
    let no_wait : ◌≡◌ {A = ℕ} (cond (is_deferred s) 1 0) 0 = ap (λ t. cond (is_deferred t) 1 0) here in
    (omega (arith, used, no_use, rest.0), omega (arith, deferred, no_wait, rest.1))

-- none of these clusters is below the first
abbrev From : ℕ → List ℕ → Type 0
From first [] = Unit {0}
From first (c ∷ cs) = (first ≤ c) × From first cs

data_from : (n : ℕ) (cs : List ℕ) → AreData n cs → From (first_data_cluster n) cs
data_from n [] are = tt
data_from n (c ∷ cs) are = (are.0.from_first, data_from n cs are.1)

module _ (first : ℕ) where
  still_used : (states : List State) (c : ℕ) (cs : List ℕ) → first ≤ c → IsOut c cs → From first cs
      → AllUsed first states cs → AllUsed first (set states (c - first) Free) cs
  still_used states c [] above out from used = tt
  still_used states c (x ∷ cs) above out from used =
      let is = used.0 in
      let within = is.within in
      let other : x - first ≡ c - first → ⊥ = λ e. out.0 (omega (arith, e, above, from.0)) in (
        record {
          within = omega (arith, within, length-set states (c - first) Free);
          state = get_or-set_other states (c - first) (x - first) Free Used other ∙ is.state;
        },
        still_used states c cs above out.1 from.1 used.1,
      )

  -- every cluster is free that is none of these
  abbrev AreFree : List State → List ℕ → Type 0
  AreFree states cs = (k : ℕ) → k < length states → IsOut (first + k) cs → get_or states k Used ≡ Free

  still_free : (states : List State) (c : ℕ) (cs : List ℕ) → first ≤ c → c - first < length states
      → AreFree states (c ∷ cs) → AreFree (set states (c - first) Free) cs
  still_free states c cs above there free k low out =
      let within : k < length states = omega (arith, low, length-set states (c - first) Free) in
      elim (cases_eq k (c - first)) [
        | inl e ↦ ap (λ j. get_or (set states (c - first) Free) j Used) e ∙ get_or-set_same states (c - first)
            Free Used there
        | inr other ↦
            get_or-set_other states (c - first) k Free Used other
            ∙ free k within ((λ e. other (omega (arith, e, above))), out)
      ]

  counts : (cs : List ℕ) (states : List State) → From first cs → IsOnce cs → AllUsed first states cs
      → AreFree states cs → (used_in states ≡ length cs) × (deferred_in states ≡ 0)
  counts [] states from once used free = all_free states (λ k low. free k low tt)
  counts (c ∷ cs) states from once used free =
      let is = used.0 in
      let within = is.within in
      let less = one_less states (c - first) is in
      let rest = counts cs (set states (c - first) Free) from.1 once.1
      (still_used states c cs from.0 once.0 from.1 used.1) (still_free states c cs from.0 within free) in
      (omega (arith, less.0, rest.0), omega (arith, less.1, rest.1))

-- the states once each deferred cluster is free
pub none_deferred : (states : List State) → deferred_in (map released states) ≡ 0
none_deferred [] = refl
none_deferred (s ∷ ss) =
    let rest = none_deferred ss in
    let first : deferred_in (map released (s ∷ ss))
    ≡ cond (is_deferred (released s)) 1 0 + deferred_in (map released ss) =
    sum_by-cons (λ t. cond (is_deferred t) 1 0) (released s) (map released ss) in
    omega (arith, rest, first, one s)
  where
    one : (t : State) → ◌≡◌ {A = ℕ} (cond (is_deferred (released t)) 1 0) 0
    one Free = refl
    one Used = refl
    one Deferred = refl

pub filled_deferred : (n : ℕ) (cs : List ℕ) (states : List State) → AreData n cs → IsOnce cs → IsFilled n cs states
    → deferred_in states ≡ 0
filled_deferred n cs states are once filled =
    let free = filled.free in
    let size = filled.size in
    (counts (first_data_cluster n) cs states (data_from n cs are) once filled.used
    (λ k low out. let is = free k (omega (arith, low, size)) out in is.state)).1

pub filled_counts : (n : ℕ) (cs : List ℕ) (states : List State) → AreData n cs → IsOnce cs → IsFilled n cs states
    → free_in states + deferred_in states + length cs ≡ data_clusters n
filled_counts n cs states are once filled =
    let all = counts_of_all states in
    let free = filled.free in
    let size = filled.size in
    let counted = counts (first_data_cluster n) cs states (data_from n cs are) once filled.used
    (λ k low out. let is = free k (omega (arith, low, size)) out in is.state) in
    omega (arith, all, counted.0, counted.1, size)
