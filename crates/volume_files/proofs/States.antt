-- How the states of clusters change, and their counts.
use Rattle.std.specs.Prelude.{◌≡◌, ◌≢◌, ◌<◌, ◌+◌, ℕ, Bool, cond, List}
use Rattle.std.specs.Prelude.{length, slice_set, count_by}
use Rattle.std.proofs.Common.{sym, ◌∙◌, ap, subst, inl, inr, arith, length-set}
use Rattle.std.proofs.lemmas.Bool.{cases_eq}
use Rattle.std.proofs.lemmas.List.{get_or-set_same, get_or-set_other, set-get_or}
use Rattle.std.proofs.lemmas.List.Sums.{sum_by-set}
use Rattle.cluster_space.specs.declared.state.State.{State}
use Rattle.cluster_space.specs.declared.state.State.TheVariants.{Free, Used, Deferred}
use Rattle.cluster_space.specs.States.{IsIn, is_free, is_deferred, free_in, deferred_in}
use Rattle.volume_files.specs.Writing.{IsNoFreer}

-- ---- one state

one_state : (states : List State) (k : ℕ) (s r : State) → IsIn states k s → IsIn states k r → s ≡ r
one_state states k s r one two = sym one.state ∙ two.state

pub set_here : (states : List State) (k : ℕ) (s : State) → k < length states → IsIn (slice_set states k s) k s
set_here states k s within = record {
  within = omega (arith, within, length-set states k s);
  state = get_or-set_same
      states k s Used within;
}

pub set_there : (states : List State) (k j : ℕ) (s r : State) → j ≢ k → IsIn states j r
    → IsIn (slice_set states k s) j r
set_there states k j s r differ at = record {
  within = omega (arith, at.within, length-set states k s);
  state = get_or-set_other states k j s Used differ ∙ at.state;
}

pub set_from : (states : List State) (k j : ℕ) (s r : State) → j ≢ k → IsIn (slice_set states k s) j r → IsIn states j r
set_from states k j s r differ at = record {
  within = omega (arith, at.within, length-set states k s);
  state = sym (get_or-set_other states k j s Used differ) ∙ at.state;
}

-- a cluster that was in one state is another than one that was in a different one
pub places_differ : (states : List State) (j k : ℕ) (s r : State) → s ≢ r → IsIn states j s → IsIn states k r → j ≢ k
places_differ states j k s r differ one two same =
    differ (one_state states k s r (subst (λ (x : ℕ). IsIn states x s) same one) two)

-- ---- counts

-- a state in the place of another
pub count_set : (test : State → Bool) (states : List State) (k : ℕ) (was now : State) → IsIn states k was
    → count_by test (slice_set states k now) + cond (test was) 1 0 ≡ count_by test states + cond (test now) 1 0
count_set test states k was now at =
    ap (λ (s : State). count_by test (slice_set states k now) + cond (test s) 1 0) (sym at.state)
    ∙ sum_by-set (λ s. cond (test s) 1 0) states k now Used at.within

-- the same state set again
pub set_again : (states : List State) (k : ℕ) (s : State) → IsIn states k s → slice_set states k s ≡ states
set_again states k s at =
    ap (λ (r : State). slice_set states k r) (sym at.state) ∙ set-get_or states k Used

-- a free cluster is used
pub taken_counts : (states : List State) (k : ℕ) → IsIn states k Free
    → (free_in (slice_set states k Used) + 1 ≡ free_in states)
    × (deferred_in (slice_set states k Used) ≡ deferred_in states)
taken_counts states k at =
    let one = count_set is_free states k Free Used at in
    let two = count_set is_deferred states k Free Used at in
    (omega (arith, one), omega (arith, two))

-- a used cluster is deferred
pub deferred_counts : (states : List State) (k : ℕ) → IsIn states k Used
    → (free_in (slice_set states k Deferred) ≡ free_in states)
    × (deferred_in (slice_set states k Deferred) ≡ deferred_in states + 1)
deferred_counts states k at =
    let one = count_set is_free states k Used Deferred at in
    let two = count_set is_deferred states k Used Deferred at in
    (omega (arith, one), omega (arith, two))

-- a deferred cluster is used
pub back_counts : (states : List State) (k : ℕ) → IsIn states k Deferred
    → (free_in (slice_set states k Used) ≡ free_in states) ×
    (deferred_in (slice_set states k Used) + 1 ≡ deferred_in states)
back_counts states k at =
    let one = count_set is_free states k Deferred Used at in
    let two = count_set is_deferred states k Deferred Used at in
    (omega (arith, one), omega (arith, two))

-- ---- no freer

pub no_freer_same : (states : List State) → IsNoFreer states states
no_freer_same states = record { free = λ k at. at; deferred = λ k at. at }

pub no_freer_then : (a b c : List State) → IsNoFreer a b → IsNoFreer b c → IsNoFreer a c
no_freer_then a b c one two = record {
  free = λ k at. one.free k (two.free k at);
  deferred = λ k at. two.deferred k
      (one.deferred k at);
}

used_is_not_free : Used ≢ Free
used_is_not_free same = cc

pub used_is_not_deferred : Used ≢ Deferred
used_is_not_deferred same = cc

pub free_is_not_deferred : Free ≢ Deferred
free_is_not_deferred same = cc

pub deferred_is_not_free : Deferred ≢ Free
deferred_is_not_free same = cc

pub free_is_not_used : Free ≢ Used
free_is_not_used same = cc

-- a free cluster is used, or a used one is deferred
pub taken_no_freer : (states : List State) (k : ℕ) → IsIn states k Free → IsNoFreer states (slice_set states k Used)
taken_no_freer states k at = record {
  free = λ j is. elim (cases_eq j k) [
    | inl same ↦ absurd (used_is_not_free (one_state (slice_set states k Used) k Used Free
        (set_here states k Used at.within) (subst (λ (x : ℕ). IsIn (slice_set states k Used) x Free) same is)))
    | inr other ↦ set_from states k j Used Free other is
  ];
  deferred = λ j is. set_there states k j Used Deferred (places_differ states j k Deferred Free deferred_is_not_free
      is at) is;
}

pub deferred_no_freer : (states : List State) (k : ℕ) → IsIn states k Used
    → IsNoFreer states (slice_set states k Deferred)
deferred_no_freer states k at = record {
  free = λ j is. elim (cases_eq j k) [
    | inl same ↦ absurd (deferred_is_not_free (one_state (slice_set states k Deferred) k Deferred Free
        (set_here states k Deferred at.within) (subst (λ (x : ℕ). IsIn (slice_set states k Deferred) x Free) same is)))
    | inr other ↦ set_from states k j Deferred Free other is
  ];
  deferred = λ j is. set_there states k j Deferred Deferred (places_differ states j k Deferred Used
      (λ same. used_is_not_deferred (sym same)) is at) is;
}
