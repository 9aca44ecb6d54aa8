-- The states of clusters: a list, by cluster.
use Rattle.std.specs.Prelude.{◌≡◌, ℕ, ◌<◌, Bool, true, false, List, length, slice_index_or, count_by}
use Rattle.cluster_space.specs.declared.state.State.{State}
use Rattle.cluster_space.specs.declared.state.State.TheVariants.{Free, Used, Deferred}

-- c is a cluster, and its state is s
pub record IsIn (states : List State) (c : ℕ) (s : State) : Type 0 where
  pub within : c < length states
  pub state : slice_index_or states c Used ≡ s

abbrev pub is_free : State → Bool
is_free Free = true
is_free Used = false
is_free Deferred = false

abbrev pub is_used : State → Bool
is_used Free = false
is_used Used = true
is_used Deferred = false

abbrev pub is_deferred : State → Bool
is_deferred Free = false
is_deferred Used = false
is_deferred Deferred = true

-- how many clusters are free
abbrev pub free_in : List State → ℕ
free_in states = count_by is_free states

-- how many clusters are used
abbrev pub used_in : List State → ℕ
used_in states = count_by is_used states

-- how many clusters are deferred
abbrev pub deferred_in : List State → ℕ
deferred_in states = count_by is_deferred states

-- the state after all that was deferred is free
abbrev pub released : State → State
released Free = Free
released Used = Used
released Deferred = Free
