-- States by place: the free clusters have the first places, then come the deferred ones, then the used ones.
use Rattle.std.specs.Prelude.{◌≡◌, ℕ, ◌+◌, ◌≤◌, ◌<◌, ◌^◌, ltb, if◌then◌else◌, List, length, map}
use Rattle.cluster_space.specs.declared.state.State.{State}
use Rattle.cluster_space.specs.declared.state.State.TheVariants.{Free, Used, Deferred}
use Rattle.cluster_space.specs.States.{free_in, deferred_in}

-- the state of the cluster at place p
abbrev pub state_at : ℕ → ℕ → ℕ → State
state_at free deferred p = if ltb p free then Free else if ltb p (free + deferred) then Deferred else Used

-- the states of the clusters with these places
abbrev pub states_of : ℕ → ℕ → List ℕ → List State
states_of free deferred places = map (state_at free deferred) places

-- both numbers count what they say
pub record IsParted (free deferred : ℕ) (places : List ℕ) : Type 0 where
  pub few : length places < 2 ^ 32
  pub within : free + deferred ≤ length places
  pub free_count : free_in (states_of free deferred places) ≡ free
  pub deferred_count : deferred_in (states_of free deferred places) ≡ deferred
