-- Clusters that are marked used, one after the other.
use Rattle.std.specs.Prelude.{◌≡◌, ◌<◌, ◌+◌, ◌-◌, ℕ, List, [], ◌∷◌, ◌++◌, length, slice_set, Option, Some, None}
use Rattle.std.specs.Option.{option_map}
use Rattle.byte_map.specs.Words.{Map}
use Rattle.cluster_space.specs.declared.state.State.{State}
use Rattle.cluster_space.specs.declared.state.State.TheVariants.{Free, Used}
use Rattle.cluster_space.specs.States.{IsIn}
use Rattle.table_records.specs.Tables.{extent_codec, cluster_codec}
use Rattle.table_records.specs.Values.{extent_in, cluster_in}
use Rattle.volume_inside.specs.Layout.{first_data_cluster, data_clusters}
use Rattle.volume_inside.specs.Lists.{IsOut}

abbrev pub list_of : Option ℕ → List ℕ
list_of None = []
list_of (Some c) = c ∷ []

-- the cluster that a pair names, if it is an extent
abbrev pub extent_in_pair : List ℕ → List ℕ → List ℕ
extent_in_pair key value = list_of (option_map (λ k. (extent_in value).cluster) (extent_codec.read_key key))

-- the same, if it is a page of a container
abbrev pub page_in_pair : List ℕ → List ℕ → List ℕ
page_in_pair key value = list_of (option_map (λ k. cluster_in value) (cluster_codec.read_key key))

-- the clusters that the pairs of a map name
abbrev pub clusters_in : (List ℕ → List ℕ → List ℕ) → Map → List ℕ
clusters_in in_pair [] = []
clusters_in in_pair (e ∷ m) = in_pair e.0 e.1 ++ clusters_in in_pair m

-- the states after these clusters were marked; states are of the clusters from the first on
abbrev pub marked : ℕ → List ℕ → List State → List State
marked first [] states = states
marked first (c ∷ cs) states = marked first cs (slice_set states (c - first) Used)

-- each of these is free when it is marked
abbrev pub CanMark : ℕ → List State → List ℕ → Type 0
CanMark first states [] = Unit {0}
CanMark first states (c ∷ cs) = IsIn states (c - first) Free × CanMark first (slice_set states (c - first) Used) cs

-- each of these is used
abbrev pub AllUsed : ℕ → List State → List ℕ → Type 0
AllUsed first states [] = Unit {0}
AllUsed first states (c ∷ cs) = IsIn states (c - first) Used × AllUsed first states cs

-- Of the data clusters of an image of n clusters just these are used, and all others are free.
pub record IsFilled (n : ℕ) (cs : List ℕ) (states : List State) : Type 0 where
  pub size : length states ≡ data_clusters n
  pub used : AllUsed (first_data_cluster n) states cs
  pub free : (k : ℕ) → k < data_clusters n → IsOut (first_data_cluster n + k) cs → IsIn states k Free
