-- The clusters that the tables now name, and their states. States are of the data clusters, from the first on.
use Rattle.std.specs.Prelude.{◌≡◌, ◌≤◌, ◌+◌, ◌-◌, ◌⊎◌, nat_eq, if◌then◌else◌, ℕ, List, [], ◌∷◌, slice_set, Option, Some, None}
use denote.Struct.Props as logic
use mathlib.Core.HLevel.{Π_prop, ×_prop, Unit-prop}
use Rattle.std.specs.FinMap.{find}
use Rattle.std.specs.Option.{option_map}
use Rattle.cluster_space.specs.declared.state.State.{State}
use Rattle.cluster_space.specs.declared.state.State.TheVariants.{Used, Deferred}
use Rattle.cluster_space.specs.States.{IsIn}
use Rattle.table_records.specs.Keys.{pair_cmp}
use Rattle.table_records.specs.declared.records.Extent.{Extent}
use Rattle.volume_inside.specs.Layout.{first_data_cluster, IsDataCluster, AreData}
use Rattle.volume_inside.specs.Typed.{Typed, FileBlock}
use Rattle.volume_inside.specs.Named.{clusters_of, extent_clusters}
use Rattle.volume_inside.specs.Lists.{IsOut, IsOnce}
use Rattle.volume_inside.specs.Space.{IsSpaced}

-- c is a data cluster of an image of n clusters, and its state is s
pub record HasState (n : ℕ) (states : List State) (s : State) (c : ℕ) : Type 0 where
  pub from_first : first_data_cluster n ≤ c
  pub is : IsIn states (c - first_data_cluster n) s

-- the tables name data clusters alone, none twice and none that is free or deferred
abbrev pub AreHeld : ℕ → List State → Typed → Type 0
AreHeld n states t = AreData n (clusters_of t) × IsSpaced (first_data_cluster n) states t t

-- the states once a cluster is used, or deferred
abbrev pub used_at : ℕ → ℕ → List State → List State
used_at n c states = slice_set states (c - first_data_cluster n) Used

abbrev pub deferred_at : ℕ → ℕ → List State → List State
deferred_at n c states = slice_set states (c - first_data_cluster n) Deferred

-- the same but where the cluster is another one
abbrev pub deferred_unless : ℕ → ℕ → ℕ → List State → List State
deferred_unless n c other states = if nat_eq c other then states else deferred_at n c states

-- once another cluster stands in the place of this one, if there was one
abbrev pub with_other : ℕ → Option ℕ → ℕ → List State → List State
with_other n None c states = states
with_other n (Some o) c states = deferred_unless n o c states

-- once a cluster was refused a key, which named this one, if any
abbrev pub with_spare : ℕ → Option ℕ → ℕ → List State → List State
with_spare n None c states = deferred_at n c states
with_spare n (Some o) c states = deferred_unless n c o states

-- the cluster of an extent, if there is one
abbrev pub cluster_at : Option Extent → Option ℕ
cluster_at was = option_map (λ e. e.cluster) was

-- both of an extent
abbrev pub with_replaced : ℕ → Option Extent → ℕ → List State → List State
with_replaced n was c states = with_other n (cluster_at was) c states

abbrev pub with_refused : ℕ → Option Extent → ℕ → List State → List State
with_refused n was c states = with_spare n (cluster_at was) c states

-- once these clusters are deferred, where the first data cluster is this one
abbrev pub each_deferred : ℕ → List ℕ → List State → List State
each_deferred first [] states = states
each_deferred first (c ∷ cs) states = each_deferred first cs (slice_set states (c - first) Deferred)

-- and those of extents
abbrev pub all_deferred : ℕ → List (FileBlock × Extent) → List State → List State
all_deferred first es states = each_deferred first (extent_clusters es) states

-- the key names the cluster, or nobody does
abbrev pub IsNoOthers : FileBlock → ℕ → Typed → Type 0
IsNoOthers k c t = ((o : Extent) × (find pair_cmp k t.extents ≡ Some o) × (o.cluster ≡ c)) ⊎ IsOut c (clusters_of t)

-- ---- these facts have one proof at most

data_one_prop : (n c : ℕ) → IsProp (IsDataCluster n c)
data_one_prop n c = Prim.hlevel logic.props

data_prop : (n : ℕ) (cs : List ℕ) → IsProp (AreData n cs)
data_prop n [] = Unit-prop
data_prop n (c ∷ cs) = ×_prop (data_one_prop n c) (data_prop n cs)

differ_prop : (x c : ℕ) → IsProp (x ≡ c → ⊥)
differ_prop x c = Prim.hlevel logic.props

out_prop : (c : ℕ) (xs : List ℕ) → IsProp (IsOut c xs)
out_prop c [] = Unit-prop
out_prop c (x ∷ xs) = ×_prop (differ_prop x c) (out_prop c xs)

once_prop : (xs : List ℕ) → IsProp (IsOnce xs)
once_prop [] = Unit-prop
once_prop (x ∷ xs) = ×_prop (out_prop x xs) (once_prop xs)

spaced_prop : (first : ℕ) (states : List State) (s t : Typed) → IsProp (IsSpaced first states s t)
spaced_prop first states s t a b = λ i. record {
  free_stored = Π_prop (λ k. Π_prop (λ is. out_prop (first + k) (clusters_of s))) a.free_stored b.free_stored i;
  free_now = Π_prop (λ k. Π_prop (λ is. out_prop (first + k) (clusters_of t))) a.free_now b.free_now i;
  deferred_now = Π_prop (λ k. Π_prop (λ is. out_prop (first + k) (clusters_of t))) a.deferred_now b.deferred_now i;
  once = once_prop (clusters_of t) a.once b.once i;
}

pub held_prop : (n : ℕ) (states : List State) (t : Typed) → IsProp (AreHeld n states t)
held_prop n states t = ×_prop (data_prop n (clusters_of t)) (spaced_prop (first_data_cluster n) states t t)
