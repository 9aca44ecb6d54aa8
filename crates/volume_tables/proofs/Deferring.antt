-- The clusters of the entries of a range, as they are deferred.
use Rattle.std.specs.Prelude.{◌≡◌, ◌≢◌, ◌≤◌, ◌+◌, ◌-◌, ℕ, Bool, true, false, cond, List, [], ◌∷◌}
use Rattle.std.specs.Prelude.{length, slice_set, refl}
use Rattle.std.proofs.Common.{sym, ◌∙◌, subst, arith, length-set}
use Rattle.std.proofs.lemmas.List.{get_or-set_other}
use Rattle.std.specs.FinMap.Entries.{where_key}
use Rattle.cluster_space.specs.declared.state.State.{State}
use Rattle.cluster_space.specs.declared.state.State.TheVariants.{Used, Deferred}
use Rattle.cluster_space.specs.States.{IsIn}
use Rattle.table_records.specs.Keys.{pair_cmp}
use Rattle.table_records.specs.declared.records.Extent.{Extent}
use Rattle.volume_inside.specs.Layout.{first_data_cluster, data_clusters, AreData}
use Rattle.volume_inside.specs.Typed.{Typed, FileBlock}
use Rattle.volume_inside.specs.Named.{clusters_of, extent_clusters}
use Rattle.volume_inside.specs.Lists.{IsOut, IsOnce}
use Rattle.volume_inside.proofs.Spaces.{named_used}
use Rattle.volume_inside.proofs.Naming.{Marks, all_of, gone_of, gone_out, IsParted, AreOut, parted_apart, extents_parted}
use Rattle.volume_tables.specs.Clusters.{HasState, AreHeld, each_deferred}
use Rattle.volume_tables.specs.Dropped.{AreUsed, AreUsedOnce}
use Rattle.volume_tables.proofs.Held.{held_deferred_at, held_parted}
use Rattle.volume_tables.proofs.Leaving.{IsNoFreer, set_no_freer, deferred_is_not_free}

-- ---- one cluster is deferred

still_used : (first c : ℕ) (states : List State) (cs : List ℕ) → first ≤ c → IsOut c cs → AreUsed first states cs
    → AreUsed first (slice_set states (c - first) Deferred) cs
still_used first c states [] low out used = tt
still_used first c states (x ∷ cs) low out used =
    let other : x - first ≢ c - first = λ same. out.0 (omega (arith, same, low, used.0)) in (
      used.0,
      (
        record {
          within = omega (arith, used.1.0.within, length-set states (c - first) Deferred);
          state = get_or-set_other states (c - first) (x - first) Deferred Used other ∙ used.1.0.state;
        },
        (used.1.1.0, still_used first c states cs low out.1 used.1.1.1),
      ),
    )

-- the clusters behind one stay used when it is deferred
pub later_used : (first : ℕ) (states : List State) (c : ℕ) (cs : List ℕ) → AreUsed first states (c ∷ cs)
    → AreUsed first (slice_set states (c - first) Deferred) cs
later_used first states c cs used = still_used first c states cs used.0 used.1.1.0 used.1.1.1

-- the same of extents
pub rest_used : (first : ℕ) (states : List State) (e : FileBlock × Extent) (es : List (FileBlock × Extent))
    → AreUsedOnce first states (e ∷ es) → AreUsedOnce first (slice_set states (e.1.cluster - first) Deferred) es
rest_used first states e es used = later_used first states e.1.cluster (extent_clusters es) used

pub all_no_freer : (first : ℕ) (cs : List ℕ) (states : List State) → IsNoFreer states (each_deferred first cs states)
all_no_freer first [] states = λ k at. at
all_no_freer first (c ∷ cs) states = λ k at.
    set_no_freer states (c - first) Deferred deferred_is_not_free k
    (all_no_freer first cs (slice_set states (c - first) Deferred) k at)

pub all_length : (first : ℕ) (cs : List ℕ) (states : List State)
    → length (each_deferred first cs states) ≡ length states
all_length first [] states = refl
all_length first (c ∷ cs) states =
    all_length first cs (slice_set states (c - first) Deferred) ∙ length-set states (c - first) Deferred

-- ---- the clusters that tables name are used

module _ (n : ℕ) (states : List State) (t : Typed) (held : AreHeld n states t) (size : length states ≡ data_clusters n)
  where
    used_in : (ms : Marks) → ((c : ℕ) → IsOut c (clusters_of t) → IsOut c (all_of ms)) → AreData n (all_of ms)
        → IsOnce (all_of ms) → AreUsed (first_data_cluster n) states (gone_of ms)
    used_in [] part in_data once = tt
    used_in (m ∷ ms) part in_data once =
        let low = in_data.0.from_first in
        let place : first_data_cluster n + (m.1 - first_data_cluster n) ≡ m.1 = omega (arith, low) in
        let rest = used_in ms (λ c out. (part c out).1) in_data.1 once.1 in
        let here : IsIn states (m.1 - first_data_cluster n) Used =
        named_used (first_data_cluster n) states t t held.1 (m.1 - first_data_cluster n)
        (omega (arith, low, in_data.0.within, size))
        (λ out. (part m.1 (subst (λ (x : ℕ). IsOut x (clusters_of t)) place out)).0 refl) in
        elim m.0 as (λ b. AreUsed (first_data_cluster n) states (cond b (m.1 ∷ gone_of ms) (gone_of ms))) [
          | true ↦ (low, (here, (gone_out m.1 ms once.0, rest)))
          | false ↦ rest
        ]

    -- those that are gone were used
    pub gone_used : (kept gone : List ℕ) → IsParted (clusters_of t) kept gone
        → AreUsed (first_data_cluster n) states gone
    gone_used kept gone p = subst (λ (cs : List ℕ). AreUsed (first_data_cluster n) states cs) (sym p.gone_is)
        (used_in p.marks (λ c out. subst (λ (cs : List ℕ). IsOut c cs) p.all_is out)
        (subst (λ (cs : List ℕ). AreData n cs) p.all_is held.0)
        (subst (λ (cs : List ℕ). IsOnce cs) p.all_is held.1.once))

    pub held_used_once : (test : FileBlock → Bool)
        → AreUsedOnce (first_data_cluster n) states (where_key pair_cmp test t.extents)
    held_used_once test = gone_used _ _ (extents_parted t test)

-- ---- the tables without these clusters

module _ (n : ℕ) (q : Typed) where
  held_all_deferred : (cs : List ℕ) (states : List State) → AreUsed (first_data_cluster n) states cs
      → AreOut cs (clusters_of q)
      → AreHeld n states q → AreHeld n (each_deferred (first_data_cluster n) cs states) q
  held_all_deferred [] states used out held = held
  held_all_deferred (c ∷ cs) states used out held =
      let has : HasState n states Used c = record { from_first = used.0; is = used.1.0 } in
      held_all_deferred cs (slice_set states (c - first_data_cluster n) Deferred)
      (later_used (first_data_cluster n) states c cs used) out.1
      (held_deferred_at n states q held c Used has out.0)

-- clusters are named no more, and are deferred
pub held_dropped : (n : ℕ) (states : List State) (t : Typed) → AreHeld n states t → length states ≡ data_clusters n
    → (q : Typed) (gone : List ℕ) → IsParted (clusters_of t) (clusters_of q) gone
    → AreHeld n (each_deferred (first_data_cluster n) gone states) q
held_dropped n states t held size q gone p =
    held_all_deferred n q gone states (gone_used n states t held size (clusters_of q) gone p)
    (parted_apart p held.1.once) (held_parted n states t held q gone p)
