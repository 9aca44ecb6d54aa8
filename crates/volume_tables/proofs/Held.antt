-- The clusters that the tables now name, as they are taken, named, given up and released.
use Rattle.std.specs.Prelude.{◌≡◌, ◌⊎◌, ◌<◌, ◌+◌, ◌-◌, ◌*◌, ℕ, List, length, map, T, Option, Some, refl}
use Rattle.std.proofs.Common.{sym, ◌∙◌, ap, subst, inl, inr, arith, length-set}
use Rattle.std.proofs.lemmas.List.{get_or-set_same}
use Rattle.std.specs.FinMap.{find, is_sorted}
use Rattle.cluster_space.specs.declared.state.State.{State}
use Rattle.cluster_space.specs.declared.state.State.TheVariants.{Free, Used}
use Rattle.cluster_space.specs.States.{released}
use Rattle.table_records.specs.Keys.{pair_cmp}
use Rattle.table_records.specs.declared.records.Extent.{Extent}
use Rattle.volume_inside.specs.Layout.{first_data_cluster, half_bytes, journal_at, AreData}
use Rattle.volume_inside.specs.Typed.{Typed, FileBlock}
use Rattle.volume_inside.specs.Changes.{with_extent, with_cluster}
use Rattle.volume_inside.specs.ChunkTables.{PageKey}
use Rattle.volume_inside.specs.Ranges.{IsApart}
use Rattle.volume_inside.specs.Named.{named, clusters_of}
use Rattle.volume_inside.specs.Lists.{IsOut, IsOnce}
use Rattle.volume_inside.specs.Space.{IsSpaced}
use Rattle.volume_inside.proofs.Spaces.{spaced_take, spaced_defer, spaced_commit}
use Rattle.volume_inside.proofs.SpaceChanges.{spaced_put, spaced_parted}
use Rattle.volume_inside.proofs.Naming.{IsPutIn, IsParted, put_same, put_data, parted_data, extent_put_in, page_put_in}
use Rattle.volume_inside.proofs.Journals.{journal_apart}
use Rattle.volume_tables.specs.Clusters.{HasState, AreHeld, IsNoOthers, cluster_at, used_at, deferred_at}

-- what holds of tables alone, whichever are stored
own_space : (first : ℕ) (states : List State) (s t : Typed) → IsSpaced first states s t → IsSpaced first states t t
own_space first states s t is = record {
  free_stored = is.free_now;
  free_now = is.free_now;
  deferred_now =
      is.deferred_now;
  once = is.once;
}

module _ (n : ℕ) (states : List State) (t : Typed) (held : AreHeld n states t) where
  -- tables that name the same clusters
  pub held_same : (q : Typed) → clusters_of q ≡ clusters_of t → AreHeld n states q
  held_same q same = (
    subst (λ (cs : List ℕ). AreData n cs) (sym same) held.0,
    record {
      free_stored = λ k is. subst (λ (cs : List ℕ). IsOut (first_data_cluster n + k) cs) (sym same)
          (held.1.free_now k is);
      free_now = λ k is. subst (λ (cs : List ℕ). IsOut (first_data_cluster n + k) cs) (sym same) (held.1.free_now k is);
      deferred_now = λ k is. subst (λ (cs : List ℕ). IsOut (first_data_cluster n + k) cs) (sym same)
          (held.1.deferred_now k is);
      once = subst (λ (cs : List ℕ). IsOnce cs) (sym same) held.1.once;
    },
  )

  pub held_apart : IsApart journal_at (2 * half_bytes n) (named t)
  held_apart = journal_apart n t held.0

  pub held_used_at : (c : ℕ) → c - first_data_cluster n < length states → AreHeld n (used_at n c states) t
  held_used_at c within = (
    held.0,
    own_space (first_data_cluster n) (used_at n c states) t t
        (spaced_take (first_data_cluster n) states t t held.1 (c - first_data_cluster n) within),
  )

  pub held_deferred_at : (c : ℕ) (s : State) → HasState n states s c → IsOut c (clusters_of t)
      → AreHeld n (deferred_at n c states) t
  held_deferred_at c s has out =
      let place : first_data_cluster n + (c - first_data_cluster n) ≡ c = omega (arith, has.from_first) in (
        held.0,
        own_space (first_data_cluster n) (deferred_at n c states) t t
            (spaced_defer (first_data_cluster n) states t t held.1 (c - first_data_cluster n) has.is.within
            (subst (λ (x : ℕ). IsOut x (clusters_of t)) (sym place) out)),
      )

  -- tables that name one more cluster, which is used, in the place of another if one stood there
  pub held_put : (q : Typed) (stood : Option ℕ) (c : ℕ) → IsPutIn (clusters_of t) (clusters_of q) stood c → c < n
      → HasState n states Used c → (stood ≡ Some c) ⊎ IsOut c (clusters_of t) → AreHeld n states q
  held_put q stood c p below has (inl own) = held_same q
      (put_same (subst (λ (o : Option ℕ). IsPutIn (clusters_of t) (clusters_of q) o c) own p) refl)
  held_put q stood c p below has (inr out) =
      let place : c ≡ first_data_cluster n + (c - first_data_cluster n) = omega (arith, has.from_first) in (
        put_data p n (record { from_first = has.from_first; within = below }) held.0,
        own_space (first_data_cluster n) states t q
            (spaced_put (first_data_cluster n) states t t held.1 q stood c (c - first_data_cluster n) p place has.is
            out),
      )

  -- tables that name some of the clusters
  pub held_parted : (q : Typed) (gone : List ℕ) → IsParted (clusters_of t) (clusters_of q) gone → AreHeld n states q
  held_parted q gone p = (
    parted_data p n held.0,
    own_space (first_data_cluster n) states t q (spaced_parted (first_data_cluster n) states t t held.1 q gone p),
  )

  -- an extent over a used cluster that no other key names
  pub held_set : (k : FileBlock) (e : Extent) → T (is_sorted pair_cmp t.extents) → e.cluster < n
      → HasState n states Used e.cluster → IsNoOthers k e.cluster t
      → AreHeld n states (with_extent k e t)
  held_set k e sorted below has alone = held_put (with_extent k e t) (cluster_at (find pair_cmp k t.extents)) e.cluster
      (extent_put_in t k e sorted) below has (by alone)
    where
      by : IsNoOthers k e.cluster t → (cluster_at (find pair_cmp k t.extents) ≡ Some e.cluster)
          ⊎ IsOut e.cluster (clusters_of t)
      by (inl (o, found, same)) = inl (ap cluster_at found ∙ ap (λ (c : ℕ). Some c) same)
      by (inr out) = inr out

  pub held_released : AreHeld n (map released states) t
  held_released = (held.0, spaced_commit (first_data_cluster n) states t t held.1)

-- a page over a free cluster, once it is used
pub held_page : (n : ℕ) (states : List State) (t : Typed) → AreHeld n states t → (k : PageKey) (c : ℕ)
    → T (is_sorted pair_cmp t.chunks.clusters) → c < n → HasState n states Free c
    → AreHeld n (used_at n c states) (with_cluster k c t)
held_page n states t held k c sorted below has =
    let place : first_data_cluster n + (c - first_data_cluster n) ≡ c = omega (arith, has.from_first) in
    held_put n (used_at n c states) t (held_used_at n states t held c has.is.within) (with_cluster k c t)
    (find pair_cmp k t.chunks.clusters) c (page_put_in t k c sorted) below
    (record {
      from_first = has.from_first;
      is = record {
        within = omega (arith, has.is.within, length-set states (c - first_data_cluster n) Used);
        state = get_or-set_same states (c - first_data_cluster n) Used Used has.is.within;
      };
    })
    (inr (subst (λ (x : ℕ). IsOut x (clusters_of t)) place (held.1.free_now (c - first_data_cluster n) has.is)))

-- tables with the same extents, which name the same clusters
pub same_others : (k : FileBlock) (c : ℕ) (t q : Typed) → q.extents ≡ t.extents → clusters_of q ≡ clusters_of t
    → IsNoOthers k c t → IsNoOthers k c q
same_others k c t q extents clusters (inl (o, found, same)) = inl
    (o, ap (λ (es : List (FileBlock × Extent)). find pair_cmp k es) extents ∙ found, same)
same_others k c t q extents clusters (inr out) = inr (subst (λ (cs : List ℕ). IsOut c cs) (sym clusters) out)
