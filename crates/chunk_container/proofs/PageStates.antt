-- How the states of clusters change where a page is named or dropped, and their counts.
use Rattle.std.specs.Prelude.{◌≡◌, ◌≢◌, ◌<◌, ◌+◌, ◌-◌, ℕ, Bool, true, false, cond, T, List, [], ◌∷◌, length, slice_set, count_by, Some, None}
use Rattle.std.proofs.Common.{sym, ◌∙◌, ap, subst, inl, inr, arith, length-set}
use Rattle.std.proofs.lemmas.Bool.{cases_eq}
use Rattle.std.proofs.lemmas.List.{get_or-set_same, get_or-set_other}
use Rattle.std.proofs.lemmas.List.Sums.{sum_by-set}
use Rattle.std.specs.Ordering.{eq_by_cmp}
use Rattle.std.specs.FinMap.{find, is_sorted}
use Rattle.vdisk.specs.declared.disk.Disk.{Ghosts}
use Rattle.cluster_space.specs.declared.state.State.{State}
use Rattle.cluster_space.specs.declared.state.State.TheVariants.{Free, Used, Deferred}
use Rattle.cluster_space.specs.States.{IsIn, is_free, is_deferred, free_in, deferred_in}
use Rattle.table_records.specs.Keys.{pair_cmp}
use Rattle.table_records.specs.Next.{sorted_typed}
use Rattle.table_records.specs.Tables.{cluster_codec}
use Rattle.volume_inside.specs.Changes.{with_cluster, keep_clusters}
use Rattle.volume_inside.specs.ChunkTables.{PageKey}
use Rattle.volume_inside.specs.Layout.{first_data_cluster, data_clusters}
use Rattle.volume_inside.specs.Lists.{IsOut}
use Rattle.volume_inside.specs.Named.{clusters_of, extent_clusters}
use Rattle.volume_inside.specs.Pages.{page_clusters}
use Rattle.volume_inside.specs.Typed.{Typed}
use Rattle.volume_inside.proofs.Spaces.{out_back}
use Rattle.volume_tables.specs.Clusters.{HasState, AreHeld, used_at}
use Rattle.volume_tables.specs.Tables.{tables_now, states_of}
use Rattle.volume_tables.specs.declared.tables.Tables.{Tables}
use Rattle.volume_tables.proofs.Answers.{as_true}
use Rattle.volume_tables.proofs.Leaving.{named_state}
use Rattle.chunk_container.specs.Pages.{IsNoFreer}
use Rattle.chunk_container.proofs.PageKeys.{is_other, count_put_new, count_dropped}

-- ---- one state

one_state : (states : List State) (k : ℕ) (s r : State) → IsIn states k s → IsIn states k r → s ≡ r
one_state states k s r one two = sym one.state ∙ two.state

set_here : (states : List State) (k : ℕ) (s : State) → k < length states → IsIn (slice_set states k s) k s
set_here states k s within = record {
  within = omega (arith, within, length-set states k s);
  state = get_or-set_same states k s Used within;
}

set_there : (states : List State) (k j : ℕ) (s r : State) → j ≢ k → IsIn states j r
    → IsIn (slice_set states k s) j r
set_there states k j s r differ at = record {
  within = omega (arith, at.within, length-set states k s);
  state = get_or-set_other states k j s Used differ ∙ at.state;
}

set_from : (states : List State) (k j : ℕ) (s r : State) → j ≢ k → IsIn (slice_set states k s) j r → IsIn states j r
set_from states k j s r differ at = record {
  within = omega (arith, at.within, length-set states k s);
  state = sym (get_or-set_other states k j s Used differ) ∙ at.state;
}

-- no cluster becomes free where one gets another state than free
set_no_freer : (states : List State) (k : ℕ) (s : State) → k < length states → s ≢ Free
    → IsNoFreer states (slice_set states k s)
set_no_freer states k s within differ j is = elim (cases_eq j k) [
  | inl same ↦ absurd (differ (one_state (slice_set states k s) k s Free (set_here states k s within)
      (subst (λ (x : ℕ). IsIn (slice_set states k s) x Free) same is)))
  | inr other ↦ set_from states k j s Free other is
]

used_is_not_free : Used ≢ Free
used_is_not_free same = cc

deferred_is_not_free : Deferred ≢ Free
deferred_is_not_free same = cc

-- ---- counts

-- a state in the place of another
count_set : (test : State → Bool) (states : List State) (k : ℕ) (was now : State) → IsIn states k was
    → count_by test (slice_set states k now) + cond (test was) 1 0 ≡ count_by test states + cond (test now) 1 0
count_set test states k was now at =
    ap (λ (s : State). count_by test (slice_set states k now) + cond (test s) 1 0) (sym at.state)
    ∙ sum_by-set (λ s. cond (test s) 1 0) states k now Used at.within

-- as many clusters as these states and these tables tell
abbrev pub told : List State → Typed → ℕ
told states t = free_in states + deferred_in states + length (clusters_of t)

-- ---- a page is named

module _ (n : ℕ) (S : List State) (t : Typed) (sorted : T (is_sorted pair_cmp t.chunks.clusters)) (k : PageKey) (c : ℕ)
    (free : HasState n S Free c) (none : find pair_cmp k t.chunks.clusters ≡ None) where
  pub set_free : free_in (used_at n c S) + 1 ≡ free_in S
  set_free =
      let one = count_set is_free S (c - first_data_cluster n) Free Used free.is in
      omega (arith, one)

  pub set_told : told (used_at n c S) (with_cluster k c t) ≡ told S t
  set_told =
      let one = count_set is_free S (c - first_data_cluster n) Free Used free.is in
      let two = count_set is_deferred S (c - first_data_cluster n) Free Used free.is in
      let names = count_put_new k c t sorted none in
      omega (arith, one, two, names)

  pub set_fewer : IsNoFreer S (used_at n c S)
  set_fewer = set_no_freer S (c - first_data_cluster n) Used free.is.within used_is_not_free

  -- another free cluster stays free
  pub set_others : (x : ℕ) → (x ≡ c → ⊥) → HasState n S Free x → HasState n (used_at n c S) Free x
  set_others x differ has = record {
    from_first = has.from_first;
    is = set_there S (c - first_data_cluster n) (x - first_data_cluster n) Used Free
        (λ same. differ (omega (arith, same, has.from_first, free.from_first))) has.is;
  }

-- ---- a page is taken back

-- the cluster of a page is named
page_named : (k : PageKey) (c : ℕ) (es : List (PageKey × ℕ)) → find pair_cmp k es ≡ Some c → IsOut c (page_clusters es) → ⊥
page_named k c [] found out = cc
page_named k c (e ∷ es) found out =
    elim (eq_by_cmp pair_cmp k e.0) as (λ b. cond b (Some e.1) (find pair_cmp k es) ≡ Some c → ⊥) [
      | true ↦ λ at. out.0 (let same : e.1 ≡ c = cc in same)
      | false ↦ λ at. page_named k c es at out.1
    ] found

pub page_used : (n : ℕ) (S : List State) (t : Typed) → AreHeld n S t → length S ≡ data_clusters n → (k : PageKey) (c : ℕ)
    → find pair_cmp k t.chunks.clusters ≡ Some c → HasState n S Used c
page_used n S t held size k c found =
    named_state n S t held size c (λ out. page_named k c t.chunks.clusters found
    (out_back c (extent_clusters t.extents) (page_clusters t.chunks.clusters) out))

module _ (n : ℕ) (S : List State) (t : Typed) (held : AreHeld n S t) (size : length S ≡ data_clusters n)
    (sorted : T (is_sorted pair_cmp t.chunks.clusters)) (k : PageKey) (c : ℕ)
    (found : find pair_cmp k t.chunks.clusters ≡ Some c) where
  abbrev spot : ℕ
  spot = c - first_data_cluster n

  pub dropped_told : told (slice_set S spot Deferred) (keep_clusters (is_other k) t) ≡ told S t
  dropped_told =
      let used = (page_used n S t held size k c found).is in
      let one = count_set is_free S spot Used Deferred used in
      let two = count_set is_deferred S spot Used Deferred used in
      let names = count_dropped k c t sorted found in
      omega (arith, one, two, names)

  pub dropped_fewer : IsNoFreer S (slice_set S spot Deferred)
  dropped_fewer = set_no_freer S spot Deferred (page_used n S t held size k c found).is.within deferred_is_not_free

-- ---- the tables

module _ {D : Type 0} {d : Ghosts D} where
  -- the pages are in the order of their keys
  pub pages_sorted : (t : Tables D d) → T (is_sorted pair_cmp (tables_now t).chunks.clusters)
  pages_sorted t = sorted_typed cluster_codec t.log.map (as_true t.contents.sorted)

  -- and their clusters are used
  pub held_now : (t : Tables D d) → AreHeld t.clusters (states_of t) (tables_now t)
  held_now t = (
    t.held.0,
    record {
      free_stored = t.held.1.free_stored;
      free_now = t.held.1.free_now;
      deferred_now = t.held.1.deferred_now;
      once = t.held.1.once;
    },
  )
