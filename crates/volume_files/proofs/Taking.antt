-- A free cluster is taken and named in the place of an extent, or refused; and the extent is taken back.
use Rattle.std.specs.Prelude.{◌≡◌, ◌≢◌, ◌+◌, ◌-◌, ℕ, Bool, true, false, T, nat_eq, if◌then◌else◌, List}
use Rattle.std.specs.Prelude.{length, slice_set, Option, Some, None, refl}
use Rattle.std.proofs.Common.{sym, ap, subst, arith, eqb-true}
use Rattle.std.proofs.lemmas.List.{set-set}
use Rattle.std.specs.FinMap.{find, is_sorted}
use Rattle.cluster_space.specs.declared.state.State.{State}
use Rattle.cluster_space.specs.declared.state.State.TheVariants.{Free, Used, Deferred}
use Rattle.cluster_space.specs.States.{IsIn, free_in, deferred_in}
use Rattle.table_records.specs.Keys.{pair_cmp}
use Rattle.table_records.specs.declared.records.Extent.{Extent}
use Rattle.volume_inside.specs.Layout.{first_data_cluster, data_clusters}
use Rattle.volume_inside.specs.Typed.{Typed, FileBlock}
use Rattle.volume_inside.specs.Named.{clusters_of}
use Rattle.volume_inside.specs.Changes.{with_extent, keep_extents}
use Rattle.volume_tables.specs.Clusters.{HasState, AreHeld, used_at, deferred_at, deferred_unless, with_replaced}
use Rattle.volume_tables.specs.Clusters.{with_refused}
use Rattle.volume_tables.proofs.Leaving.{found_used}
use Rattle.volume_files.specs.Writing.{IsNoFreer}
use Rattle.volume_files.proofs.States.{set_here, set_there, places_differ, taken_counts, deferred_counts, back_counts}
use Rattle.volume_files.proofs.States.{taken_no_freer, deferred_no_freer, no_freer_then, free_is_not_used}
use Rattle.volume_files.proofs.States.{used_is_not_deferred}
use Rattle.volume_files.proofs.Extents.{count_put_new, count_put_over, count_dropped, is_other}

unless_other : (n c other : ℕ) (states : List State) → (c ≡ other → ⊥)
    → deferred_unless n c other states ≡ deferred_at n c states
unless_other n c other states differ =
    ap (λ (t : Bool). if t then states else deferred_at n c states)
    (by (nat_eq c other) (λ is. differ (eqb-true c other is)))
  where
    by : (t : Bool) → (t ≡ true → ⊥) → t ≡ false
    by true never = absurd (never refl)
    by false never = refl

-- as many clusters as these states and these tables tell
abbrev pub told : List State → Typed → ℕ
told states t = free_in states + deferred_in states + length (clusters_of t)

-- t are the tables, S the states of the clusters of an image of n, and c is free
module _ (n : ℕ) (S : List State) (t : Typed) (held : AreHeld n S t) (size : length S ≡ data_clusters n)
    (sorted : T (is_sorted pair_cmp t.extents))
    (k : FileBlock) (c : ℕ) (free : HasState n S Free c) where
  abbrev place : ℕ
  place = c - first_data_cluster n

  abbrev taken : List State
  taken = slice_set S place Used

  old_state : (o : Extent) → find pair_cmp k t.extents ≡ Some o → HasState n S Used o.cluster
  old_state o found = found_used n k o S t held size found

  old_place : (o : Extent) → find pair_cmp k t.extents ≡ Some o → o.cluster - first_data_cluster n ≢ place
  old_place o found = places_differ S (o.cluster - first_data_cluster n) place Used Free
      (λ same. free_is_not_used (sym same)) (old_state o found).is free.is

  old_differs : (o : Extent) → find pair_cmp k t.extents ≡ Some o → o.cluster ≡ c → ⊥
  old_differs o found same = old_place o found (ap (λ (x : ℕ). x - first_data_cluster n) same)

  old_used : (o : Extent) → find pair_cmp k t.extents ≡ Some o → IsIn taken (o.cluster - first_data_cluster n) Used
  old_used o found = set_there S place (o.cluster - first_data_cluster n) Used Used (old_place o found)
      (old_state o found).is

  mine : IsIn taken place Used
  mine = set_here S place Used free.is.within

  replaced_is : (o : Extent) → find pair_cmp k t.extents ≡ Some o
      → with_replaced n (Some o) c taken ≡ slice_set taken (o.cluster - first_data_cluster n) Deferred
  replaced_is o found = unless_other n o.cluster c taken (old_differs o found)

  pub replaced_free : (was : Option Extent) → find pair_cmp k t.extents ≡ was
      → free_in (with_replaced n was c taken) + 1 ≡ free_in S
  replaced_free None found = (taken_counts S place free.is).0
  replaced_free (Some o) found =
      let one = (taken_counts S place free.is).0 in
      let two = (deferred_counts taken (o.cluster - first_data_cluster n) (old_used o found)).0 in
      let same = ap (λ (xs : List State). free_in xs) (replaced_is o found) in
      omega (arith, one, two, same)

  pub replaced_told : (e : Extent) (was : Option Extent) → find pair_cmp k t.extents ≡ was
      → told (with_replaced n was c taken) (with_extent k e t) ≡ told S t
  replaced_told e None found =
      let one = taken_counts S place free.is in
      let names = count_put_new k e t sorted found in
      omega (arith, one.0, one.1, names)
  replaced_told e (Some o) found =
      let one = taken_counts S place free.is in
      let two = deferred_counts taken (o.cluster - first_data_cluster n) (old_used o found) in
      let names = count_put_over k e o t sorted found in
      let frees = ap (λ (xs : List State). free_in xs) (replaced_is o found) in
      let defers = ap (λ (xs : List State). deferred_in xs) (replaced_is o found) in
      omega (arith, one.0, one.1, two.0, two.1, names, frees, defers)

  pub replaced_deferred : (o : Extent) → find pair_cmp k t.extents ≡ Some o
      → HasState n (with_replaced n (Some o) c taken) Deferred o.cluster
  replaced_deferred o found = record {
    from_first = (old_state o found).from_first;
    is = subst (λ (xs : List State). IsIn xs (o.cluster - first_data_cluster n) Deferred) (sym (replaced_is o found))
        (set_here taken (o.cluster - first_data_cluster n) Deferred (old_used o found).within);
  }

  -- another free cluster stays free
  pub replaced_others : (x : ℕ) → (x ≡ c → ⊥) → HasState n S Free x → (was : Option Extent)
      → find pair_cmp k t.extents ≡ was → HasState n (with_replaced n was c taken) Free x
  replaced_others x differ has was found = record { from_first = has.from_first; is = by was found }
    where
      spot : x - first_data_cluster n ≢ place
      spot same = differ (omega (arith, same, has.from_first, free.from_first))

      still : IsIn taken (x - first_data_cluster n) Free
      still = set_there S place (x - first_data_cluster n) Used Free spot has.is

      by : (was : Option Extent) → find pair_cmp k t.extents ≡ was
          → IsIn (with_replaced n was c taken) (x - first_data_cluster n) Free
      by None found = still
      by (Some o) found =
          let apart = places_differ taken (x - first_data_cluster n) (o.cluster - first_data_cluster n) Free Used
          free_is_not_used still (old_used o found) in
          subst (λ (xs : List State). IsIn xs (x - first_data_cluster n) Free) (sym (replaced_is o found))
          (set_there taken (o.cluster - first_data_cluster n) (x - first_data_cluster n) Deferred Free apart still)

  pub replaced_fewer : (was : Option Extent) → find pair_cmp k t.extents ≡ was
      → IsNoFreer S (with_replaced n was c taken)
  replaced_fewer None found = taken_no_freer S place free.is
  replaced_fewer (Some o) found =
      subst (λ (xs : List State). IsNoFreer S xs) (sym (replaced_is o found))
      (no_freer_then S taken (slice_set taken (o.cluster - first_data_cluster n) Deferred)
      (taken_no_freer S place free.is)
      (deferred_no_freer taken (o.cluster - first_data_cluster n) (old_used o found)))

  refused_is : (was : Option Extent) → find pair_cmp k t.extents ≡ was
      → with_refused n was c taken ≡ slice_set taken place Deferred
  refused_is None found = refl
  refused_is (Some o) found = unless_other n c o.cluster taken (λ same. old_differs o found (sym same))

  pub refused_told : (was : Option Extent) → find pair_cmp k t.extents ≡ was
      → told (with_refused n was c taken) t ≡ told S t
  refused_told was found =
      let one = taken_counts S place free.is in
      let two = deferred_counts taken place mine in
      let frees = ap (λ (xs : List State). free_in xs) (refused_is was found) in
      let defers = ap (λ (xs : List State). deferred_in xs) (refused_is was found) in
      omega (arith, one.0, one.1, two.0, two.1, frees, defers)

  pub refused_fewer : (was : Option Extent) → find pair_cmp k t.extents ≡ was → IsNoFreer S (with_refused n was c taken)
  refused_fewer was found =
      subst (λ (xs : List State). IsNoFreer S xs) (sym (refused_is was found))
      (no_freer_then S taken (slice_set taken place Deferred) (taken_no_freer S place free.is)
      (deferred_no_freer taken place mine))

-- used twice is used
pub used_twice : (n c : ℕ) (states : List State) → used_at n c (used_at n c states) ≡ used_at n c states
used_twice n c states = set-set states (c - first_data_cluster n) Used Used

-- ---- taking back

module _ (n : ℕ) (S : List State) (t : Typed) (held : AreHeld n S t) (size : length S ≡ data_clusters n)
    (sorted : T (is_sorted pair_cmp t.extents))
    (k : FileBlock) (e : Extent) (found : find pair_cmp k t.extents ≡ Some e) where
  abbrev spot : ℕ
  spot = e.cluster - first_data_cluster n

  named : HasState n S Used e.cluster
  named = found_used n k e S t held size found

  -- the key is dropped
  pub dropped_told : told (slice_set S spot Deferred) (keep_extents (is_other k) t) ≡ told S t
  dropped_told =
      let one = deferred_counts S spot named.is in
      let names = count_dropped k e t sorted found in
      omega (arith, one.0, one.1, names)

  pub dropped_deferred : (j : ℕ) → IsIn S j Deferred → IsIn (slice_set S spot Deferred) j Deferred
  dropped_deferred j is = (deferred_no_freer S spot named.is).deferred j is

  -- the key gets back a cluster that was deferred
  module _ (o : Extent) (was : HasState n S Deferred o.cluster) where
    abbrev old_spot : ℕ
    old_spot = o.cluster - first_data_cluster n

    abbrev back : List State
    back = slice_set S old_spot Used

    spots_differ : spot ≢ old_spot
    spots_differ = places_differ S spot old_spot Used Deferred used_is_not_deferred named.is was.is

    still_named : IsIn back spot Used
    still_named = set_there S old_spot spot Used Used spots_differ named.is

    back_is : with_replaced n (Some e) o.cluster back ≡ slice_set back spot Deferred
    back_is = unless_other n e.cluster o.cluster back (λ same. spots_differ
        (ap (λ (x : ℕ). x - first_data_cluster n) same))

    pub back_told : told (with_replaced n (Some e) o.cluster back) (with_extent k o t) ≡ told S t
    back_told =
        let one = back_counts S old_spot was.is in
        let two = deferred_counts back spot still_named in
        let names = count_put_over k o e t sorted found in
        let frees = ap (λ (xs : List State). free_in xs) back_is in
        let defers = ap (λ (xs : List State). deferred_in xs) back_is in
        omega (arith, one.0, one.1, two.0, two.1, names, frees, defers)

    pub back_deferred : (j : ℕ) → IsIn S j Deferred → j ≢ old_spot
        → IsIn (with_replaced n (Some e) o.cluster back) j Deferred
    back_deferred j is differ =
        subst (λ (xs : List State). IsIn xs j Deferred) (sym back_is)
        ((deferred_no_freer back spot still_named).deferred j (set_there S old_spot j Used Deferred differ is))
