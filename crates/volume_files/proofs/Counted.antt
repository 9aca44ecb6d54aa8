-- How many clusters are free, deferred or named, through changes of extents.
use Rattle.std.specs.Prelude.{◌≡◌, ◌+◌, ◌-◌, ℕ, Bool, true, false, cond, not, if◌then◌else◌, List, [], ◌∷◌, length, is_some, slice_set, get_or, Option, Some, T, refl}
use Rattle.std.proofs.Common.{sym, ◌∙◌, ap, arith, eq-eqb}
use Rattle.std.specs.FinMap.{find, is_sorted}
use Rattle.std.specs.FinMap.Entries.{put, where_key, length-put}
use Rattle.std.proofs.lemmas.List.{set-get_or}
use Rattle.std.proofs.lemmas.List.Sums.{sum_by-set}
use Rattle.vdisk.specs.declared.disk.Disk.{Ghosts}
use Rattle.cluster_space.specs.declared.state.State.{State}
use Rattle.cluster_space.specs.declared.state.State.TheVariants.{Used, Deferred}
use Rattle.cluster_space.specs.States.{IsIn, is_free, is_deferred, free_in, deferred_in}
use Rattle.table_records.specs.Keys.{pair_cmp}
use Rattle.table_records.specs.Next.{sorted_typed}
use Rattle.table_records.specs.Orders.{pair_total}
use Rattle.table_records.specs.Tables.{extent_codec}
use Rattle.table_records.specs.declared.records.Extent.{Extent}
use Rattle.volume_inside.specs.Bases.{base_clusters}
use Rattle.volume_files.proofs.Extents.{length-clusters}
use Rattle.volume_inside.specs.Changes.{with_extent, keep_extents}
use Rattle.volume_inside.specs.Layout.{first_data_cluster}
use Rattle.volume_inside.specs.Named.{clusters_of}
use Rattle.volume_inside.specs.Typed.{Typed, FileBlock, typed_of}
use Rattle.volume_tables.specs.Clusters.{used_at, with_replaced, all_deferred}
use Rattle.volume_tables.specs.Dropped.{AreUsedOnce}
use Rattle.volume_tables.specs.Log.{log_now}
use Rattle.volume_tables.specs.Tables.{tables_now, states_of}
use Rattle.volume_tables.specs.declared.tables.Tables.{Tables}
use Rattle.volume_tables.proofs.Answers.{as_true}
use Rattle.volume_tables.proofs.Deferring.{rest_used, held_used_once}
use Rattle.volume_tables.proofs.Leaving.{found_used}
use Rattle.volume_tables.specs.Stages.{accounted}

-- ---- states

-- a used cluster is deferred
one_deferred : (states : List State) (k : ℕ) → IsIn states k Used
    → (free_in (slice_set states k Deferred) ≡ free_in states)
    × (deferred_in (slice_set states k Deferred) ≡ deferred_in states + 1)
one_deferred states k used =
    let free : free_in (slice_set states k Deferred) + cond (is_free (get_or states k Used)) 1 0 ≡ free_in states + 0 =
    sum_by-set (λ s. cond (is_free s) 1 0) states k Deferred Used used.within in
    let deferred : deferred_in (slice_set states k Deferred) + cond
    (is_deferred (get_or states k Used)) 1 0 ≡ deferred_in states + 1 =
    sum_by-set (λ s. cond (is_deferred s) 1 0) states k Deferred Used used.within in
    let not_free : ◌≡◌ {A = ℕ} (cond (is_free (get_or states k Used)) 1 0) 0 =
    ap (λ (s : State). cond (is_free s) 1 0) used.state in
    let not_deferred : ◌≡◌ {A = ℕ} (cond (is_deferred (get_or states k Used)) 1 0) 0 =
    ap (λ (s : State). cond (is_deferred s) 1 0) used.state in
    (omega (arith, free, not_free), omega (arith, deferred, not_deferred))

-- as many are deferred as extents are given up
deferred_counts : (first : ℕ) (es : List (FileBlock × Extent)) (states : List State) → AreUsedOnce first states es
    → (free_in (all_deferred first es states) ≡ free_in states)
    × (deferred_in (all_deferred first es states) ≡ deferred_in states + length es)
deferred_counts first [] states used = (refl, omega arith)
deferred_counts first (e ∷ es) states used =
    let here = one_deferred states (e.1.cluster - first) used.1.0 in
    let rest = deferred_counts first es (slice_set states (e.1.cluster - first) Deferred)
    (rest_used first states e es used) in
    (rest.0 ∙ here.0, omega (arith, rest.1, here.1))

-- ---- entries

-- those that pass a test, and those that do not
length_parts : (test : FileBlock → Bool) (es : List (FileBlock × Extent))
    → length (where_key pair_cmp test es) + length (where_key pair_cmp (λ k. not (test k)) es) ≡ length es
length_parts test [] = refl
length_parts test (e ∷ es) =
    let rest = length_parts test es in
    elim (test e.0) as (λ b. length (cond b (e ∷ where_key pair_cmp test es) (where_key pair_cmp test es))
    + length (cond (not b) (e ∷ where_key pair_cmp (λ k. not (test k)) es)
    (where_key pair_cmp (λ k. not (test k)) es)) ≡ length (e ∷ es)) [
      | true ↦ omega (arith, rest)
      | false ↦ omega (arith, rest)
    ]

-- ---- calls

module _ {D : Type 0} {d : Ghosts D} (t u : Tables D d) where
  -- the extents of tables are in the order of their keys
  pub extents_in_order : T (is_sorted pair_cmp (tables_now t).extents)
  extents_in_order = sorted_typed extent_codec (log_now t.log) (as_true t.contents.sorted)

  -- the extents that pass a test are dropped, and their clusters deferred: none becomes free
  pub dropped_known : (test : FileBlock → Bool) → tables_now u ≡ keep_extents (λ k. not (test k)) (tables_now t)
      → states_of u ≡ all_deferred (first_data_cluster t.clusters) (where_key pair_cmp test (tables_now t).extents)
      (states_of t)
      → (free_in (states_of u) ≡ free_in (states_of t)) × (accounted u ≡ accounted t)
  dropped_known test now states =
      let es = (tables_now t).extents in
      let q : Typed = keep_extents (λ k. not (test k)) (tables_now t) in
      let used = held_used_once t.clusters (states_of t) (typed_of (log_now t.log)) t.held t.spaces test in
      let counts = deferred_counts (first_data_cluster t.clusters) (where_key pair_cmp test es) (states_of t) used in
      let free : free_in (states_of u) ≡ free_in (states_of t) = ap (λ (xs : List State). free_in xs) states
      ∙ counts.0 in
      let deferred : deferred_in (states_of u) ≡ deferred_in (states_of t) + length (where_key pair_cmp test es) =
      ap (λ (xs : List State). deferred_in xs) states ∙ counts.1 in
      let names : length (clusters_of (tables_now u)) ≡ length (where_key pair_cmp (λ k. not (test k)) es) + length
      (base_clusters (tables_now t)) =
      ap (λ (x : Typed). length (clusters_of x)) now ∙ length-clusters q in
      let named : length (clusters_of (tables_now t)) ≡ length es + length (base_clusters (tables_now t)) =
      length-clusters (tables_now t) in
      (free, omega (arith, free, deferred, names, named, length_parts test es))

  -- an extent is set anew over its own cluster
  pub same_known : (k : FileBlock) (e o : Extent) → find pair_cmp k (tables_now t).extents ≡ Some o
      → e.cluster ≡ o.cluster
      → tables_now u ≡ with_extent k e (tables_now t)
      → states_of u ≡ with_replaced t.clusters (find pair_cmp k (tables_now t).extents) e.cluster
      (used_at t.clusters e.cluster (states_of t))
      → (free_in (states_of u) ≡ free_in (states_of t)) × (accounted u ≡ accounted t)
  same_known k e o found same now states =
      let es = (tables_now t).extents in
      let used = found_used t.clusters k o (states_of t) (typed_of (log_now t.log)) t.held t.spaces found in
      let own : used_at t.clusters e.cluster (states_of t) ≡ states_of t =
      ap (λ (c : ℕ). used_at t.clusters c (states_of t)) same
      ∙ ap (λ (s : State). slice_set (states_of t) (o.cluster - first_data_cluster t.clusters) s) (sym used.is.state)
      ∙ set-get_or (states_of t) (o.cluster - first_data_cluster t.clusters) Used in
      let kept : states_of u ≡ states_of t =
      states
      ∙ ap (λ (was : Option Extent). with_replaced t.clusters was e.cluster
      (used_at t.clusters e.cluster (states_of t))) found
      ∙ ap (λ (b : Bool). if b then used_at t.clusters e.cluster (states_of t) else slice_set
      (used_at t.clusters e.cluster (states_of t)) (o.cluster - first_data_cluster t.clusters) Deferred)
      (eq-eqb o.cluster e.cluster (sym same))
      ∙ own in
      let long : length (put pair_cmp k e es) ≡ length es =
      length-put pair_cmp pair_total k e es extents_in_order
      ∙ ap (λ (was : Option Extent). cond (is_some was) (length es) (length es + 1)) found in
      let names : length (clusters_of (tables_now u)) ≡ length (put pair_cmp k e es) + length
      (base_clusters (tables_now t)) =
      ap (λ (x : Typed). length (clusters_of x)) now ∙ length-clusters (with_extent k e (tables_now t)) in
      let named : length (clusters_of (tables_now t)) ≡ length es + length (base_clusters (tables_now t)) =
      length-clusters (tables_now t) in
      let free : free_in (states_of u) ≡ free_in (states_of t) = ap (λ (xs : List State). free_in xs) kept in
      let deferred : deferred_in (states_of u) ≡ deferred_in (states_of t) =
      ap (λ (xs : List State). deferred_in xs) kept in
      (free, omega (arith, free, deferred, names, named, long))
