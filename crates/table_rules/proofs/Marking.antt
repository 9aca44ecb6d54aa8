-- Clusters are marked one after the other: they can be where none stands twice.
use Rattle.std.specs.Prelude.{◌≡◌, ◌≢◌, ◌⊎◌, ◌↔◌, ◌<◌, ◌≤◌, ◌+◌, ◌-◌, ℕ, List, [], ◌∷◌, ◌++◌, length, replicate, slice_set, Some, None, refl}
use Rattle.std.proofs.Common.{sym, ◌∙◌, ap, subst, arith, inl, inr}
use Rattle.std.proofs.lemmas.Bool.{cases_eq}
use Rattle.std.proofs.lemmas.List.{length-set, get_or-set_same, get_or-set_other, length-replicate, get_or-replicate}
use Rattle.byte_map.specs.Words.{Map}
use Rattle.cluster_space.specs.declared.state.State.{State}
use Rattle.cluster_space.specs.declared.state.State.TheVariants.{Free, Used}
use Rattle.cluster_space.specs.States.{IsIn}
use Rattle.table_records.specs.Codecs.{typed, with_key}
use Rattle.std.specs.Option.{option_map}
use Rattle.table_records.specs.Tables.{extent_codec, cluster_codec}
use Rattle.table_records.specs.Values.{extent_in, cluster_in}
use Rattle.table_records.specs.declared.records.FileRecord.{FileRecord}
use Rattle.volume_inside.specs.ChunkTables.{PageKey}
use Rattle.volume_inside.specs.Entries.{Each}
use Rattle.volume_inside.specs.Pages.{page_clusters}
use Rattle.table_records.specs.declared.records.Extent.{Extent}
use Rattle.volume_inside.specs.Layout.{first_data_cluster, data_clusters, IsDataCluster, AreData}
use Rattle.volume_inside.specs.Lists.{IsOut, IsOnce}
use Rattle.volume_inside.specs.Named.{extent_clusters, clusters_of}
use Rattle.volume_inside.specs.Rules.{ExtentsHold}
use Rattle.volume_inside.specs.Typed.{Typed, FileBlock}
use Rattle.table_rules.specs.Marks.{list_of, clusters_in, extent_in_pair, page_in_pair, marked, CanMark, AllUsed, IsFilled}

-- ---- a walk, of which so much is left

pub next_clusters : (in_pair : List ℕ → List ℕ → List ℕ) (left : Map) (k v : List ℕ) (rest : Map) → left ≡ (k, v) ∷ rest
    → clusters_in in_pair left ≡ in_pair k v ++ clusters_in in_pair rest
next_clusters in_pair left k v rest is = ap (clusters_in in_pair) is

-- each of these stands from the first on
abbrev AllFrom : ℕ → List ℕ → Type 0
AllFrom first [] = Unit {0}
AllFrom first (c ∷ cs) = (first ≤ c) × AllFrom first cs

module _ (first : ℕ) where
  pub can_mark_joined : (xs ys : List ℕ) (s : List State) → CanMark first s (xs ++ ys) ↔ (CanMark first s xs × CanMark first (marked first xs s) ys)
  can_mark_joined [] ys s = (λ can. (tt, can), λ both. both.1)
  can_mark_joined (x ∷ xs) ys s =
      let rest = can_mark_joined xs ys (slice_set s (x - first) Used) in
      (λ can. ((can.0, (rest.0 can.1).0), (rest.0 can.1).1), λ both. (both.0.0, rest.1 (both.0.1, both.1)))

  pub marked_joined : (xs ys : List ℕ) (s : List State) → marked first (xs ++ ys) s ≡ marked first ys (marked first xs s)
  marked_joined [] ys s = refl
  marked_joined (x ∷ xs) ys s = marked_joined xs ys (slice_set s (x - first) Used)

  pub can_next : (all left one rest : List ℕ) (s₀ s s₁ : List State) → left ≡ one ++ rest → (CanMark first s left ↔ CanMark first s₀ all)
      → CanMark first s one → s₁ ≡ marked first one s → (CanMark first s₁ rest ↔ CanMark first s₀ all)
  can_next all left one rest s₀ s s₁ split same can is =
      let joined = can_mark_joined one rest s in (
        λ more. same.0 (subst (λ (q : List ℕ). CanMark first s q) (sym split) (joined.1 (can, subst (λ (q : List State). CanMark first q rest) is more))),
        λ whole. subst (λ (q : List State). CanMark first q rest) (sym is) (joined.0 (subst (λ (q : List ℕ). CanMark first s q) split (same.1 whole))).1,
      )

  pub can_fails : (all left one rest : List ℕ) (s₀ s : List State) → left ≡ one ++ rest → (CanMark first s left ↔ CanMark first s₀ all)
      → (CanMark first s one → ⊥) → CanMark first s₀ all → ⊥
  can_fails all left one rest s₀ s split same never whole =
      never ((can_mark_joined one rest s).0 (subst (λ (q : List ℕ). CanMark first s q) split (same.1 whole))).0

  pub marked_next : (all left one rest : List ℕ) (s₀ s s₁ : List State) → left ≡ one ++ rest → marked first left s ≡ marked first all s₀
      → s₁ ≡ marked first one s → marked first rest s₁ ≡ marked first all s₀
  marked_next all left one rest s₀ s s₁ split same is =
      ap (λ (q : List State). marked first rest q) is ∙ sym (marked_joined one rest s) ∙ ap (λ (q : List ℕ). marked first q s) (sym split) ∙ same

  pub length-marked : (cs : List ℕ) (s : List State) → length (marked first cs s) ≡ length s
  length-marked [] s = refl
  length-marked (c ∷ cs) s = length-marked cs (slice_set s (c - first) Used) ∙ length-set s (c - first) Used

pub data_joined : (n : ℕ) (xs ys : List ℕ) → AreData n (xs ++ ys) → AreData n xs × AreData n ys
data_joined n [] ys data_clusters = (tt, data_clusters)
data_joined n (x ∷ xs) ys data_clusters = let rest = data_joined n xs ys data_clusters.1 in ((data_clusters.0, rest.0), rest.1)

-- ---- one state is set

set_here : (s : List State) (k : ℕ) (t : State) → k < length s → IsIn (slice_set s k t) k t
set_here s k t low = record { within = omega (arith, low, length-set s k t); state = get_or-set_same s k t Used low }

set_there : (s : List State) (j k : ℕ) (t u : State) → k ≢ j → IsIn s k u → IsIn (slice_set s j t) k u
set_there s j k t u differs is = record {
  within = omega (arith, is.within, length-set s j t);
  state = get_or-set_other s j k t Used differs ∙ is.state;
}

-- what is used stays used
used_on : (s : List State) (j k : ℕ) → IsIn s k Used → IsIn (slice_set s j Used) k Used
used_on s j k is = by (cases_eq k j)
  where
    by : (k ≡ j) ⊎ (k ≢ j) → IsIn (slice_set s j Used) k Used
    by (inl same) = subst (λ (i : ℕ). IsIn (slice_set s i Used) k Used) same (set_here s k Used is.within)
    by (inr differs) = set_there s j k Used Used differs is

free_and_used : (s : List State) (k : ℕ) → IsIn s k Free → IsIn s k Used → ⊥
free_and_used s k free used = let clash : Free ≡ Used = sym free.state ∙ used.state in cc

module _ (first : ℕ) where
  used_out : (c : ℕ) (s : List State) (cs : List ℕ) → IsIn s (c - first) Used → CanMark first s cs → IsOut c cs
  used_out c s [] used can = tt
  used_out c s (x ∷ cs) used can = (
    λ same. free_and_used s (c - first) (subst (λ (y : ℕ). IsIn s (y - first) Free) same can.0) used,
    used_out c (slice_set s (x - first) Used) cs (used_on s (x - first) (c - first) used) can.1,
  )

  pub can_once : (s : List State) (cs : List ℕ) → CanMark first s cs → IsOnce cs
  can_once s [] can = tt
  can_once s (c ∷ cs) can =
      let rest = slice_set s (c - first) Used in
      (used_out c rest cs (set_here s (c - first) Used can.0.within) can.1, can_once rest cs can.1)

  -- each of these is free
  abbrev AllFree : List State → List ℕ → Type 0
  AllFree s [] = Unit {0}
  AllFree s (c ∷ cs) = IsIn s (c - first) Free × AllFree s cs

  still_free : (c : ℕ) (s : List State) (cs : List ℕ) → first ≤ c → AllFrom first cs → IsOut c cs → AllFree s cs
      → AllFree (slice_set s (c - first) Used) cs
  still_free c s [] low from out free = tt
  still_free c s (x ∷ cs) low from out free = (
    set_there s (c - first) (x - first) Used Free (λ same. out.0 (omega (arith, same, low, from.0))) free.0,
    still_free c s cs low from.1 out.1 free.1,
  )

  once_can : (s : List State) (cs : List ℕ) → AllFrom first cs → IsOnce cs → AllFree s cs → CanMark first s cs
  once_can s [] from once free = tt
  once_can s (c ∷ cs) from once free =
      (free.0, once_can (slice_set s (c - first) Used) cs from.1 once.1 (still_free c s cs from.0 from.1 once.0 free.1))

  -- ---- what the marked states are

  marked_used_on : (s : List State) (cs : List ℕ) (k : ℕ) → IsIn s k Used → IsIn (marked first cs s) k Used
  marked_used_on s [] k is = is
  marked_used_on s (c ∷ cs) k is = marked_used_on (slice_set s (c - first) Used) cs k (used_on s (c - first) k is)

  marked_used : (s : List State) (cs : List ℕ) → CanMark first s cs → AllUsed first (marked first cs s) cs
  marked_used s [] can = tt
  marked_used s (c ∷ cs) can =
      let next = slice_set s (c - first) Used in
      (marked_used_on next cs (c - first) (set_here s (c - first) Used can.0.within), marked_used next cs can.1)

  marked_free : (s : List State) (cs : List ℕ) (k : ℕ) → AllFrom first cs → IsOut (first + k) cs → IsIn s k Free → IsIn (marked first cs s) k Free
  marked_free s [] k from out is = is
  marked_free s (c ∷ cs) k from out is =
      marked_free (slice_set s (c - first) Used) cs k from.1 out.1
      (set_there s (c - first) k Used Free (λ same. out.0 (omega (arith, same, from.0))) is)

-- ---- from states that are all free

fresh_in : (n k : ℕ) → k < n → IsIn (replicate n Free) k Free
fresh_in n k low = record { within = omega (arith, low, length-replicate n Free); state = get_or-replicate n k Free Used low }

from_data : (n : ℕ) (cs : List ℕ) → AreData n cs → AllFrom (first_data_cluster n) cs
from_data n [] data_clusters = tt
from_data n (c ∷ cs) data_clusters = (data_clusters.0.from_first, from_data n cs data_clusters.1)

fresh_free : (n : ℕ) (cs : List ℕ) → AreData n cs → AllFree (first_data_cluster n) (replicate (data_clusters n) Free) cs
fresh_free n [] are = tt
fresh_free n (c ∷ cs) are =
    (fresh_in (data_clusters n) (c - first_data_cluster n) (omega (arith, are.0.from_first, are.0.within)), fresh_free n cs are.1)

-- they can be marked just where none stands twice
pub fresh_once : (n : ℕ) (cs : List ℕ) → AreData n cs → CanMark (first_data_cluster n) (replicate (data_clusters n) Free) cs ↔ IsOnce cs
fresh_once n cs are =
    let first = first_data_cluster n in
    let fresh = replicate (data_clusters n) Free in
    (λ can. can_once first fresh cs can, λ once. once_can first fresh cs (from_data n cs are) once (fresh_free n cs are))

pub fresh_filled : (n : ℕ) (cs : List ℕ) (s : List State) → AreData n cs → CanMark (first_data_cluster n) (replicate (data_clusters n) Free) cs
    → s ≡ marked (first_data_cluster n) cs (replicate (data_clusters n) Free) → IsFilled n cs s
fresh_filled n cs s are can is =
    let first = first_data_cluster n in
    let fresh = replicate (data_clusters n) Free in
    subst (λ (q : List State). IsFilled n cs q) (sym is) (record {
      size = length-marked first cs fresh ∙ length-replicate (data_clusters n) Free;
      used = marked_used first fresh cs can;
      free = λ k low out. marked_free first fresh cs k (from_data n cs are) out (fresh_in (data_clusters n) k low);
    })

-- ---- the clusters that tables name

data_named : (n : ℕ) (files : List (ℕ × FileRecord)) (es : List (FileBlock × Extent)) → ExtentsHold n files es → AreData n (extent_clusters es)
data_named n files [] hold = tt
data_named n files (e ∷ es) hold = (hold.0.in_data, data_named n files es hold.1)

data_both : (n : ℕ) (xs ys : List ℕ) → AreData n xs → AreData n ys → AreData n (xs ++ ys)
data_both n [] ys one two = two
data_both n (x ∷ xs) ys one two = (one.0, data_both n xs ys one.1 two)

pub data_of_rules : (n : ℕ) (t : Typed) → ExtentsHold n t.files t.extents → AreData n (page_clusters t.chunks.clusters)
    → AreData n (clusters_of t)
data_of_rules n t extents pages =
    data_both n (extent_clusters t.extents) (page_clusters t.chunks.clusters) (data_named n t.files t.extents extents) pages

pub extents_in_pairs : (m : Map) → clusters_in extent_in_pair m ≡ extent_clusters (typed extent_codec m)
extents_in_pairs [] = refl
extents_in_pairs (e ∷ m) =
    elim (extent_codec.read_key e.0) as (λ o. list_of (option_map (λ k. (extent_in e.1).cluster) o) ++ clusters_in extent_in_pair m
    ≡ extent_clusters (with_key extent_codec o e.1 (typed extent_codec m))) [
      | None ↦ extents_in_pairs m
      | Some k ↦ ap (λ (cs : List ℕ). (extent_in e.1).cluster ∷ cs) (extents_in_pairs m)
    ]

pub pages_in_pairs : (m : Map) → clusters_in page_in_pair m ≡ page_clusters (typed cluster_codec m)
pages_in_pairs [] = refl
pages_in_pairs (e ∷ m) =
    elim (cluster_codec.read_key e.0) as (λ o. list_of (option_map (λ k. cluster_in e.1) o) ++ clusters_in page_in_pair m
    ≡ page_clusters (with_key cluster_codec o e.1 (typed cluster_codec m))) [
      | None ↦ pages_in_pairs m
      | Some k ↦ ap (λ (cs : List ℕ). cluster_in e.1 ∷ cs) (pages_in_pairs m)
    ]

-- pages that lie in data clusters, one by one
pub data_of_each : (n : ℕ) (es : List (PageKey × ℕ)) → Each (λ (k : PageKey) (c : ℕ). IsDataCluster n c) es → AreData n (page_clusters es)
data_of_each n [] each = tt
data_of_each n (e ∷ es) each = (each.0, data_of_each n es each.1)

pub each_of_data : (n : ℕ) (es : List (PageKey × ℕ)) → AreData n (page_clusters es) → Each (λ (k : PageKey) (c : ℕ). IsDataCluster n c) es
each_of_data n [] are = tt
each_of_data n (e ∷ es) are = (are.0, each_of_data n es are.1)
