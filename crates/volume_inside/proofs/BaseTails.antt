-- Tables that name no cluster twice name no byte of a container's cluster behind those that are used.
use Rattle.std.specs.Prelude.{◌≡◌, ◌⊎◌, ◌*◌, ◌+◌, ◌≤◌, ℕ, true, false, cond, List, [], ◌∷◌, ◌++◌, Some, None, refl}
use Rattle.std.proofs.Common.{subst, arith, inl, inr}
use Rattle.std.specs.declared.cmp.Ordering.{Ordering}
use Rattle.std.specs.declared.cmp.Ordering.TheVariants.{Less, Equal, Greater}
use Rattle.std.specs.Ordering.{is_eq}
use Rattle.std.specs.FinMap.{find}
use Rattle.std.proofs.lemmas.Map.Lookups.{exact_pairs, exact_unsigned}
use Rattle.std.specs.Ordering.{nat_cmp}
use Rattle.table_records.specs.Keys.{pair_cmp}
use Rattle.table_records.specs.declared.records.Extent.{Extent}
use Rattle.volume_inside.specs.Typed.{FileBlock}
use Rattle.volume_inside.specs.Lists.{IsOut, IsOnce}
use Rattle.volume_inside.specs.Ranges.{IsApart}
use Rattle.volume_inside.specs.Named.{superblock_range, extent_ranges, extent_clusters}
use Rattle.table_records.specs.declared.chunk_records.Container.{Container}
use Rattle.volume_inside.specs.ChunkTables.{PageKey}
use Rattle.volume_inside.specs.Pages.{page_length, page_ranges, page_clusters}
use Rattle.volume_inside.specs.PageFrame.{clusters_apart}

some_same : (a b : ℕ) → Some a ≡ Some b → a ≡ b
some_same a b same = cc

-- the cluster of a key is not out
found_page : (k : PageKey) (cluster : ℕ) (es : List (PageKey × ℕ)) → find pair_cmp k es ≡ Some cluster
    → IsOut cluster (page_clusters es) → ⊥
found_page k cluster [] found out = cc
found_page k cluster (e ∷ es) found out =
    elim (is_eq (pair_cmp k e.0)) as (λ t. cond t (Some e.1) (find pair_cmp k es) ≡ Some cluster → ⊥) [
      | true ↦ λ g. out.0 (some_same e.1 cluster g)
      | false ↦ λ g. found_page k cluster es g out.1
    ] found

module _ (containers : List (ℕ × Container)) (k : PageKey) (cluster from n : ℕ) (past : page_length containers k ≤ from)
    (within : from + n ≤ 4096) where
  -- a page of another cluster
  another : (other : ℕ) (length : ℕ) → (other ≡ cluster → ⊥) → length ≤ 4096
      → (4096 * other + length ≤ 4096 * cluster + from) ⊎ (4096 * cluster + from + n ≤ 4096 * other)
  another other length differ short = elim (clusters_apart other cluster length 4096 differ short (omega arith)) [
    | inl before ↦ inl (omega (arith, before))
    | inr behind ↦ inr (omega (arith, behind, within))
  ]

  out_of_all : (es : List (PageKey × ℕ)) → IsOut cluster (page_clusters es)
      → IsApart (4096 * cluster + from) n (page_ranges containers es)
  out_of_all [] out = tt
  out_of_all (e ∷ es) out =
      (another e.1 (page_length containers e.0) out.0 (omega arith), out_of_all es out.1)

  pages : (es : List (PageKey × ℕ)) → find pair_cmp k es ≡ Some cluster → IsOnce (page_clusters es)
      → IsApart (4096 * cluster + from) n (page_ranges containers es)
  pages [] found once = absurd (let clash : None ≡ Some cluster = found in cc)
  pages (e ∷ es) found once = by (pair_cmp k e.0) refl found (λ at. pages es at once.1)
    where
      differ : find pair_cmp k es ≡ Some cluster → e.1 ≡ cluster → ⊥
      differ at same = found_page k cluster es at (subst (λ (c : ℕ). IsOut c (page_clusters es)) same once.0)

      other : find pair_cmp k es ≡ Some cluster → IsApart (4096 * cluster + from) n (page_ranges containers es)
          → IsApart (4096 * cluster + from) n (page_ranges containers (e ∷ es))
      other at rest = (another e.1 (page_length containers e.0) (differ at) (omega arith), rest)

      by : (r : Ordering) → pair_cmp k e.0 ≡ r → cond (is_eq r) (Some e.1) (find pair_cmp k es) ≡ Some cluster
          → (find pair_cmp k es ≡ Some cluster → IsApart (4096 * cluster + from) n (page_ranges containers es))
          → IsApart (4096 * cluster + from) n (page_ranges containers (e ∷ es))
      by Less is at rest = other at (rest at)
      by Greater is at rest = other at (rest at)
      by Equal is at rest =
          let key : k ≡ e.0 = exact_pairs nat_cmp nat_cmp exact_unsigned exact_unsigned k e.0 is in
          let value : e.1 ≡ cluster = some_same e.1 cluster at in
          let page : page_length containers e.0 ≤ from = subst (λ (x : PageKey). page_length containers x ≤ from) key past in
          (inl (omega (arith, value, page)), out_of_all es (subst (λ (c : ℕ). IsOut c (page_clusters es)) value once.0))

-- THE TAIL: a range of a container's cluster behind its page touches no range that tables name, where no cluster is
-- named twice
pub tail_apart : (xs : List (FileBlock × Extent)) (containers : List (ℕ × Container)) (es : List (PageKey × ℕ))
    (k : PageKey) (cluster from n : ℕ) → IsOnce (extent_clusters xs ++ page_clusters es) → find pair_cmp k es ≡ Some cluster
    → 1 ≤ cluster → page_length containers k ≤ from → from + n ≤ 4096
    → IsApart (4096 * cluster + from) n (superblock_range ∷ (extent_ranges xs ++ page_ranges containers es))
tail_apart xs containers es k cluster from n once found some past within = (inl (omega (arith, some)), extents xs once)
  where
    out_back : (c : ℕ) (ys : List (FileBlock × Extent)) → IsOut c (extent_clusters ys ++ page_clusters es)
        → IsOut c (page_clusters es)
    out_back c [] out = out
    out_back c (y ∷ ys) out = out_back c ys out.1

    extents : (ys : List (FileBlock × Extent)) → IsOnce (extent_clusters ys ++ page_clusters es)
        → IsApart (4096 * cluster + from) n (extent_ranges ys ++ page_ranges containers es)
    extents [] once = pages containers k cluster from n past within es found once
    extents (y ∷ ys) once =
        let differ : y.1.cluster ≡ cluster → ⊥ =
        λ same. found_page k cluster es found
        (out_back cluster ys (subst (λ (c : ℕ). IsOut c (extent_clusters ys ++ page_clusters es)) same once.0)) in
        (another containers k cluster from n past within y.1.cluster 4096 differ (omega arith), extents ys once.1)
