-- How the tails of containers stay free: from a commit on, over clusters that are set and bytes that are used.
use Rattle.std.specs.Prelude.{◌≡◌, ◌⊎◌, ◌≤◌, ◌+◌, ◌*◌, ◌-◌, ℕ, Bool, true, false, cond, min, List, [], ◌∷◌, ◌++◌}
use Rattle.std.specs.Prelude.{Option, Some, None}
use Rattle.std.specs.Prelude.{refl}
use Rattle.std.proofs.Common.{◌∙◌, ap, sym, subst, arith, inl, inr}
use Rattle.std.specs.declared.cmp.Ordering.{Ordering}
use Rattle.std.specs.declared.cmp.Ordering.TheVariants.{Less, Equal, Greater}
use Rattle.std.specs.Ordering.{nat_cmp, is_eq}
use Rattle.std.specs.Cmp.{nat_cmp_total}
use Rattle.std.specs.FinMap.{find, put, nat_cmp-IsAntisymmetric}
use Rattle.std.specs.FinMap.Entries.{find-put, find-where_key, where_key}
use Rattle.std.proofs.lemmas.Map.Lookups.{exact_pairs, exact_unsigned}
use Rattle.table_records.specs.Keys.{pair_cmp}
use Rattle.table_records.specs.Orders.{pair_total}
use Rattle.table_records.specs.declared.records.Extent.{Extent}
use Rattle.table_records.specs.declared.chunk_records.Container.{Container}
use Rattle.volume_inside.specs.ChunkTables.{PageKey}
use Rattle.volume_inside.specs.Typed.{Typed, FileBlock}
use Rattle.volume_inside.specs.Layout.{IsDataCluster, AreData}
use Rattle.volume_inside.specs.Lists.{IsOnce}
use Rattle.volume_inside.specs.Pages.{used_of, used_or_none, page_length, page_clusters}
use Rattle.volume_inside.specs.Ranges.{IsApart}
use Rattle.volume_inside.specs.Named.{named, extent_clusters, clusters_of, IsUnnamed}
use Rattle.volume_inside.specs.Changes.{with_cluster, with_container, keep_clusters, keep_containers}
use Rattle.volume_inside.specs.Tails.{AreTailsFree}
use Rattle.volume_inside.proofs.BaseTails.{tail_apart}

-- a range within one that touches nothing touches nothing
narrower : (at n a m : ℕ) (rs : List (ℕ × ℕ)) → at ≤ a → a + m ≤ at + n → IsApart at n rs → IsApart a m rs
narrower at n a m [] low high apart = tt
narrower at n a m (r ∷ rs) low high apart = (here apart.0, narrower at n a m rs low high apart.1)
  where
    here : (r.0 + r.1 ≤ at) ⊎ (at + n ≤ r.0) → (r.0 + r.1 ≤ a) ⊎ (a + m ≤ r.0)
    here (inl before) = inl (omega (arith, before, low))
    here (inr behind) = inr (omega (arith, behind, high))

-- ---- a write behind what is used

pub tail_written : (stored now : Typed) (k : PageKey) (cluster from n : ℕ) → AreTailsFree stored now.chunks
    → find pair_cmp k now.chunks.clusters ≡ Some cluster → page_length now.chunks.containers k ≤ from
    → from + n ≤ 4096 → IsApart (4096 * cluster + from) n (named stored)
tail_written stored now k cluster from n free found past within =
    let used = page_length now.chunks.containers k in
    narrower (4096 * cluster + used) (4096 - used) (4096 * cluster + from) n (named stored)
    (omega (arith, past)) (omega (arith, past, within)) (free.tail k cluster found)

-- ---- a commit

module _ (n : ℕ) (es : List (PageKey × ℕ)) where
  back_is_data : (xs : List (FileBlock × Extent)) → AreData n (extent_clusters xs ++ page_clusters es)
      → AreData n (page_clusters es)
  back_is_data [] in_data = in_data
  back_is_data (x ∷ xs) in_data = back_is_data xs in_data.1

page_in_data : (n : ℕ) (k : PageKey) (cluster : ℕ) (es : List (PageKey × ℕ)) → AreData n (page_clusters es)
    → find pair_cmp k es ≡ Some cluster → IsDataCluster n cluster
page_in_data n k cluster [] in_data found = absurd (cc)
page_in_data n k cluster (e ∷ es) in_data found =
    elim (is_eq (pair_cmp k e.0)) as (λ t. cond t (Some e.1) (find pair_cmp k es) ≡ Some cluster → IsDataCluster n cluster) [
      | true ↦ λ at. (let value : e.1 ≡ cluster = cc in subst (λ (c : ℕ). IsDataCluster n c) value in_data.0)
      | false ↦ λ at. page_in_data n k cluster es in_data.1 at
    ] found

pub page_is_data : (n : ℕ) (t : Typed) (k : PageKey) (cluster : ℕ) → AreData n (clusters_of t)
    → find pair_cmp k t.chunks.clusters ≡ Some cluster → IsDataCluster n cluster
page_is_data n t k cluster in_data found =
    page_in_data n k cluster t.chunks.clusters (back_is_data n t.chunks.clusters t.extents in_data) found

-- once all is stored, nothing behind what is used is named
pub tails_stored : (n : ℕ) (t : Typed) → AreData n (clusters_of t) → IsOnce (clusters_of t) → AreTailsFree t t.chunks
tails_stored n t in_data once = record {
  tail = λ k cluster found. (let lies = page_is_data n t k cluster in_data found in
      let used = page_length t.chunks.containers k in
      tail_apart t.extents t.chunks.containers t.chunks.clusters k cluster used (4096 - used) once found
      (omega (arith, lies.from_first)) (omega arith) (omega arith));
}

-- ---- a cluster that the stored tables do not name is set

module _ (stored now : Typed) (k : PageKey) (cluster : ℕ) where
  abbrev found_by : PageKey → Ordering → Option ℕ
  found_by j r = cond (is_eq r) (Some cluster) (find pair_cmp j now.chunks.clusters)

  abbrev IsTailFree : PageKey → ℕ → Type 0
  IsTailFree j c =
      IsApart (4096 * c + page_length now.chunks.containers j) (4096 - page_length now.chunks.containers j) (named stored)

  pub tails_with_cluster : AreTailsFree stored now.chunks → IsUnnamed cluster stored
      → AreTailsFree stored (with_cluster k cluster now).chunks
  tails_with_cluster free unnamed = record {
    tail = λ j c found. by j c (pair_cmp j k) refl (sym (find-put pair_cmp pair_total j k cluster now.chunks.clusters) ∙ found);
  }
    where
      whole : (j : PageKey) (c : ℕ) → c ≡ cluster → IsTailFree j c
      whole j c same =
          let used = page_length now.chunks.containers j in
          narrower (4096 * cluster) 4096 (4096 * c + used) (4096 - used) (named stored)
          (omega (arith, same)) (omega (arith, same)) unnamed

      by : (j : PageKey) (c : ℕ) (r : Ordering) → pair_cmp j k ≡ r → found_by j (pair_cmp j k) ≡ Some c → IsTailFree j c
      by j c Less is at = free.tail j c (sym (ap (λ (r : Ordering). found_by j r) is) ∙ at)
      by j c Greater is at = free.tail j c (sym (ap (λ (r : Ordering). found_by j r) is) ∙ at)
      by j c Equal is at = whole j c (let here : Some cluster ≡ Some c = sym (ap (λ (r : Ordering). found_by j r) is) ∙ at in cc)

-- ---- more bytes of a container are used

pub tails_with_container : (stored now : Typed) (id : ℕ) (new : Container) → AreTailsFree stored now.chunks
    → used_of now.chunks.containers id ≤ new.used → AreTailsFree stored (with_container id new now).chunks
tails_with_container stored now id new free more = record {
  tail = λ k cluster found. (let up = grown k in
      let old_used = page_length now.chunks.containers k in
      let new_used = page_length (put nat_cmp id new now.chunks.containers) k in
      narrower (4096 * cluster + old_used) (4096 - old_used) (4096 * cluster + new_used) (4096 - new_used) (named stored)
      (omega (arith, up)) (omega (arith, up)) (free.tail k cluster found));
}
  where
    used_by_order : (c : ℕ) (r : Ordering) → nat_cmp c id ≡ r
        → used_of now.chunks.containers c ≤ used_or_none (cond (is_eq r) (Some new) (find nat_cmp c now.chunks.containers))
    used_by_order c Less is = omega arith
    used_by_order c Greater is = omega arith
    used_by_order c Equal is =
        subst (λ (x : ℕ). used_of now.chunks.containers x ≤ new.used) (sym (nat_cmp-IsAntisymmetric c id is)) more

    used_put : (c : ℕ) → used_of now.chunks.containers c ≤ used_of (put nat_cmp id new now.chunks.containers) c
    used_put c =
        subst (λ (o : Option Container). used_of now.chunks.containers c ≤ used_or_none o)
        (sym (find-put nat_cmp nat_cmp_total c id new now.chunks.containers)) (used_by_order c (nat_cmp c id) refl)

    grown : (k : PageKey) → page_length now.chunks.containers k ≤ page_length (put nat_cmp id new now.chunks.containers) k
    grown k = let up = used_put k.0 in omega (arith, up)

-- ---- pages are dropped, and containers that have none

pub tails_without_pages : (stored now : Typed) (test : PageKey → Bool) → AreTailsFree stored now.chunks
    → AreTailsFree stored (keep_clusters test now).chunks
tails_without_pages stored now test free = record {
  tail = λ k cluster found.
      free.tail k cluster (kept k cluster (sym (find-where_key pair_cmp test k (alike k) now.chunks.clusters) ∙ found));
}
  where
    alike : (k x : PageKey) → pair_cmp k x ≡ Equal → test x ≡ test k
    alike k x tie = ap test (sym (exact_pairs nat_cmp nat_cmp exact_unsigned exact_unsigned k x tie))

    kept : (k : PageKey) (cluster : ℕ) → cond (test k) (find pair_cmp k now.chunks.clusters) None ≡ Some cluster
        → find pair_cmp k now.chunks.clusters ≡ Some cluster
    kept k cluster = elim (test k) as (λ b. cond b (find pair_cmp k now.chunks.clusters) None ≡ Some cluster
        → find pair_cmp k now.chunks.clusters ≡ Some cluster) [
          | true ↦ λ at. at
          | false ↦ λ at. absurd (let clash : None ≡ Some cluster = at in cc)
        ]

module _ (stored now : Typed) (test : ℕ → Bool)
    (bare : (k : PageKey) → test k.0 ≡ false → find pair_cmp k now.chunks.clusters ≡ None) where
  used_kept : (c : ℕ) → test c ≡ true
      → used_of (where_key nat_cmp test now.chunks.containers) c ≡ used_of now.chunks.containers c
  used_kept c stays = ap used_or_none
      (find-where_key nat_cmp test c (λ x tie. ap test (sym (nat_cmp-IsAntisymmetric c x tie))) now.chunks.containers
      ∙ ap (λ (b : Bool). cond b (find nat_cmp c now.chunks.containers) None) stays)

  pub tails_without_containers : AreTailsFree stored now.chunks → AreTailsFree stored (keep_containers test now).chunks
  tails_without_containers free = record { tail = λ k cluster found. by k cluster found (test k.0) refl }
    where
      by : (k : PageKey) (cluster : ℕ) → find pair_cmp k now.chunks.clusters ≡ Some cluster → (b : Bool) → test k.0 ≡ b
          → IsApart (4096 * cluster + page_length (where_key nat_cmp test now.chunks.containers) k)
          (4096 - page_length (where_key nat_cmp test now.chunks.containers) k) (named stored)
      by k cluster found true is = subst (λ (u : ℕ).
          IsApart (4096 * cluster + min (u - 4096 * k.1) 4096) (4096 - min (u - 4096 * k.1) 4096) (named stored))
          (sym (used_kept k.0 is)) (free.tail k cluster found)
      by k cluster found false is = absurd (let clash : None ≡ Some cluster = sym (bare k is) ∙ found in cc)
