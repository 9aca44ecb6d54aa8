-- Nothing of an image but the pages is seen by bases.
use Rattle.std.specs.Prelude.{◌≡◌, ◌⊎◌, ◌*◌, ◌+◌, ◌≤◌, ℕ, zero, suc, cond, List, [], ◌∷◌, ◌++◌, Option, Some, None, refl}
use Rattle.std.proofs.Common.{sym, subst, arith, inl, inr}
use Rattle.std.specs.declared.cmp.Ordering.{Ordering}
use Rattle.std.specs.declared.cmp.Ordering.TheVariants.{Less, Equal, Greater}
use Rattle.std.specs.Ordering.{nat_cmp, is_eq}
use Rattle.std.specs.FinMap.{find}
use Rattle.std.proofs.lemmas.Map.Lookups.{exact_pairs, exact_unsigned}
use Rattle.table_records.specs.Keys.{pair_cmp}
use Rattle.std.proofs.lemmas.Bool.{cases_lt}
use Rattle.vdisk.specs.Ranges.{part}
use Rattle.volume_inside.specs.Layout.{journal_at, half_bytes, AreData}
use Rattle.volume_inside.specs.Lists.{IsOut}
use Rattle.volume_inside.specs.Ranges.{IsApart, AgreesIn}
use Rattle.table_records.specs.declared.chunk_records.Place.{Place}
use Rattle.table_records.specs.declared.chunk_records.Container.{Container}
use Rattle.volume_inside.specs.declared.layout.TheConstants.{CLUSTER_BYTES}
use Rattle.volume_inside.specs.ChunkTables.{ChunkTables, CopyKey, PageKey}
use Rattle.volume_inside.specs.Pages.{used_of, page_length, page_ranges, page_clusters, page_bytes, page, pages_from, pages_of}
use Rattle.volume_inside.specs.Chunks.{length_of, copies_of, chunks_at}

some_same : (a b : ℕ) → Some a ≡ Some b → a ≡ b
some_same a b same = cc

-- the page of a key whose cluster is named
page_agrees : (containers : List (ℕ × Container)) (k : PageKey) (cluster : ℕ) (es : List (PageKey × ℕ)) (old new : List ℕ)
    → find pair_cmp k es ≡ Some cluster → AgreesIn (page_ranges containers es) old new
    → part (CLUSTER_BYTES * cluster) (page_length containers k) new ≡ part (CLUSTER_BYTES * cluster) (page_length containers k) old
page_agrees containers k cluster [] old new found agrees = absurd (let clash : None ≡ Some cluster = found in cc)
page_agrees containers k cluster (e ∷ es) old new found agrees =
    by (pair_cmp k e.0) refl found (λ at. page_agrees containers k cluster es old new at agrees.1)
  where
    by : (r : Ordering) → pair_cmp k e.0 ≡ r → cond (is_eq r) (Some e.1) (find pair_cmp k es) ≡ Some cluster
        → (find pair_cmp k es ≡ Some cluster
        → part (CLUSTER_BYTES * cluster) (page_length containers k) new ≡ part (CLUSTER_BYTES * cluster) (page_length containers k) old)
        → part (CLUSTER_BYTES * cluster) (page_length containers k) new ≡ part (CLUSTER_BYTES * cluster) (page_length containers k) old
    by Less is at rest = rest at
    by Greater is at rest = rest at
    by Equal is at rest =
        let key : e.0 ≡ k = sym (exact_pairs nat_cmp nat_cmp exact_unsigned exact_unsigned k e.0 is) in
        let value : e.1 ≡ cluster = some_same e.1 cluster at in
        subst (λ (c : ℕ). part (CLUSTER_BYTES * c) (page_length containers k) new ≡ part (CLUSTER_BYTES * c) (page_length containers k) old) value
        (subst (λ (x : PageKey). part (CLUSTER_BYTES * e.1) (page_length containers x) new ≡ part (CLUSTER_BYTES * e.1) (page_length containers x) old) key agrees.0)

module _ (t : ChunkTables) (old new : List ℕ) (agrees : AgreesIn (page_ranges t.containers t.clusters) old new) where
  one_page : (k : PageKey) → page t k new ≡ page t k old
  one_page k = by (find pair_cmp k t.clusters) refl
    where
      by : (o : Option ℕ) → find pair_cmp k t.clusters ≡ o
          → page_bytes o (page_length t.containers k) new ≡ page_bytes o (page_length t.containers k) old
      by None is = refl
      by (Some cluster) is = page_agrees t.containers k cluster t.clusters old new is agrees

  pages_agree : (c index n : ℕ) → pages_from t c new index n ≡ pages_from t c old index n
  pages_agree c index zero = refl
  pages_agree c index (suc n) = λ i. one_page (c, index) i ++ pages_agree c (suc index) n i

  copies_agree : (ps : List (CopyKey × Place)) → copies_of t ps new ≡ copies_of t ps old
  copies_agree [] = refl
  copies_agree (p ∷ ps) =
      λ i. (p.0, part p.1.offset (length_of t.rows p.0.0) (pages_agree p.1.container 0 (pages_of (used_of t.containers p.1.container)) i))
      ∷ copies_agree ps i

  -- THE FRAME: bases are the same over images that agree in their pages, whatever the tables are
  pub chunks_agree : chunks_at t new ≡ chunks_at t old
  chunks_agree = λ i. record { rows = t.rows; copies = copies_agree t.places i }

pub clusters_apart : (a b m n : ℕ) → (a ≡ b → ⊥) → m ≤ CLUSTER_BYTES → n ≤ CLUSTER_BYTES → (CLUSTER_BYTES * a + m ≤ CLUSTER_BYTES * b) ⊎ (CLUSTER_BYTES * b + n ≤ CLUSTER_BYTES * a)
clusters_apart a b m n differ one two = elim (cases_lt a b) [ inl less ↦ inl (omega arith) | inr more ↦ inr (omega arith) ]

-- a cluster that no container has has no byte in their pages
pub pages_unnamed : (c : ℕ) (containers : List (ℕ × Container)) (es : List (PageKey × ℕ)) → IsOut c (page_clusters es)
    → IsApart (CLUSTER_BYTES * c) CLUSTER_BYTES (page_ranges containers es)
pages_unnamed c containers [] out = tt
pages_unnamed c containers (e ∷ es) out =
    (clusters_apart e.1 c (page_length containers e.0) CLUSTER_BYTES out.0 (omega arith) (omega arith), pages_unnamed c containers es out.1)

-- pages in data clusters have no byte in the journal
pub pages_apart : (n : ℕ) (containers : List (ℕ × Container)) (es : List (PageKey × ℕ)) → AreData n (page_clusters es)
    → IsApart journal_at (2 * half_bytes n) (page_ranges containers es)
pages_apart n containers [] in_data = tt
pages_apart n containers (e ∷ es) in_data =
    (inr (omega (arith, in_data.0.from_first)), pages_apart n containers es in_data.1)
