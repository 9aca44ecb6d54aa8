-- A page that is named, and taken back.
use Rattle.std.specs.Prelude.{◌≡◌, ◌+◌, ℕ, suc, Bool, true, false, not, cond, T, is_some, List, [], ◌∷◌, length, Option, Some, None, refl}
use Rattle.std.proofs.Common.{sym, ◌∙◌, ap, subst, arith, length-append}
use Rattle.std.specs.declared.cmp.Ordering.{Ordering}
use Rattle.std.specs.declared.cmp.Ordering.TheVariants.{Less, Equal, Greater}
use Rattle.std.specs.Ordering.{is_eq, eq_by_cmp}
use Rattle.std.specs.Cmp.{tied_itself}
use Rattle.std.specs.FinMap.{find, put, is_sorted}
use Rattle.std.specs.FinMap.Entries.{where_key, is_sorted-put, is_sorted-where_key, same_entries, length-put, length_without}
use Rattle.table_records.specs.Changes.{is_in_range}
use Rattle.table_records.specs.Keys.{pair_cmp}
use Rattle.table_records.specs.Orders.{pair_total}
use Rattle.volume_inside.specs.Changes.{with_cluster, keep_clusters}
use Rattle.volume_inside.specs.ChunkTables.{PageKey}
use Rattle.volume_inside.specs.Named.{extent_clusters, clusters_of}
use Rattle.volume_inside.specs.Pages.{page_clusters}
use Rattle.volume_inside.specs.Typed.{Typed}
use Rattle.chunk_container.proofs.Finds.{found_put, found_other, found_kept, found_dropped}
use Rattle.chunk_container.proofs.Ranges.{copy_range}
use Rattle.chunk_container.proofs.RowRules.{exact_keys}

abbrev Pages : Type 0
Pages = List (PageKey × ℕ)

-- ---- keys

tied_one : (k : PageKey) → eq_by_cmp pair_cmp k k ≡ true
tied_one k = ap is_eq (tied_itself pair_total k)

not_tied : (q k : PageKey) → (q ≡ k → ⊥) → pair_cmp q k ≡ Equal → ⊥
not_tied q k differ tie = differ (exact_keys q k tie)

tied_two : (q k : PageKey) → (q ≡ k → ⊥) → eq_by_cmp pair_cmp q k ≡ false
tied_two q k differ = by (pair_cmp q k) (not_tied q k differ)
  where
    by : (r : Ordering) → (r ≡ Equal → ⊥) → is_eq r ≡ false
    by Less other = refl
    by Equal other = absurd (other refl)
    by Greater other = refl

pub page_put : (k : PageKey) (c : ℕ) (es : Pages) → find pair_cmp k (put pair_cmp k c es) ≡ Some c
page_put k c es = found_put pair_cmp pair_total k c es

pub page_beside : (q k : PageKey) (c : ℕ) (es : Pages) → (q ≡ k → ⊥)
    → find pair_cmp q (put pair_cmp k c es) ≡ find pair_cmp q es
page_beside q k c es differ = found_other pair_cmp pair_total q k c es (not_tied q k differ)

same_key : (q k : PageKey) (b : Bool) → eq_by_cmp pair_cmp q k ≡ b → b ≡ true → q ≡ k
same_key q k b is yes_is = exact_keys q k (by (pair_cmp q k) (is ∙ yes_is))
  where
    by : (r : Ordering) → is_eq r ≡ true → r ≡ Equal
    by Less eq = absurd (cc)
    by Equal eq = refl
    by Greater eq = absurd (cc)

-- two tables that agree in one key and in all others are one
same_pages : (k : PageKey) (es fs : Pages) → T (is_sorted pair_cmp es) → T (is_sorted pair_cmp fs)
    → find pair_cmp k es ≡ find pair_cmp k fs
    → ((q : PageKey) → (q ≡ k → ⊥) → find pair_cmp q es ≡ find pair_cmp q fs) → es ≡ fs
same_pages k es fs one two here there =
    same_entries pair_cmp pair_total exact_keys es fs one two (λ q. by q (eq_by_cmp pair_cmp q k) refl)
  where
    by : (q : PageKey) (b : Bool) → eq_by_cmp pair_cmp q k ≡ b → find pair_cmp q es ≡ find pair_cmp q fs
    by q true is =
        subst (λ (x : PageKey). find pair_cmp x es ≡ find pair_cmp x fs) (sym (same_key q k true is refl)) here
    by q false is = there q (λ same.
        let clash : false ≡ true = sym is ∙ ap (λ (x : PageKey). eq_by_cmp pair_cmp x k) same ∙ tied_one k in
        cc)

-- ---- a page that is dropped

abbrev pub is_other : PageKey → PageKey → Bool
is_other k q = not (is_in_range pair_cmp k (Some (k.0, k.1 + 1)) q)

other_is : (k q : PageKey) → (q ≡ k → ⊥) → is_other k q ≡ true
other_is k q differ = ap not (copy_range k q ∙ tied_two k q (λ same. differ (sym same)))

here_is : (k : PageKey) → is_other k k ≡ false
here_is k = ap not (copy_range k k ∙ tied_one k)

pub page_taken_back : (k : PageKey) (c : ℕ) (es : Pages) → T (is_sorted pair_cmp es) → find pair_cmp k es ≡ None
    → where_key pair_cmp (is_other k) (put pair_cmp k c es) ≡ es
page_taken_back k c es sorted none =
    let kept = put pair_cmp k c es in
    let one = is_sorted-put pair_cmp pair_total k c es sorted in
    same_pages k (where_key pair_cmp (is_other k) kept) es (is_sorted-where_key pair_cmp (is_other k) kept one) sorted
    (found_dropped pair_cmp exact_keys (is_other k) k kept (here_is k) ∙ sym none)
    (λ q differ. found_kept pair_cmp exact_keys (is_other k) q kept (other_is k q differ) ∙ page_beside q k c es differ)

-- the pages of the range of one
pub range_is_one : (k : PageKey) (c : ℕ) (es : Pages) → T (is_sorted pair_cmp es) → find pair_cmp k es ≡ Some c
    → where_key pair_cmp (λ q. is_in_range pair_cmp k (Some (k.0, k.1 + 1)) q) es ≡ (k, c) ∷ []
range_is_one k c es sorted found =
    let test = λ (q : PageKey). is_in_range pair_cmp k (Some (k.0, k.1 + 1)) q in
    same_pages k (where_key pair_cmp test es) ((k, c) ∷ []) (is_sorted-where_key pair_cmp test es sorted) tt
    (found_kept pair_cmp exact_keys test k es (copy_range k k ∙ tied_one k) ∙ found
    ∙ sym (ap (λ (t : Bool). cond t (Some c) None) (tied_one k)))
    (λ q differ. found_dropped pair_cmp exact_keys test q es
    (copy_range k q ∙ tied_two k q (λ same. differ (sym same)))
    ∙ sym (ap (λ (t : Bool). cond t (Some c) None) (tied_two q k differ)))

-- ---- how many clusters are named

-- tables name as many clusters as they have pages, and those of their extents
length-clusters : (t : Typed) → length (clusters_of t) ≡ length (extent_clusters t.extents) + length t.chunks.clusters
length-clusters t =
    length-append (extent_clusters t.extents) (page_clusters t.chunks.clusters)
    ∙ ap (λ (n : ℕ). length (extent_clusters t.extents) + n) (count t.chunks.clusters)
  where
    count : (es : Pages) → length (page_clusters es) ≡ length es
    count [] = refl
    count (e ∷ es) = ap suc (count es)

pub count_put_new : (k : PageKey) (c : ℕ) (t : Typed) → T (is_sorted pair_cmp t.chunks.clusters)
    → find pair_cmp k t.chunks.clusters ≡ None
    → length (clusters_of (with_cluster k c t)) ≡ length (clusters_of t) + 1
count_put_new k c t sorted none =
    let es = t.chunks.clusters in
    let long : length (put pair_cmp k c es) ≡ length es + 1 =
    length-put pair_cmp pair_total k c es sorted
    ∙ ap (λ (o : Option ℕ). cond (is_some o) (length es) (length es + 1)) none in
    let one = length-clusters (with_cluster k c t) in
    let two = length-clusters t in
    omega (arith, long, one, two)

pub count_dropped : (k : PageKey) (c : ℕ) (t : Typed) → T (is_sorted pair_cmp t.chunks.clusters)
    → find pair_cmp k t.chunks.clusters ≡ Some c
    → length (clusters_of (keep_clusters (is_other k) t)) + 1 ≡ length (clusters_of t)
count_dropped k c t sorted found =
    let es = t.chunks.clusters in
    let one = length_without pair_cmp pair_total k es sorted in
    let there : 1 + length (where_key pair_cmp (λ x. not (eq_by_cmp pair_cmp k x)) es) ≡ length es =
    ap (λ (x : Option ℕ). cond (is_some x) 1 0 + length
    (where_key pair_cmp (λ x. not (eq_by_cmp pair_cmp k x)) es)) (sym found) ∙ one in
    let same : length (where_key pair_cmp (is_other k) es) ≡ length
    (where_key pair_cmp (λ x. not (eq_by_cmp pair_cmp k x)) es) =
    λ i. length (where_key pair_cmp (λ x. not (copy_range k x i)) es) in
    let kept = length-clusters (keep_clusters (is_other k) t) in
    let all = length-clusters t in
    omega (arith, there, same, kept, all)
