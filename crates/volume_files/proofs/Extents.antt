-- An extent that is put, and taken back.
use Rattle.std.specs.Prelude.{◌≡◌, ◌⊎◌, ◌<◌, ◌+◌, ℕ, suc, Bool, true, false, not, cond, T, ◌&&◌, is_some, List, [], ◌∷◌}
use Rattle.std.specs.Prelude.{length, Option, Some, None, refl}
use Rattle.std.proofs.Common.{sym, ◌∙◌, ap, subst, inl, inr, arith, length-append}
use Rattle.std.proofs.lemmas.Bool.{cases_lt, cases_eq}
use Rattle.std.specs.declared.cmp.Ordering.{Ordering}
use Rattle.std.specs.declared.cmp.Ordering.TheVariants.{Less, Equal, Greater}
use Rattle.std.specs.Ordering.{nat_cmp, ordering_then, is_eq, is_lt, is_le, eq_by_cmp}
use Rattle.std.specs.Cmp.{nat_cmp_is}
use Rattle.std.specs.FinMap.{find, put, is_sorted}
use Rattle.std.specs.FinMap.Entries.{where_key, find-put, find-where_key, is_sorted-put, is_sorted-where_key}
use Rattle.std.specs.FinMap.Entries.{same_entries, length-put, length_without}
use Rattle.std.proofs.lemmas.Map.Lookups.{exact_pairs, exact_unsigned}
use Rattle.table_records.specs.Changes.{is_in_range}
use Rattle.table_records.specs.Keys.{pair_cmp}
use Rattle.table_records.specs.Orders.{pair_total}
use Rattle.table_records.specs.declared.records.Extent.{Extent}
use Rattle.volume_inside.specs.Bases.{base_clusters}
use Rattle.volume_inside.specs.Typed.{Typed, FileBlock}
use Rattle.volume_inside.specs.Named.{extent_clusters, clusters_of}
use Rattle.volume_inside.specs.Changes.{with_extent, keep_extents}

-- ---- keys

less : (x y : ℕ) → x < y → nat_cmp x y ≡ Less
less x y h = sym (nat_cmp_is x y Less h)

equal : (x y : ℕ) → x ≡ y → nat_cmp x y ≡ Equal
equal x y h = sym (nat_cmp_is x y Equal h)

greater : (x y : ℕ) → y < x → nat_cmp x y ≡ Greater
greater x y h = sym (nat_cmp_is x y Greater h)

pub exact : (a b : FileBlock) → pair_cmp a b ≡ Equal → a ≡ b
exact a b is = exact_pairs nat_cmp nat_cmp exact_unsigned exact_unsigned a b is

pub record IsOneKey (q k : FileBlock) : Type 0 where
  pub is : q ≡ k
  pub tied : eq_by_cmp pair_cmp q k ≡ true

pub record AreTwoKeys (q k : FileBlock) : Type 0 where
  pub differ : q ≡ k → ⊥
  pub tied : eq_by_cmp pair_cmp q k ≡ false

pub key_cases : (q k : FileBlock) → IsOneKey q k ⊎ AreTwoKeys q k
key_cases q k = by (pair_cmp q k) refl
  where
    tied_self : pair_cmp k k ≡ Equal
    tied_self = λ i. ordering_then (equal k.0 k.0 refl i) (equal k.1 k.1 refl i)

    other : (r : Ordering) → pair_cmp q k ≡ r → (r ≡ Equal → ⊥) → q ≡ k → ⊥
    other r is differ same = differ (sym is ∙ ap (λ (x : FileBlock). pair_cmp x k) same ∙ tied_self)

    by : (r : Ordering) → pair_cmp q k ≡ r → IsOneKey q k ⊎ AreTwoKeys q k
    by Less is = inr (record { differ = other Less is (λ same. cc); tied = ap is_eq is })
    by Equal is = inl (record { is = exact q k is; tied = ap is_eq is })
    by Greater is = inr (record { differ = other Greater is (λ same. cc); tied = ap is_eq is })

-- the range of one key
pub range_of_one : (k q : FileBlock) → is_in_range pair_cmp k (Some (k.0, k.1 + 1)) q ≡ eq_by_cmp pair_cmp k q
range_of_one k q = elim (cases_lt k.0 q.0) [
  | inl low ↦ outer Less Greater (less k.0 q.0 low) (greater q.0 k.0 low) refl refl
  | inr high ↦ elim (cases_eq k.0 q.0) [
    | inl same ↦ inner (equal k.0 q.0 same) (equal q.0 k.0 (sym same))
    | inr other ↦ let lower : q.0 < k.0 = omega (arith, high, other) in
        outer Greater Less (greater k.0 q.0 lower) (less q.0 k.0 lower) refl refl
  ]
]
  where
    outer : (r s : Ordering) → nat_cmp k.0 q.0 ≡ r → nat_cmp q.0 k.0 ≡ s
        → (is_le (ordering_then r (nat_cmp k.1 q.1)) && is_lt (ordering_then s (nat_cmp q.1 (k.1 + 1)))) ≡ false
        → is_eq (ordering_then r (nat_cmp k.1 q.1)) ≡ false
        → is_in_range pair_cmp k (Some (k.0, k.1 + 1)) q ≡ eq_by_cmp pair_cmp k q
    outer r s one two none never =
        (λ i. is_le (ordering_then (one i) (nat_cmp k.1 q.1)) && is_lt (ordering_then (two i) (nat_cmp q.1 (k.1 + 1))))
        ∙ none ∙ sym never ∙ sym (λ i. is_eq (ordering_then (one i) (nat_cmp k.1 q.1)))

    inside : (r s : Ordering) → nat_cmp k.0 q.0 ≡ Equal → nat_cmp q.0 k.0 ≡ Equal → nat_cmp k.1 q.1 ≡ r
        → nat_cmp q.1 (k.1 + 1) ≡ s
        → (is_le r && is_lt s) ≡ is_eq r → is_in_range pair_cmp k (Some (k.0, k.1 + 1)) q ≡ eq_by_cmp pair_cmp k q
    inside r s one two three four same =
        (λ i. is_le (ordering_then (one i) (three i)) && is_lt (ordering_then (two i) (four i)))
        ∙ same ∙ sym (λ i. is_eq (ordering_then (one i) (three i)))

    inner : nat_cmp k.0 q.0 ≡ Equal → nat_cmp q.0 k.0 ≡ Equal
        → is_in_range pair_cmp k (Some (k.0, k.1 + 1)) q ≡ eq_by_cmp pair_cmp k q
    inner one two = elim (cases_lt k.1 q.1) [
      | inl low ↦ elim (cases_eq q.1 (k.1 + 1)) [
        | inl next ↦ inside Less Equal one two (less k.1 q.1 low) (equal q.1 (k.1 + 1) next) refl
        | inr past ↦ inside Less Greater one two (less k.1 q.1 low)
            (greater q.1 (k.1 + 1) (omega (arith, low, past))) refl
      ]
      | inr high ↦ elim (cases_eq k.1 q.1) [
        | inl same ↦ inside Equal Less one two (equal k.1 q.1 same) (less q.1 (k.1 + 1) (omega (arith, same))) refl
        | inr other ↦ inside Greater Less one two (greater k.1 q.1 (omega (arith, high, other)))
            (less q.1 (k.1 + 1) (omega (arith, high, other))) refl
      ]
    ]

-- ---- a key that is put

tied_two : (q k : FileBlock) → (q ≡ k → ⊥) → eq_by_cmp pair_cmp q k ≡ false
tied_two q k differ = elim (key_cases q k) [ inl one ↦ absurd (differ one.is) | inr two ↦ two.tied ]

pub tied_one : (k : FileBlock) → eq_by_cmp pair_cmp k k ≡ true
tied_one k = elim (key_cases k k) [ inl one ↦ one.tied | inr two ↦ absurd (two.differ refl) ]

abbrev Entries : Type 0
Entries = List (FileBlock × Extent)

pub found_put : (k : FileBlock) (e : Extent) (es : Entries) → find pair_cmp k (put pair_cmp k e es) ≡ Some e
found_put k e es =
    find-put pair_cmp pair_total k k e es
    ∙ ap (λ (t : Bool). cond t (Some e) (find pair_cmp k es)) (tied_one k)

pub found_beside : (q k : FileBlock) (e : Extent) (es : Entries) → (q ≡ k → ⊥)
    → find pair_cmp q (put pair_cmp k e es) ≡ find pair_cmp q es
found_beside q k e es differ =
    find-put pair_cmp pair_total q k e es
    ∙ ap (λ (t : Bool). cond t (Some e) (find pair_cmp q es)) (tied_two q k differ)

pub same_found : (k : FileBlock) (es fs : Entries) → T (is_sorted pair_cmp es) → T (is_sorted pair_cmp fs)
    → find pair_cmp k es ≡ find pair_cmp k fs
    → ((q : FileBlock) → (q ≡ k → ⊥) → find pair_cmp q es ≡ find pair_cmp q fs) → es ≡ fs
same_found k es fs one two here there =
    same_entries pair_cmp pair_total exact es fs one two
    (λ q. elim (key_cases q k) [
      | inl same ↦ subst (λ (x : FileBlock). find pair_cmp x es ≡ find pair_cmp x fs)
          (sym same.is) here
      | inr other ↦ there q other.differ
    ])

-- the extent before is put back
pub put_back : (k : FileBlock) (e o : Extent) (es : Entries) → T (is_sorted pair_cmp es) → find pair_cmp k es ≡ Some o
    → put pair_cmp k o (put pair_cmp k e es) ≡ es
put_back k e o es sorted found =
    let one = is_sorted-put pair_cmp pair_total k e es sorted in
    same_found k (put pair_cmp k o (put pair_cmp k e es)) es
    (is_sorted-put pair_cmp pair_total k o (put pair_cmp k e es) one) sorted
    (found_put k o (put pair_cmp k e es) ∙ sym found)
    (λ q differ. found_beside q k o (put pair_cmp k e es) differ ∙ found_beside q k e es differ)

-- ---- a key that is dropped

abbrev pub is_other : FileBlock → FileBlock → Bool
is_other k q = not (is_in_range pair_cmp k (Some (k.0, k.1 + 1)) q)

other_is : (k q : FileBlock) → (q ≡ k → ⊥) → is_other k q ≡ true
other_is k q differ = ap not (range_of_one k q ∙ tied_two k q (λ same. differ (sym same)))

here_is : (k : FileBlock) → is_other k k ≡ false
here_is k = ap not (range_of_one k k ∙ tied_one k)

alike : (test : FileBlock → Bool) (q x : FileBlock) → pair_cmp q x ≡ Equal → test x ≡ test q
alike test q x tied = ap test (sym (exact q x tied))

-- a key that was not there is dropped
pub drop_back : (k : FileBlock) (e : Extent) (es : Entries) → T (is_sorted pair_cmp es) → find pair_cmp k es ≡ None
    → where_key pair_cmp (is_other k) (put pair_cmp k e es) ≡ es
drop_back k e es sorted none =
    let one = is_sorted-put pair_cmp pair_total k e es sorted in
    let kept = put pair_cmp k e es in
    let of = λ (q : FileBlock). find-where_key pair_cmp (is_other k) q (alike (is_other k) q) kept in
    same_found k (where_key pair_cmp (is_other k) kept) es (is_sorted-where_key pair_cmp (is_other k) kept one) sorted
    (of k ∙ ap (λ (t : Bool). cond t (find pair_cmp k kept) None) (here_is k) ∙ sym none)
    (λ q differ. of q ∙ ap (λ (t : Bool). cond t (find pair_cmp q kept) None) (other_is k q differ)
    ∙ found_beside q k e es differ)

-- the extents of the range of one key
pub range_is_one : (k : FileBlock) (e : Extent) (es : Entries) → T (is_sorted pair_cmp es) → find pair_cmp k es ≡ Some e
    → where_key pair_cmp (λ q. is_in_range pair_cmp k (Some (k.0, k.1 + 1)) q) es ≡ (k, e) ∷ []
range_is_one k e es sorted found =
    let test = λ (q : FileBlock). is_in_range pair_cmp k (Some (k.0, k.1 + 1)) q in
    let of = λ (q : FileBlock). find-where_key pair_cmp test q (alike test q) es in
    same_found k (where_key pair_cmp test es) ((k, e) ∷ []) (is_sorted-where_key pair_cmp test es sorted) tt
    (of k ∙ ap (λ (t : Bool). cond t (find pair_cmp k es) None) (range_of_one k k ∙ tied_here) ∙ found
    ∙ sym (ap (λ (t : Bool). cond t (Some e) None) tied_here))
    (λ q differ. of q
    ∙ ap (λ (t : Bool). cond t (find pair_cmp q es) None) (range_of_one k q ∙ tied_two k q (λ same. differ (sym same)))
    ∙ sym (ap (λ (t : Bool). cond t (Some e) None) (tied_two q k differ)))
  where
    tied_here : eq_by_cmp pair_cmp k k ≡ true
    tied_here = elim (key_cases k k) [ inl one ↦ one.tied | inr two ↦ absurd (two.differ refl) ]

-- ---- how many clusters are named

-- tables name as many clusters as they have extents, and those of their bases
pub length-clusters : (t : Typed) → length (clusters_of t) ≡ length t.extents + length (base_clusters t)
length-clusters t =
    length-append (extent_clusters t.extents) (base_clusters t)
    ∙ ap (λ (n : ℕ). n + length (base_clusters t)) (count t.extents)
  where
    count : (es : Entries) → length (extent_clusters es) ≡ length es
    count [] = refl
    count (e ∷ es) = ap suc (count es)

pub count_put_new : (k : FileBlock) (e : Extent) (t : Typed) → T (is_sorted pair_cmp t.extents)
    → find pair_cmp k t.extents ≡ None
    → length (clusters_of (with_extent k e t)) ≡ length (clusters_of t) + 1
count_put_new k e t sorted none =
    let long : length (put pair_cmp k e t.extents) ≡ length t.extents + 1 =
    length-put pair_cmp pair_total k e t.extents sorted
    ∙ ap (λ (o : Option Extent). cond (is_some o) (length t.extents) (length t.extents + 1)) none in
    let one = length-clusters (with_extent k e t) in
    let two = length-clusters t in
    omega (arith, long, one, two)

pub count_put_over : (k : FileBlock) (e o : Extent) (t : Typed) → T (is_sorted pair_cmp t.extents)
    → find pair_cmp k t.extents ≡ Some o
    → length (clusters_of (with_extent k e t)) ≡ length (clusters_of t)
count_put_over k e o t sorted found =
    let long : length (put pair_cmp k e t.extents) ≡ length t.extents =
    length-put pair_cmp pair_total k e t.extents sorted
    ∙ ap (λ (o : Option Extent). cond (is_some o) (length t.extents) (length t.extents + 1)) found in
    let one = length-clusters (with_extent k e t) in
    let two = length-clusters t in
    omega (arith, long, one, two)

pub count_dropped : (k : FileBlock) (o : Extent) (t : Typed) → T (is_sorted pair_cmp t.extents)
    → find pair_cmp k t.extents ≡ Some o
    → length (clusters_of (keep_extents (is_other k) t)) + 1 ≡ length (clusters_of t)
count_dropped k o t sorted found =
    let one = length_without pair_cmp pair_total k t.extents sorted in
    let there : 1 + length (where_key pair_cmp (λ x. not (eq_by_cmp pair_cmp k x)) t.extents) ≡ length t.extents =
    ap (λ (x : Option Extent). cond (is_some x) 1 0 + length
    (where_key pair_cmp (λ x. not (eq_by_cmp pair_cmp k x)) t.extents)) (sym found) ∙ one in
    let same : length (where_key pair_cmp (is_other k) t.extents) ≡ length
    (where_key pair_cmp (λ x. not (eq_by_cmp pair_cmp k x)) t.extents) =
    λ i. length (where_key pair_cmp (λ x. not (range_of_one k x i)) t.extents) in
    let kept = length-clusters (keep_extents (is_other k) t) in
    let all = length-clusters t in
    omega (arith, there, same, kept, all)
