-- What a put and a dropped range do to a map: its order, what it has at a key, its length and its bytes.
use Rattle.std.specs.Prelude.{◌≡◌, ℕ, ◌+◌, ◌*◌, ◌≤◌, Bool, true, false, cond, not, ◌&&◌, T, List, [], ◌∷◌, length, is_some, Option, Some, None, refl}
use Rattle.std.proofs.Common.{sym, ◌∙◌, ap, subst, arith}
use Rattle.std.specs.declared.cmp.Ordering.{Ordering}
use Rattle.std.specs.declared.cmp.Ordering.TheVariants.{Less, Equal, Greater}
use Rattle.std.specs.Ordering.{is_lt, is_eq}
use Rattle.std.specs.Cmp.Lexicographic.{nat_list_cmp_total}
use Rattle.std.specs.FinMap.Entries.{by_order, put, find, below_all, is_sorted, is_sorted-put, is_sorted-where_key, length-put, find-put, find-where_key}
use Rattle.std.proofs.lemmas.Map.Lookups.{exact_bytes}
use Rattle.groundwork.proofs.Bools.{first_true, second_true, both_true}
use Rattle.groundwork.proofs.Orders.{is_less}
use Rattle.byte_map.specs.Words.{Map, bytes_cmp, is_between, without, bytes_in, bytes_with}

-- what is below a key is below all that are above that key
pub lower : (a b : List ℕ) (m : Map) → bytes_cmp a b ≡ Less → T (below_all bytes_cmp b m) → T (below_all bytes_cmp a m)
lower a b [] less low = tt
lower a b (e ∷ m) less low =
    let next = nat_list_cmp_total.trans a b e.0 less (is_less _ (first_true _ _ low)) in
    both_true _ _ (subst (λ (r : Ordering). T (is_lt r)) (sym next) tt) (lower a b m less (second_true _ _ low))

-- a key below the first is not found
pub above : (k a : List ℕ) (m : Map) → bytes_cmp k a ≡ Less → T (below_all bytes_cmp a m) → find bytes_cmp k m ≡ None
above k a [] less low = refl
above k a (e ∷ m) less low =
    let next = nat_list_cmp_total.trans k a e.0 less (is_less _ (first_true _ _ low)) in
    ap (λ (r : Ordering). cond (is_eq r) (Some e.1) (find bytes_cmp k m)) next ∙ above k a m less (second_true _ _ low)

-- ---- the order stays

pub is_sorted_put : (k v : List ℕ) (m : Map) → T (is_sorted bytes_cmp m) → T (is_sorted bytes_cmp (put bytes_cmp k v m))
is_sorted_put k v m sorted = is_sorted-put bytes_cmp nat_list_cmp_total k v m sorted

pub is_sorted_without : (from to : List ℕ) (m : Map) → T (is_sorted bytes_cmp m) → T (is_sorted bytes_cmp (without from to m))
is_sorted_without from to m sorted = is_sorted-where_key bytes_cmp (λ k. not (is_between bytes_cmp from to k)) m sorted

-- ---- what is at a key

pub find_put : (q k v : List ℕ) (m : Map) → find bytes_cmp q (put bytes_cmp k v m) ≡ cond (is_eq (bytes_cmp q k)) (Some v) (find bytes_cmp q m)
find_put q k v m = find-put bytes_cmp nat_list_cmp_total q k v m

pub find_without : (q from to : List ℕ) (m : Map) → find bytes_cmp q (without from to m) ≡ cond (is_between bytes_cmp from to q) None (find bytes_cmp q m)
find_without q from to m =
    let outside = λ (k : List ℕ). not (is_between bytes_cmp from to k) in
    find-where_key bytes_cmp outside q (λ x same. ap outside (sym (exact_bytes q x same))) m ∙ turned (is_between bytes_cmp from to q) (find bytes_cmp q m)
  where
    turned : (b : Bool) (o : Option (List ℕ)) → cond (not b) o None ≡ cond b None o
    turned true o = refl
    turned false o = refl

-- ---- how many pairs

pub length_put_new : (k v : List ℕ) (m : Map) → T (is_sorted bytes_cmp m) → find bytes_cmp k m ≡ None → length (put bytes_cmp k v m) ≡ length m + 1
length_put_new k v m sorted new = length-put bytes_cmp nat_list_cmp_total k v m sorted ∙ ap (λ (o : Option (List ℕ)). cond (is_some o) (length m) (length m + 1)) new

pub length_put_present : (k v w : List ℕ) (m : Map) → T (is_sorted bytes_cmp m) → find bytes_cmp k m ≡ Some w → length (put bytes_cmp k v m) ≡ length m
length_put_present k v w m sorted present = length-put bytes_cmp nat_list_cmp_total k v m sorted ∙ ap (λ (o : Option (List ℕ)). cond (is_some o) (length m) (length m + 1)) present

pub length_without : (from to : List ℕ) (m : Map) → length (without from to m) ≤ length m
length_without from to [] = omega arith
length_without from to (e ∷ m) =
    let rest = length_without from to m in
    elim (not (is_between bytes_cmp from to e.0)) as (λ b. length (cond b (e ∷ without from to m) (without from to m)) ≤ length (e ∷ m)) [
      | true ↦ omega (arith, rest)
      | false ↦ omega (arith, rest)
    ]

-- ---- how many bytes

pub bytes_in_put_new : (k v : List ℕ) (m : Map) → find bytes_cmp k m ≡ None → bytes_in (put bytes_cmp k v m) ≡ bytes_in m + (length k + length v)
bytes_in_put_new k v [] new = omega arith
bytes_in_put_new k v (e ∷ m) new =
    elim (bytes_cmp k e.0) as (λ r. cond (is_eq r) (Some e.1) (find bytes_cmp k m) ≡ None
    → bytes_in (by_order r ((k, v) ∷ e ∷ m) ((e.0, v) ∷ m) (e ∷ put bytes_cmp k v m)) ≡ bytes_in (e ∷ m) + (length k + length v)) [
      | Less ↦ λ _. omega arith
      | Equal ↦ λ is. absurd (cc)
      | Greater ↦ λ is. let rest = bytes_in_put_new k v m is in omega (arith, rest)
    ] new

pub bytes_in_put_present : (k v w : List ℕ) (m : Map) → T (is_sorted bytes_cmp m) → find bytes_cmp k m ≡ Some w
    → bytes_in (put bytes_cmp k v m) + length w ≡ bytes_in m + length v
bytes_in_put_present k v w [] sorted present = absurd (cc)
bytes_in_put_present k v w (e ∷ m) sorted present =
    elim (bytes_cmp k e.0) as (λ r. bytes_cmp k e.0 ≡ r → cond (is_eq r) (Some e.1) (find bytes_cmp k m) ≡ Some w
    → bytes_in (by_order r ((k, v) ∷ e ∷ m) ((e.0, v) ∷ m) (e ∷ put bytes_cmp k v m)) + length w ≡ bytes_in (e ∷ m) + length v) [
      | Less ↦ λ less is. absurd (let none = above k e.0 m less (first_true _ _ sorted) in cc)
      | Equal ↦ λ same is. let value : e.1 ≡ w = cc in let long = ap length value in omega (arith, long)
      | Greater ↦ λ more is. let rest = bytes_in_put_present k v w m (second_true (below_all bytes_cmp e.0 m) (is_sorted bytes_cmp m) sorted) is in omega (arith, rest)
    ] refl present

pub bytes_in_without : (from to : List ℕ) (m : Map) → bytes_in (without from to m) ≤ bytes_in m
bytes_in_without from to [] = omega arith
bytes_in_without from to (e ∷ m) =
    let rest = bytes_in_without from to m in
    elim (not (is_between bytes_cmp from to e.0)) as (λ b. bytes_in (cond b (e ∷ without from to m) (without from to m)) ≤ bytes_in (e ∷ m)) [
      | true ↦ omega (arith, rest)
      | false ↦ omega (arith, rest)
    ]

-- ---- how many bytes, with some more for each pair

pub bytes_with_put_new : (each : ℕ) (k v : List ℕ) (m : Map) → T (is_sorted bytes_cmp m) → find bytes_cmp k m ≡ None
    → bytes_with each (put bytes_cmp k v m) ≡ bytes_with each m + (each + (length k + length v))
bytes_with_put_new each k v m sorted new =
    let long = ap (λ (n : ℕ). each * n) (length_put_new k v m sorted new) in
    let bytes = bytes_in_put_new k v m new in
    omega (arith, long, bytes)

pub bytes_with_put_present : (each : ℕ) (k v w : List ℕ) (m : Map) → T (is_sorted bytes_cmp m) → find bytes_cmp k m ≡ Some w
    → bytes_with each (put bytes_cmp k v m) + length w ≡ bytes_with each m + length v
bytes_with_put_present each k v w m sorted present =
    let long = ap (λ (n : ℕ). each * n) (length_put_present k v w m sorted present) in
    let bytes = bytes_in_put_present k v w m sorted present in
    omega (arith, long, bytes)
