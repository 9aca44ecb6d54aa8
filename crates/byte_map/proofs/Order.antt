-- A map in two parts round a key: what is found, put, dropped and next is in one of them.
use Rattle.std.specs.Prelude.{◌≡◌, ℕ, Bool, true, false, cond, not, ◌&&◌, T, List, [], ◌∷◌, ◌++◌, Some, None, refl}
use Rattle.std.proofs.Common.{sym, ◌∙◌, ap}
use Rattle.std.specs.declared.cmp.Ordering.{Ordering}
use Rattle.std.specs.declared.cmp.Ordering.TheVariants.{Less, Equal, Greater}
use Rattle.std.specs.Ordering.{is_lt, is_le, is_eq, ordering_reverse}
use Rattle.std.specs.Cmp.{tied_itself}
use Rattle.std.specs.Cmp.Lexicographic.{nat_list_cmp_total}
use Rattle.std.specs.FinMap.Entries.{by_order, put, find, where_key, below_all, is_sorted}
use Rattle.byte_map.specs.Words.{Map, bytes_cmp, first_of, next_in, is_between, without}
use Rattle.groundwork.proofs.Bools.{first_true, second_true, both_true}
use Rattle.groundwork.proofs.Orders.{is_less, less_from}
use Rattle.byte_map.specs.Laws.{above}
use Rattle.byte_map.specs.Blocks.{AllBelow, NoneBelow}

-- ---- the order of two keys

pub turned : (a b : List ℕ) (r : Ordering) → bytes_cmp a b ≡ r → bytes_cmp b a ≡ ordering_reverse r
turned a b r is = nat_list_cmp_total.antisymm b a ∙ ap ordering_reverse is

-- a key below k, as k sees it
pub is_above : (a k : List ℕ) → is_lt (bytes_cmp a k) ≡ true → bytes_cmp k a ≡ Greater
is_above a k below = turned a k Less (less_from _ below)

-- what follows a key that is not below k is above k
pub passes : (k a b : List ℕ) → is_lt (bytes_cmp a k) ≡ false → bytes_cmp a b ≡ Less → bytes_cmp k b ≡ Less
passes k a b not_below less = by (bytes_cmp a k) refl not_below
  where
    by : (r : Ordering) → bytes_cmp a k ≡ r → is_lt r ≡ false → bytes_cmp k b ≡ Less
    by Less is h = absurd (cc)
    by Equal is h = sym (nat_list_cmp_total.congr a k b is) ∙ less
    by Greater is h = nat_list_cmp_total.trans k a b (turned a k Greater is) less

pub not_back : (a b : List ℕ) → bytes_cmp a b ≡ Less → is_lt (bytes_cmp b a) ≡ false
not_back a b less = ap is_lt (turned a b Less less)

pub below_then : (a b k : List ℕ) → bytes_cmp a b ≡ Less → is_lt (bytes_cmp b k) ≡ true → is_lt (bytes_cmp a k) ≡ true
below_then a b k less below = ap is_lt (nat_list_cmp_total.trans a b k less (less_from _ below))

-- ---- maps in parts

pub below-append : (k : List ℕ) (a b : Map) → AllBelow k a → AllBelow k b → AllBelow k (a ++ b)
below-append k [] b p q = q
below-append k (e ∷ a) b p q = (p.0, below-append k a b p.1 q)

pub none-append : (k : List ℕ) (a b : Map) → NoneBelow k a → NoneBelow k b → NoneBelow k (a ++ b)
none-append k [] b p q = q
none-append k (e ∷ a) b p q = (p.0, none-append k a b p.1 q)

pub below_first : (k : List ℕ) (a b : Map) → AllBelow k (a ++ b) → AllBelow k a
below_first k [] b p = tt
below_first k (e ∷ a) b p = (p.0, below_first k a b p.1)

pub none_second : (k : List ℕ) (a b : Map) → NoneBelow k (a ++ b) → NoneBelow k b
none_second k [] b p = p
none_second k (e ∷ a) b p = none_second k a b p.1

pub sorted_first : (a b : Map) → T (is_sorted bytes_cmp (a ++ b)) → T (is_sorted bytes_cmp a)
sorted_first [] b sorted = tt
sorted_first (e ∷ a) b sorted =
    both_true _ _ (low a (first_true (below_all bytes_cmp e.0 (a ++ b)) (is_sorted bytes_cmp (a ++ b)) sorted)) (sorted_first a b (second_true (below_all bytes_cmp e.0 (a ++ b)) (is_sorted bytes_cmp (a ++ b)) sorted))
  where
    low : (a : Map) → T (below_all bytes_cmp e.0 (a ++ b)) → T (below_all bytes_cmp e.0 a)
    low [] h = tt
    low (f ∷ a) h = both_true _ _ (first_true (is_lt (bytes_cmp e.0 f.0)) (below_all bytes_cmp e.0 (a ++ b)) h) (low a (second_true (is_lt (bytes_cmp e.0 f.0)) (below_all bytes_cmp e.0 (a ++ b)) h))

pub sorted_second : (a b : Map) → T (is_sorted bytes_cmp (a ++ b)) → T (is_sorted bytes_cmp b)
sorted_second [] b sorted = sorted
sorted_second (e ∷ a) b sorted = sorted_second a b (second_true (below_all bytes_cmp e.0 (a ++ b)) (is_sorted bytes_cmp (a ++ b)) sorted)

-- ---- what is found

pub find_past : (k : List ℕ) (a b : Map) → AllBelow k a → find bytes_cmp k (a ++ b) ≡ find bytes_cmp k b
find_past k [] b lesser = refl
find_past k (e ∷ a) b lesser =
    ap (λ (r : Ordering). cond (is_eq r) (Some e.1) (find bytes_cmp k (a ++ b))) (is_above e.0 k lesser.0) ∙ find_past k a b lesser.1

-- no key is below k and the first is not k
pub find_over : (k : List ℕ) (e : List ℕ × List ℕ) (m : Map) → T (is_sorted bytes_cmp (e ∷ m)) → is_lt (bytes_cmp e.0 k) ≡ false → is_eq (bytes_cmp e.0 k) ≡ false → find bytes_cmp k (e ∷ m) ≡ None
find_over k e m sorted not_below other = by (bytes_cmp e.0 k) refl not_below other
  where
    by : (r : Ordering) → bytes_cmp e.0 k ≡ r → is_lt r ≡ false → is_eq r ≡ false → find bytes_cmp k (e ∷ m) ≡ None
    by Less is h g = absurd (cc)
    by Equal is h g = absurd (cc)
    by Greater is h g =
        let less = turned e.0 k Greater is in
        ap (λ (r : Ordering). cond (is_eq r) (Some e.1) (find bytes_cmp k m)) less ∙ above k e.0 m less (first_true (below_all bytes_cmp e.0 m) (is_sorted bytes_cmp m) sorted)

pub find_here : (k v : List ℕ) (m : Map) → find bytes_cmp k ((k, v) ∷ m) ≡ Some v
find_here k v m = ap (λ (r : Ordering). cond (is_eq r) (Some v) (find bytes_cmp k m)) (tied_itself nat_list_cmp_total k)

-- ---- what is put

pub put_past : (k v : List ℕ) (a b : Map) → AllBelow k a → put bytes_cmp k v (a ++ b) ≡ a ++ put bytes_cmp k v b
put_past k v [] b lesser = refl
put_past k v (e ∷ a) b lesser =
    ap (λ (r : Ordering). by_order r ((k, v) ∷ e ∷ (a ++ b)) ((e.0, v) ∷ (a ++ b)) (e ∷ put bytes_cmp k v (a ++ b))) (is_above e.0 k lesser.0)
    ∙ ap (λ (m : Map). e ∷ m) (put_past k v a b lesser.1)

pub put_here : (k v w : List ℕ) (m : Map) → put bytes_cmp k v ((k, w) ∷ m) ≡ (k, v) ∷ m
put_here k v w m = ap (λ (r : Ordering). by_order r ((k, v) ∷ (k, w) ∷ m) ((k, v) ∷ m) ((k, w) ∷ put bytes_cmp k v m)) (tied_itself nat_list_cmp_total k)

-- no key is below k, and k is not found
pub put_before : (k v : List ℕ) (m : Map) → NoneBelow k m → find bytes_cmp k m ≡ None → put bytes_cmp k v m ≡ (k, v) ∷ m
put_before k v [] others new = refl
put_before k v (e ∷ m) others new = by (bytes_cmp k e.0) refl new
  where
    by : (r : Ordering) → bytes_cmp k e.0 ≡ r → cond (is_eq r) (Some e.1) (find bytes_cmp k m) ≡ None → by_order r ((k, v) ∷ e ∷ m) ((e.0, v) ∷ m) (e ∷ put bytes_cmp k v m) ≡ (k, v) ∷ e ∷ m
    by Less is h = refl
    by Equal is h = absurd (cc)
    by Greater is h = absurd (let back = turned k e.0 Greater is in let below = ap is_lt back in cc (others.0))

-- ---- the next

pub next_past : (k : List ℕ) (a b : Map) → AllBelow k a → next_in bytes_cmp k (a ++ b) ≡ next_in bytes_cmp k b
next_past k [] b lesser = refl
next_past k (e ∷ a) b lesser =
    let over = λ (x : List ℕ). is_lt (bytes_cmp k x) in
    ap (λ (r : Ordering). first_of (cond (is_lt r) (e ∷ where_key bytes_cmp over (a ++ b)) (where_key bytes_cmp over (a ++ b)))) (is_above e.0 k lesser.0) ∙ next_past k a b lesser.1

-- all keys are above k
next_first : (k : List ℕ) (m : Map) → T (below_all bytes_cmp k m) → next_in bytes_cmp k m ≡ first_of m
next_first k [] low = refl
next_first k (e ∷ m) low =
    let over = λ (x : List ℕ). is_lt (bytes_cmp k x) in
    ap (λ (r : Ordering). first_of (cond (is_lt r) (e ∷ where_key bytes_cmp over m) (where_key bytes_cmp over m))) (is_less _ (first_true (is_lt (bytes_cmp k e.0)) (below_all bytes_cmp k m) low))

pub next_after : (k v : List ℕ) (m : Map) → T (is_sorted bytes_cmp ((k, v) ∷ m)) → next_in bytes_cmp k ((k, v) ∷ m) ≡ first_of m
next_after k v m sorted =
    let over = λ (x : List ℕ). is_lt (bytes_cmp k x) in
    ap (λ (r : Ordering). first_of (cond (is_lt r) ((k, v) ∷ where_key bytes_cmp over m) (where_key bytes_cmp over m))) (tied_itself nat_list_cmp_total k)
    ∙ next_first k m (first_true (below_all bytes_cmp k m) (is_sorted bytes_cmp m) sorted)

pub next_over : (k : List ℕ) (e : List ℕ × List ℕ) (m : Map) → is_lt (bytes_cmp e.0 k) ≡ false → is_eq (bytes_cmp e.0 k) ≡ false → next_in bytes_cmp k (e ∷ m) ≡ Some e
next_over k e m not_below other = by (bytes_cmp e.0 k) refl not_below other
  where
    by : (r : Ordering) → bytes_cmp e.0 k ≡ r → is_lt r ≡ false → is_eq r ≡ false → next_in bytes_cmp k (e ∷ m) ≡ Some e
    by Less is h g = absurd (cc)
    by Equal is h g = absurd (cc)
    by Greater is h g =
        let over = λ (x : List ℕ). is_lt (bytes_cmp k x) in
        ap (λ (r : Ordering). first_of (cond (is_lt r) (e ∷ where_key bytes_cmp over m) (where_key bytes_cmp over m))) (turned e.0 k Greater is)

-- ---- what is dropped

le_from : (a b : List ℕ) (r : Ordering) → bytes_cmp a b ≡ r → is_le (bytes_cmp b a) ≡ not (is_lt r)
le_from a b r is = ap is_le (turned a b r is) ∙ by r
  where
    by : (r : Ordering) → is_le (ordering_reverse r) ≡ not (is_lt r)
    by Less = refl
    by Equal = refl
    by Greater = refl

kept : (from to k : List ℕ) (a b : Bool) → is_lt (bytes_cmp k from) ≡ a → is_lt (bytes_cmp k to) ≡ b → is_between bytes_cmp from to k ≡ (not a && b)
kept from to k a b p q = λ i. (le_from k from (bytes_cmp k from) refl ∙ ap not p) i && q i

-- keys below the range
pub without_under : (from to : List ℕ) (a b : Map) → AllBelow from a → without from to (a ++ b) ≡ a ++ without from to b
without_under from to [] b lesser = refl
without_under from to (e ∷ a) b lesser =
    ap (λ (t : Bool). cond (not t) (e ∷ without from to (a ++ b)) (without from to (a ++ b))) (kept from to e.0 true (is_lt (bytes_cmp e.0 to)) lesser.0 refl)
    ∙ ap (λ (m : Map). e ∷ m) (without_under from to a b lesser.1)

-- keys at its end or above
pub without_over : (from to : List ℕ) (m : Map) → NoneBelow to m → without from to m ≡ m
without_over from to [] others = refl
without_over from to (e ∷ m) others =
    ap (λ (t : Bool). cond (not t) (e ∷ without from to m) (without from to m)) (kept from to e.0 (is_lt (bytes_cmp e.0 from)) false refl others.0 ∙ neither (is_lt (bytes_cmp e.0 from)))
    ∙ ap (λ (m : Map). e ∷ m) (without_over from to m others.1)
  where
    neither : (a : Bool) → (not a && false) ≡ false
    neither true = refl
    neither false = refl

-- keys in the range
pub without_inside : (from to : List ℕ) (a b : Map) → NoneBelow from a → AllBelow to a → without from to (a ++ b) ≡ without from to b
without_inside from to [] b others lesser = refl
without_inside from to (e ∷ a) b others lesser =
    ap (λ (t : Bool). cond (not t) (e ∷ without from to (a ++ b)) (without from to (a ++ b))) (kept from to e.0 false true others.0 lesser.0)
    ∙ without_inside from to a b others.1 lesser.1
