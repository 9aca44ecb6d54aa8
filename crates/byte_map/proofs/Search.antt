-- What a search for a key finds in sorted pairs, and among blocks of them.
use Rattle.std.specs.Prelude.{◌≡◌, ℕ, zero, suc, ◌-◌, ◌<◌, ◌≤◌, true, false, T, List, [], ◌∷◌, ◌++◌, length, take, drop, refl}
use Rattle.std.proofs.Common.{sym, ap, subst, arith, get_or, inl, inr}
use Rattle.std.specs.declared.cmp.Ordering.TheVariants.{Less}
use Rattle.std.specs.Ordering.{is_lt}
use Rattle.std.specs.List.{AllWithin}
use Rattle.std.specs.List.Sorted.{IsPartitionedBy}
use Rattle.std.specs.FinMap.Entries.{below_all, is_sorted}
use Rattle.byte_map.specs.Words.{Map, bytes_cmp}
use Rattle.groundwork.proofs.Bools.{first_true, second_true}
use Rattle.groundwork.proofs.Orders.{is_less}
use Rattle.byte_map.specs.Blocks.{joined, block_of, before, rest, AllFilled, AllBelow, NoneBelow, ends_below, key_below, IsBoundFor}
use Rattle.std.proofs.lemmas.Bool.{cases_lt}
use Rattle.std.proofs.lemmas.List.{take_all}
use Rattle.byte_map.proofs.Joined.{rest_end}
use Rattle.byte_map.proofs.Order.{passes, not_back, below_then, below-append, none-append, none_second, sorted_first, sorted_second}

head_low : (e : List ℕ × List ℕ) (m : Map) → T (is_sorted bytes_cmp (e ∷ m)) → T (below_all bytes_cmp e.0 m)
head_low e m sorted = first_true (below_all bytes_cmp e.0 m) (is_sorted bytes_cmp m) sorted

tail_sorted : (e : List ℕ × List ℕ) (m : Map) → T (is_sorted bytes_cmp (e ∷ m)) → T (is_sorted bytes_cmp m)
tail_sorted e m sorted = second_true (below_all bytes_cmp e.0 m) (is_sorted bytes_cmp m) sorted

first_low : (a : List ℕ) (e : List ℕ × List ℕ) (m : Map) → T (below_all bytes_cmp a (e ∷ m)) → bytes_cmp a e.0 ≡ Less
first_low a e m low = is_less (bytes_cmp a e.0) (first_true (is_lt (bytes_cmp a e.0)) (below_all bytes_cmp a m) low)

rest_low : (a : List ℕ) (e : List ℕ × List ℕ) (m : Map) → T (below_all bytes_cmp a (e ∷ m)) → T (below_all bytes_cmp a m)
rest_low a e m low = second_true (is_lt (bytes_cmp a e.0)) (below_all bytes_cmp a m) low

-- ---- in one list of pairs

module _ (k : List ℕ) where
  low_at : (a : List ℕ) (m : Map) (j : ℕ) (d : List ℕ × List ℕ) → T (below_all bytes_cmp a m) → j < length m → key_below k (get_or m j d) ≡ true → is_lt (bytes_cmp a k) ≡ true
  low_at a [] j d low in_range below = absurd (omega (arith, in_range))
  low_at a (e ∷ m) zero d low in_range below = below_then a e.0 k (first_low a e m low) below
  low_at a (e ∷ m) (suc j) d low in_range below = low_at a m j d (rest_low a e m low) (omega (arith, in_range)) below

  pub keys_parted : (m : Map) → T (is_sorted bytes_cmp m) → IsPartitionedBy (key_below k) m
  keys_parted [] sorted i j d le in_range below = absurd (omega (arith, in_range))
  keys_parted (e ∷ m) sorted zero zero d le in_range below = below
  keys_parted (e ∷ m) sorted zero (suc j) d le in_range below = low_at e.0 m j d (head_low e m sorted) (omega (arith, in_range)) below
  keys_parted (e ∷ m) sorted (suc i) zero d le in_range below = absurd (omega (arith, le))
  keys_parted (e ∷ m) sorted (suc i) (suc j) d le in_range below = keys_parted m (tail_sorted e m sorted) i j d (omega (arith, le)) (omega (arith, in_range)) below

  pub taken_below : (m : Map) (r : ℕ) → r ≤ length m → AllWithin (λ y. key_below k y ≡ true) m 0 r → AllBelow k (take r m)
  taken_below m zero fits below = tt
  taken_below [] (suc r) fits below = tt
  taken_below (e ∷ m) (suc r) fits below =
      (below 0 e (omega arith) (omega arith), taken_below m r (omega (arith, fits)) (λ j d from to. below (suc j) d (omega arith) (omega (arith, to))))

  pub dropped_not_below : (m : Map) (r : ℕ) → AllWithin (λ y. key_below k y ≡ false) m r (length m) → NoneBelow k (drop r m)
  dropped_not_below [] zero others = tt
  dropped_not_below [] (suc r) others = tt
  dropped_not_below (e ∷ m) zero others =
      (others 0 e (omega arith) (omega arith), dropped_not_below m zero (λ j d from to. others (suc j) d (omega arith) (omega (arith, to))))
  dropped_not_below (e ∷ m) (suc r) others = dropped_not_below m r (λ j d from to. others (suc j) d (omega (arith, from)) (omega (arith, to)))

  -- ---- the last key of a block

  pub all_below : (m : Map) → T (is_sorted bytes_cmp m) → ends_below k m ≡ true → AllBelow k m
  all_below [] sorted ends = tt
  all_below (e ∷ []) sorted ends = (ends, tt)
  all_below (e ∷ f ∷ m) sorted ends =
      let later = all_below (f ∷ m) (tail_sorted e (f ∷ m) sorted) ends in
      (below_then e.0 f.0 k (first_low e.0 f m (head_low e (f ∷ m) sorted)) later.0, later)

  pub ends_when_all : (m : Map) → AllBelow k m → ends_below k m ≡ true
  ends_when_all [] all = refl
  ends_when_all (e ∷ []) all = all.0
  ends_when_all (e ∷ f ∷ m) all = ends_when_all (f ∷ m) all.1

  ends_not : (m : Map) → NoneBelow k m → 0 < length m → ends_below k m ≡ false
  ends_not [] none here = absurd (omega (arith, here))
  ends_not (e ∷ []) none here = none.0
  ends_not (e ∷ f ∷ m) none here = ends_not (f ∷ m) none.1 (omega arith)

  over_all : (a : List ℕ) (m : Map) → T (below_all bytes_cmp a m) → is_lt (bytes_cmp a k) ≡ false → NoneBelow k m
  over_all a [] low not_below = tt
  over_all a (e ∷ m) low not_below =
      (not_back k e.0 (passes k a e.0 not_below (first_low a e m low)), over_all a m (rest_low a e m low) not_below)

  -- where the last key is not below, none that follows is
  pub over_last : (x m : Map) → 0 < length x → T (is_sorted bytes_cmp (x ++ m)) → ends_below k x ≡ false → NoneBelow k m
  over_last [] m here sorted ends = absurd (omega (arith, here))
  over_last (e ∷ []) m here sorted ends = over_all e.0 m (head_low e m sorted) ends
  over_last (e ∷ f ∷ x) m here sorted ends = over_last (f ∷ x) m (omega arith) (tail_sorted e ((f ∷ x) ++ m) sorted) ends

  -- ---- among blocks

  none_in : (blocks : List Map) (j : ℕ) (d : Map) → j < length blocks → NoneBelow k (joined blocks) → AllFilled blocks → ends_below k (get_or blocks j d) ≡ false
  none_in [] j d in_range none filled = absurd (omega (arith, in_range))
  none_in (x ∷ xs) zero d in_range none filled = ends_not x (none_first x (joined xs) none) filled.0
    where
      none_first : (a b : Map) → NoneBelow k (a ++ b) → NoneBelow k a
      none_first [] b p = tt
      none_first (e ∷ a) b p = (p.0, none_first a b p.1)
  none_in (x ∷ xs) (suc j) d in_range none filled = none_in xs j d (omega (arith, in_range)) (none_second k x (joined xs) none) filled.1

  pub blocks_parted : (blocks : List Map) → T (is_sorted bytes_cmp (joined blocks)) → AllFilled blocks → IsPartitionedBy (ends_below k) blocks
  blocks_parted [] sorted filled i j d le in_range ends = absurd (omega (arith, in_range))
  blocks_parted (x ∷ xs) sorted filled zero zero d le in_range ends = ends
  blocks_parted (x ∷ xs) sorted filled zero (suc j) d le in_range ends =
      elim (ends_below k x) as (λ r. ends_below k x ≡ r → r ≡ true) [
        | true ↦ λ is. refl
        | false ↦ λ is. absurd (let other = none_in xs j d (omega (arith, in_range)) (over_last x (joined xs) filled.0 sorted is) filled.1 in cc)
      ] refl
  blocks_parted (x ∷ xs) sorted filled (suc i) zero d le in_range ends = absurd (omega (arith, le))
  blocks_parted (x ∷ xs) sorted filled (suc i) (suc j) d le in_range ends =
      blocks_parted xs (sorted_second x (joined xs) sorted) filled.1 i j d (omega (arith, le)) (omega (arith, in_range)) ends

  pub bound_lesser : (blocks : List Map) (r i : ℕ) → T (is_sorted bytes_cmp (joined blocks)) → AllWithin (λ y. ends_below k y ≡ true) blocks 0 r
      → AllBelow k (take i (block_of blocks r)) → AllBelow k (before blocks r i)
  bound_lesser [] r i sorted ends here = tt
  bound_lesser (x ∷ xs) zero i sorted ends here = here
  bound_lesser (x ∷ xs) (suc r) i sorted ends here =
      below-append k x (before xs r i) (all_below x (sorted_first x (joined xs) sorted) (ends 0 x (omega arith) (omega arith)))
      (bound_lesser xs r i (sorted_second x (joined xs) sorted) (λ j d from to. ends (suc j) d (omega arith) (omega (arith, to))) here)

  pub bound_others : (blocks : List Map) (r i : ℕ) → T (is_sorted bytes_cmp (joined blocks)) → AllFilled blocks → AllWithin (λ y. ends_below k y ≡ false) blocks r (length blocks)
      → NoneBelow k (drop i (block_of blocks r)) → NoneBelow k (rest blocks r i)
  bound_others [] r i sorted filled ends here = tt
  bound_others (x ∷ xs) zero i sorted filled ends here =
      none-append k (drop i x) (joined xs) here (over_last x (joined xs) filled.0 sorted (ends 0 x (omega arith) (omega arith)))
  bound_others (x ∷ xs) (suc r) i sorted filled ends here =
      bound_others xs r i (sorted_second x (joined xs) sorted) filled.1 (λ j d from to. ends (suc j) d (omega (arith, from)) (omega (arith, to))) here

-- the last key, by its place
ends_at_place : (k : List ℕ) (m : Map) (n : ℕ) (e : List ℕ × List ℕ) → length m ≡ suc n → e ≡ get_or m n e → ends_below k m ≡ is_lt (bytes_cmp e.0 k)
ends_at_place k [] n e long is = absurd (omega (arith, long))
ends_at_place k (f ∷ []) zero e long is = ap (λ (g : List ℕ × List ℕ). is_lt (bytes_cmp g.0 k)) (sym is)
ends_at_place k (f ∷ []) (suc n) e long is = absurd (omega (arith, long))
ends_at_place k (f ∷ g ∷ m) zero e long is = absurd (omega (arith, long))
ends_at_place k (f ∷ g ∷ m) (suc n) e long is = ends_at_place k (g ∷ m) n e (omega (arith, long)) is

pub ends_at : (k : List ℕ) (m : Map) (e : List ℕ × List ℕ) → 0 < length m → e ≡ get_or m (length m - 1) e → ends_below k m ≡ is_lt (bytes_cmp e.0 k)
ends_at k m e here is = ends_at_place k m (length m - 1) e (omega (arith, here)) is

-- each block is in order
pub sorted_at : (blocks : List Map) (b : ℕ) → T (is_sorted bytes_cmp (joined blocks)) → b < length blocks → T (is_sorted bytes_cmp (block_of blocks b))
sorted_at [] b sorted in_list = absurd (omega (arith, in_list))
sorted_at (x ∷ xs) zero sorted in_list = sorted_first x (joined xs) sorted
sorted_at (x ∷ xs) (suc b) sorted in_list = sorted_at xs b (sorted_second x (joined xs) sorted) (omega (arith, in_list))

module _ (blocks : List Map) (k : List ℕ) (b : ℕ) (sorted : T (is_sorted bytes_cmp (joined blocks))) (filled : AllFilled blocks)
    (lesser : AllWithin (λ y. ends_below k y ≡ true) blocks 0 b) (others : AllWithin (λ y. ends_below k y ≡ false) blocks b (length blocks)) where
  -- a place in the first block whose last key is not below
  pub bound_in : (i : ℕ) → b < length blocks → i ≤ length (block_of blocks b) → AllBelow k (take i (block_of blocks b)) → NoneBelow k (drop i (block_of blocks b)) → IsBoundFor blocks k b i
  bound_in i in_list fits front back = record {
    place = record {
      within = omega (arith, in_list);
      inside = λ _. elim (cases_lt i (length (block_of blocks b))) [
        | inl less ↦ less
        | inr past ↦ absurd (
            let whole : AllBelow k (block_of blocks b) = subst (AllBelow k) (take_all i (block_of blocks b) past) front in
            let ends = ends_when_all k (block_of blocks b) whole in
            let not = others b [] (omega arith) in_list in cc)
      ];
      end = λ is. absurd (omega (arith, is, in_list));
    };
    lesser = bound_lesser k blocks b i sorted lesser front;
    others = bound_others k blocks b i sorted filled others back;
  }

  -- all keys are below
  pub bound_end : b ≡ length blocks → IsBoundFor blocks k b 0
  bound_end all = record {
    place = record { within = omega (arith, all); inside = λ less. absurd (omega (arith, all, less)); end = λ _. refl };
    lesser = bound_lesser k blocks b 0 sorted lesser tt;
    others = subst (NoneBelow k) (sym (rest_end blocks b 0 (omega (arith, all)))) tt;
  }
