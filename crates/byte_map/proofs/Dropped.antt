-- What is left of blocks where pairs from one place up to another are dropped.
use Rattle.std.specs.Prelude.{◌≡◌, ◌≢◌, ℕ, zero, suc, ◌+◌, ◌-◌, ◌<◌, ◌≤◌, ◌⊎◌, List, [], ◌∷◌, ◌++◌, length, take, drop, refl}
use Rattle.std.proofs.Common.{sym, ◌∙◌, ap, subst, arith, set, inl, inr}
use Rattle.std.proofs.Math.Seq.{take-add}
use Rattle.std.proofs.lemmas.Bool.{cases_lt}
use Rattle.std.proofs.lemmas.List.{append_assoc, take-append-drop, drop-drop, length-append, length-take, length-drop, length-set, set_past, take-set-le, drop-set-lt, set_comm, get_or-set_other}
use Rattle.byte_map.specs.Words.{Map, bytes_in, without}
use Rattle.byte_map.specs.Blocks.{joined, block_of, before, rest, AllFilled, AllBelow, NoneBelow, IsPlace, IsBoundFor, IsDropped, without_part}
use Rattle.byte_map.proofs.Order.{none_second, without_under, without_over, without_inside}
use Rattle.byte_map.proofs.Joined.{parts, filled_append, filled_set, filled_take, filled_drop, shortened, cut_between, cut_all, bytes_in-append, weighed_set, weighed_blocks}

none_first : (k : List ℕ) (a b : Map) → NoneBelow k (a ++ b) → NoneBelow k a
none_first k [] b p = tt
none_first k (e ∷ a) b p = (p.0, none_first k a b p.1)

below_second : (k : List ℕ) (a b : Map) → AllBelow k (a ++ b) → AllBelow k b
below_second k [] b p = p
below_second k (e ∷ a) b p = below_second k a b p.1

-- ---- the pairs between two places

pub record Between (blocks : List Map) (p i q j : ℕ) : Type 0 where
  pub inner : Map
  pub from : rest blocks p i ≡ inner ++ rest blocks q j
  pub to : before blocks q j ≡ before blocks p i ++ inner

same_block : (x : Map) (xs : List Map) (i j : ℕ) → i ≤ j → Between (x ∷ xs) zero i zero j
same_block x xs i j order =
    let whole : i + (j - i) ≡ j = omega (arith, order) in
    record {
      inner = take (j - i) (drop i x);
      from =
          ap (λ (m : Map). m ++ joined xs) (sym (take-append-drop (j - i) (drop i x)) ∙ ap (λ (m : Map). take (j - i) (drop i x) ++ m) (drop-drop (j - i) i x ∙ ap (λ (n : ℕ). drop n x) whole))
          ∙ append_assoc (take (j - i) (drop i x)) (drop j x) (joined xs);
      to = ap (λ (n : ℕ). take n x) (sym whole) ∙ take-add i (j - i) x;
    }

pub between : (blocks : List Map) (p i q j : ℕ) → (p < q) ⊎ ((p ≡ q) × (i ≤ j)) → Between blocks p i q j
between [] p i q j order = record { inner = []; from = refl; to = refl }
between (x ∷ xs) zero i zero j (inl less) = absurd (omega (arith, less))
between (x ∷ xs) zero i zero j (inr same) = same_block x xs i j same.1
between (x ∷ xs) zero i (suc q) j order = record {
  inner = drop i x ++ before xs q j;
  from = ap (λ (m : Map). drop i x ++ m) (sym (parts xs q j)) ∙ sym (append_assoc (drop i x) (before xs q j) (rest xs q j));
  to = ap (λ (m : Map). m ++ before xs q j) (sym (take-append-drop i x)) ∙ append_assoc (take i x) (drop i x) (before xs q j);
}
between (x ∷ xs) (suc p) i zero j (inl less) = absurd (omega (arith, less))
between (x ∷ xs) (suc p) i zero j (inr same) = absurd (omega (arith, same.0))
between (x ∷ xs) (suc p) i (suc q) j order =
    let tail = between xs p i q j (lowered order) in
    record {
      inner = tail.inner;
      from = tail.from;
      to = ap (λ (m : Map). x ++ m) tail.to ∙ sym (append_assoc x (before xs p i) tail.inner);
    }
  where
    lowered : (suc p < suc q) ⊎ ((suc p ≡ suc q) × (i ≤ j)) → (p < q) ⊎ ((p ≡ q) × (i ≤ j))
    lowered (inl less) = inl (omega (arith, less))
    lowered (inr same) = inr (omega (arith, same.0), same.1)

-- ---- a dropped range of keys

module _ (blocks : List Map) (from to : List ℕ) (p i q j : ℕ) (start : IsBoundFor blocks from p i) (end : IsBoundFor blocks to q j) where
  pub range_between : (p < q) ⊎ ((p ≡ q) × (i ≤ j)) → without from to (joined blocks) ≡ before blocks p i ++ rest blocks q j
  range_between order =
      let part = between blocks p i q j order in
      let others = none_first from part.inner (rest blocks q j) (subst (NoneBelow from) part.from start.others) in
      let lesser = below_second to (before blocks p i) part.inner (subst (AllBelow to) part.to end.lesser) in
      ap (without from to) (sym (parts blocks p i))
      ∙ without_under from to (before blocks p i) (rest blocks p i) start.lesser
      ∙ ap (λ (m : Map). before blocks p i ++ m) (
      ap (without from to) part.from ∙ without_inside from to part.inner (rest blocks q j) others lesser ∙ without_over from to (rest blocks q j) end.others)

  pub range_none : (q < p) ⊎ ((q ≡ p) × (j ≤ i)) → without from to (joined blocks) ≡ joined blocks
  range_none order =
      let part = between blocks q j p i order in
      let others = none_second to part.inner (rest blocks p i) (subst (NoneBelow to) part.from end.others) in
      ap (without from to) (sym (parts blocks p i))
      ∙ without_under from to (before blocks p i) (rest blocks p i) start.lesser
      ∙ ap (λ (m : Map). before blocks p i ++ m) (without_over from to (rest blocks p i) others)
      ∙ parts blocks p i

pub not_later : (p i q j : ℕ) → q ≤ p → (p ≡ q → j ≤ i) → (q < p) ⊎ ((q ≡ p) × (j ≤ i))
not_later p i q j order same = by (cases_lt q p)
  where
    by : (q < p) ⊎ (p ≤ q) → (q < p) ⊎ ((q ≡ p) × (j ≤ i))
    by (inl less) = inl less
    by (inr more) = let is : p ≡ q = omega (arith, order, more) in inr (sym is, same is)

-- ---- counts and bytes

pub length_adds : (a b : Map) → length (a ++ b) ≡ length a + length b
length_adds a b = length-append a b

pub nothing_dropped : (old : Map) → IsDropped old old 0 0
nothing_dropped old = record { count = omega arith; bytes = omega arith }

-- one block without some of its pairs
pub part_dropped : (blocks : List Map) (b i j bytes : ℕ) → b < length blocks → i ≤ j → j ≤ length (block_of blocks b)
    → bytes_in (take i (block_of blocks b) ++ drop j (block_of blocks b)) + bytes ≡ bytes_in (block_of blocks b)
    → IsDropped (joined blocks) (joined (without_part blocks b i j)) (j - i) bytes
part_dropped blocks b i j bytes in_list order in_range sum =
    let x = block_of blocks b in
    let left = take i x ++ drop j x in
    let weight = weighed_set bytes_in bytes_in-append blocks b left in_list in
    let long = weighed_set (λ (m : Map). length m) length_adds blocks b left in_list in
    let size = length-append (take i x) (drop j x) in
    let front = length-take i x in
    let back = length-drop j x in
    record { count = omega (arith, long, size, front, back, order, in_range); bytes = omega (arith, weight, sum) }

-- blocks without some of them
pub blocks_dropped : (blocks : List Map) (a b count bytes : ℕ) → a ≤ b → count ≡ length (joined (take (b - a) (drop a blocks))) → bytes ≡ bytes_in (joined (take (b - a) (drop a blocks)))
    → IsDropped (joined blocks) (joined (take a blocks ++ drop b blocks)) count bytes
blocks_dropped blocks a b count bytes order counted summed =
    let weight = weighed_blocks bytes_in bytes_in-append blocks a b order in
    let long = weighed_blocks (λ (m : Map). length m) length_adds blocks a b order in
    record { count = omega (arith, long, counted); bytes = omega (arith, weight, summed) }

pub middle_within : (blocks : List Map) (a b : ℕ) → a ≤ b
    → (length (joined (take (b - a) (drop a blocks))) ≤ length (joined blocks)) × (bytes_in (joined (take (b - a) (drop a blocks))) ≤ bytes_in (joined blocks))
middle_within blocks a b order =
    let weight = weighed_blocks bytes_in bytes_in-append blocks a b order in
    let long = weighed_blocks (λ (m : Map). length m) length_adds blocks a b order in
    (omega (arith, long), omega (arith, weight))

-- ---- over several blocks

pub filled_part : (blocks : List Map) (b i j : ℕ) → AllFilled blocks → j < length (block_of blocks b) → AllFilled (without_part blocks b i j)
filled_part blocks b i j filled inside =
    let x = block_of blocks b in
    let size = length-append (take i x) (drop j x) in
    let back = length-drop j x in
    filled_set blocks b (take i x ++ drop j x) filled (omega (arith, size, back, inside))

module _ (blocks one two three : List Map) (p i q j first : ℕ) (from : IsPlace blocks p i) (to : IsPlace blocks q j) (order : p < q) (filled : AllFilled blocks)
    (tail : one ≡ set blocks p (take i (block_of blocks p))) (head : two ≡ set one q (drop j (block_of one q))) (middle : three ≡ take first two ++ drop q two)
    (none : i ≡ 0 → first ≡ p) (some : 0 < i → first ≡ p + 1) where
  pub length_one : length one ≡ length blocks
  length_one = ap (λ (s : List Map). length s) tail ∙ length-set blocks p (take i (block_of blocks p))

  pub block_one : block_of one q ≡ block_of blocks q
  block_one =
      let other : q ≢ p = λ same. omega (arith, same, order) in
      ap (λ (s : List Map). block_of s q) tail ∙ get_or-set_other blocks p q (take i (block_of blocks p)) [] other

  both : two ≡ shortened blocks p i q j order
  both = head ∙ (λ k. set (tail k) q (drop j (block_one k)))

  pub across_joined : joined three ≡ before blocks p i ++ rest blocks q j
  across_joined =
      ap joined (middle ∙ (λ k. take first (both k) ++ drop q (both k)))
      ∙ elim (cases_lt 0 i) [
        | inl more ↦
            let next : first ≡ suc p = (let is = some more in omega (arith, is)) in
            ap (λ (n : ℕ). joined (take n (shortened blocks p i q j order) ++ drop q (shortened blocks p i q j order))) next ∙ cut_between blocks p i q j order
        | inr zero_ ↦
            let is : i ≡ 0 = omega (arith, zero_) in
            ap (λ (n : ℕ). joined (take n (shortened blocks p i q j order) ++ drop q (shortened blocks p i q j order))) (none is) ∙ cut_all blocks p i q j order is
      ]

  short_filled : 0 < i → AllFilled (set blocks p (take i (block_of blocks p)))
  short_filled more =
      let there : p < length blocks = omega (arith, order, to.within) in
      let inside = from.inside there in
      let long = length-take i (block_of blocks p) in
      filled_set blocks p (take i (block_of blocks p)) filled (omega (arith, more, long, inside))

  back_filled : AllFilled (drop q two)
  back_filled =
      let swapped = set_comm blocks p q (take i (block_of blocks p)) (drop j (block_of blocks q)) (λ same. omega (arith, same, order)) in
      let kept = ap (λ (s : List Map). drop q s) (both ∙ swapped) ∙ drop-set-lt q (set blocks q (drop j (block_of blocks q))) p (take i (block_of blocks p)) order in
      subst AllFilled (sym kept) (filled_drop (set blocks q (drop j (block_of blocks q))) q (elim (cases_lt q (length blocks)) [
        | inl less ↦
            let inside = to.inside less in
            let long = length-drop j (block_of blocks q) in
            filled_set blocks q (drop j (block_of blocks q)) filled (omega (arith, inside, long))
        | inr out ↦ subst AllFilled (sym (set_past blocks q (drop j (block_of blocks q)) out)) filled
      ]))

  front_filled : AllFilled (take first two)
  front_filled = elim (cases_lt 0 i) [
    | inl more ↦
        let is = some more in
        let kept = ap (λ (s : List Map). take first s) both ∙ take-set-le first (set blocks p (take i (block_of blocks p))) q (drop j (block_of blocks q)) (omega (arith, is, order)) in
        subst AllFilled (sym kept) (filled_take (set blocks p (take i (block_of blocks p))) first (short_filled more))
    | inr zero_ ↦
        let is = none (omega (arith, zero_)) in
        let kept = ap (λ (s : List Map). take first s) both ∙ take-set-le first (set blocks p (take i (block_of blocks p))) q (drop j (block_of blocks q)) (omega (arith, is, order))
        ∙ take-set-le first blocks p (take i (block_of blocks p)) (omega (arith, is)) in
        subst AllFilled (sym kept) (filled_take blocks first filled)
  ]

  pub across_filled : AllFilled three
  across_filled = subst AllFilled (sym middle) (filled_append (take first two) (drop q two) front_filled back_filled)

-- three drops in a row
pub dropped_thrice : (a b c d : Map) (m n o x y z : ℕ) → IsDropped a b m x → IsDropped b c n y → IsDropped c d o z → IsDropped a d (m + n + o) (x + y + z)
dropped_thrice a b c d m n o x y z one two three = record { count = omega (arith, one.count, two.count, three.count); bytes = omega (arith, one.bytes, two.bytes, three.bytes) }
