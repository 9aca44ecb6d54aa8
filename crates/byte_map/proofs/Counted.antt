-- How many pairs of blocks have their keys in a range.
use Rattle.std.specs.Prelude.{◌≡◌, ℕ, zero, suc, ◌+◌, ◌-◌, ◌<◌, ◌≤◌, ◌⊎◌, Bool, true, false, cond, not, List, [], ◌∷◌, length, take, drop, refl}
use Rattle.std.proofs.Common.{sym, ◌∙◌, ap, arith, inl, inr}
use Rattle.std.proofs.Math.Seq.{take-add}
use Rattle.std.proofs.lemmas.Bool.{cases_lt}
use Rattle.std.proofs.lemmas.List.{length-append, length-take-le}
use Rattle.std.specs.FinMap.Entries.{where_key}
use Rattle.byte_map.specs.Words.{Map, bytes_cmp, is_between, pairs_between, without}
use Rattle.byte_map.specs.Blocks.{joined, before, rest, IsPlace, IsBoundFor}
use Rattle.byte_map.proofs.Joined.{parts, joined-append}
use Rattle.byte_map.proofs.Dropped.{between, range_between, range_none}

-- what is in a range and what is not are all
parted : (keep : List ℕ → Bool) (m : Map) → length (where_key bytes_cmp keep m) + length (where_key bytes_cmp (λ k. not (keep k)) m) ≡ length m
parted keep [] = refl
parted keep (e ∷ m) =
    let tail = parted keep m in
    elim (keep e.0) as (λ b. length (cond b (e ∷ where_key bytes_cmp keep m) (where_key bytes_cmp keep m))
    + length (cond (not b) (e ∷ where_key bytes_cmp (λ k. not (keep k)) m) (where_key bytes_cmp (λ k. not (keep k)) m)) ≡ length (e ∷ m)) [
      | true ↦ omega (arith, tail)
      | false ↦ omega (arith, tail)
    ]

-- the pairs before a place
count_before : (blocks : List Map) (b i : ℕ) → IsPlace blocks b i → length (before blocks b i) ≡ length (joined (take b blocks)) + i
count_before [] zero i place = omega (arith, place.end refl)
count_before [] (suc b) i place = absurd (omega (arith, place.within))
count_before (x ∷ xs) zero i place =
    let inside : i < length x = place.inside (omega arith) in
    let long = length-take-le i x (omega (arith, inside)) in
    omega (arith, long)
count_before (x ∷ xs) (suc b) i place =
    let tail = count_before xs b i (record {
      within = let low = place.within in omega (arith, low);
      inside = λ less. place.inside (omega (arith, less));
      end = λ is. place.end (omega (arith, is));
    }) in
    omega (arith, tail, length-append x (before xs b i), length-append x (joined (take b xs)))

blocks_between : (blocks : List Map) (p q : ℕ) → p ≤ q → length (joined (take q blocks)) ≡ length (joined (take p blocks)) + length (joined (take (q - p) (drop p blocks)))
blocks_between blocks p q order =
    let to_end : p + (q - p) ≡ q = omega (arith, order) in
    ap (λ (n : ℕ). length (joined (take n blocks))) (sym to_end)
    ∙ ap (λ (s : List Map). length (joined s)) (take-add p (q - p) blocks)
    ∙ ap (λ (m : Map). length m) (joined-append (take p blocks) (take (q - p) (drop p blocks)))
    ∙ length-append (joined (take p blocks)) (joined (take (q - p) (drop p blocks)))

-- whole blocks up to a place, and what is before it in its block
pub count_within : (blocks : List Map) (p q j : ℕ) → p ≤ q → IsPlace blocks q j → length (joined (take (q - p) (drop p blocks))) + j ≤ length (joined blocks)
count_within blocks p q j order place =
    let whole = sym (ap (λ (m : Map). length m) (parts blocks q j)) ∙ length-append (before blocks q j) (rest blocks q j) in
    omega (arith, whole, count_before blocks q j place, blocks_between blocks p q order)

module _ (blocks : List Map) (from to : List ℕ) (p i q j : ℕ) (start : IsBoundFor blocks from p i) (end : IsBoundFor blocks to q j) where
  all : length (pairs_between from to (joined blocks)) + length (without from to (joined blocks)) ≡ length (joined blocks)
  all = parted (λ k. is_between bytes_cmp from to k) (joined blocks)

  pub counted_none : (q < p) ⊎ ((q ≡ p) × (j ≤ i)) → length (pairs_between from to (joined blocks)) ≡ 0
  counted_none order = let none = ap (λ (m : Map). length m) (range_none blocks from to p i q j start end order) in omega (arith, all, none)

  pub counted_some : (p < q) ⊎ ((p ≡ q) × (i ≤ j)) → length (pairs_between from to (joined blocks)) + i ≡ length (joined (take (q - p) (drop p blocks))) + j
  counted_some order =
      let part = between blocks p i q j order in
      let left = ap (λ (m : Map). length m) (range_between blocks from to p i q j start end order) ∙ length-append (before blocks p i) (rest blocks q j) in
      let front = ap (λ (m : Map). length m) part.to ∙ length-append (before blocks p i) part.inner in
      let whole = sym (ap (λ (m : Map). length m) (parts blocks q j)) ∙ length-append (before blocks q j) (rest blocks q j) in
      omega (arith, all, left, front, whole, count_before blocks p i start.place, count_before blocks q j end.place, blocks_between blocks p q (low order))
    where
      low : (p < q) ⊎ ((p ≡ q) × (i ≤ j)) → p ≤ q
      low (inl less) = omega (arith, less)
      low (inr same) = omega (arith, same.0)

  pub counted : p ≤ q → (whole : ℕ) → whole ≡ length (joined (take (q - p) (drop p blocks))) → (whole + j) - i ≡ length (pairs_between from to (joined blocks))
  counted order whole is = elim (cases_lt p q) [
    | inl less ↦ let some = counted_some (inl less) in omega (arith, some, is)
    | inr past ↦
        let same : p ≡ q = omega (arith, order, past) in
        elim (cases_lt j i) [
          | inl less ↦
              let none = counted_none (inr (sym same, omega (arith, less))) in
              let no : q - p ≡ 0 = omega (arith, same) in
              let empty = ap (λ (n : ℕ). length (joined (take n (drop p blocks)))) no in
              omega (arith, none, is, empty, less)
          | inr more ↦ let some = counted_some (inr (same, more)) in omega (arith, some, is)
        ]
  ]
