use Rattle.std.proofs.Common.{ℕ, suc, ◌+◌, ◌-◌, ◌*◌, ◌/◌, ◌%◌, ◌^◌, ◌<◌, ◌≤◌, bit_xor, List, [], ◌∷◌, ◌++◌, length, take, drop, get_or, ◌≡◌, refl, sym, ◌∙◌, ap, subst, arith, length-drop, lit<}
use Rattle.std.specs.List.{slice_range}
use Rattle.std.specs.Int.Bits.{xor_zero_r}
use Rattle.std.proofs.Math.Seq.{take-suc, drop-cons}
use Rattle.std.proofs.lemmas.List.{length-take-le, get_or-drop}
use Rattle.regression_chunker.specs.Fingerprint.{times_x_to, print_after, with_bits}
use Rattle.regression_chunker.specs.Tables.{push_of}
use Rattle.regression_chunker.specs.Cuts.{print_at}
use Rattle.regression_chunker.proofs.Algebra.{pushed, print_fits, print_append, print_one, byte_in, top_leaves, times_zero, xor_last_two}

window : List ℕ → ℕ → List ℕ
window rest i = take 48 (drop i rest)

next_window : (rest : List ℕ) (i : ℕ) → i + 48 < length rest → get_or rest i 0 < 256 → get_or rest (i + 48) 0 < 256 →
    print_after 0 (window rest (suc i)) ≡ push_of (print_after 0 (window rest i)) (get_or rest (i + 48) 0) (get_or rest i 0)
unfolding window
next_window rest i there old new =
    let tail : List ℕ = take 47 (drop (suc i) rest) in
    let o : ℕ = get_or rest i 0 in
    let b : ℕ = get_or rest (i + 48) 0 in
    let left : length (drop (suc i) rest) ≡ length rest - suc i = length-drop (suc i) rest in
    let long : length tail ≡ 47 = length-take-le 47 (drop (suc i) rest) (omega (arith, left, there)) in
    let before : take 48 (drop i rest) ≡ o ∷ tail = ap (λ l. take 48 l) (drop-cons rest i 0 (omega (arith, there))) in
    let at : get_or (drop (suc i) rest) 47 0 ≡ b = get_or-drop (suc i) rest 47 0 ∙ ap (λ k. get_or rest k 0) (let e : suc i + 47 ≡ i + 48 = omega arith in e) in
    let after : take 48 (drop (suc i) rest) ≡ tail ++ b ∷ [] =
    take-suc (drop (suc i) rest) 47 0 (omega (arith, left, there)) ∙ ap (λ x. tail ++ x ∷ []) at in
    ap (λ w. print_after 0 w) after ∙ pushed o tail b old new long
    ∙ ap (λ w. push_of (print_after 0 w) b o) (sym before)

print_is : (rest : List ℕ) (i p : ℕ) → p ≡ i + 48 → print_at rest p ≡ print_after 0 (window rest i)
unfolding print_at window
print_is rest i p is =
    let from : p - 48 ≡ i = omega (arith, is) in
    let count : p - (p - 48) ≡ 48 = omega (arith, is) in
    ap (λ n. print_after 0 (take n (drop (p - 48) rest))) count ∙ ap (λ n. print_after 0 (take 48 (drop n rest))) from

-- the print of a place from that of the place before it
pub next_place : (rest : List ℕ) (i p n : ℕ) → p ≡ i + 48 → n ≡ p + 1 → p < length rest → get_or rest i 0 < 256 → get_or rest p 0 < 256 →
    print_at rest n ≡ push_of (print_at rest p) (get_or rest p 0) (get_or rest i 0)
next_place rest i p n is next there old new =
    let e : get_or rest (i + 48) 0 ≡ get_or rest p 0 = ap (λ k. get_or rest k 0) (sym is) in
    print_is rest (suc i) n (omega (arith, is, next))
    ∙ next_window rest i (omega (arith, is, there)) old (subst (λ x. x < 256) (sym e) new)
    ∙ ap (λ x. push_of (print_after 0 (window rest i)) x (get_or rest i 0)) e
    ∙ ap (λ v. push_of v (get_or rest p 0) (get_or rest i 0)) (sym (print_is rest i p is))

pub place_fits : (rest : List ℕ) (p : ℕ) → print_at rest p < 2 ^ 64
unfolding print_at
place_fits rest p = print_fits 0 (slice_range rest (p - 48) p) (lit< tt)

-- a push where nothing goes
pub push_in : (v b : ℕ) → v < 2 ^ 64 → b < 256 → push_of v b 0 ≡ with_bits 8 v b
push_in v b fits small =
    ap (λ x. bit_xor (bit_xor (v * 2 ^ 8 % 2 ^ 64) x) (times_x_to 64 (v / 2 ^ 56))) (ap (λ x. bit_xor b x) (times_zero 384) ∙ xor_zero_r b)
    ∙ xor_last_two (v * 2 ^ 8 % 2 ^ 64) b (times_x_to 64 (v / 2 ^ 56))
    ∙ ap (λ x. bit_xor x b) (sym (top_leaves v fits))
    ∙ sym (byte_in v b fits small)

pub one_more_in : (rest : List ℕ) (from i n v : ℕ) → n ≡ i + 1 → from ≤ i → i < length rest → get_or rest i 0 < 256 →
    v ≡ print_after 0 (slice_range rest from i) → push_of v (get_or rest i 0) 0 ≡ print_after 0 (slice_range rest from n)
one_more_in rest from i n v next le there small is =
    let j : ℕ = i - from in
    let left : length (drop from rest) ≡ length rest - from = length-drop from rest in
    let count : n - from ≡ suc j = omega (arith, next, le) in
    let at : get_or (drop from rest) j 0 ≡ get_or rest i 0 = get_or-drop from rest j 0 ∙ ap (λ k. get_or rest k 0) (let e : from + j ≡ i = omega (arith, le) in e) in
    let longer : slice_range rest from n ≡ slice_range rest from i ++ get_or rest i 0 ∷ [] =
    ap (λ k. take k (drop from rest)) count ∙ take-suc (drop from rest) j 0 (omega (arith, left, there, le)) ∙ ap (λ x. take j (drop from rest) ++ x ∷ []) at in
    ap (λ x. push_of x (get_or rest i 0) 0) is
    ∙ push_in (print_after 0 (slice_range rest from i)) (get_or rest i 0) (print_fits 0 (slice_range rest from i) (lit< tt)) small
    ∙ sym (ap (λ w. print_after 0 w) longer ∙ print_append 0 (slice_range rest from i) (get_or rest i 0 ∷ []) ∙ print_one (print_after 0 (slice_range rest from i)) (get_or rest i 0))

nothing_after : print_after 0 [] ≡ 0
unfolding print_after
nothing_after = refl

pub nothing_in : (rest : List ℕ) (from i : ℕ) → i ≡ from → 0 ≡ print_after 0 (slice_range rest from i)
nothing_in rest from i is =
    let none : i - from ≡ 0 = omega (arith, is) in
    sym (ap (λ k. print_after 0 (take k (drop from rest))) none ∙ nothing_after)
