use Rattle.std.proofs.Common.{ℕ, suc, ◌+◌, ◌-◌, ◌<◌, ◌≡◌, ◌⊎◌, inl, inr, List, [], ◌∷◌, ◌++◌, length, take, drop, get_or, sym, ◌∙◌, ap, arith, length-append, length-drop, append_assoc}
use Rattle.std.specs.List.{slice_set}
use Rattle.std.proofs.Math.Seq.{drop-cons}
use Rattle.std.proofs.lemmas.List.{length-take-le, set_split, drop-set-lt, take_more_set, append-nil, drop_all}
use Rattle.regression_chunker.specs.Fingerprint.{print_after, print_of}
use Rattle.regression_chunker.specs.Tables.{push_of}
use Rattle.regression_chunker.proofs.Algebra.{pushed}

abbrev pub view : ℕ → List ℕ → List ℕ
view at ring = drop at ring ++ take at ring

abbrev tail_of : ℕ → List ℕ → List ℕ
tail_of at ring = drop (suc at) ring ++ take at ring

before : (ring : List ℕ) (at : ℕ) → at < length ring → view at ring ≡ get_or ring at 0 ∷ tail_of at ring
before ring at there = ap (λ l. l ++ take at ring) (drop-cons ring at 0 there)

after : (ring : List ℕ) (at next new : ℕ) → length ring ≡ 48 → at < 48 → ((at ≡ 47) × (next ≡ 0)) ⊎ (next ≡ at + 1) →
    view next (slice_set ring at new) ≡ tail_of at ring ++ new ∷ []
after ring at next new long there turns = elim turns [
  | inl last ↦
      let none : drop (suc at) ring ≡ [] = drop_all (suc at) ring (omega (arith, long, last.0)) in
      let here : at < length ring = omega (arith, long, there) in
      ap (λ k. view k (slice_set ring at new)) last.1 ∙ append-nil (slice_set ring at new)
      ∙ set_split ring at new here ∙ ap (λ l. take at ring ++ new ∷ l) none
      ∙ sym (ap (λ l. l ++ take at ring ++ new ∷ []) none)
  | inr more ↦
      let here : at < length ring = omega (arith, long, there) in
      let past : at + 1 ≡ suc at = omega arith in
      ap (λ k. view k (slice_set ring at new)) more
      ∙ ap (λ l. l ++ take (at + 1) (slice_set ring at new)) (drop-set-lt (at + 1) ring at new (omega arith) ∙ ap (λ k. drop k ring) past)
      ∙ ap (λ l. drop (suc at) ring ++ l) (take_more_set ring at new here)
      ∙ sym (append_assoc (drop (suc at) ring) (take at ring) (new ∷ []))
]

pub turned : (ring : List ℕ) (at next new : ℕ) → length ring ≡ 48 → at < 48 → ((at ≡ 47) × (next ≡ 0)) ⊎ (next ≡ at + 1) →
    view next (slice_set ring at new) ≡ drop 1 (view at ring) ++ new ∷ []
turned ring at next new long there turns =
    after ring at next new long there turns ∙ sym (ap (λ l. drop 1 l ++ new ∷ []) (before ring at (omega (arith, long, there))))

pub ring_push : (ring : List ℕ) (at next new print : ℕ) → length ring ≡ 48 → at < 48 → ((at ≡ 47) × (next ≡ 0)) ⊎ (next ≡ at + 1) →
    get_or ring at 0 < 256 → new < 256 → print ≡ print_of (view at ring) → push_of print new (get_or ring at 0) ≡ print_of (view next (slice_set ring at new))
ring_push ring at next new print long there turns old small is =
    let o : ℕ = get_or ring at 0 in
    let rest : length (drop (suc at) ring) ≡ length ring - suc at = length-drop (suc at) ring in
    let head : length (take at ring) ≡ at = length-take-le at ring (omega (arith, long, there)) in
    let count : length (tail_of at ring) ≡ 47 = length-append (drop (suc at) ring) (take at ring) ∙ omega (arith, rest, head, long, there) in
    ap (λ v. push_of v new o) (is ∙ ap (λ w. print_after 0 w) (before ring at (omega (arith, long, there))))
    ∙ sym (pushed o (tail_of at ring) new old small count)
    ∙ sym (ap (λ w. print_after 0 w) (after ring at next new long there turns))
