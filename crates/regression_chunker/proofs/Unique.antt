use Rattle.std.proofs.Common.{ℕ, zero, suc, ◌+◌, ◌-◌, ◌%◌, ◌^◌, ◌<◌, ◌≤◌, ◌⊎◌, inl, inr, min, List, [], ◌∷◌, ◌++◌, length, length-append, drop, replicate, Option, Some, None, ◌≡◌, refl, sym, ◌∙◌, ap, subst, arith}
use Rattle.std.proofs.lemmas.List.{length-replicate}
use Rattle.std.proofs.lemmas.Bool.{cases_lt}
use Rattle.regression_chunker.specs.Cuts.{IsMatch, NoMatch, IsFirstMatch, IsLastMatch, LastOr, IsRegression, IsCut, IsEnough, Decides}
use Rattle.regression_chunker.specs.Pieces.{known_start, IsPieces}
use Rattle.regression_chunker.proofs.Decided.{Greatest, From12, From13, From14}

-- ---- a rest has one cut at most

apart : (p q : ℕ) → ¬ (p < q) → ¬ (q < p) → p ≡ q
apart p q one other = elim (cases_lt p q) [
  | inl less ↦ absurd (one less)
  | inr le ↦ elim (cases_lt q p) [ inl less ↦ absurd (other less) | inr le2 ↦ omega (arith, le, le2) ]
]

first_unique : (k : ℕ) (rest : List ℕ) (from last p q : ℕ) → IsFirstMatch k rest from last p → IsFirstMatch k rest from last q → p ≡ q
first_unique k rest from last p q (low, within, is, none) (low2, within2, is2, none2) =
    apart p q (λ less. none2 p low less is) (λ less. none q low2 less is2)

last_unique : (k : ℕ) (rest : List ℕ) (from last p q : ℕ) → IsLastMatch k rest from last p → IsLastMatch k rest from last q → p ≡ q
last_unique k rest from last p q (low, within, is, none) (low2, within2, is2, none2) =
    apart p q (λ less. none q less within2 is2) (λ less. none2 p less within is)

last_or_unique : (k : ℕ) (rest : List ℕ) (P : ℕ → Type 0) → ((p q : ℕ) → P p → P q → p ≡ q) →
    (p q : ℕ) → LastOr k rest P p → LastOr k rest P q → p ≡ q
last_or_unique k rest P other p q one two = elim one [
  | inl last ↦ elim two [
    | inl last2 ↦ last_unique k rest 32768 131072 p q last last2
    | inr (none, else2) ↦ absurd (none p last.0 last.1 last.2)
  ]
  | inr (none, else) ↦ elim two [
    | inl last2 ↦ absurd (none q last2.0 last2.1 last2.2)
    | inr (none2, else2) ↦ other p q else else2
  ]
]

regression_unique : (rest : List ℕ) (p q : ℕ) → IsRegression rest p → IsRegression rest q → p ≡ q
regression_unique rest p q =
    last_or_unique 15 rest (From14 rest)
    (last_or_unique 14 rest (From13 rest)
    (last_or_unique 13 rest (From12 rest)
    (last_or_unique 12 rest Greatest (λ a b one two. one ∙ sym two)))) p q

pub cut_unique : (rest : List ℕ) (p q : ℕ) → IsCut rest p → IsCut rest q → p ≡ q
cut_unique rest p q one two = elim one [
  | inl first ↦ elim two [
    | inl first2 ↦ first_unique 16 rest 32768 (min (length rest) 131072) p q first first2
    | inr (none, other2) ↦ absurd (none p first.0 first.1 first.2)
  ]
  | inr (none, other) ↦ elim two [
    | inl first2 ↦ absurd (none q first2.0 first2.1 first2.2)
    | inr (none2, other2) ↦ elim other [
      | inl (short, end) ↦ elim other2 [ inl (short2, end2) ↦ end ∙ sym end2 | inr (long2, is2) ↦ omega (arith, short, long2) ]
      | inr (long, is) ↦ elim other2 [ inl (short2, end2) ↦ omega (arith, long, short2) | inr (long2, is2) ↦ regression_unique rest p q is is2 ]
    ]
  ]
]

-- bytes that may follow a start
pub zeros : ℕ → List ℕ
zeros n = replicate n 0

pub zeros_after : (start : List ℕ) (n : ℕ) → length start ≤ n → length start + length (zeros (n - length start)) ≡ n
unfolding zeros
zeros_after start n le =
    let nothing : ℕ = 0 in
    let long : length (replicate (n - length start) nothing) ≡ n - length start = length-replicate (n - length start) nothing in
    omega (arith, le, long)

pub decided_unique : (start : List ℕ) (n p q : ℕ) → length start ≤ n → Decides start n p → Decides start n q → p ≡ q
decided_unique start n p q le (enough, one) (enough2, two) =
    let more : List ℕ = zeros (n - length start) in
    cut_unique (start ++ more) p q (one more (zeros_after start n le)) (two more (zeros_after start n le))

-- ---- cells have one list of pieces at most

pub known_fits : (cells : List (Option ℕ)) → length (known_start cells) ≤ length cells
unfolding known_start
known_fits [] = omega arith
known_fits (None ∷ cells) = omega arith
known_fits (Some byte ∷ cells) = let le : length (known_start cells) ≤ length cells = known_fits cells in omega (arith, le)

ends_there : (cells : List (Option ℕ)) (n : ℕ) → (cells ≡ []) ⊎ ¬ (IsEnough (known_start cells) (length cells)) →
    0 < length cells → Decides (known_start cells) (length cells) n → ⊥
ends_there cells n end some decided = elim end [
  | inl none ↦ let e : length cells ≡ 0 = ap length none in omega (arith, e, some)
  | inr not_enough ↦ not_enough decided.0
]

pub pieces_unique : (cells : List (Option ℕ)) (ns ms : List ℕ) → IsPieces cells ns → IsPieces cells ms → ns ≡ ms
unfolding IsPieces
pieces_unique cells [] [] one two = refl
pieces_unique cells [] (m ∷ ms) end (some, decided, more) = absurd (ends_there cells m end some decided)
pieces_unique cells (n ∷ ns) [] (some, decided, more) end = absurd (ends_there cells n end some decided)
pieces_unique cells (n ∷ ns) (m ∷ ms) (some, decided, more) (some2, decided2, more2) =
    let same : n ≡ m = decided_unique (known_start cells) (length cells) n m (known_fits cells) decided decided2 in
    ap (λ x. x ∷ ns) same
    ∙ ap (λ l. m ∷ l) (pieces_unique (drop m cells) ns ms (subst (λ x. IsPieces (drop x cells) ns) same more) more2)
