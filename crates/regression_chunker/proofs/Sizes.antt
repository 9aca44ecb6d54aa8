use Rattle.std.proofs.Common.{ℕ, zero, suc, ◌+◌, ◌-◌, ◌%◌, ◌^◌, ◌<◌, ◌≤◌, ◌⊎◌, inl, inr, min, sum, List, [], ◌∷◌, ◌++◌, length, length-append, length-drop, append_assoc, drop, map, get_or, Option, Some, None, ◌≡◌, refl, sym, ◌∙◌, ap, subst, arith}
use Rattle.std.proofs.lemmas.List.Sums.{sum_by-cons}
use Rattle.std.proofs.lemmas.Bool.{cases_lt}
use Rattle.regression_chunker.specs.Cuts.{IsMatch, NoMatch, LastOr, IsRegression, IsCut, IsEnough, Decides}
use Rattle.regression_chunker.specs.Pieces.{known_start, IsPieces}
use Rattle.regression_chunker.proofs.Decided.{match_longer, Greatest, From12, From13, From14}
use Rattle.regression_chunker.proofs.Unique.{zeros, zeros_after, known_fits}

-- ---- the size of a piece

abbrev InRange : ℕ → Type 0
InRange p = (32768 ≤ p) × (p ≤ 131072)

last_or_in_range : (k : ℕ) (rest : List ℕ) (P : ℕ → Type 0) → ((p : ℕ) → P p → InRange p) → (p : ℕ) → LastOr k rest P p → InRange p
last_or_in_range k rest P other p is = elim is [ inl last ↦ (last.0, last.1) | inr (none, else) ↦ other p else ]

regression_in_range : (rest : List ℕ) (p : ℕ) → IsRegression rest p → InRange p
regression_in_range rest p =
    last_or_in_range 15 rest (From14 rest)
    (last_or_in_range 14 rest (From13 rest)
    (last_or_in_range 13 rest (From12 rest)
    (last_or_in_range 12 rest Greatest (λ q is. (omega (arith, is), omega (arith, is)))))) p

-- a cut lies within the rest, and is early only at its end
pub record Bounds (n p : ℕ) : Type 0 where
  pub within : p ≤ min n 131072
  pub early : (32768 ≤ p) ⊎ (p ≡ n)

pub cut_bounds : (rest : List ℕ) (p : ℕ) → IsCut rest p → Bounds (length rest) p
cut_bounds rest p is = elim is [
  | inl first ↦ record { within = first.1; early = inl first.0 }
  | inr (none, other) ↦ elim other [
    | inl (short, end) ↦ record { within = omega (arith, short, end); early = inr end }
    | inr (long, by) ↦
        let range : InRange p = regression_in_range rest p by in
        record { within = omega (arith, range.1, long); early = inl range.0 }
  ]
]

-- a start that holds a full match is not cut later
cut_by_match : (rest : List ℕ) (p e : ℕ) → IsCut rest p → 32768 ≤ e → e ≤ min (length rest) 131072 → IsMatch 16 rest e → p ≤ e
cut_by_match rest p e is low within here = elim is [
  | inl first ↦ elim (cases_lt e p) [ inl less ↦ absurd (first.3 e low less here) | inr le ↦ le ]
  | inr (none, other) ↦ absurd (none e low within here)
]

pub decided_bounds : (start : List ℕ) (n p : ℕ) → length start ≤ n → Decides start n p → Bounds n p × (p ≤ length start)
decided_bounds start n p le (enough, each) =
    let more : List ℕ = zeros (n - length start) in
    let all : length start + length more ≡ n = zeros_after start n le in
    let whole : length (start ++ more) ≡ length start + length more = length-append start more in
    let is : IsCut (start ++ more) p = each more all in
    let bounds : Bounds n p = subst (λ m. Bounds m p) (whole ∙ all) (cut_bounds (start ++ more) p is) in
    let bound : p ≤ min n 131072 = bounds.within in (
      bounds,
      elim enough [
        | inl (e, low, within, here) ↦
            let le_e : p ≤ e =
            cut_by_match (start ++ more) p e is low (omega (arith, within, whole)) (match_longer 16 start more e (omega (arith, within)) here) in
            omega (arith, le_e, within)
        | inr held ↦ omega (arith, held, bound)
      ],
    )

-- ---- what follows a start that decides changes nothing

pub longer_decides : (start more : List ℕ) (n p : ℕ) → length start + length more ≤ n → Decides start n p → Decides (start ++ more) n p
longer_decides start more n p le (enough, each) =
    let whole : length (start ++ more) ≡ length start + length more = length-append start more in (
      elim enough [
        | inl (e, low, within, here) ↦ inl (e, low, omega (arith, within, whole), match_longer 16 start more e (omega (arith, within)) here)
        | inr held ↦ inr (omega (arith, held, whole))
      ],
      λ rest long.
          let two : length (more ++ rest) ≡ length more + length rest = length-append more rest in
          subst (λ l. IsCut l p) (sym (append_assoc start more rest)) (each (more ++ rest) (omega (arith, two, whole, long))),
    )

pub not_enough : (start : List ℕ) (n : ℕ) → length start < min n 131072 → NoMatch 16 start 32768 (length start) → ¬ (IsEnough start n)
not_enough start n less none enough = elim enough [
  | inl (e, low, within, here) ↦ none e low (omega (arith, within)) here
  | inr held ↦ omega (arith, held, less)
]

-- ---- the pieces of a file

pub all_known : (bytes : List ℕ) → known_start (map (λ b. Some b) bytes) ≡ bytes
unfolding known_start
all_known [] = refl
all_known (b ∷ bs) = ap (λ l. b ∷ l) (all_known bs)

known_after : (n : ℕ) (cells : List (Option ℕ)) → n ≤ length (known_start cells) →
    length (known_start (drop n cells)) + n ≡ length (known_start cells)
unfolding known_start
known_after zero cells le = omega arith
known_after (suc n) [] le = omega (arith, le)
known_after (suc n) (None ∷ cells) le = omega (arith, le)
known_after (suc n) (Some byte ∷ cells) le =
    let rest : length (known_start (drop n cells)) + n ≡ length (known_start cells) = known_after n cells (omega (arith, le)) in
    omega (arith, rest)

one_more : (n : ℕ) (ns : List ℕ) → sum (n ∷ ns) ≡ n + sum ns
one_more n ns = sum_by-cons (λ x. x) n ns

pub pieces_within : (cells : List (Option ℕ)) (ns : List ℕ) → IsPieces cells ns → sum ns ≤ length (known_start cells)
unfolding IsPieces
pieces_within cells [] end = omega arith
pieces_within cells (n ∷ ns) (some, decided, more) =
    let held : n ≤ length (known_start cells) = (decided_bounds (known_start cells) (length cells) n (known_fits cells) decided).1 in
    let left : length (known_start (drop n cells)) + n ≡ length (known_start cells) = known_after n cells held in
    let others : sum ns ≤ length (known_start (drop n cells)) = pieces_within (drop n cells) ns more in
    let total : sum (n ∷ ns) ≡ n + sum ns = one_more n ns in
    omega (arith, total, others, left)

pub pieces_cover : (cells : List (Option ℕ)) (ns : List ℕ) → length (known_start cells) ≡ length cells → IsPieces cells ns → sum ns ≡ length cells
unfolding IsPieces
pieces_cover cells [] whole end = elim end [
  | inl none ↦ sym (ap length none)
  | inr not_so ↦ absurd (not_so (inr (omega (arith, whole))))
]
pieces_cover cells (n ∷ ns) whole (some, decided, more) =
    let held : n ≤ length (known_start cells) = (decided_bounds (known_start cells) (length cells) n (known_fits cells) decided).1 in
    let left : length (known_start (drop n cells)) + n ≡ length (known_start cells) = known_after n cells held in
    let dropped : length (drop n cells) ≡ length cells - n = length-drop n cells in
    let others : sum ns ≡ length (drop n cells) = pieces_cover (drop n cells) ns (omega (arith, left, dropped, whole)) more in
    let total : sum (n ∷ ns) ≡ n + sum ns = one_more n ns in
    omega (arith, total, others, left, dropped, whole)

-- at each piece but the last there is a rest behind it
size_at : (cells : List (Option ℕ)) (n : ℕ) → 0 < length cells → Decides (known_start cells) (length cells) n → (0 < n) × (n ≤ 131072)
size_at cells n some decided =
    let bounds = (decided_bounds (known_start cells) (length cells) n (known_fits cells) decided).0 in
    let within : n ≤ min (length cells) 131072 = bounds.within in
    (elim bounds.early [ inl low ↦ omega (arith, low) | inr end ↦ omega (arith, end, some) ], omega (arith, within))

pub piece_sizes : (cells : List (Option ℕ)) (ns : List ℕ) → IsPieces cells ns →
    (i : ℕ) → i < length ns → (0 < get_or ns i 0) × (get_or ns i 0 ≤ 131072)
unfolding IsPieces
piece_sizes cells [] end i less = absurd (omega (arith, less))
piece_sizes cells (n ∷ ns) (some, decided, more) zero less = size_at cells n some decided
piece_sizes cells (n ∷ ns) (some, decided, more) (suc i) less = piece_sizes (drop n cells) ns more i (omega (arith, less))

more_pieces : (cells : List (Option ℕ)) (ns : List ℕ) → IsPieces cells ns → 0 < length ns → 0 < length cells
unfolding IsPieces
more_pieces cells [] end less = omega (arith, less)
more_pieces cells (n ∷ ns) (some, decided, more) less = some

pub not_short : (cells : List (Option ℕ)) (ns : List ℕ) → IsPieces cells ns → (i : ℕ) → i + 1 < length ns → 32768 ≤ get_or ns i 0
unfolding IsPieces
not_short cells [] end i less = absurd (omega (arith, less))
not_short cells (n ∷ ns) (some, decided, more) zero less =
    let left : 0 < length (drop n cells) = more_pieces (drop n cells) ns more (omega (arith, less)) in
    let dropped : length (drop n cells) ≡ length cells - n = length-drop n cells in
    elim (decided_bounds (known_start cells) (length cells) n (known_fits cells) decided).0.early [
      | inl low ↦ low
      | inr end ↦ omega (arith, end, left, dropped)
    ]
not_short cells (n ∷ ns) (some, decided, more) (suc i) less = not_short (drop n cells) ns more i (omega (arith, less))
