use Rattle.std.proofs.Common.{ℕ, ◌+◌, ◌-◌, ◌%◌, ◌^◌, ◌<◌, ◌≤◌, ◌⊎◌, inl, inr, min, List, ◌++◌, take, drop, length, length-drop, length-append, Option, Some, None, unwrap_or, ◌≡◌, sym, ◌∙◌, ap, subst, arith}
use Rattle.std.specs.Option.{option_or}
use Rattle.std.proofs.lemmas.List.{drop-append-le, take-append-le}
use Rattle.regression_chunker.specs.Fingerprint.{print_after}
use Rattle.regression_chunker.specs.Cuts.{print_at, IsMatch, NoMatch, IsFirstMatch, IsLastMatch, LastOr, IsRegression, IsCut, IsEnough, Decides}
use Rattle.regression_chunker.specs.Sees.{LastIn}

-- ---- from the start of a rest to the whole rest

pub same_place : (xs ys : List ℕ) (p : ℕ) → p ≤ length xs → print_at (xs ++ ys) p ≡ print_at xs p
unfolding print_at
same_place xs ys p le =
    let left : length (drop (p - 48) xs) ≡ length xs - (p - 48) = length-drop (p - 48) xs in
    let split : drop (p - 48) (xs ++ ys) ≡ drop (p - 48) xs ++ ys = drop-append-le (p - 48) xs ys (omega (arith, le)) in
    ap (λ w. print_after 0 w)
    (ap (λ l. take (p - (p - 48)) l) split ∙ take-append-le (p - (p - 48)) (drop (p - 48) xs) ys (omega (arith, left, le)))

pub match_longer : (k : ℕ) (xs ys : List ℕ) (p : ℕ) → p ≤ length xs → IsMatch k xs p → IsMatch k (xs ++ ys) p
match_longer k xs ys p le is = subst (λ v. v % 2 ^ k ≡ 2 ^ k - 1) (sym (same_place xs ys p le)) is

pub match_shorter : (k : ℕ) (xs ys : List ℕ) (p : ℕ) → p ≤ length xs → IsMatch k (xs ++ ys) p → IsMatch k xs p
match_shorter k xs ys p le is = subst (λ v. v % 2 ^ k ≡ 2 ^ k - 1) (same_place xs ys p le) is

pub none_longer : (k : ℕ) (xs ys : List ℕ) (from last : ℕ) → last ≤ length xs → NoMatch k xs from last → NoMatch k (xs ++ ys) from last
none_longer k xs ys from last le none q low within found =
    none q low within (match_shorter k xs ys q (omega (arith, le, within)) found)

pub first_longer : (k : ℕ) (xs ys : List ℕ) (from last end p : ℕ) → last ≤ length xs → last ≤ end →
    IsFirstMatch k xs from last p → IsFirstMatch k (xs ++ ys) from end p
first_longer k xs ys from last end p le further (low, within, is, none) = (
  low,
  omega (arith, within, further),
  match_longer k xs ys p (omega (arith, le, within)) is,
  λ q starts below found. none q starts below (match_shorter k xs ys q (omega (arith, le, within, below)) found),
)

pub last_longer : (k : ℕ) (xs ys : List ℕ) (from last p : ℕ) → last ≤ length xs →
    IsLastMatch k xs from last p → IsLastMatch k (xs ++ ys) from last p
last_longer k xs ys from last p le (low, within, is, none) = (
  low,
  within,
  match_longer k xs ys p (omega (arith, le, within)) is,
  λ q above before found. none q above before (match_shorter k xs ys q (omega (arith, le, before)) found),
)

last_or_longer : (k : ℕ) (xs ys : List ℕ) (P Q : ℕ → Type 0) → 131072 ≤ length xs → ((p : ℕ) → P p → Q p) →
    (p : ℕ) → LastOr k xs P p → LastOr k (xs ++ ys) Q p
last_or_longer k xs ys P Q le other p is = elim is [
  | inl last ↦ inl (last_longer k xs ys 32768 131072 p le last)
  | inr (none, else) ↦ inr (none_longer k xs ys 32768 131072 le none, other p else)
]

-- the parts of the regression
abbrev pub Greatest : ℕ → Type 0
Greatest p = p ≡ 131072

abbrev pub From12 : List ℕ → ℕ → Type 0
From12 rest = LastOr 12 rest Greatest

abbrev pub From13 : List ℕ → ℕ → Type 0
From13 rest = LastOr 13 rest (From12 rest)

abbrev pub From14 : List ℕ → ℕ → Type 0
From14 rest = LastOr 14 rest (From13 rest)

pub regression_longer : (xs ys : List ℕ) (p : ℕ) → 131072 ≤ length xs → IsRegression xs p → IsRegression (xs ++ ys) p
regression_longer xs ys p le =
    last_or_longer 15 xs ys (From14 xs) (From14 (xs ++ ys)) le
    (last_or_longer 14 xs ys (From13 xs) (From13 (xs ++ ys)) le
    (last_or_longer 13 xs ys (From12 xs) (From12 (xs ++ ys)) le
    (last_or_longer 12 xs ys Greatest Greatest le (λ q is. is)))) p

-- ---- starts that decide

pub full_match_decides : (start : List ℕ) (n p : ℕ) → IsFirstMatch 16 start 32768 (min (length start) 131072) p → Decides start n p
full_match_decides start n p first =
    let (low, within, is, none) = first in (
      inl (p, low, within, is),
      λ more long.
          let whole : length (start ++ more) ≡ length start + length more = length-append start more in
          inl (first_longer 16 start more 32768 (min (length start) 131072) (min (length (start ++ more)) 131072) p
          (omega arith) (omega (arith, whole)) first),
    )

pub regression_decides : (start : List ℕ) (n p : ℕ) → 131072 ≤ length start → 131072 < n →
    NoMatch 16 start 32768 (min (length start) 131072) → IsRegression start p → Decides start n p
regression_decides start n p enough many none is = (
  inr (omega (arith, enough)),
  λ more long.
      let whole : length (start ++ more) ≡ n = length-append start more ∙ long in
      let most : min (length start) 131072 ≡ min (length (start ++ more)) 131072 = omega (arith, whole, enough, many) in
      inr (
        subst (NoMatch 16 (start ++ more) 32768) most
            (none_longer 16 start more 32768 (min (length start) 131072) (omega arith) none),
        inr (omega (arith, whole, many), regression_longer start more p enough is),
      ),
)

-- ---- the regression of what a scan has seen

pub regression_is : (rest : List ℕ) (a b c d : Option ℕ) (p : ℕ) →
    LastIn 15 rest 32768 131072 a → LastIn 14 rest 32768 131072 b → LastIn 13 rest 32768 131072 c → LastIn 12 rest 32768 131072 d →
    p ≡ unwrap_or (option_or (option_or (option_or a b) c) d) 131072 → IsRegression rest p
regression_is rest (Some x) b c d p la lb lc ld is = inl (subst (IsLastMatch 15 rest 32768 131072) (sym is) la)
regression_is rest None (Some x) c d p la lb lc ld is = inr (la, inl (subst (IsLastMatch 14 rest 32768 131072) (sym is) lb))
regression_is rest None None (Some x) d p la lb lc ld is = inr (la, inr (lb, inl (subst (IsLastMatch 13 rest 32768 131072) (sym is) lc)))
regression_is rest None None None (Some x) p la lb lc ld is =
    inr (la, inr (lb, inr (lc, inl (subst (IsLastMatch 12 rest 32768 131072) (sym is) ld))))
regression_is rest None None None None p la lb lc ld is = inr (la, inr (lb, inr (lc, inr (ld, is))))
