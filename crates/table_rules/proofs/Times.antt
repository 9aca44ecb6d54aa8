-- How often an id stands in a list.
use Rattle.std.specs.Prelude.{◌≡◌, ◌≢◌, ◌⊎◌, ◌<◌, ◌≤◌, ◌+◌, ◌-◌, ◌==◌, ℕ, zero, suc, Bool, true, false, cond, List, [], ◌∷◌, ◌++◌, length, get_or, filter, count_by, IsPermutation, Some, None, refl}
use Rattle.std.proofs.Common.{sym, ◌∙◌, ap, arith, inl, inr, append_assoc, eq-eqb, ne_eqb}
use Rattle.std.proofs.lemmas.Bool.{cases_lt}
use Rattle.std.proofs.lemmas.List.{append-nil}
use Rattle.std.proofs.lemmas.List.Recursion.{is_count_by}
use Rattle.std.specs.List.Sorted.{IsNonDecreasing}
use Rattle.std.proofs.lemmas.List.Sorted.{sum_by-IsPermutation}
use Rattle.byte_map.specs.Words.{Map}
use Rattle.table_records.specs.Codecs.{typed, with_key}
use Rattle.table_records.specs.Tables.{name_codec}
use Rattle.table_rules.specs.Ids.{ids_of, id_when, id_in_pair, times}

-- ---- gathered from a walk

id_first : (k v : List ℕ) (rest : Map) → id_in_pair k v ++ ids_of (typed name_codec rest) ≡ ids_of (typed name_codec ((k, v) ∷ rest))
id_first k v rest =
    elim (name_codec.read_key k) as (λ o. id_when o v ++ ids_of (typed name_codec rest) ≡ ids_of (with_key name_codec o v (typed name_codec rest))) [
      | None ↦ refl
      | Some name ↦ refl
    ]

pub ids_next : (done all : List ℕ) (left : Map) (k v : List ℕ) (rest : Map) → done ++ ids_of (typed name_codec left) ≡ all → left ≡ (k, v) ∷ rest
    → (done ++ id_in_pair k v) ++ ids_of (typed name_codec rest) ≡ all
ids_next done all left k v rest same is =
    append_assoc done (id_in_pair k v) (ids_of (typed name_codec rest))
    ∙ ap (λ (q : List ℕ). done ++ q) (id_first k v rest)
    ∙ ap (λ (m : Map). done ++ ids_of (typed name_codec m)) (sym is)
    ∙ same

pub ids_end : (done all : List ℕ) (left : Map) → done ++ ids_of (typed name_codec left) ≡ all → left ≡ [] → done ≡ all
ids_end done all left same is =
    sym (append-nil done) ∙ ap (λ (m : Map). done ++ ids_of (typed name_codec m)) (sym is) ∙ same

-- ---- one more

here : (id x : ℕ) (xs : List ℕ) → x ≡ id → times id (x ∷ xs) ≡ suc (times id xs)
here id x xs is = ap (λ (b : Bool). cond b (suc (times id xs)) (times id xs)) (eq-eqb x id is)

elsewhere : (id x : ℕ) (xs : List ℕ) → x ≢ id → times id (x ∷ xs) ≡ times id xs
elsewhere id x xs differs = ap (λ (b : Bool). cond b (suc (times id xs)) (times id xs)) (ne_eqb x id differs)

-- no fewer than among those behind it
more : (least id x : ℕ) (xs : List ℕ) → least ≤ times id xs → least ≤ times id (x ∷ xs)
more least id x xs rest = by (x == id)
  where
    by : (b : Bool) → least ≤ cond b (suc (times id xs)) (times id xs)
    by true = omega (arith, rest)
    by false = rest

-- ---- none, one, and more than one

pub times_none : (id : ℕ) (xs : List ℕ) → ((k : ℕ) → k < length xs → get_or xs k 0 ≢ id) → times id xs ≡ 0
times_none id [] never = refl
times_none id (x ∷ xs) never = elsewhere id x xs (never 0 (omega arith)) ∙ times_none id xs (λ k low. never (suc k) (omega (arith, low)))

pub times_one : (id : ℕ) (xs : List ℕ) (i : ℕ) → i < length xs → get_or xs i 0 ≡ id
    → ((k : ℕ) → k < length xs → k ≢ i → get_or xs k 0 ≢ id) → times id xs ≡ 1
times_one id [] i low is others = absurd (omega (arith, low))
times_one id (x ∷ xs) zero low is others =
    here id x xs is ∙ ap suc (times_none id xs (λ k below. others (suc k) (omega (arith, below)) (λ e. omega (arith, e))))
times_one id (x ∷ xs) (suc i) low is others =
    elsewhere id x xs (others 0 (omega arith) (λ e. omega (arith, e)))
    ∙ times_one id xs i (omega (arith, low)) is (λ k below differs. others (suc k) (omega (arith, below)) (λ e. differs (omega (arith, e))))

pub times_some : (id : ℕ) (xs : List ℕ) (i : ℕ) → i < length xs → get_or xs i 0 ≡ id → 1 ≤ times id xs
times_some id [] i low is = absurd (omega (arith, low))
times_some id (x ∷ xs) zero low is = omega (arith, here id x xs is)
times_some id (x ∷ xs) (suc i) low is = more 1 id x xs (times_some id xs i (omega (arith, low)) is)

pub times_two : (id : ℕ) (xs : List ℕ) (i j : ℕ) → i < j → j < length xs → get_or xs i 0 ≡ id → get_or xs j 0 ≡ id → 2 ≤ times id xs
times_two id [] i j before low one two = absurd (omega (arith, low))
times_two id (x ∷ xs) i zero before low one two = absurd (omega (arith, before))
times_two id (x ∷ xs) zero (suc j) before low one two = omega (arith, here id x xs one, times_some id xs j (omega (arith, low)) two)
times_two id (x ∷ xs) (suc i) (suc j) before low one two =
    more 2 id x xs (times_two id xs i j (omega (arith, before)) (omega (arith, low)) one two)

-- ---- in another order, and among names

counted : (id : ℕ) (xs : List ℕ) → times id xs ≡ count_by (λ x. x == id) xs
counted id xs = is_count_by (times id) (λ x. x == id) refl (λ x ys. one (x == id) (times id ys)) xs
  where
    one : (b : Bool) (n : ℕ) → cond b (suc n) n ≡ cond b (1 + n) n
    one true n = omega arith
    one false n = refl

pub times_permuted : (id : ℕ) (xs ys : List ℕ) → IsPermutation xs ys → times id ys ≡ times id xs
times_permuted id xs ys same =
    counted id ys ∙ sum_by-IsPermutation (λ x. cond (x == id) 1 0) xs ys same ∙ sym (counted id xs)

pub times_named : (id : ℕ) (names : List (List ℕ × ℕ)) → length (filter (λ e. e.1 == id) names) ≡ times id (ids_of names)
times_named id [] = refl
times_named id (e ∷ names) = by (e.1 == id) (times_named id names)
  where
    by : (b : Bool) → length (filter (λ e. e.1 == id) names) ≡ times id (ids_of names)
        → length (cond b (e ∷ filter (λ e. e.1 == id) names) (filter (λ e. e.1 == id) names)) ≡ cond b (suc (times id (ids_of names))) (times id (ids_of names))
    by true rest = ap suc rest
    by false rest = rest

pub length-ids_of : (names : List (List ℕ × ℕ)) → length (ids_of names) ≡ length names
length-ids_of [] = refl
length-ids_of (e ∷ names) = ap suc (length-ids_of names)

-- ---- in order

module _ (xs : List ℕ) (up : IsNonDecreasing xs) (i : ℕ) (low : i < length xs) where
  below : (k : ℕ) → k < i → get_or xs k 0 ≡ get_or xs i 0 → (i ≡ 0) ⊎ (get_or xs (i - 1) 0 ≢ get_or xs i 0) → ⊥
  below k before same (inl first) = omega (arith, before, first)
  below k before same (inr differs) =
      differs (omega (arith, same, up k (i - 1) 0 (omega (arith, before)) (omega (arith, low, before)), up (i - 1) i 0 (omega arith) low))

  above : (k : ℕ) → i < k → k < length xs → get_or xs k 0 ≡ get_or xs i 0 → (length xs ≤ i + 1) ⊎ (get_or xs (i + 1) 0 ≢ get_or xs i 0) → ⊥
  above k behind fits same (inl last) = omega (arith, behind, fits, last)
  above k behind fits same (inr differs) =
      differs (omega (arith, same, up (i + 1) k 0 (omega (arith, behind)) fits, up i (i + 1) 0 (omega arith) (omega (arith, behind, fits))))

  -- neither neighbour is the same
  pub alone : (i ≡ 0) ⊎ (get_or xs (i - 1) 0 ≢ get_or xs i 0) → (length xs ≤ i + 1) ⊎ (get_or xs (i + 1) 0 ≢ get_or xs i 0)
      → times (get_or xs i 0) xs ≡ 1
  alone first last =
      times_one (get_or xs i 0) xs i low refl (λ k fits differs same. by k fits differs same (cases_lt k i))
    where
      by : (k : ℕ) → k < length xs → k ≢ i → get_or xs k 0 ≡ get_or xs i 0 → (k < i) ⊎ (i ≤ k) → ⊥
      by k fits differs same (inl before) = below k before same first
      by k fits differs same (inr behind) = above k (omega (arith, behind, differs)) fits same last

  pub alone_below : times (get_or xs i 0) xs ≡ 1 → (i ≡ 0) ⊎ (get_or xs (i - 1) 0 ≢ get_or xs i 0)
  alone_below one = by (cases_lt 0 i)
    where
      by : (0 < i) ⊎ (i ≤ 0) → (i ≡ 0) ⊎ (get_or xs (i - 1) 0 ≢ get_or xs i 0)
      by (inl some) = inr (λ same. omega (arith, one, times_two (get_or xs i 0) xs (i - 1) i (omega (arith, some)) low same refl))
      by (inr none) = inl (omega (arith, none))

  pub alone_above : times (get_or xs i 0) xs ≡ 1 → (length xs ≤ i + 1) ⊎ (get_or xs (i + 1) 0 ≢ get_or xs i 0)
  alone_above one = by (cases_lt (i + 1) (length xs))
    where
      by : (i + 1 < length xs) ⊎ (length xs ≤ i + 1) → (length xs ≤ i + 1) ⊎ (get_or xs (i + 1) 0 ≢ get_or xs i 0)
      by (inl more) = inr (λ same. omega (arith, one, times_two (get_or xs i 0) xs i (i + 1) (omega arith) more refl same))
      by (inr last) = inl last

-- an id that stands below all from a place on, and above those before it, is not there
pub absent : (id : ℕ) (xs : List ℕ) (i : ℕ) → ((k : ℕ) → k < i → get_or xs k 0 < id) → ((k : ℕ) → i ≤ k → k < length xs → id < get_or xs k 0)
    → times id xs ≡ 0
absent id xs i lower higher = times_none id xs (λ k fits same. by k fits same (cases_lt k i))
  where
    by : (k : ℕ) → k < length xs → get_or xs k 0 ≡ id → (k < i) ⊎ (i ≤ k) → ⊥
    by k fits same (inl before) = omega (arith, same, lower k before)
    by k fits same (inr behind) = omega (arith, same, higher k behind fits)
