-- What a table of slots stands for, after a slot is filled, and after it is made anew.
use Rattle.std.proofs.Common.{◌≡◌, ◌≢◌, ℕ, zero, suc, ◌<◌, ◌≤◌, ◌+◌, ◌*◌, ◌⊎◌, inl, inr, List, [], ◌∷◌, ◌++◌, Bool, true, false, cond, refl, sym, ◌∙◌, ap, subst, arith, Option, Some, None, IsSome, is_some, length, get_or, set, take, drop, nat_lt, count_by, Contains, length-append, get_or-set_same, get_or-set_other, append_assoc}
use Rattle.std.proofs.Math.ListN.{length-set}
use Rattle.std.proofs.lemmas.Bool.{cases_eq}
use Rattle.std.proofs.lemmas.Bool.Decides.{nat_tests}
use Rattle.std.proofs.lemmas.Grind.{common_steps}
use Rattle.std.proofs.lemmas.List.{take_more, append-nil, take-append-drop, length_push}
use Rattle.std.proofs.lemmas.List.Sums.{sum_by-set}
use Rattle.std.proofs.lemmas.List.Elements.{Contains-append_left, Contains-append_right, Contains-append_cases, Contains-push, Contains-push_cases}
use Rattle.hash_index.specs.Pairs.{Pair, Agrees, IsKnown, Finds, Keeps}
use Rattle.hash_index.specs.Probe.{around, home_of, is_used, Reaches, IsVacancy, IsCandidate, FindsReached}
use Rattle.hash_index.specs.Slots.{SlotTable, SlotsStandFor, told_pair, known_pair, known_pairs}

-- ---- a search answers as the pairs have it

candidate_held : (tells : ℕ → Option (List ℕ)) (table : SlotTable) (pairs : List Pair) (digest : List ℕ) (after id place : ℕ)
    → SlotsStandFor table pairs → Agrees tells pairs → IsCandidate tells digest after id → get_or table.slots place 0 ≡ id
    → Contains pairs (digest, id)
candidate_held tells table pairs digest after id place stands agrees c e =
    let above : after < id = c.0 in
    let owner : (d : List ℕ) × Contains pairs (d, id) =
    subst (λ (n : ℕ). (d : List ℕ) × Contains pairs (d, n)) e (stands.owned place (omega (arith, e))) in
    elim (agrees (owner.0, id) owner.1) [
      | inl told ↦
          (let here : tells id ≡ Some owner.0 = told in
          let there : tells id ≡ Some digest = c.1 in
          let same : owner.0 ≡ digest = cc in
          subst (λ (d : List ℕ). Contains pairs (d, id)) same owner.1)
      | inr none ↦
          (let here : tells id ≡ None = none in
          let there : tells id ≡ Some digest = c.1 in
          absurd (cc))
    ]

reached_known : (tells : ℕ → Option (List ℕ)) (table : SlotTable) (pairs : List Pair) (digest : List ℕ) (after id : ℕ)
    → SlotsStandFor table pairs → IsKnown tells pairs digest after id
    → Reaches (length table.slots) table.slots (home_of (length table.slots) digest) id
reached_known tells table pairs digest after id stands k = stands.placed (digest, id) k.held

pub finds : (tells : ℕ → Option (List ℕ)) (table : SlotTable) (pairs : List Pair) (digest : List ℕ) (after : ℕ) (result : Option ℕ)
    → FindsReached tells table.slots (home_of (length table.slots) digest) digest after result
    → SlotsStandFor table pairs → Agrees tells pairs → Finds tells pairs digest after result
finds tells table pairs digest after None found stands agrees = λ id k.
    found id (k.above, k.known) (reached_known tells table pairs digest after id stands k)
finds tells table pairs digest after (Some id) found stands agrees = (
  record {
    above = found.0.0;
    held = candidate_held tells table pairs digest after id found.1.0 stands agrees found.0 found.1.1;
    known = found.0.1;
  },
  λ other k. found.2 other (k.above, k.known) (reached_known tells table pairs digest after other stands k),
)

-- no slots hold nothing
pub finds_nothing : (tells : ℕ → Option (List ℕ)) (table : SlotTable) (pairs : List Pair) (digest : List ℕ) (after : ℕ)
    → length table.slots ≡ 0 → SlotsStandFor table pairs → Finds tells pairs digest after None
finds_nothing tells table pairs digest after empty stands = λ id k.
    let reached : Reaches (length table.slots) table.slots (home_of (length table.slots) digest) id = reached_known tells table pairs digest after id stands k in
    let within : reached.step < length table.slots = reached.within in
    omega arith

-- ---- a slot is filled

still_reached : (count : ℕ) (slots : List ℕ) (home place id new : ℕ) → get_or slots place 0 ≡ 0 → 0 < id
    → Reaches count slots home id → Reaches count (set slots place new) home id
still_reached count slots home place id new empty some reached = record {
  step = reached.step;
  within = reached.within;
  there =
      (let ne : around count home reached.step ≢ place = λ e.
      (let zero_is : id ≡ 0 = sym reached.there ∙ (ap (λ k. get_or slots k 0) e ∙ empty) in omega arith) in
      get_or-set_other slots place (around count home reached.step) new 0 ne ∙ reached.there);
  filled = λ j lt e.
      (let ne : around count home j ≢ place = λ at. reached.filled j lt (ap (λ k. get_or slots k 0) at ∙ empty) in
      reached.filled j lt (sym (get_or-set_other slots place (around count home j) new 0 ne) ∙ e));
}

new_reached : (count : ℕ) (slots : List ℕ) (home place new : ℕ) → place < length slots → IsVacancy count slots home place
    → Reaches count (set slots place new) home new
new_reached count slots home place new lt vacant = record {
  step = vacant.step;
  within = vacant.within;
  there = ap (λ k. get_or (set slots place new) k 0) (sym vacant.is_place) ∙ get_or-set_same slots place new 0 lt;
  filled = λ j below e.
      (let ne : around count home j ≢ place = λ at. vacant.filled j below (ap (λ k. get_or slots k 0) at ∙ vacant.empty) in
      vacant.filled j below (sym (get_or-set_other slots place (around count home j) new 0 ne) ∙ e));
}

owned_still : (slots : List ℕ) (pairs : List Pair) (digest : List ℕ) (place new other : ℕ) → place < length slots
    → ((at : ℕ) → 0 < get_or slots at 0 → (d : List ℕ) × Contains pairs (d, get_or slots at 0))
    → 0 < get_or (set slots place new) other 0
    → (d : List ℕ) × Contains (pairs ++ (digest, new) ∷ []) (d, get_or (set slots place new) other 0)
owned_still slots pairs digest place new other lt owned some = elim (cases_eq other place) [
  | inl e ↦
      (let same : get_or (set slots place new) other 0 ≡ new = ap (λ k. get_or (set slots place new) k 0) e ∙ get_or-set_same slots place new 0 lt in
      subst (λ (n : ℕ). (d : List ℕ) × Contains (pairs ++ (digest, new) ∷ []) (d, n)) (sym same)
      (digest, Contains-push pairs (digest, new)))
  | inr ne ↦
      (let same : get_or (set slots place new) other 0 ≡ get_or slots other 0 = get_or-set_other slots place other new 0 ne in
      let owner : (d : List ℕ) × Contains pairs (d, get_or slots other 0) = owned other (subst (λ (n : ℕ). 0 < n) same some) in
      subst (λ (n : ℕ). (d : List ℕ) × Contains (pairs ++ (digest, new) ∷ []) (d, n)) (sym same)
      (owner.0, Contains-append_left pairs ((digest, new) ∷ []) (owner.0, get_or slots other 0) owner.1))
]

pub placed_more : (table : SlotTable) (pairs : List Pair) (digest : List ℕ) (place new : ℕ) → 0 < new → place < length table.slots
    → IsVacancy (length table.slots) table.slots (home_of (length table.slots) digest) place → SlotsStandFor table pairs
    → SlotsStandFor (record { slots = set table.slots place new; held = table.held + 1 }) (pairs ++ (digest, new) ∷ [])
placed_more table pairs digest place new some lt vacant stands = record {
  least = λ p c. elim (Contains-push_cases pairs (digest, new) p c) [
    | inl old ↦ stands.least p old
    | inr e ↦ subst (λ (q : Pair). 0 < q.1) e some
  ];
  placed = λ p c.
      (let count : ℕ = length table.slots in
      subst (λ (n : ℕ). Reaches n (set table.slots place new) (home_of n p.0) p.1) (sym (length-set table.slots place new))
      (elim (Contains-push_cases pairs (digest, new) p c) [
        | inl old ↦ still_reached (length table.slots) table.slots (home_of (length table.slots) p.0) place p.1 new vacant.empty (stands.least p old) (stands.placed p old)
        | inr e ↦ subst (λ (q : Pair). Reaches (length table.slots) (set table.slots place new) (home_of (length table.slots) q.0) q.1) e
            (new_reached (length table.slots) table.slots (home_of (length table.slots) digest) place new lt vacant)
      ]));
  owned = λ other some_there. owned_still table.slots pairs digest place new other lt stands.owned some_there;
  counted =
      (let e : length pairs ≡ table.held = stands.counted in
      let more : length (pairs ++ (digest, new) ∷ []) ≡ length pairs + 1 = grind (arith, common_steps) in
      omega arith);
}

some_counts : (id : ℕ) → 0 < id → cond {A = ℕ} (is_used id) 1 0 ≡ 1
some_counts id some = grind (arith, nat_tests)

pub counted_more : (slots : List ℕ) (place new : ℕ) → 0 < new → place < length slots → get_or slots place 0 ≡ 0
    → count_by is_used (set slots place new) ≡ count_by is_used slots + 1
counted_more slots place new some lt empty =
    let sums : count_by is_used (set slots place new) + cond {A = ℕ} (is_used (get_or slots place 0)) 1 0 ≡ count_by is_used slots + cond {A = ℕ} (is_used new) 1 0
    = sum_by-set (λ id. cond {A = ℕ} (is_used id) 1 0) slots place new 0 lt in
    let one : cond {A = ℕ} (is_used new) 1 0 ≡ 1 = some_counts new some in
    let none : cond {A = ℕ} (is_used (get_or slots place 0)) 1 0 ≡ 0 = ap (λ n. cond {A = ℕ} (is_used n) 1 0) empty in
    omega arith

-- ---- empty slots

pub empty_stands : (slots : List ℕ) → ((place : ℕ) → get_or slots place 0 ≡ 0) → SlotsStandFor (record { slots = slots; held = 0 }) []
empty_stands slots empty = record {
  least = λ p c. absurd (omega (arith, c.1));
  placed = λ p c. absurd (omega (arith, c.1));
  owned = λ place some. absurd (let e : get_or slots place 0 ≡ 0 = empty place in omega arith);
  counted = refl;
}

pub empty_push : (slots : List ℕ) → ((place : ℕ) → get_or slots place 0 ≡ 0) → (place : ℕ) → get_or (slots ++ 0 ∷ []) place 0 ≡ 0
empty_push [] empty zero = refl
empty_push [] empty (suc place) = refl
empty_push (id ∷ slots) empty zero = empty 0
empty_push (id ∷ slots) empty (suc place) = empty_push slots (λ k. empty (suc k)) place

count_cons : (x : ℕ) (xs : List ℕ) → count_by is_used (x ∷ xs) ≡ cond {A = ℕ} (is_used x) 1 0 + count_by is_used xs
count_cons x xs = grind (arith, common_steps)

pub none_used : (slots : List ℕ) → ((place : ℕ) → get_or slots place 0 ≡ 0) → count_by is_used slots ≡ 0
none_used [] empty = refl
none_used (id ∷ slots) empty =
    let rest : count_by is_used slots ≡ 0 = none_used slots (λ k. empty (suc k)) in
    let here : cond {A = ℕ} (is_used id) 1 0 ≡ 0 = ap (λ n. cond {A = ℕ} (is_used n) 1 0) (empty 0) in
    omega (arith, count_cons id slots)

-- ---- the known pairs of slots

known_pairs-append : (tells : ℕ → Option (List ℕ)) (xs ys : List ℕ) → known_pairs tells (xs ++ ys) ≡ known_pairs tells xs ++ known_pairs tells ys
known_pairs-append tells [] ys = refl
known_pairs-append tells (x ∷ xs) ys =
    ap (λ ps. known_pair tells x ++ ps) (known_pairs-append tells xs ys) ∙ sym (append_assoc (known_pair tells x) (known_pairs tells xs) (known_pairs tells ys))

pub known_more : (tells : ℕ → Option (List ℕ)) (slots : List ℕ) (i : ℕ) → i < length slots
    → known_pairs tells (take (i + 1) slots) ≡ known_pairs tells (take i slots) ++ known_pair tells (get_or slots i 0)
known_more tells slots i lt =
    ap (known_pairs tells) (take_more slots i 0 lt)
    ∙ (known_pairs-append tells (take i slots) (get_or slots i 0 ∷ [])
    ∙ ap (λ ps. known_pairs tells (take i slots) ++ ps) (append-nil (known_pair tells (get_or slots i 0))))

pub known_some : (tells : ℕ → Option (List ℕ)) (id : ℕ) (digest : List ℕ) → 0 < id → tells id ≡ Some digest → known_pair tells id ≡ (digest, id) ∷ []
known_some tells id digest some told =
    let used : nat_lt 0 id ≡ true = grind (arith, nat_tests) in
    ap (λ b. cond b (told_pair (tells id) id) []) used ∙ ap (λ t. told_pair t id) told

both : (b : Bool) (t : Option (List ℕ)) (id : ℕ) → t ≡ None → cond b (told_pair t id) [] ≡ []
both true t id none = ap (λ (u : Option (List ℕ)). told_pair u id) none
both false t id none = refl

pub known_none : (tells : ℕ → Option (List ℕ)) (id : ℕ) → (id ≡ 0) ⊎ (tells id ≡ None) → known_pair tells id ≡ []
known_none tells id (inl e) = ap (known_pair tells) e
known_none tells id (inr none) = both (nat_lt 0 id) (tells id) id none

-- at most so many pairs are known as slots hold an id
at_test : (b : Bool) (t : Option (List ℕ)) (id : ℕ) → length (cond b (told_pair t id) []) ≤ cond b 1 0
at_test true None id = omega arith
at_test true (Some digest) id = omega arith
at_test false t id = omega arith

known_pair_length : (tells : ℕ → Option (List ℕ)) (id : ℕ) → length (known_pair tells id) ≤ cond (is_used id) 1 0
known_pair_length tells id = at_test (nat_lt 0 id) (tells id) id

pub known_length : (tells : ℕ → Option (List ℕ)) (slots : List ℕ) → length (known_pairs tells slots) ≤ count_by is_used slots
known_length tells [] = omega arith
known_length tells (x ∷ xs) =
    let rest : length (known_pairs tells xs) ≤ count_by is_used xs = known_length tells xs in
    let here : length (known_pair tells x) ≤ cond (is_used x) 1 0 = known_pair_length tells x in
    let sum_is : length (known_pairs tells (x ∷ xs)) ≡ length (known_pair tells x) + length (known_pairs tells xs) = length-append (known_pair tells x) (known_pairs tells xs) in
    let count_is : count_by is_used (x ∷ xs) ≡ cond (is_used x) 1 0 + count_by is_used xs = count_cons x xs in
    omega arith

-- what is known of a part is no more than what is known of the whole
pub known_part : (tells : ℕ → Option (List ℕ)) (slots : List ℕ) (i : ℕ) → length (known_pairs tells (take i slots)) ≤ length (known_pairs tells slots)
known_part tells slots i =
    let whole : known_pairs tells (take i slots ++ drop i slots) ≡ known_pairs tells (take i slots) ++ known_pairs tells (drop i slots) = known_pairs-append tells (take i slots) (drop i slots) in
    let same : known_pairs tells (take i slots ++ drop i slots) ≡ known_pairs tells slots = ap (known_pairs tells) (take-append-drop i slots) in
    let sum_is : length (known_pairs tells slots) ≡ length (known_pairs tells (take i slots)) + length (known_pairs tells (drop i slots))
    = ap length (sym same ∙ whole) ∙ length-append (known_pairs tells (take i slots)) (known_pairs tells (drop i slots)) in
    omega arith

-- ---- the pairs that a table made anew keeps

told_at : (b : Bool) (t : Option (List ℕ)) (id : ℕ) (p : Pair) → Contains (cond b (told_pair t id) []) p
    → (b ≡ true) × (t ≡ Some p.0) × (id ≡ p.1)
told_at true None id p c = absurd (omega (arith, c.1))
told_at true (Some digest) id p c = elim (Contains-push_cases [] (digest, id) p c) [
  | inl none ↦ absurd (omega (arith, none.1))
  | inr e ↦ (refl, ap (λ (q : Pair). Some q.0) e, ap (λ (q : Pair). q.1) e)
]
told_at false t id p c = absurd (omega (arith, c.1))

known_pair_told : (tells : ℕ → Option (List ℕ)) (id : ℕ) (p : Pair) → Contains (known_pair tells id) p → (0 < id) × (tells id ≡ Some p.0) × (id ≡ p.1)
known_pair_told tells id p c =
    let h : (nat_lt 0 id ≡ true) × (tells id ≡ Some p.0) × (id ≡ p.1) = told_at (nat_lt 0 id) (tells id) id p c in
    let test : nat_lt 0 id ≡ true = h.0 in
    (grind (arith, nat_tests), h.1, h.2)

known_told : (tells : ℕ → Option (List ℕ)) (slots : List ℕ) (p : Pair) → Contains (known_pairs tells slots) p
    → (0 < p.1) × (tells p.1 ≡ Some p.0) × ((place : ℕ) × (get_or slots place 0 ≡ p.1))
known_told tells [] p c = absurd (omega (arith, c.1))
known_told tells (x ∷ xs) p c = elim (Contains-append_cases (known_pair tells x) (known_pairs tells xs) p c) [
  | inl here ↦
      (let h : (0 < x) × (tells x ≡ Some p.0) × (x ≡ p.1) = known_pair_told tells x p here in
      (subst (λ (n : ℕ). 0 < n) h.2 h.0, subst (λ (n : ℕ). tells n ≡ Some p.0) h.2 h.1, (0, h.2)))
  | inr rest ↦
      (let r : (0 < p.1) × (tells p.1 ≡ Some p.0) × ((place : ℕ) × (get_or xs place 0 ≡ p.1)) = known_told tells xs p rest in
      (r.0, r.1, (suc r.2.0, r.2.1)))
]

told_known : (tells : ℕ → Option (List ℕ)) (slots : List ℕ) (p : Pair) (place : ℕ) → 0 < p.1 → tells p.1 ≡ Some p.0 → get_or slots place 0 ≡ p.1
    → Contains (known_pairs tells slots) p
told_known tells [] p place some told there = let e : 0 ≡ p.1 = there in absurd (omega arith)
told_known tells (x ∷ xs) p zero some told there =
    Contains-append_left (known_pair tells x) (known_pairs tells xs) p
    (subst (λ (n : ℕ). Contains (known_pair tells n) p) (sym there)
    (subst (λ (ps : List Pair). Contains ps p) (sym (known_some tells p.1 p.0 some told)) (Contains-push [] p)))
told_known tells (x ∷ xs) p (suc place) some told there =
    Contains-append_right (known_pair tells x) (known_pairs tells xs) p (told_known tells xs p place some told there)

-- the known pairs of the slots are the pairs, of which those that are not known are left out
pub rebuilt_keeps : (tells : ℕ → Option (List ℕ)) (table : SlotTable) (pairs : List Pair) → SlotsStandFor table pairs → Agrees tells pairs
    → Keeps tells pairs (known_pairs tells table.slots)
rebuilt_keeps tells table pairs stands agrees = record {
  only = λ p c.
      (let r : (0 < p.1) × (tells p.1 ≡ Some p.0) × ((place : ℕ) × (get_or table.slots place 0 ≡ p.1)) = known_told tells table.slots p c in
      candidate_held tells table pairs p.0 0 p.1 r.2.0 stands agrees (r.0, r.1) r.2.1);
  each_known = λ p c some. elim (agrees p c) [
    | inl told ↦
        (let reached : Reaches (length table.slots) table.slots (home_of (length table.slots) p.0) p.1 = stands.placed p c in
        told_known tells table.slots p (around (length table.slots) (home_of (length table.slots) p.0) reached.step) (stands.least p c) told reached.there)
    | inr none ↦ (let told : IsSome {T = List ℕ} None = subst (λ (t : Option (List ℕ)). IsSome t) none some in absurd (cc))
  ];
}

told_length : (digest : Option (List ℕ)) (id : ℕ) → length (told_pair digest id) ≡ cond {A = ℕ} (is_some digest) 1 0
told_length None id = refl
told_length (Some digest) id = refl

-- ---- the same at the values that the code has

-- a search in the cells from the place that the code found
pub finds_in : (tells : ℕ → Option (List ℕ)) (cells slots : List ℕ) (held count home : ℕ) (pairs : List Pair) (digest : List ℕ) (after : ℕ) (result : Option ℕ)
    → cells ≡ slots → home ≡ home_of count digest → count ≡ length slots → FindsReached tells cells home digest after result
    → SlotsStandFor (record { slots = slots; held = held }) pairs → Agrees tells pairs → Finds tells pairs digest after result
finds_in tells cells slots held count home pairs digest after result same home_is count_is found stands agrees =
    finds tells (record { slots = slots; held = held }) pairs digest after result
    (subst (λ (h : ℕ). FindsReached tells slots h digest after result) (home_is ∙ ap (λ n. home_of n digest) count_is)
    (subst (λ (cs : List ℕ). FindsReached tells cs home digest after result) same found)) stands agrees

pub placed_in : (cells slots : List ℕ) (held count home place value new : ℕ) (pairs : List Pair) (digest : List ℕ)
    → cells ≡ slots → home ≡ home_of count digest → count ≡ length slots → value ≡ new → 0 < new → place < length cells
    → IsVacancy (length cells) cells home place → SlotsStandFor (record { slots = slots; held = held }) pairs
    → SlotsStandFor (record { slots = set slots place value; held = held + 1 }) (pairs ++ (digest, new) ∷ [])
placed_in cells slots held count home place value new pairs digest same home_is count_is value_is some lt vacant stands =
    subst (λ (v : ℕ). SlotsStandFor (record { slots = set slots place v; held = held + 1 }) (pairs ++ (digest, new) ∷ [])) (sym value_is)
    (placed_more (record { slots = slots; held = held }) pairs digest place new some (subst (λ (cs : List ℕ). place < length cs) same lt)
    (subst (λ (h : ℕ). IsVacancy (length slots) slots h place) (home_is ∙ ap (λ n. home_of n digest) count_is)
    (subst (λ (cs : List ℕ). IsVacancy (length cs) cs home place) same vacant)) stands)

-- one more slot of those that are counted
pub counted_known : (tells : ℕ → Option (List ℕ)) (slots : List ℕ) (i id known : ℕ) (digest : Option (List ℕ)) → i < length slots
    → get_or slots i 0 ≡ id → known_pair tells id ≡ told_pair digest id → known ≡ length (known_pairs tells (take i slots))
    → known + cond {A = ℕ} (is_some digest) 1 0 ≡ length (known_pairs tells (take (i + 1) slots))
counted_known tells slots i id known digest lt at pair counted =
    let more : known_pairs tells (take (i + 1) slots) ≡ known_pairs tells (take i slots) ++ told_pair digest id
    = known_more tells slots i lt ∙ ap (λ ps. known_pairs tells (take i slots) ++ ps) (ap (known_pair tells) at ∙ pair) in
    let sum_is : length (known_pairs tells (take (i + 1) slots)) ≡ length (known_pairs tells (take i slots)) + length (told_pair digest id)
    = ap length more ∙ length-append (known_pairs tells (take i slots)) (told_pair digest id) in
    let one : length (told_pair digest id) ≡ cond {A = ℕ} (is_some digest) 1 0 = told_length digest id in
    omega arith

pub half_known : (tells : ℕ → Option (List ℕ)) (slots : List ℕ) (i used known : ℕ) → known ≡ length (known_pairs tells (take i slots))
    → count_by is_used slots ≡ used → 2 * used ≤ length slots → 2 * known ≤ length slots
half_known tells slots i used known counted used_is half = omega (arith, known_part tells slots i, known_length tells slots)

pub known_pushed : (tells : ℕ → Option (List ℕ)) (slots : List ℕ) (i id : ℕ) (told : List Pair) → i < length slots
    → get_or slots i 0 ≡ id → known_pair tells id ≡ told
    → known_pairs tells (take (i + 1) slots) ≡ known_pairs tells (take i slots) ++ told
known_pushed tells slots i id told lt at pair =
    known_more tells slots i lt ∙ ap (λ ps. known_pairs tells (take i slots) ++ ps) (ap (known_pair tells) at ∙ pair)

pub room_for : (tells : ℕ → Option (List ℕ)) (slots : List ℕ) (i id held count : ℕ) (digest : List ℕ) → i < length slots
    → get_or slots i 0 ≡ id → known_pair tells id ≡ (digest, id) ∷ [] → length (known_pairs tells (take i slots)) ≡ held
    → 2 * length (known_pairs tells slots) ≤ count → 2 * (held + 1) ≤ count
room_for tells slots i id held count digest lt at pair held_is room =
    let pushed : known_pairs tells (take (i + 1) slots) ≡ known_pairs tells (take i slots) ++ (digest, id) ∷ [] = known_pushed tells slots i id ((digest, id) ∷ []) lt at pair in
    let sum_is : length (known_pairs tells (take (i + 1) slots)) ≡ length (known_pairs tells (take i slots)) + 1
    = ap length pushed ∙ length_push (known_pairs tells (take i slots)) (digest, id) in
    omega (arith, known_part tells slots (i + 1))
