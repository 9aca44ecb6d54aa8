-- Any two indexes answer a list of calls alike.
use Rattle.std.proofs.Common.{◌≡◌, ℕ, ◌≤◌, ◌⊎◌, inl, inr, List, [], ◌∷◌, ◌++◌, Bool, true, false, refl, sym, ◌∙◌, ap, subst, arith, Option, Some, None, IsSome, Contains, map}
use Rattle.std.proofs.lemmas.List.Elements.{Contains-append_left, Contains-push, Contains-push_cases}
use Rattle.hash_index.specs.Pairs.{Pair, Agrees, IsKnown, Finds, IsFree, Keeps}
use Rattle.hash_index.specs.Calls.{Call, CanAsk, Gives, Answers, pairs_after, IsForgotten, Fades, AreProper, is_refused}
use Rattle.hash_index.specs.declared.calls.Request.{Request}
use Rattle.hash_index.specs.declared.calls.Request.TheVariants.{Find, Insert, Clear}
use Rattle.hash_index.specs.declared.calls.Answer.{Answer}
use Rattle.hash_index.specs.declared.calls.Answer.TheVariants.{Found, Inserted, Refused, Cleared}

-- the pairs that an index stands for are all that were inserted, but for some that are forgotten
pub record IsLeft (all left : List Pair) (calls : List Call) : Type 0 where
  pub only : (p : Pair) → Contains left p → Contains all p
  pub each : (p : Pair) → Contains all p → Contains left p ⊎ IsForgotten p.1 calls

-- ---- what a search answers

least_alike : (K : ℕ → Type 0) (a b : ℕ) → K a → K b → ((id : ℕ) → K id → a ≤ id) → ((id : ℕ) → K id → b ≤ id) → a ≡ b
least_alike K a b ka kb la lb = let one : a ≤ b = la b kb in let two : b ≤ a = lb a ka in omega arith

one_answer : (tells : ℕ → Option (List ℕ)) (pairs : List Pair) (digest : List ℕ) (after : ℕ) (r t : Option ℕ)
    → Finds tells pairs digest after r → Finds tells pairs digest after t → r ≡ t
one_answer tells pairs digest after None None f g = refl
one_answer tells pairs digest after None (Some b) f g = absurd (f b g.0)
one_answer tells pairs digest after (Some a) None f g = absurd (g a f.0)
one_answer tells pairs digest after (Some a) (Some b) f g = ap Some (least_alike (IsKnown tells pairs digest after) a b f.0 g.0 f.1 g.1)

known_there : (tells : ℕ → Option (List ℕ)) (all left : List Pair) (calls : List Call) (digest : List ℕ) (after id a : ℕ) (d : List ℕ)
    → IsLeft all left ((tells, Find d a) ∷ calls) → IsKnown tells all digest after id → IsKnown tells left digest after id
known_there tells all left calls digest after id a d link k = record {
  above = k.above;
  held = elim (link.each (digest, id) k.held) [
    | inl c ↦ c
    | inr gone ↦ (let none : tells id ≡ None = gone.0 in let some : tells id ≡ Some digest = k.known in absurd (cc))
  ];
  known = k.known;
}

known_back : (tells : ℕ → Option (List ℕ)) (all left : List Pair) (calls : List Call) (digest : List ℕ) (after id : ℕ)
    → IsLeft all left calls → IsKnown tells left digest after id → IsKnown tells all digest after id
known_back tells all left calls digest after id link k = record { above = k.above; held = link.only (digest, id) k.held; known = k.known }

finds_all : (tells : ℕ → Option (List ℕ)) (all left : List Pair) (calls : List Call) (digest : List ℕ) (after : ℕ) (r : Option ℕ)
    → IsLeft all left ((tells, Find digest after) ∷ calls) → Finds tells left digest after r → Finds tells all digest after r
finds_all tells all left calls digest after None link f = λ id k. f id (known_there tells all left calls digest after id after digest link k)
finds_all tells all left calls digest after (Some a) link f = (
  known_back tells all left ((tells, Find digest after) ∷ calls) digest after a link f.0,
  λ id k. f.1 id (known_there tells all left calls digest after id after digest link k),
)

-- ---- one call

some_or_none : (t : Option (List ℕ)) → IsSome t ⊎ (t ≡ None)
some_or_none None = inr refl
some_or_none (Some d) = inl refl

left_found : (tells : ℕ → Option (List ℕ)) (all left : List Pair) (calls : List Call) (digest : List ℕ) (after : ℕ)
    → IsLeft all left ((tells, Find digest after) ∷ calls) → IsLeft all left calls
left_found tells all left calls digest after link = record {
  only = link.only;
  each = λ p c. elim (link.each p c) [ inl here ↦ inl here | inr gone ↦ inr gone.1 ];
}

left_refused : (tells : ℕ → Option (List ℕ)) (all left : List Pair) (calls : List Call) (digest : List ℕ) (id : ℕ)
    → IsLeft all left ((tells, Insert digest id) ∷ calls) → IsLeft all left calls
left_refused tells all left calls digest id link = record {
  only = link.only;
  each = λ p c. elim (link.each p c) [ inl here ↦ inl here | inr gone ↦ inr gone.1 ];
}

left_inserted : (tells : ℕ → Option (List ℕ)) (all left kept : List Pair) (calls : List Call) (digest : List ℕ) (id : ℕ)
    → IsLeft all left ((tells, Insert digest id) ∷ calls) → Fades all tells (Insert digest id) calls → Keeps tells left kept
    → IsLeft (all ++ (digest, id) ∷ []) (kept ++ (digest, id) ∷ []) calls
left_inserted tells all left kept calls digest id link fades keeps = record {
  only = λ p c. elim (Contains-push_cases kept (digest, id) p c) [
    | inl old ↦ Contains-append_left all ((digest, id) ∷ []) p (link.only p (keeps.only p old))
    | inr e ↦ subst (λ (q : Pair). Contains (all ++ (digest, id) ∷ []) q) e (Contains-push all (digest, id))
  ];
  each = λ p c. elim (Contains-push_cases all (digest, id) p c) [
    | inl old ↦ elim (some_or_none (tells p.1)) [
      | inl known ↦ elim (link.each p old) [
        | inl here ↦ inl (Contains-append_left kept ((digest, id) ∷ []) p (keeps.each_known p here known))
        | inr gone ↦ inr gone.1
      ]
      | inr none ↦ inr (fades p old none)
    ]
    | inr e ↦ inl (subst (λ (q : Pair). Contains (kept ++ (digest, id) ∷ []) q) e (Contains-push kept (digest, id)))
  ];
}

left_cleared : (calls : List Call) → IsLeft [] [] calls
left_cleared calls = record { only = λ p c. c; each = λ p c. inl c }

-- after a call what is left is linked to all as before
left_after : (tells : ℕ → Option (List ℕ)) (all left next : List Pair) (request : Request) (answer : Answer) (calls : List Call)
    → IsLeft all left ((tells, request) ∷ calls) → Fades all tells request calls → Gives left tells request answer next
    → IsLeft (pairs_after all request answer) next calls
left_after tells all left next (Find digest after) (Found r) calls link fades gives =
    subst (λ (n : List Pair). IsLeft all n calls) (sym gives.1) (left_found tells all left calls digest after link)
left_after tells all left next (Find digest after) Inserted calls link fades gives = absurd gives
left_after tells all left next (Find digest after) Refused calls link fades gives = absurd gives
left_after tells all left next (Find digest after) Cleared calls link fades gives = absurd gives
left_after tells all left next (Insert digest id) (Found r) calls link fades gives = absurd gives
left_after tells all left next (Insert digest id) Inserted calls link fades gives =
    subst (λ (n : List Pair). IsLeft (all ++ (digest, id) ∷ []) n calls) (sym gives.2) (left_inserted tells all left gives.0 calls digest id link fades gives.1)
left_after tells all left next (Insert digest id) Refused calls link fades gives =
    subst (λ (n : List Pair). IsLeft all n calls) (sym gives) (left_refused tells all left calls digest id link)
left_after tells all left next (Insert digest id) Cleared calls link fades gives = absurd gives
left_after tells all left next Clear (Found r) calls link fades gives = absurd gives
left_after tells all left next Clear Inserted calls link fades gives = absurd gives
left_after tells all left next Clear Refused calls link fades gives = absurd gives
left_after tells all left next Clear Cleared calls link fades gives =
    subst (λ (n : List Pair). IsLeft [] n calls) (sym gives) (left_cleared calls)

-- ---- the kinds of an answer

find_kind : (tells : ℕ → Option (List ℕ)) (left next : List Pair) (digest : List ℕ) (after : ℕ) (x : Answer)
    → Gives left tells (Find digest after) x next → (r : Option ℕ) × (x ≡ Found r) × Finds tells left digest after r
find_kind tells left next digest after (Found r) gives = (r, refl, gives.0)
find_kind tells left next digest after Inserted gives = absurd gives
find_kind tells left next digest after Refused gives = absurd gives
find_kind tells left next digest after Cleared gives = absurd gives

insert_kind : (tells : ℕ → Option (List ℕ)) (left next : List Pair) (digest : List ℕ) (id : ℕ) (x : Answer)
    → Gives left tells (Insert digest id) x next → (x ≡ Inserted) ⊎ (x ≡ Refused)
insert_kind tells left next digest id (Found r) gives = absurd gives
insert_kind tells left next digest id Inserted gives = inl refl
insert_kind tells left next digest id Refused gives = inr refl
insert_kind tells left next digest id Cleared gives = absurd gives

clear_kind : (tells : ℕ → Option (List ℕ)) (left next : List Pair) (x : Answer) → Gives left tells Clear x next → x ≡ Cleared
clear_kind tells left next (Found r) gives = absurd gives
clear_kind tells left next Inserted gives = absurd gives
clear_kind tells left next Refused gives = absurd gives
clear_kind tells left next Cleared gives = refl

insert_alike : (x y : Answer) → is_refused x ≡ is_refused y → (x ≡ Inserted) ⊎ (x ≡ Refused) → (y ≡ Inserted) ⊎ (y ≡ Refused) → x ≡ y
insert_alike x y same (inl a) (inl b) = a ∙ sym b
insert_alike x y same (inl a) (inr b) = let e : false ≡ true = sym (ap is_refused a) ∙ (same ∙ ap is_refused b) in absurd (cc)
insert_alike x y same (inr a) (inl b) = let e : true ≡ false = sym (ap is_refused a) ∙ (same ∙ ap is_refused b) in absurd (cc)
insert_alike x y same (inr a) (inr b) = a ∙ sym b

alike_one : (tells : ℕ → Option (List ℕ)) (all one two next_one next_two : List Pair) (request : Request) (x y : Answer) (calls : List Call)
    → IsLeft all one ((tells, request) ∷ calls) → IsLeft all two ((tells, request) ∷ calls)
    → Gives one tells request x next_one → Gives two tells request y next_two → is_refused x ≡ is_refused y → x ≡ y
alike_one tells all one two next_one next_two (Find digest after) x y calls link_one link_two gives_one gives_two same =
    let a : (r : Option ℕ) × (x ≡ Found r) × Finds tells one digest after r = find_kind tells one next_one digest after x gives_one in
    let b : (t : Option ℕ) × (y ≡ Found t) × Finds tells two digest after t = find_kind tells two next_two digest after y gives_two in
    let e : a.0 ≡ b.0 = one_answer tells all digest after a.0 b.0
    (finds_all tells all one calls digest after a.0 link_one a.2) (finds_all tells all two calls digest after b.0 link_two b.2) in
    a.1 ∙ (ap Found e ∙ sym b.1)
alike_one tells all one two next_one next_two (Insert digest id) x y calls link_one link_two gives_one gives_two same =
    insert_alike x y same (insert_kind tells one next_one digest id x gives_one) (insert_kind tells two next_two digest id y gives_two)
alike_one tells all one two next_one next_two Clear x y calls link_one link_two gives_one gives_two same =
    clear_kind tells one next_one x gives_one ∙ sym (clear_kind tells two next_two y gives_two)

-- ---- a list of calls

head_is : (b c : Bool) (bs cs : List Bool) → b ∷ bs ≡ c ∷ cs → (b ≡ c) × (bs ≡ cs)
head_is b c bs cs e = (cc, cc)

pub alike : (calls : List Call) (all one two : List Pair) (xs ys : List Answer) → IsLeft all one calls → IsLeft all two calls
    → Answers one calls xs → Answers two calls ys → AreProper all calls xs → map is_refused xs ≡ map is_refused ys → xs ≡ ys
alike [] all one two [] [] link_one link_two run_one run_two proper same = refl
alike [] all one two (x ∷ xs) ys link_one link_two run_one run_two proper same = absurd run_one
alike [] all one two [] (y ∷ ys) link_one link_two run_one run_two proper same = absurd run_two
alike (call ∷ calls) all one two [] ys link_one link_two run_one run_two proper same = absurd run_one
alike (call ∷ calls) all one two (x ∷ xs) [] link_one link_two run_one run_two proper same = absurd run_two
alike (call ∷ calls) all one two (x ∷ xs) (y ∷ ys) link_one link_two run_one run_two proper same =
    let parts : (is_refused x ≡ is_refused y) × (map is_refused xs ≡ map is_refused ys)
    = head_is (is_refused x) (is_refused y) (map is_refused xs) (map is_refused ys) same in
    let here : x ≡ y = alike_one call.0 all one two run_one.0 run_two.0 call.1 x y calls link_one link_two run_one.1 run_two.1 parts.0 in
    let next_one : IsLeft (pairs_after all call.1 x) run_one.0 calls = left_after call.0 all one run_one.0 call.1 x calls link_one proper.1 run_one.1 in
    let next_two : IsLeft (pairs_after all call.1 x) run_two.0 calls
    = subst (λ (a : Answer). IsLeft (pairs_after all call.1 a) run_two.0 calls) (sym here)
    (left_after call.0 all two run_two.0 call.1 y calls link_two proper.1 run_two.1) in
    let rest : xs ≡ ys = alike calls (pairs_after all call.1 x) run_one.0 run_two.0 xs ys next_one next_two run_one.2 run_two.2 proper.2 parts.1 in
    cc

pub alike_from_nothing : (calls : List Call) (xs ys : List Answer) → Answers [] calls xs → Answers [] calls ys → AreProper [] calls xs
    → map is_refused xs ≡ map is_refused ys → xs ≡ ys
alike_from_nothing calls xs ys run_one run_two proper same = alike calls [] [] [] xs ys (left_cleared calls) (left_cleared calls) run_one run_two proper same

-- ---- a call that was made

pub ask_inserted : (S : List Pair → Type 0) (tells : ℕ → Option (List ℕ)) (pairs : List Pair) (request : Request) (digest : List ℕ) (id : ℕ)
    → request ≡ Insert digest id → CanAsk pairs tells request
    → (Agrees tells pairs → IsFree pairs id → (kept : List Pair) × Keeps tells pairs kept × S (kept ++ (digest, id) ∷ []))
    → (next : List Pair) × Gives pairs tells request Inserted next × S next
ask_inserted S tells pairs request digest id e can inserted =
    let asked : CanAsk pairs tells (Insert digest id) = subst (λ (r : Request). CanAsk pairs tells r) e can in
    let made : (kept : List Pair) × Keeps tells pairs kept × S (kept ++ (digest, id) ∷ []) = inserted asked.0 asked.1 in (
      made.0 ++ (digest, id) ∷ [],
      subst (λ (r : Request). Gives pairs tells r Inserted (made.0 ++ (digest, id) ∷ [])) (sym e) (made.0, made.1, refl),
      made.2,
    )
