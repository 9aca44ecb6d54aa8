-- What an exchange of places and a move of the two bounds does to the states.
use Rattle.std.proofs.Common.{◌≡◌, ◌≢◌, ◌∙◌, ℕ, ◌+◌, ◌-◌, ◌<◌, ◌≤◌, ◌^◌, inl, inr, Bool, cond, zero, suc, List, [], ◌∷◌, length, get_or, set, map, replicate, sym, ap, subst, arith, refl}
use Rattle.std.specs.List.{count_by}
use Rattle.std.proofs.lemmas.List.{length-set, length-map, get_or-set_same, get_or-set_other, get_or-map, ext_get_or, length-replicate, get_or-replicate}
use Rattle.std.proofs.lemmas.List.Sums.{sum_by-set, sum_by-cons}
use Rattle.std.proofs.lemmas.Bool.{cases_eq, cases_lt, lt-ltb, le-ltb}
use Rattle.cluster_space.specs.declared.state.State.{State}
use Rattle.cluster_space.specs.declared.state.State.TheVariants.{Free, Used, Deferred}
use Rattle.cluster_space.specs.Places.{IsAt, IsMove, IsAscending, exchanged}
use Rattle.cluster_space.specs.States.{IsIn, is_free, is_deferred, free_in, deferred_in, released}
use Rattle.cluster_space.specs.Parts.{state_at, states_of, IsParted}
use Rattle.cluster_space.proofs.Exchange.{twice_at, twice_first, twice_other, length_twice}

pub free_at : (f d p : ℕ) → p < f → state_at f d p ≡ Free
free_at f d p h = rw (lt-ltb p f h) refl

pub deferred_at : (f d p : ℕ) → f ≤ p → p < f + d → state_at f d p ≡ Deferred
deferred_at f d p h k = rw (le-ltb p f h) (rw (lt-ltb p (f + d) k) refl)

pub used_at : (f d p : ℕ) → f + d ≤ p → state_at f d p ≡ Used
used_at f d p h = let k : f ≤ p = omega arith in rw (le-ltb p f k) (rw (le-ltb p (f + d) h) refl)

-- a place in the same part has the same state
pub same_part : (f d g e p : ℕ) → (p < f → p < g) → (f ≤ p → g ≤ p) → (p < f + d → p < g + e) → (f + d ≤ p → g + e ≤ p) → state_at g e p ≡ state_at f d p
same_part f d g e p a b c z =
    elim (cases_lt p f) [
      | inl h ↦ free_at g e p (a h) ∙ sym (free_at f d p h)
      | inr h ↦
          elim (cases_lt p (f + d)) [
            | inl k ↦ deferred_at g e p (b h) (c k) ∙ sym (deferred_at f d p h k)
            | inr k ↦ used_at g e p (z k) ∙ sym (used_at f d p k)
          ]
    ]

-- the place of a after the exchange
at_a : (xs : List ℕ) (a b : ℕ) → a < length xs → b < length xs → get_or (exchanged xs a b) a 0 ≡ get_or xs b 0
at_a xs a b ha hb =
    elim (cases_eq a b) [
      | inl e ↦
          ap (λ k. get_or (exchanged xs a b) k 0) e ∙ (twice_at xs a b (get_or xs b 0) (get_or xs a 0) hb ∙ ap (λ k. get_or xs k 0) e)
      | inr ne ↦ twice_first xs a b (get_or xs b 0) (get_or xs a 0) ne ha
    ]

-- only the state of a is another
pub moved : (f g : ℕ → State) (xs : List ℕ) (a b p q : ℕ) (x : State) → IsAt xs a p → IsAt xs b q → g q ≡ x → (p ≢ q → g p ≡ f q) → ((k : ℕ) → k ≢ p → k ≢ q → g k ≡ f k) → map g (exchanged xs a b) ≡ set (map f xs) a x
moved f g xs a b p q x is_a is_b to_x back same =
    let n = length_twice xs a b (get_or xs b 0) (get_or xs a 0) in
    ext_get_or x _ _
    (length-map (exchanged xs a b) g ∙ (n ∙ sym (length-set (map f xs) a x ∙ length-map xs f)))
    (λ k h.
    let hk : k < length xs = subst (λ m. k < m) (length-map (exchanged xs a b) g ∙ n) h in
    let hx : k < length (exchanged xs a b) = subst (λ m. k < m) (length-map (exchanged xs a b) g) h in
    let ha : a < length (map f xs) = rw (length-map xs f) is_a.within in
    get_or-map g (exchanged xs a b) k 0 x hx ∙
    elim (cases_eq k a) as (λ _. g (get_or (exchanged xs a b) k 0) ≡ get_or (set (map f xs) a x) k x) [
      | inl e ↦
          ap (λ m. g (get_or (exchanged xs a b) m 0)) e
          ∙ (ap g (at_a xs a b is_a.within is_b.within ∙ is_b.there)
          ∙ (to_x
          ∙ sym (ap (λ m. get_or (set (map f xs) a x) m x) e ∙ get_or-set_same (map f xs) a x x ha)))
      | inr na ↦
          let old : get_or (set (map f xs) a x) k x ≡ f (get_or xs k 0) = get_or-set_other (map f xs) a k x x na ∙ get_or-map f xs k 0 x hk in
          elim (cases_eq k b) as (λ _. g (get_or (exchanged xs a b) k 0) ≡ get_or (set (map f xs) a x) k x) [
            | inl e ↦
                let ne : p ≢ q = λ r. na (is_a.only k hk (ap (λ m. get_or xs m 0) e ∙ (is_b.there ∙ sym r))) in
                ap (λ m. g (get_or (exchanged xs a b) m 0)) e
                ∙ (ap g (twice_at xs a b (get_or xs b 0) (get_or xs a 0) is_b.within ∙ is_a.there)
                ∙ (back ne
                ∙ sym (old ∙ ap f (ap (λ m. get_or xs m 0) e ∙ is_b.there))))
            | inr nb ↦
                ap g (twice_other xs a b (get_or xs b 0) (get_or xs a 0) k na nb)
                ∙ (same (get_or xs k 0) (λ r. na (is_a.only k hk r)) (λ r. nb (is_b.only k hk r))
                ∙ sym old)
          ]
    ])

-- a call that turns the state of one cluster
pub record IsStep (f d g e : ℕ) (xs ys : List ℕ) (a : ℕ) (s x : State) : Type 0 where
  pub parted : IsParted g e ys
  pub states : states_of g e ys ≡ set (states_of f d xs) a x
  pub is_in : IsIn (states_of g e ys) a x

was_at : (f d : ℕ) (xs : List ℕ) (a p : ℕ) → IsAt xs a p → get_or (states_of f d xs) a Used ≡ state_at f d p
was_at f d xs a p is = get_or-map (state_at f d) xs a 0 Used is.within ∙ ap (state_at f d) is.there

-- how the number of those that pass changes
counted : (q : State → Bool) (xs ys : List State) (a : ℕ) (s x : State) (n m : ℕ) → a < length xs → get_or xs a Used ≡ s → ys ≡ set xs a x → count_by q xs ≡ n → m + cond (q s) 1 0 ≡ n + cond (q x) 1 0 → count_by q ys ≡ m
counted q xs ys a s x n m h was is count eq =
    let law : count_by q (set xs a x) + cond (q (get_or xs a Used)) 1 0 ≡ count_by q xs + cond (q x) 1 0 = sum_by-set (λ t. cond (q t) 1 0) xs a x Used h in
    let law2 : count_by q ys + cond (q s) 1 0 ≡ n + cond (q x) 1 0 =
    ap (λ zs. count_by q zs + cond (q s) 1 0) is ∙ (ap (λ t. count_by q (set xs a x) + cond (q t) 1 0) (sym was) ∙ (law ∙ ap (λ t. t + cond (q x) 1 0) count)) in
    omega (arith, law2, eq)

pub step : (f d g e : ℕ) (xs ys : List ℕ) (a q : ℕ) (s x : State) → IsParted f d xs → IsMove xs ys a q → state_at f d (get_or xs a 0) ≡ s → state_at g e q ≡ x → (get_or xs a 0 ≢ q → state_at g e (get_or xs a 0) ≡ state_at f d q) → ((k : ℕ) → k ≢ get_or xs a 0 → k ≢ q → state_at g e k ≡ state_at f d k) → g + cond (is_free s) 1 0 ≡ f + cond (is_free x) 1 0 → e + cond (is_deferred s) 1 0 ≡ d + cond (is_deferred x) 1 0 → g + e ≤ length xs → IsStep f d g e xs ys a s x
step f d g e xs ys a q s x parted move from to back same fs ds fits =
    let is_a = move.own in
    let p = get_or xs a 0 in
    let states : states_of g e ys ≡ set (states_of f d xs) a x =
    ap (states_of g e) move.exchange ∙ moved (state_at f d) (state_at g e) xs a move.other p q x is_a move.other_at to back same in
    let n : length ys ≡ length xs = ap length move.exchange ∙ length_twice xs a move.other (get_or xs move.other 0) (get_or xs a 0) in
    let within : a < length (states_of f d xs) = rw (length-map xs (state_at f d)) is_a.within in
    let was : get_or (states_of f d xs) a Used ≡ s = was_at f d xs a p is_a ∙ from in
    record {
      parted = record {
        few = rw n parted.few;
        within = rw n fits;
        free_count = counted is_free (states_of f d xs) (states_of g e ys) a s x f g within was states parted.free_count fs;
        deferred_count = counted is_deferred (states_of f d xs) (states_of g e ys) a s x d e within was states parted.deferred_count ds;
      };
      states = states;
      is_in = record {
        within = rw states (rw (length-set (states_of f d xs) a x) within);
        state = rw states (get_or-set_same (states_of f d xs) a x Used within);
      };
    }

deferred_is_not_free : Deferred ≡ Free → ⊥
deferred_is_not_free h = cc

used_is_not_free : Used ≡ Free → ⊥
used_is_not_free h = cc

free_is_not_used : Free ≡ Used → ⊥
free_is_not_used h = cc

deferred_is_not_used : Deferred ≡ Used → ⊥
deferred_is_not_used h = cc

free_is_not_deferred : Free ≡ Deferred → ⊥
free_is_not_deferred h = cc

used_is_not_deferred : Used ≡ Deferred → ⊥
used_is_not_deferred h = cc

free_place : (f d p : ℕ) → state_at f d p ≡ Free → p < f
free_place f d p e =
    elim (cases_lt p f) [
      | inl h ↦ h
      | inr h ↦
          elim (cases_lt p (f + d)) [
            | inl k ↦ absurd (deferred_is_not_free (sym (deferred_at f d p h k) ∙ e))
            | inr k ↦ absurd (used_is_not_free (sym (used_at f d p k) ∙ e))
          ]
    ]

used_place : (f d p : ℕ) → state_at f d p ≡ Used → f + d ≤ p
used_place f d p e =
    elim (cases_lt p f) [
      | inl h ↦ absurd (free_is_not_used (sym (free_at f d p h) ∙ e))
      | inr h ↦
          elim (cases_lt p (f + d)) [
            | inl k ↦ absurd (deferred_is_not_used (sym (deferred_at f d p h k) ∙ e))
            | inr k ↦ k
          ]
    ]

deferred_place : (f d p : ℕ) → state_at f d p ≡ Deferred → (f ≤ p) × (p < f + d)
deferred_place f d p e =
    elim (cases_lt p f) [
      | inl h ↦ absurd (free_is_not_deferred (sym (free_at f d p h) ∙ e))
      | inr h ↦
          elim (cases_lt p (f + d)) [
            | inl k ↦ (h, k)
            | inr k ↦ absurd (used_is_not_deferred (sym (used_at f d p k) ∙ e))
          ]
    ]

-- the state of a cluster by its place
pub place_state : (f d : ℕ) (xs : List ℕ) (a : ℕ) (s : State) → IsIn (states_of f d xs) a s → (a < length xs) × (state_at f d (get_or xs a 0) ≡ s)
place_state f d xs a s is =
    let h : a < length xs = subst (λ n. a < n) (length-map xs (state_at f d)) is.within in
    (h, sym (get_or-map (state_at f d) xs a 0 Used h) ∙ is.state)

pub free_is : (f d : ℕ) (xs : List ℕ) (a : ℕ) → IsIn (states_of f d xs) a Free → get_or xs a 0 < f
free_is f d xs a is = free_place f d (get_or xs a 0) ((place_state f d xs a Free is).1)

pub deferred_is : (f d : ℕ) (xs : List ℕ) (a : ℕ) → IsIn (states_of f d xs) a Deferred → (f ≤ get_or xs a 0) × (get_or xs a 0 < f + d)
deferred_is f d xs a is = deferred_place f d (get_or xs a 0) ((place_state f d xs a Deferred is).1)

pub used_is : (f d : ℕ) (xs : List ℕ) (a : ℕ) → IsIn (states_of f d xs) a Used → f + d ≤ get_or xs a 0
used_is f d xs a is = used_place f d (get_or xs a 0) ((place_state f d xs a Used is).1)

pub hold_step : (f d : ℕ) (xs ys : List ℕ) (a : ℕ) → IsParted f d xs → IsIn (states_of f d xs) a Free → IsMove xs ys a (f - 1) → IsStep f d (f - 1) (d + 1) xs ys a Free Deferred
hold_step f d xs ys a parted is move =
    let fits = parted.within in
    let p : get_or xs a 0 < f = free_is f d xs a is in
    step f d (f - 1) (d + 1) xs ys a (f - 1) Free Deferred parted move
    (free_at f d (get_or xs a 0) p)
    (deferred_at (f - 1) (d + 1) (f - 1) (omega arith) (omega arith))
    (λ ne. free_at (f - 1) (d + 1) (get_or xs a 0) (omega arith) ∙ sym (free_at f d (f - 1) (omega arith)))
    (λ k n m. same_part f d (f - 1) (d + 1) k (λ h. omega arith) (λ h. omega arith) (λ h. omega arith) (λ h. omega arith))
    (omega arith) (omega arith) (omega arith)

pub reuse_step : (f d : ℕ) (xs ys : List ℕ) (a : ℕ) → IsParted f d xs → IsIn (states_of f d xs) a Deferred → IsMove xs ys a (f + d - 1) → IsStep f d f (d - 1) xs ys a Deferred Used
reuse_step f d xs ys a parted is move =
    let fits = parted.within in
    let p : (f ≤ get_or xs a 0) × (get_or xs a 0 < f + d) = deferred_is f d xs a is in
    let low : f ≤ get_or xs a 0 = p.0 in
    let high : get_or xs a 0 < f + d = p.1 in
    step f d f (d - 1) xs ys a (f + d - 1) Deferred Used parted move
    (deferred_at f d (get_or xs a 0) low high)
    (used_at f (d - 1) (f + d - 1) (omega arith))
    (λ ne. deferred_at f (d - 1) (get_or xs a 0) low (omega arith) ∙ sym (deferred_at f d (f + d - 1) (omega arith) (omega arith)))
    (λ k n m. same_part f d f (d - 1) k (λ h. h) (λ h. h) (λ h. omega arith) (λ h. omega arith))
    refl (omega arith) (omega arith)

pub defer_step : (f d : ℕ) (xs ys : List ℕ) (a : ℕ) → IsParted f d xs → IsIn (states_of f d xs) a Used → IsMove xs ys a (f + d) → IsStep f d f (d + 1) xs ys a Used Deferred
defer_step f d xs ys a parted is move =
    let p : f + d ≤ get_or xs a 0 = used_is f d xs a is in
    let in_range : f + d < length xs = move.place_within in
    step f d f (d + 1) xs ys a (f + d) Used Deferred parted move
    (used_at f d (get_or xs a 0) p)
    (deferred_at f (d + 1) (f + d) (omega arith) (omega arith))
    (λ ne. used_at f (d + 1) (get_or xs a 0) (omega arith) ∙ sym (used_at f d (f + d) (omega arith)))
    (λ k n m. same_part f d f (d + 1) k (λ h. h) (λ h. h) (λ h. omega arith) (λ h. omega arith))
    refl (omega arith) (omega arith)

pub release_step : (f d : ℕ) (xs ys : List ℕ) (a : ℕ) → IsParted f d xs → IsIn (states_of f d xs) a Deferred → IsMove xs ys a f → IsStep f d (f + 1) (d - 1) xs ys a Deferred Free
release_step f d xs ys a parted is move =
    let fits = parted.within in
    let p : (f ≤ get_or xs a 0) × (get_or xs a 0 < f + d) = deferred_is f d xs a is in
    let low : f ≤ get_or xs a 0 = p.0 in
    let high : get_or xs a 0 < f + d = p.1 in
    step f d (f + 1) (d - 1) xs ys a f Deferred Free parted move
    (deferred_at f d (get_or xs a 0) low high)
    (free_at (f + 1) (d - 1) f (omega arith))
    (λ ne. deferred_at (f + 1) (d - 1) (get_or xs a 0) (omega arith) (omega arith) ∙ sym (deferred_at f d f (omega arith) (omega arith)))
    (λ k n m. same_part f d (f + 1) (d - 1) k (λ h. omega arith) (λ h. omega arith) (λ h. omega arith) (λ h. omega arith))
    (omega arith) (omega arith) (omega arith)

-- once all that was deferred is free
pub released_states : (f d : ℕ) (xs : List ℕ) → states_of (f + d) 0 xs ≡ map released (states_of f d xs)
released_states f d [] = refl
released_states f d (p ∷ ps) =
    let head : state_at (f + d) 0 p ≡ released (state_at f d p) =
    elim (cases_lt p f) [
      | inl h ↦ free_at (f + d) 0 p (omega arith) ∙ sym (ap released (free_at f d p h))
      | inr h ↦
          elim (cases_lt p (f + d)) [
            | inl k ↦ free_at (f + d) 0 p k ∙ sym (ap released (deferred_at f d p h k))
            | inr k ↦ used_at (f + d) 0 p (omega arith) ∙ sym (ap released (used_at f d p k))
          ]
    ] in
    rw (head, released_states f d ps) refl

-- a count at a first state
more : (q : State → Bool) (s : State) (ss : List State) → count_by q (s ∷ ss) ≡ cond (q s) 1 0 + count_by q ss
more q s ss = sum_by-cons (λ t. cond (q t) 1 0) s ss

freed_count : (states : List State) → free_in (map released states) ≡ free_in states + deferred_in states
freed_count [] = refl
freed_count (Free ∷ ss) =
    let e = freed_count ss in
    let after : free_in (map released (Free ∷ ss)) ≡ 1 + free_in (map released ss) = more is_free Free (map released ss) in
    let free : free_in (Free ∷ ss) ≡ 1 + free_in ss = more is_free Free ss in
    let deferred : deferred_in (Free ∷ ss) ≡ 0 + deferred_in ss = more is_deferred Free ss in
    omega (arith, e, after, free, deferred)
freed_count (Used ∷ ss) =
    let e = freed_count ss in
    let after : free_in (map released (Used ∷ ss)) ≡ 0 + free_in (map released ss) = more is_free Used (map released ss) in
    let free : free_in (Used ∷ ss) ≡ 0 + free_in ss = more is_free Used ss in
    let deferred : deferred_in (Used ∷ ss) ≡ 0 + deferred_in ss = more is_deferred Used ss in
    omega (arith, e, after, free, deferred)
freed_count (Deferred ∷ ss) =
    let e = freed_count ss in
    let after : free_in (map released (Deferred ∷ ss)) ≡ 1 + free_in (map released ss) = more is_free Free (map released ss) in
    let free : free_in (Deferred ∷ ss) ≡ 0 + free_in ss = more is_free Deferred ss in
    let deferred : deferred_in (Deferred ∷ ss) ≡ 1 + deferred_in ss = more is_deferred Deferred ss in
    omega (arith, e, after, free, deferred)

none_deferred : (states : List State) → deferred_in (map released states) ≡ 0
none_deferred [] = refl
none_deferred (Free ∷ ss) =
    let e = none_deferred ss in
    let g : 0 + deferred_in (map released ss) ≡ 0 = omega (arith, e) in
    more is_deferred Free (map released ss) ∙ g
none_deferred (Used ∷ ss) =
    let e = none_deferred ss in
    let g : 0 + deferred_in (map released ss) ≡ 0 = omega (arith, e) in
    more is_deferred Used (map released ss) ∙ g
none_deferred (Deferred ∷ ss) =
    let e = none_deferred ss in
    let g : 0 + deferred_in (map released ss) ≡ 0 = omega (arith, e) in
    more is_deferred Free (map released ss) ∙ g

pub fresh_states : (n : ℕ) (xs : List ℕ) → IsAscending n xs → states_of n 0 xs ≡ replicate n Free
fresh_states n xs asc =
    ext_get_or Free _ _ (length-map xs (state_at n 0) ∙ (asc.whole ∙ sym (length-replicate n Free)))
    (λ k h.
    let hk : k < length xs = subst (λ m. k < m) (length-map xs (state_at n 0)) h in
    let kn : k < n = subst (λ m. k < m) asc.whole hk in
    get_or-map (state_at n 0) xs k 0 Free hk ∙ (ap (state_at n 0) (asc.each k kn) ∙ (free_at n 0 k kn ∙ sym (get_or-replicate n k Free Free kn))))

all_free : (n : ℕ) → free_in (replicate n Free) ≡ n
all_free zero = refl
all_free (suc n) =
    let e = all_free n in
    let g : 1 + free_in (replicate n Free) ≡ suc n = omega (arith, e) in
    more is_free Free (replicate n Free) ∙ g

no_deferred : (n : ℕ) → deferred_in (replicate n Free) ≡ 0
no_deferred zero = refl
no_deferred (suc n) =
    let e = no_deferred n in
    let g : 0 + deferred_in (replicate n Free) ≡ 0 = omega (arith, e) in
    more is_deferred Free (replicate n Free) ∙ g

pub fresh_parted : (n : ℕ) (xs : List ℕ) → IsAscending n xs → n < 2 ^ 32 → IsParted n 0 xs
fresh_parted n xs asc few =
    let w = asc.whole in
    let e = fresh_states n xs asc in
    record {
      few = rw w few;
      within = omega (arith, w);
      free_count = ap free_in e ∙ all_free n;
      deferred_count = ap deferred_in e ∙ no_deferred n;
    }

-- the last free cluster is free
pub last_is_free : (f d : ℕ) (xs : List ℕ) (a : ℕ) → 0 < f → IsAt xs a (f - 1) → IsIn (states_of f d xs) a Free
last_is_free f d xs a some is = record {
  within = rw (length-map xs (state_at f d)) is.within;
  state = was_at f d xs a (f - 1) is ∙ free_at f d (f - 1) (omega arith);
}

pub released_parted : (f d : ℕ) (xs : List ℕ) → IsParted f d xs → IsParted (f + d) 0 xs
released_parted f d xs parted =
    let fits = parted.within in
    let e = released_states f d xs in
    let free_count : free_in (states_of f d xs) ≡ f = parted.free_count in
    let deferred_count : deferred_in (states_of f d xs) ≡ d = parted.deferred_count in
    let freed = freed_count (states_of f d xs) in
    record {
      few = parted.few;
      within = omega arith;
      free_count = ap free_in e ∙ omega (arith, freed, free_count, deferred_count);
      deferred_count = ap deferred_in e ∙ none_deferred (states_of f d xs);
    }
