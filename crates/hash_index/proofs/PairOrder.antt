-- The order of pairs, and the first pair of a range.
use Rattle.std.proofs.Common.{◌≡◌, ℕ, ◌<◌, ◌≤◌, ◌^◌, ◌⊎◌, inl, inr, List, [], ◌∷◌, ◌++◌, Bool, true, false, cond, refl, sym, ◌∙◌, ap, subst, arith, IsTrue, Contains, Option, Some, None}
use Rattle.std.proofs.lemmas.Map.Lookups.{exact_bytes, exact_unsigned, exact_pairs}
use Rattle.std.proofs.lemmas.Cmp.{nat_list_cmp_total, nat_cmp_total, tied_itself}
use Rattle.std.proofs.lemmas.Bool.{cases_lt}
use Rattle.std.proofs.lemmas.Bool.Decides.{nat_tests}
use Rattle.std.proofs.lemmas.List.Elements.{Contains-append_left, Contains-push, Contains-push_cases}
use Rattle.std.specs.Cmp.Lexicographic.{slice_cmp}
use Rattle.std.specs.Ordering.{nat_cmp, ordering_then, ordering_reverse, is_gt, is_eq}
use Rattle.std.specs.declared.cmp.Ordering.{Ordering}
use Rattle.std.specs.declared.cmp.Ordering.TheVariants.{Less, Equal, Greater}
use Rattle.std.specs.declared.ops.Bound.TheVariants.{Included, Unbounded}
use Rattle.std.specs.BTreeMap.{is_at}
use Rattle.std.specs.BTreeSet.{BTreeSet, IsKeyRangeOf}
use Rattle.hash_index.specs.Pairs.{Pair, Agrees, IsKnown, Finds, Keeps}
use Rattle.hash_index.specs.Ordered.{pair_cmp, has, OrderedStandsFor}

not_greater : (a b : ℕ) → is_gt (nat_cmp a b) ≡ false → a ≤ b
not_greater a b h = grind (arith, nat_tests)

not_greater_from : (a b : ℕ) → a ≤ b → is_gt (nat_cmp a b) ≡ false
not_greater_from a b h = grind (arith, nat_tests)

-- a pair that is not above another has a lesser digest, or the same one and no greater id
parts : (o : Ordering) (x y : List ℕ) (a b : ℕ) → slice_cmp nat_cmp x y ≡ o → is_gt (ordering_then o (nat_cmp a b)) ≡ false → (slice_cmp nat_cmp x y ≡ Less) ⊎ ((x ≡ y) × (a ≤ b))
parts Less x y a b e h = inl e
parts Equal x y a b e h = inr (exact_bytes x y e, not_greater a b h)
parts Greater x y a b e h = absurd (cc)

less_twice : (x y : List ℕ) → slice_cmp nat_cmp x y ≡ Less → slice_cmp nat_cmp y x ≡ Less → ⊥
less_twice x y p q = let e : Less ≡ Greater = sym p ∙ (nat_list_cmp_total.antisymm x y ∙ ap ordering_reverse q) in cc

less_itself : (x y : List ℕ) → x ≡ y → slice_cmp nat_cmp x y ≡ Less → ⊥
less_itself x y e p = let same : slice_cmp nat_cmp x x ≡ Less = rw (← e) at p in let tied : slice_cmp nat_cmp x x ≡ Equal = tied_itself nat_list_cmp_total x in cc

-- between two pairs of one digest there are only pairs of that digest
between : (digest : List ℕ) (from id : ℕ) (p : Pair) → is_gt (pair_cmp (digest, from) p) ≡ false → is_gt (pair_cmp p (digest, id)) ≡ false → (p.0 ≡ digest) × (from ≤ p.1) × (p.1 ≤ id)
between digest from id p low high =
    elim (parts (slice_cmp nat_cmp digest p.0) digest p.0 from p.1 refl low) [
      | inl less ↦ elim (parts (slice_cmp nat_cmp p.0 digest) p.0 digest p.1 id refl high) [
        | inl back ↦ absurd (less_twice digest p.0 less back)
        | inr same ↦ absurd (less_itself digest p.0 (sym same.0) less)
      ]
      | inr same ↦ elim (parts (slice_cmp nat_cmp p.0 digest) p.0 digest p.1 id refl high) [
        | inl less ↦ absurd (less_itself p.0 digest (sym same.0) less)
        | inr back ↦ (back.0, same.1, back.1)
      ]
    ]

in_range : (digest : List ℕ) (from id : ℕ) → from ≤ id → is_gt (pair_cmp (digest, from) (digest, id)) ≡ false
in_range digest from id h =
    let tied : slice_cmp nat_cmp digest digest ≡ Equal = tied_itself nat_list_cmp_total digest in
    rw tied (not_greater_from from id h)

above_same : (digest : List ℕ) (from id : ℕ) → is_gt (pair_cmp (digest, from) (digest, id)) ≡ false → from ≤ id
above_same digest from id h =
    let tied : slice_cmp nat_cmp digest digest ≡ Equal = tied_itself nat_list_cmp_total digest in
    not_greater from id (rw tied at h)

-- what lies in order from the id on, under the digest
abbrev pub RangeFrom : BTreeSet Pair → List ℕ → ℕ → List Pair → Type 0
RangeFrom s digest from r = IsKeyRangeOf pair_cmp (Included (digest, from)) Unbounded s r

pub none_left : (s : BTreeSet Pair) (digest : List ℕ) (from : ℕ) (r : List Pair) → RangeFrom s digest from r → r ≡ []
    → (id : ℕ) → from ≤ id → IsTrue (has s.keys (digest, id)) → ⊥
none_left s digest from r range e id h held =
    let none : has s.keys (digest, id) ≡ false = range.5 e (digest, id) (in_range digest from id h, tt) in cc

pub not_first : (s : BTreeSet Pair) (digest : List ℕ) (from : ℕ) (r t : List Pair) (p : Pair) → RangeFrom s digest from r → r ≡ p ∷ t → (p.0 ≡ digest → ⊥)
    → (id : ℕ) → from ≤ id → IsTrue (has s.keys (digest, id)) → ⊥
not_first s digest from r t p range e other id h held =
    let here : RangeFrom s digest from (p ∷ t) = subst (λ (q : List Pair). RangeFrom s digest from q) e range in
    other ((between digest from id p (here.1.0.0) (here.2 (digest, id) (in_range digest from id h, tt) held)).0)

pub is_first : (s : BTreeSet Pair) (digest : List ℕ) (from : ℕ) (r t : List Pair) (p : Pair) → RangeFrom s digest from r → r ≡ p ∷ t → p.0 ≡ digest
    → (from ≤ p.1) × IsTrue (has s.keys (digest, p.1)) × ((other : ℕ) → from ≤ other → IsTrue (has s.keys (digest, other)) → p.1 ≤ other)
is_first s digest from r t p range e same =
    let here : RangeFrom s digest from (p ∷ t) = subst (λ (q : List Pair). RangeFrom s digest from q) e range in
    let low : is_gt (pair_cmp (digest, from) (digest, p.1)) ≡ false = subst (λ (d : List ℕ). is_gt (pair_cmp (digest, from) (d, p.1)) ≡ false) same here.1.0.0 in (
      above_same digest from p.1 low,
      subst (λ (d : List ℕ). IsTrue (has s.keys (d, p.1))) same here.1.1,
      λ other h held. (between digest from other p here.1.0.0 (here.2 (digest, other) (in_range digest from other h, tt) held)).2,
    )

is_equal : (o : Ordering) → is_eq o ≡ true → o ≡ Equal
is_equal Less h = absurd (cc)
is_equal Equal h = refl
is_equal Greater h = absurd (cc)

is_key : (key p : Pair) → is_at (pair_cmp key) p ≡ true → key ≡ p
is_key key p h = exact_pairs (slice_cmp nat_cmp) nat_cmp exact_bytes exact_unsigned key p (is_equal (pair_cmp key p) h)

is_at_itself : (key : Pair) → is_at (pair_cmp key) key ≡ true
is_at_itself key =
    let one : slice_cmp nat_cmp key.0 key.0 ≡ Equal = tied_itself nat_list_cmp_total key.0 in
    let two : nat_cmp key.1 key.1 ≡ Equal = tied_itself nat_cmp_total key.1 in
    rw one (rw two refl)

added_there : (held : List Pair) (key p : Pair) (pairs : List Pair) (b : Bool) → is_at (pair_cmp key) p ≡ b
    → OrderedStandsFor held pairs → cond b true (has held p) ≡ true → Contains (pairs ++ key ∷ []) p
added_there held key p pairs true e stands h =
    subst (λ (q : Pair). Contains (pairs ++ key ∷ []) q) (is_key key p e) (Contains-push pairs key)
added_there held key p pairs false e stands h = Contains-append_left pairs (key ∷ []) p ((stands.same p).0 h)

kept_there : (b : Bool) (held : Bool) → held ≡ true → cond b true held ≡ true
kept_there true held h = refl
kept_there false held h = h

added_back : (held new : List Pair) (key p : Pair) (pairs : List Pair) → has new p ≡ cond (is_at (pair_cmp key) p) true (has held p)
    → OrderedStandsFor held pairs → Contains pairs p ⊎ (key ≡ p) → IsTrue (has new p)
added_back held new key p pairs update stands (inl old) = update ∙ kept_there (is_at (pair_cmp key) p) (has held p) ((stands.same p).1 old)
added_back held new key p pairs update stands (inr e) =
    let at : is_at (pair_cmp key) p ≡ true = subst (λ (q : Pair). is_at (pair_cmp key) q ≡ true) e (is_at_itself key) in
    update ∙ ap (λ b. cond b true (has held p)) at

-- after one more pair, what is held are the pairs and that one
pub has_added : (held new : List Pair) (key : Pair) (pairs : List Pair) → ((q : Pair) → has new q ≡ cond (is_at (pair_cmp key) q) true (has held q))
    → key.1 < 2 ^ 48 → OrderedStandsFor held pairs → OrderedStandsFor new (pairs ++ key ∷ [])
has_added held new key pairs updates small stands = record {
  same = λ p. (
    (λ h. added_there held key p pairs (is_at (pair_cmp key) p) refl stands (sym (updates p) ∙ h)),
    (λ c. added_back held new key p pairs (updates p) stands (Contains-push_cases pairs key p c)),
  );
  fits = λ p c. elim (Contains-push_cases pairs key p c) [
    | inl old ↦ stands.fits p old
    | inr e ↦ subst (λ (q : Pair). q.1 < 2 ^ 48) e small
  ];
}

-- what a search that went so far knows: none of the ids up to there is known
abbrev pub UnknownUpTo : (ℕ → Option (List ℕ)) → List Pair → List ℕ → ℕ → ℕ → Type 0
UnknownUpTo tells held digest after last = (id : ℕ) → after < id → id ≤ last → IsTrue (has held (digest, id)) → tells id ≡ None

known_above : (tells : ℕ → Option (List ℕ)) (held pairs : List Pair) (digest : List ℕ) (after last other : ℕ)
    → OrderedStandsFor held pairs → UnknownUpTo tells held digest after last → IsKnown tells pairs digest after other → last < other
known_above tells held pairs digest after last other stands unknown k = elim (cases_lt last other) [
  | inl high ↦ high
  | inr low ↦
      (let none : tells other ≡ None = unknown other k.above low ((stands.same (digest, other)).1 k.held) in
      let some : tells other ≡ Some digest = k.known in
      absurd (cc))
]

pub known_first : (tells : ℕ → Option (List ℕ)) (held pairs : List Pair) (digest : List ℕ) (after last id : ℕ)
    → OrderedStandsFor held pairs → Agrees tells pairs → after ≤ last → UnknownUpTo tells held digest after last
    → last < id → IsTrue (has held (digest, id)) → ((other : ℕ) → last < other → IsTrue (has held (digest, other)) → id ≤ other)
    → (tells id ≡ None → ⊥) → Finds tells pairs digest after (Some id)
known_first tells held pairs digest after last id stands agrees le unknown lt here least told =
    let c : Contains pairs (digest, id) = (stands.same (digest, id)).0 here in (
      record {
        above = omega arith;
        held = c;
        known = elim (agrees (digest, id) c) [ inl known ↦ known | inr none ↦ absurd (told none) ];
      },
      λ other k. least other (known_above tells held pairs digest after last other stands unknown k) ((stands.same (digest, other)).1 k.held),
    )

pub none_known : (tells : ℕ → Option (List ℕ)) (held pairs : List Pair) (digest : List ℕ) (after last : ℕ)
    → OrderedStandsFor held pairs → UnknownUpTo tells held digest after last
    → ((id : ℕ) → last < id → id < 2 ^ 64 → IsTrue (has held (digest, id)) → ⊥) → Finds tells pairs digest after None
none_known tells held pairs digest after last stands unknown none = λ id k.
    let small : id < 2 ^ 48 = stands.fits (digest, id) k.held in
    none id (known_above tells held pairs digest after last id stands unknown k) (omega arith) ((stands.same (digest, id)).1 k.held)

-- one more id was passed, which is not known
pub unknown_more : (tells : ℕ → Option (List ℕ)) (held : List Pair) (digest : List ℕ) (after last next : ℕ)
    → UnknownUpTo tells held digest after last → ((other : ℕ) → last < other → IsTrue (has held (digest, other)) → next ≤ other)
    → tells next ≡ None → UnknownUpTo tells held digest after next
unknown_more tells held digest after last next unknown least none = λ id above upto here. elim (cases_lt last id) [
  | inl high ↦
      (let reached : next ≤ id = least id high here in
      let e : next ≡ id = omega arith in
      subst (λ (n : ℕ). tells n ≡ None) e none)
  | inr low ↦ unknown id above low here
]

-- the same pairs are kept where none is left out
pub keeps_all : (tells : ℕ → Option (List ℕ)) (pairs : List Pair) → Keeps tells pairs pairs
keeps_all tells pairs = record { only = λ p c. c; each_known = λ p c k. c }
