-- Which entry covers an offset.
use Rattle.std.specs.Prelude.{◌≡◌, ◌+◌, ◌-◌, ◌<◌, ◌≤◌, ℕ, Bool, true, false, List, [], ◌∷◌, ◌++◌, Some, None, nat_lt, if◌then◌else◌, refl}
use Rattle.std.proofs.Common.{sym, ◌∙◌, ap, arith, lt-ltb, le-ltb, ltb-true, ltb-false}
use Rattle.stream_map.specs.declared.entry.Entry.{Entry}
use Rattle.stream_map.specs.Pieces.{total_length, place_at, Covers}

pub total_joined : (front back : List Entry) → total_length (front ++ back) ≡ total_length front + total_length back
total_joined [] back = omega arith
total_joined (e ∷ front) back = let rest = total_joined front back in omega (arith, rest)

-- the first entry covers an offset, or it does not
place_here : (e : Entry) (es : List Entry) (o : ℕ) → o < e.length → place_at (e ∷ es) o ≡ Some (e, o)
place_here e es o low = ap (λ (t : Bool). if t then Some (e, o) else place_at es (o - e.length)) (lt-ltb o e.length low)

place_further : (e : Entry) (es : List Entry) (o : ℕ) → e.length ≤ o → place_at (e ∷ es) o ≡ place_at es (o - e.length)
place_further e es o high = ap (λ (t : Bool). if t then Some (e, o) else place_at es (o - e.length)) (le-ltb o e.length high)

place_behind : (e : Entry) (es : List Entry) (o : ℕ) → place_at (e ∷ es) (e.length + o) ≡ place_at es o
place_behind e es o =
    let less : e.length + o - e.length ≡ o = omega arith in
    place_further e es (e.length + o) (omega arith) ∙ ap (λ (n : ℕ). place_at es n) less

pub place_front : (front back : List Entry) (o : ℕ) → o < total_length front → place_at (front ++ back) o ≡ place_at front o
place_front [] back o low = absurd (omega (arith, low))
place_front (e ∷ front) back o low = by (place_front front back (o - e.length)) (nat_lt o e.length) refl
  where
    by : (o - e.length < total_length front → place_at (front ++ back) (o - e.length) ≡ place_at front (o - e.length))
        → (t : Bool) → nat_lt o e.length ≡ t → place_at (e ∷ (front ++ back)) o ≡ place_at (e ∷ front) o
    by rest true is = let here = ltb-true o e.length is in place_here e (front ++ back) o here ∙ sym (place_here e front o here)
    by rest false is =
        let high : e.length ≤ o = ltb-false o e.length is in
        let less : o - e.length < total_length front = omega (arith, high, low) in
        place_further e (front ++ back) o high ∙ rest less ∙ sym (place_further e front o high)

pub place_back : (front back : List Entry) (o : ℕ) → place_at (front ++ back) (total_length front + o) ≡ place_at back o
place_back [] back o = let whole : 0 + o ≡ o = omega arith in ap (λ (n : ℕ). place_at back n) whole
place_back (e ∷ front) back o =
    let both : e.length + total_length front + o ≡ e.length + (total_length front + o) = omega arith in
    ap (λ (n : ℕ). place_at (e ∷ (front ++ back)) n) both ∙ place_behind e (front ++ back) (total_length front + o) ∙ place_back front back o

pub place_outside : (es : List Entry) (o : ℕ) → total_length es ≤ o → place_at es o ≡ None
place_outside [] o high = refl
place_outside (e ∷ es) o high =
    let past : e.length ≤ o = omega (arith, high) in
    place_further e es o past ∙ place_outside es (o - e.length) (omega (arith, high, past))

pub place_covers : (es : List Entry) (o : ℕ) → o < total_length es → (e : Entry) × (k : ℕ) × (place_at es o ≡ Some (e, k)) × Covers es o e k
place_covers [] o low = absurd (omega (arith, low))
place_covers (e ∷ es) o low = by (place_covers es (o - e.length)) (nat_lt o e.length) refl
  where
    by : (o - e.length < total_length es → (f : Entry) × (k : ℕ) × (place_at es (o - e.length) ≡ Some (f, k)) × Covers es (o - e.length) f k)
        → (t : Bool) → nat_lt o e.length ≡ t → (f : Entry) × (k : ℕ) × (place_at (e ∷ es) o ≡ Some (f, k)) × Covers (e ∷ es) o f k
    by rest true is =
        let here = ltb-true o e.length is in
        let offset : o ≡ 0 + o = omega arith in
        (e, o, place_here e es o here, ([], es, refl, offset, here))
    by rest false is =
        let high : e.length ≤ o = ltb-false o e.length is in
        let less : o - e.length < total_length es = omega (arith, high, low) in
        let further = rest less in
        let f = further.0 in
        let k = further.1 in
        let covers : Covers es (o - e.length) f k = further.3 in
        let split : e ∷ es ≡ (e ∷ covers.0) ++ f ∷ covers.1 = ap (λ (l : List Entry). e ∷ l) covers.2 in
        let place : o - e.length ≡ total_length covers.0 + k = covers.3 in
        let offset : o ≡ e.length + total_length covers.0 + k = omega (arith, high, place) in
        (f, k, place_further e es o high ∙ further.2, (e ∷ covers.0, covers.1, split, offset, covers.4))

pub covers_placed : (es : List Entry) (o : ℕ) (e : Entry) (k : ℕ) → Covers es o e k → place_at es o ≡ Some (e, k)
covers_placed es o e k covers =
    (λ i. place_at (covers.2 i) (covers.3 i)) ∙ place_back covers.0 (e ∷ covers.1) k ∙ place_here e covers.1 k covers.4
