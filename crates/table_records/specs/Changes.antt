-- A change of the map that is a change of one table: a pair that is put, or a range of keys that is dropped.
use Rattle.std.specs.Prelude.{◌≡◌, ◌≢◌, ◌≤◌, ◌<◌, ◌&&◌, ◌+◌, ℕ, Bool, true, false, not, List, [], ◌∷◌, T, IsTrue, Option, Some, None, get_or, refl}
use Rattle.std.proofs.Common.{sym, ◌∙◌, ap, inl, inr, arith}
use Rattle.std.specs.declared.cmp.Ordering.{Ordering}
use Rattle.std.specs.declared.cmp.Ordering.TheVariants.{Less, Equal, Greater}
use Rattle.std.specs.Ordering.{nat_cmp, is_le, is_lt, ordering_then, MatchOrdering}
use Rattle.std.specs.Cmp.{nat_cmp_is, ranks}
use Rattle.std.proofs.lemmas.Bool.{cases_lt}
use Rattle.std.specs.FinMap.Entries.{put, where_key, is_sorted}
use Rattle.byte_map.specs.Words.{Map, bytes_cmp, is_between, without}
use Rattle.table_records.specs.Codecs.{Codec, typed}
use Rattle.table_records.specs.Laws.{put_typed, put_other, where_typed}

-- the new map is the old one with this entry of the table
pub record IsPut {K V : Type 0} (c : Codec K V) (k : K) (v : V) (old new : Map) : Type 0 where
  pub key : List ℕ
  pub value : List ℕ
  pub spells : c.read_key key ≡ Some k
  pub whole : IsTrue (c.is_value value)
  pub means : c.read_value value ≡ v
  pub is : new ≡ put bytes_cmp key value old

-- below the end of a range, if it has one
abbrev pub is_under : {K : Type 0} → (K → K → Ordering) → Option K → K → Bool
is_under cmp None k = true
is_under cmp (Some to) k = is_lt (cmp k to)

-- in the range from a key on, up to another or to the end
abbrev pub is_in_range : {K : Type 0} → (K → K → Ordering) → K → Option K → K → Bool
is_in_range cmp from to k = is_le (cmp from k) && is_under cmp to k

-- a table without the keys of a range
abbrev pub without_range : {K V : Type 0} → Codec K V → K → Option K → List (K × V) → List (K × V)
without_range c from to es = where_key c.cmp (λ k. not (is_in_range c.cmp from to k)) es

-- bytes that end a range of keys of the table: the key that ends it, or the next number alone, above all its keys
abbrev pub EndsRange : {K V : Type 0} → Codec K V → Option K → List ℕ → Type 0
EndsRange c None high = high ≡ (c.number + 1) ∷ []
EndsRange c (Some to) high = c.read_key high ≡ Some to

-- the new map is the old one without the keys of a range of the table
pub record IsDropped {K V : Type 0} (c : Codec K V) (from : K) (to : Option K) (old new : Map) : Type 0 where
  pub low : List ℕ
  pub high : List ℕ
  pub begins : c.read_key low ≡ Some from
  pub ends : EndsRange c to high
  pub is : new ≡ without low high old

-- ---- bytes by their first byte

-- bytes compare by their first bytes, where these differ
less_first : (a b : List ℕ) (x y : ℕ) → x < y → 0 < x → get_or a 0 0 ≡ x → get_or b 0 0 ≡ y → bytes_cmp a b ≡ Less
less_first [] b x y less some one two = absurd (omega (arith, some, one))
less_first (p ∷ a) [] x y less some one two = absurd (omega (arith, less, two))
less_first (p ∷ a) (q ∷ b) x y less some one two =
    ap (λ (r : Ordering). ordering_then r (bytes_cmp a b)) (sym (nat_cmp_is p q Less (omega (arith, less, one, two))))

greater_first : (a b : List ℕ) (x y : ℕ) → y < x → 0 < y → get_or a 0 0 ≡ x → get_or b 0 0 ≡ y → bytes_cmp a b ≡ Greater
greater_first [] b x y less some one two = absurd (omega (arith, less, one))
greater_first (p ∷ a) [] x y less some one two = absurd (omega (arith, some, two))
greater_first (p ∷ a) (q ∷ b) x y less some one two =
    ap (λ (r : Ordering). ordering_then r (bytes_cmp a b)) (sym (nat_cmp_is p q Greater (omega (arith, less, one, two))))

-- bytes that begin with this byte or a greater one are not below it alone
not_under : (b : List ℕ) (x : ℕ) → 0 < x → x ≤ get_or b 0 0 → is_lt (bytes_cmp b (x ∷ [])) ≡ false
not_under [] x some high = absurd (omega (arith, some, high))
not_under (p ∷ b) x some high = by (nat_cmp p x) (ranks p x)
  where
    rest : (c : List ℕ) → is_lt (bytes_cmp c []) ≡ false
    rest [] = refl
    rest (z ∷ c) = refl

    by : (r : Ordering) → MatchOrdering r (p < x) (p ≡ x) (x < p) → is_lt (ordering_then r (bytes_cmp b [])) ≡ false
    by Less h = absurd (omega (arith, h, high))
    by Equal h = rest b
    by Greater h = refl

kept_all : {K X : Type 0} (R : K → K → Ordering) (es : List (K × X)) → where_key R (λ k. true) es ≡ es
kept_all R [] = refl
kept_all R (e ∷ es) = ap (λ (l : List _). e ∷ l) (kept_all R es)

and_false : (b : Bool) → not (b && false) ≡ true
and_false true = refl
and_false false = refl

-- ---- what a change is for its own table

module _ {K V : Type 0} (c : Codec K V) where
  pub put_here : (k : K) (v : V) (old new : Map) → T (is_sorted bytes_cmp old) → IsPut c k v old new → typed c new ≡ put c.cmp k v (typed c old)
  put_here k v old new sorted p =
      ap (λ (m : Map). typed c m) p.is ∙ put_typed c p.key p.value k p.spells old sorted ∙ ap (λ (x : V). put c.cmp k x (typed c old)) p.means

  -- the end of a range says the same of a key and of its bytes
  under_same : (to : Option K) (high b : List ℕ) (k : K) → EndsRange c to high → c.read_key b ≡ Some k → is_lt (bytes_cmp b high) ≡ is_under c.cmp to k
  under_same None high b k ends is =
      ap (λ (h : List ℕ). is_lt (bytes_cmp b h)) ends
      ∙ ap is_lt (less_first b ((c.number + 1) ∷ []) c.number (c.number + 1) (omega arith) c.positive (c.numbered b k is) refl)
  under_same (Some to) high b k ends is = ap is_lt (c.ordered b high k to is ends)

  pub dropped_here : (from : K) (to : Option K) (old new : Map) → IsDropped c from to old new → typed c new ≡ without_range c from to (typed c old)
  dropped_here from to old new p =
      ap (λ (m : Map). typed c m) p.is
      ∙ where_typed c (λ b. not (is_between bytes_cmp p.low p.high b)) (λ k. not (is_in_range c.cmp from to k))
      (λ b k is i. not (is_le (c.ordered p.low b from k p.begins is i) && under_same to p.high b k p.ends is i)) old

-- ---- what it is for another table

module _ {K V L W : Type 0} (c : Codec K V) (d : Codec L W) (differ : c.number ≢ d.number) where
  other_key : (b : List ℕ) (k : K) → c.read_key b ≡ Some k → d.read_key b ≡ None
  other_key b k is = by (d.read_key b) refl
    where
      by : (o : Option L) → d.read_key b ≡ o → o ≡ None
      by None e = refl
      by (Some l) e = absurd (differ (sym (c.numbered b k is) ∙ d.numbered b l e))

  pub put_there : (k : K) (v : V) (old new : Map) → IsPut c k v old new → typed d new ≡ typed d old
  put_there k v old new p = ap (λ (m : Map). typed d m) p.is ∙ put_other d p.key p.value (other_key p.key k p.spells) old

  -- a key of a later table is not below the end of a range
  not_under_end : (to : Option K) (high b : List ℕ) (l : L) → EndsRange c to high → d.read_key b ≡ Some l → c.number < d.number → is_lt (bytes_cmp b high) ≡ false
  not_under_end None high b l ends is less =
      let number = d.numbered b l is in
      ap (λ (h : List ℕ). is_lt (bytes_cmp b h)) ends ∙ not_under b (c.number + 1) (omega arith) (omega (arith, less, number))
  not_under_end (Some to) high b l ends is less =
      ap is_lt (greater_first b high d.number c.number less c.positive (d.numbered b l is) (c.numbered high to ends))

  pub dropped_there : (from : K) (to : Option K) (old new : Map) → IsDropped c from to old new → typed d new ≡ typed d old
  dropped_there from to old new p =
      ap (λ (m : Map). typed d m) p.is
      ∙ where_typed d (λ b. not (is_between bytes_cmp p.low p.high b)) (λ k. true) outside old
      ∙ kept_all d.cmp (typed d old)
    where
      outside : (b : List ℕ) (l : L) → d.read_key b ≡ Some l → not (is_between bytes_cmp p.low p.high b) ≡ true
      outside b l is = elim (cases_lt d.number c.number) [
        | inl less ↦ ap (λ (r : Ordering). not (is_le r && is_lt (bytes_cmp b p.high)))
            (greater_first p.low b c.number d.number less d.positive (c.numbered p.low from p.begins) (d.numbered b l is))
        | inr more ↦
            let less : c.number < d.number = omega (arith, more, differ) in
            ap (λ (t : Bool). not (is_le (bytes_cmp p.low b) && t)) (not_under_end to p.high b l p.ends is less) ∙ and_false (is_le (bytes_cmp p.low b))
      ]
