-- The least key of a table, the least one above a key, and that a table is in the order of its keys.
use Rattle.std.specs.Prelude.{◌≡◌, ◌≢◌, ◌≤◌, ◌<◌, ℕ, Bool, true, false, cond, T, List, [], ◌∷◌, Option, Some, None, IsSome, get_or, refl}
use Rattle.std.proofs.Common.{sym, ◌∙◌, ap, subst, arith}
use Rattle.std.specs.declared.cmp.Ordering.{Ordering}
use Rattle.std.specs.declared.cmp.Ordering.TheVariants.{Less, Equal, Greater}
use Rattle.std.specs.Ordering.{nat_cmp, is_lt, is_eq, ordering_then, MatchOrdering}
use Rattle.std.specs.Cmp.{ranks}
use Rattle.std.proofs.lemmas.Bool.{false≢true}
use Rattle.std.proofs.lemmas.Map.Lookups.{exact_bytes}
use Rattle.std.specs.FinMap.Entries.{find, where_key, below_all, is_sorted, is_sorted-where_key}
use Rattle.byte_map.specs.Words.{Map, bytes_cmp, first_of, next_in}
use Rattle.table_records.specs.Codecs.{Codec, typed, with_key, IsKeyed}
use Rattle.table_records.specs.Laws.{where_typed}
use Rattle.groundwork.proofs.Orders.{is_less}
use Rattle.groundwork.proofs.Bools.{first_true, second_true, both_true}

-- bytes in order have their first bytes in order
first_bytes : (a b : List ℕ) → bytes_cmp a b ≡ Less → get_or a 0 0 ≤ get_or b 0 0
first_bytes [] b less = omega arith
first_bytes (x ∷ a) [] less = absurd (cc)
first_bytes (x ∷ a) (y ∷ b) less = by (nat_cmp x y) (ranks x y) less
  where
    by : (r : Ordering) → MatchOrdering r (x < y) (x ≡ y) (y < x) → ordering_then r (bytes_cmp a b) ≡ Less → x ≤ y
    by Less h e = omega (arith, h)
    by Equal h e = omega (arith, h)
    by Greater h e = absurd (cc)

-- one byte alone is at or below all bytes that begin with it
alone : (x : ℕ) (b : List ℕ) → 0 < x → get_or b 0 0 ≡ x → (bytes_cmp (x ∷ []) b ≡ Equal → ⊥) → is_lt (bytes_cmp (x ∷ []) b) ≡ true
alone x [] some first differ = absurd (omega (arith, some, first))
alone x (y ∷ b) some first differ = by (nat_cmp x y) (ranks x y) differ
  where
    rest : (c : List ℕ) → (bytes_cmp [] c ≡ Equal → ⊥) → is_lt (bytes_cmp [] c) ≡ true
    rest [] never = absurd (never refl)
    rest (z ∷ c) never = refl

    by : (r : Ordering) → MatchOrdering r (x < y) (x ≡ y) (y < x) → (ordering_then r (bytes_cmp [] b) ≡ Equal → ⊥) → is_lt (ordering_then r (bytes_cmp [] b)) ≡ true
    by Less h never = refl
    by Equal h never = rest b never
    by Greater h never = absurd (omega (arith, h, first))

not_found : {A : Type 0} (r : Ordering) (x : A) (o : Option A) → cond (is_eq r) (Some x) o ≡ None → (r ≡ Equal → ⊥) × (o ≡ None)
not_found Less x o is = (λ e. absurd (cc), is)
not_found Equal x o is = absurd (cc)
not_found Greater x o is = (λ e. absurd (cc), is)

module _ {K V : Type 0} (c : Codec K V) where
  keyed_where : (p : List ℕ → Bool) (m : Map) → IsKeyed c m → IsKeyed c (where_key bytes_cmp p m)
  keyed_where p [] keyed = tt
  keyed_where p (e ∷ m) keyed =
      let rest = keyed_where p m keyed.1 in
      elim (p e.0) as (λ t. IsKeyed c (cond t (e ∷ where_key bytes_cmp p m) (where_key bytes_cmp p m))) [ true ↦ (keyed.0, rest) | false ↦ rest ]

  abbrev pub as_entry : Option K → List ℕ → Option (K × V)
  as_entry None value = None
  as_entry (Some k) value = Some (k, c.read_value value)

  -- the entry that a pair of the map is, if it is one of this table
  abbrev pub entry_of : Option (List ℕ × List ℕ) → Option (K × V)
  entry_of None = None
  entry_of (Some e) = as_entry (c.read_key e.0) e.1

  -- no key of the table stands above bytes that begin with more than its number
  none_above : (x : ℕ) (b : List ℕ) (m : Map) → get_or b 0 0 ≡ x → c.number < x → T (below_all bytes_cmp b m) → typed c m ≡ []
  none_above x b [] is above low = refl
  none_above x b (e ∷ m) is above low =
      let less = first_bytes b e.0 (is_less (bytes_cmp b e.0) (first_true _ _ low)) in
      let rest = none_above x b m is above (second_true (is_lt (bytes_cmp b e.0)) _ low) in
      elim (c.read_key e.0) as (λ o. c.read_key e.0 ≡ o → with_key c o e.1 (typed c m) ≡ []) [
        | None ↦ λ o. rest
        | Some k ↦ λ o. absurd (let number = c.numbered e.0 k o in omega (arith, number, less, is, above))
      ] refl

  -- where all pairs are above bytes with the number of the table, the first pair is the table's first entry
  first_entry : (b : List ℕ) (m : Map) → get_or b 0 0 ≡ c.number → T (is_sorted bytes_cmp m) → T (below_all bytes_cmp b m) → IsKeyed c m
      → first_of (typed c m) ≡ entry_of (first_of m)
  first_entry b [] is sorted low keyed = refl
  first_entry b (e ∷ m) is sorted low keyed =
      let less = first_bytes b e.0 (is_less (bytes_cmp b e.0) (first_true _ _ low)) in
      elim (c.read_key e.0) as (λ o. c.read_key e.0 ≡ o → first_of (with_key c o e.1 (typed c m)) ≡ as_entry o e.1) [
        | Some k ↦ λ o. refl
        | None ↦ λ o.
            let other : get_or e.0 0 0 ≢ c.number = λ same. (let some = subst (λ (q : Option K). IsSome q) o (keyed.0 same) in false≢true some) in
            ap (λ (es : List (K × V)). first_of es) (none_above (get_or e.0 0 0) e.0 m refl (omega (arith, less, is, other)) (first_true _ _ sorted))
      ] refl

  all_above : (b : List ℕ) (m : Map) → T (below_all bytes_cmp b (where_key bytes_cmp (λ x. is_lt (bytes_cmp b x)) m))
  all_above b [] = tt
  all_above b (e ∷ m) =
      let above = where_key bytes_cmp (λ x. is_lt (bytes_cmp b x)) m in
      elim (is_lt (bytes_cmp b e.0)) as (λ t. is_lt (bytes_cmp b e.0) ≡ t → T (below_all bytes_cmp b (cond t (e ∷ above) above))) [
        | true ↦ λ t. both_true (is_lt (bytes_cmp b e.0)) (below_all bytes_cmp b above) (subst (λ (s : Bool). T s) (sym t) tt) (all_above b m)
        | false ↦ λ t. all_above b m
      ] refl

  above_entry : (b : List ℕ) (m : Map) → get_or b 0 0 ≡ c.number → T (is_sorted bytes_cmp m) → IsKeyed c m
      → first_of (typed c (where_key bytes_cmp (λ x. is_lt (bytes_cmp b x)) m)) ≡ entry_of (next_in bytes_cmp b m)
  above_entry b m is sorted keyed =
      let above : List ℕ → Bool = λ x. is_lt (bytes_cmp b x) in
      first_entry b (where_key bytes_cmp above m) is (is_sorted-where_key bytes_cmp above m sorted) (all_above b m) (keyed_where above m keyed)

  -- the next entry of the table is the map's next pair, as long as that is one of the table
  pub next_typed : (b : List ℕ) (k : K) → c.read_key b ≡ Some k → (m : Map) → T (is_sorted bytes_cmp m) → IsKeyed c m
      → next_in c.cmp k (typed c m) ≡ entry_of (next_in bytes_cmp b m)
  next_typed b k is m sorted keyed =
      let above : List ℕ → Bool = λ x. is_lt (bytes_cmp b x) in
      ap (λ (es : List (K × V)). first_of es) (sym (where_typed c above (λ x. is_lt (c.cmp k x)) (λ x j key i. is_lt (c.ordered b x k j is key i)) m))
      ∙ above_entry b m (c.numbered b k is) sorted keyed

  -- all keys of the table are above its number alone, where that is no key of the map
  start_typed : (m : Map) → find bytes_cmp (c.number ∷ []) m ≡ None → typed c (where_key bytes_cmp (λ x. is_lt (bytes_cmp (c.number ∷ []) x)) m) ≡ typed c m
  start_typed [] none = refl
  start_typed (e ∷ m) none =
      let absent = not_found (bytes_cmp (c.number ∷ []) e.0) e.1 (find bytes_cmp (c.number ∷ []) m) none in
      let rest = start_typed m absent.1 in
      let above : Map = where_key bytes_cmp (λ x. is_lt (bytes_cmp (c.number ∷ []) x)) m in
      elim (is_lt (bytes_cmp (c.number ∷ []) e.0)) as (λ t. is_lt (bytes_cmp (c.number ∷ []) e.0) ≡ t
      → typed c (cond t (e ∷ where_key bytes_cmp (λ x. is_lt (bytes_cmp (c.number ∷ []) x)) m) (where_key bytes_cmp (λ x. is_lt (bytes_cmp (c.number ∷ []) x)) m)) ≡ typed c (e ∷ m)) [
        | true ↦ λ t. ap (λ (es : List (K × V)). with_key c (c.read_key e.0) e.1 es) rest
        | false ↦ λ t. rest ∙ elim (c.read_key e.0) as (λ o. c.read_key e.0 ≡ o → typed c m ≡ with_key c o e.1 (typed c m)) [
          | None ↦ λ o. refl
          | Some k ↦ λ o. absurd (false≢true (sym t ∙ alone c.number e.0 c.positive (c.numbered e.0 k o) absent.0))
        ] refl
      ] refl

  -- the first entry of the table is the pair behind its number alone
  pub first_typed : (m : Map) → find bytes_cmp (c.number ∷ []) m ≡ None → T (is_sorted bytes_cmp m) → IsKeyed c m
      → first_of (typed c m) ≡ entry_of (next_in bytes_cmp (c.number ∷ []) m)
  first_typed m none sorted keyed =
      ap (λ (es : List (K × V)). first_of es) (sym (start_typed m none)) ∙ above_entry (c.number ∷ []) m refl sorted keyed

  -- the number alone is no key of a map whose keys are keys of the table, where it spells none
  pub start_absent : c.read_key (c.number ∷ []) ≡ None → (m : Map) → IsKeyed c m → find bytes_cmp (c.number ∷ []) m ≡ None
  start_absent none [] keyed = refl
  start_absent none (e ∷ m) keyed =
      elim (bytes_cmp (c.number ∷ []) e.0) as (λ r. bytes_cmp (c.number ∷ []) e.0 ≡ r → cond (is_eq r) (Some e.1) (find bytes_cmp (c.number ∷ []) m) ≡ None) [
        | Less ↦ λ r. start_absent none m keyed.1
        | Equal ↦ λ r.
            let same : c.number ∷ [] ≡ e.0 = exact_bytes (c.number ∷ []) e.0 r in
            let some : IsSome (c.read_key e.0) = keyed.0 (ap (λ (l : List ℕ). get_or l 0 0) (sym same)) in
            absurd (false≢true (subst (λ (q : Option K). IsSome q) (ap c.read_key (sym same) ∙ none) some))
        | Greater ↦ λ r. start_absent none m keyed.1
      ] refl

  below_typed : (b : List ℕ) (k : K) → c.read_key b ≡ Some k → (m : Map) → T (below_all bytes_cmp b m) → T (below_all c.cmp k (typed c m))
  below_typed b k is [] low = tt
  below_typed b k is (e ∷ m) low =
      let rest = below_typed b k is m (second_true (is_lt (bytes_cmp b e.0)) _ low) in
      elim (c.read_key e.0) as (λ o. c.read_key e.0 ≡ o → T (below_all c.cmp k (with_key c o e.1 (typed c m)))) [
        | None ↦ λ o. rest
        | Some j ↦ λ o. both_true (is_lt (c.cmp k j)) (below_all c.cmp k (typed c m)) (subst (λ (r : Ordering). T (is_lt r)) (c.ordered b e.0 k j is o) (first_true _ _ low)) rest
      ] refl

  -- a table is in the order of its keys
  pub sorted_typed : (m : Map) → T (is_sorted bytes_cmp m) → T (is_sorted c.cmp (typed c m))
  sorted_typed [] sorted = tt
  sorted_typed (e ∷ m) sorted =
      let rest = sorted_typed m (second_true (below_all bytes_cmp e.0 m) _ sorted) in
      elim (c.read_key e.0) as (λ o. c.read_key e.0 ≡ o → T (is_sorted c.cmp (with_key c o e.1 (typed c m)))) [
        | None ↦ λ o. rest
        | Some k ↦ λ o. both_true (below_all c.cmp k (typed c m)) (is_sorted c.cmp (typed c m)) (below_typed e.0 k o m (first_true _ _ sorted)) rest
      ] refl
