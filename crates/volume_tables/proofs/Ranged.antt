-- The pairs of the map in a range of a table's keys are the table's entries there.
use Rattle.std.specs.Prelude.{◌≡◌, ◌<◌, ◌≤◌, ◌⊎◌, ◌&&◌, ℕ, Bool, true, false, cond, List, [], ◌∷◌, length, Option, Some, None, IsSome, get_or, refl}
use Rattle.std.proofs.Common.{sym, ◌∙◌, ap, inl, inr, arith}
use Rattle.std.specs.declared.cmp.Ordering.{Ordering}
use Rattle.std.specs.declared.cmp.Ordering.TheVariants.{Greater}
use Rattle.std.specs.Ordering.{is_le, is_lt, ordering_then}
use Rattle.std.specs.Cmp.{nat_cmp_is}
use Rattle.std.proofs.lemmas.Bool.{cases_lt}
use Rattle.std.specs.FinMap.Entries.{where_key}
use Rattle.byte_map.specs.Words.{Map, bytes_cmp, is_between, pairs_between}
use Rattle.table_records.specs.Codecs.{Codec, typed, with_key, IsKeyed}
use Rattle.table_records.specs.Changes.{is_in_range}
use Rattle.table_records.specs.Laws.{where_typed}
use Rattle.volume_tables.specs.Dropped.{in_range}

-- bytes that begin with a greater byte are above
above_first : (a b : List ℕ) → get_or b 0 0 < get_or a 0 0 → bytes_cmp a b ≡ Greater
above_first [] b less = absurd (omega (arith, less))
above_first (p ∷ a) [] less = refl
above_first (p ∷ a) (q ∷ b) less =
    ap (λ (r : Ordering). ordering_then r (bytes_cmp a b)) (sym (nat_cmp_is p q Greater (omega (arith, less))))

-- what is between keys that begin with one byte begins with it
between_first : (low high b : List ℕ) (n : ℕ) → get_or low 0 0 ≡ n → get_or high 0 0 ≡ n
    → is_between bytes_cmp low high b ≡ true → get_or b 0 0 ≡ n
between_first low high b n begins ends is = by (cases_lt (get_or b 0 0) n) (cases_lt n (get_or b 0 0))
  where
    never : (t : Bool) → (t && false) ≡ true → false ≡ true
    never true h = h
    never false h = h

    by : ((get_or b 0 0 < n) ⊎ (n ≤ get_or b 0 0)) → ((n < get_or b 0 0) ⊎ (get_or b 0 0 ≤ n)) → get_or b 0 0 ≡ n
    by (inl less) other = absurd (
        let above = above_first low b (omega (arith, less, begins)) in
        let clash : false ≡ true = sym (ap (λ (r : Ordering). is_le r && is_lt (bytes_cmp b high)) above) ∙ is in cc)
    by (inr more) (inl past) = absurd (
        let above = above_first b high (omega (arith, past, ends)) in
        let clash : false ≡ true = never (is_le (bytes_cmp low b))
        (sym (ap (λ (r : Ordering). is_le (bytes_cmp low b) && is_lt r) above) ∙ is) in cc)
    by (inr more) (inr few) = omega (arith, more, few)

module _ {K V : Type 0} (c : Codec K V) (low high : List ℕ) (from to : K) (begins : c.read_key low ≡ Some from)
    (ends : c.read_key high ≡ Some to) where
  some_read : (b : List ℕ) → (get_or b 0 0 ≡ c.number → IsSome (c.read_key b)) → is_between bytes_cmp low high b ≡ true
      → IsSome (c.read_key b)
  some_read b keyed is =
      keyed (between_first low high b c.number (c.numbered low from begins) (c.numbered high to ends) is)

  -- each pair of the range is an entry
  all_read : (m : Map) → IsKeyed c m → length (pairs_between low high m) ≡ length (typed c (pairs_between low high m))
  all_read [] keyed = refl
  all_read (e ∷ m) keyed =
      let rest = all_read m keyed.1 in
      elim (is_between bytes_cmp low high e.0) as (λ b. is_between bytes_cmp low high e.0 ≡ b
      → length (cond b (e ∷ kept) kept) ≡ length (typed c (cond b (e ∷ kept) kept))) [
        | true ↦ λ is. one (c.read_key e.0) refl (some_read e.0 keyed.0 is) rest
        | false ↦ λ is. rest
      ] refl
    where
      kept : Map
      kept = where_key bytes_cmp (λ k. is_between bytes_cmp low high k) m

      one : (o : Option K) → c.read_key e.0 ≡ o → IsSome o → length kept ≡ length (typed c kept)
          → length (e ∷ kept) ≡ length (typed c (e ∷ kept))
      one None is some rest = absurd (let clash : false ≡ true = some in cc)
      one (Some k) is some rest =
          let read = ap (λ (o : Option K). length (with_key c o e.1 (typed c kept))) is in
          omega (arith, rest, read)

  pub counted : (m : Map) → IsKeyed c m → length (pairs_between low high m) ≡ length (in_range c from (Some to) (typed c m))
  counted m keyed =
      all_read m keyed
      ∙ ap (λ (es : List (K × V)). length es) (where_typed c (λ b. is_between bytes_cmp low high b)
      (λ k. is_in_range c.cmp from (Some to) k)
      (λ b k is i. is_le (c.ordered low b from k begins is i) && is_lt (c.ordered b high k to is ends i)) m)
