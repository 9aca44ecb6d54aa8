-- One name is dropped, as the range from it to the next one.
use Rattle.std.specs.Prelude.{◌≡◌, ◌≤◌, ◌+◌, ℕ, Bool, true, false, cond, not, ◌&&◌, T, List, [], ◌∷◌, length}
use Rattle.std.specs.Prelude.{Option, Some, None, refl}
use Rattle.std.proofs.Common.{◌∙◌, ap, sym, subst, arith}
use Rattle.std.specs.declared.cmp.Ordering.{Ordering}
use Rattle.std.specs.declared.cmp.Ordering.TheVariants.{Less, Equal, Greater}
use Rattle.std.specs.Ordering.{is_eq, is_le, is_lt, ordering_reverse}
use Rattle.std.specs.Cmp.{tied_itself}
use Rattle.std.specs.Cmp.Lexicographic.{nat_list_cmp_total}
use Rattle.std.specs.FinMap.Entries.{where_key, below_all, is_sorted}
use Rattle.std.specs.Option.{option_map}
use Rattle.std.proofs.lemmas.Map.Lookups.{exact_bytes}
use Rattle.byte_map.specs.Words.{bytes_cmp, first_of, next_in}
use Rattle.table_records.specs.Changes.{is_under, is_in_range}
use Rattle.volume_inside.specs.Changes.{DropsOnly}
use Rattle.volume_inside.specs.Entries.{Each, each_weaker}
use Rattle.volume_inside.specs.Rules.{NameHolds}
use Rattle.volume_inside.specs.Typed.{Typed}
use Rattle.groundwork.proofs.Bools.{first_true, second_true}
use Rattle.volume_tables.specs.Dropped.{end_bytes}
use Rattle.volume_files.specs.Names.{is_other, AreShort}
use Rattle.volume_files.specs.Needs.{next_name_bytes, drop_bytes}
use Rattle.volume_files.proofs.Found.{lawful_short}

abbrev Names : Type 0
Names = List (List ℕ × ℕ)

less : (r : Ordering) → T (is_lt r) → r ≡ Less
less Less p = refl
less Equal p = absurd p
less Greater p = absurd p

-- the other names are all but one
pub only_name : (name : List ℕ) → DropsOnly (λ other. other ≡ name) (is_other name)
only_name name = record {
  drops = λ other same. ap (λ (r : Ordering). not (is_eq r))
      (ap (λ (x : List ℕ). bytes_cmp name x) same ∙ tied_itself nat_list_cmp_total name);
  keeps = λ other differ. by other (bytes_cmp name other) refl differ;
}
  where
    by : (other : List ℕ) (r : Ordering) → bytes_cmp name other ≡ r → (other ≡ name → ⊥) → not (is_eq r) ≡ true
    by other Less is differ = refl
    by other Equal is differ = absurd (differ (sym (exact_bytes name other is)))
    by other Greater is differ = refl

-- names of tables that meet the rules are short
pub short_names : (t : Typed) (names : Names) → Each (NameHolds t.files) names → AreShort names
short_names t names each = each_weaker (NameHolds t.files) (λ name id. length name ≤ 255) names
    (λ name id h. lawful_short name h.lawful) each

-- the next name is one of them
pub next_is_short : (name next : List ℕ) (id : ℕ) (names : Names) → AreShort names
    → next_in bytes_cmp name names ≡ Some (next, id) → length next ≤ 255
next_is_short name next id [] short found = absurd (let clash : None ≡ Some (next, id) = found in cc)
next_is_short name next id (e ∷ names) short found =
    by (is_lt (bytes_cmp name e.0)) found (λ at. next_is_short name next id names short.1 at)
  where
    by : (b : Bool) → first_of (cond b (e ∷ where_key bytes_cmp (λ x. is_lt (bytes_cmp name x)) names)
        (where_key bytes_cmp (λ x. is_lt (bytes_cmp name x)) names)) ≡ Some (next, id)
        → (next_in bytes_cmp name names ≡ Some (next, id) → length next ≤ 255) → length next ≤ 255
    by true at later = (let same : e ≡ (next, id) = cc in subst (λ (p : List ℕ × ℕ). length p.0 ≤ 255) same short.0)
    by false at later = later at

-- so the record of a dropped name is short
pub drop_is_short : (name : List ℕ) (names : Names) → AreShort names → drop_bytes names name ≤ 262 + length name
drop_is_short name names short = by (next_in bytes_cmp name names) refl
  where
    by : (o : Option (List ℕ × ℕ)) → next_in bytes_cmp name names ≡ o
        → 7 + (length name + next_name_bytes o) ≤ 262 + length name
    by None is = omega arith
    by (Some e) is = let few = next_is_short name e.0 e.1 names short is in omega (arith, few)

-- the end of a range that is the next name
pub end_is_next : {V : Type 0} (to : Option (List ℕ)) (next : Option (List ℕ × V)) → to ≡ option_map (λ p. p.0) next
    → end_bytes (λ other. 1 + length other) to ≡ 1 + next_name_bytes next
end_is_next to None is = ap (λ (o : Option (List ℕ)). end_bytes (λ other. 1 + length other) o) is
end_is_next to (Some e) is = ap (λ (o : Option (List ℕ)). end_bytes (λ other. 1 + length other) o) is

module _ (name : List ℕ) where
  -- no name between this one and the end
  abbrev IsPast : Option (List ℕ) → Names → Type 0
  IsPast to names = Each (λ other id. bytes_cmp name other ≡ Less → is_under bytes_cmp to other ≡ false) names

  -- names above another one are not below it
  all_past : (a : List ℕ) (names : Names) → T (below_all bytes_cmp a names) → IsPast (Some a) names
  all_past a [] low = tt
  all_past a (e ∷ names) low = (
    λ above. ap is_lt (nat_list_cmp_total.antisymm e.0 a
        ∙ ap (λ (r : Ordering). ordering_reverse r) (less (bytes_cmp a e.0) (first_true _ _ low))),
    all_past a names (second_true (is_lt (bytes_cmp a e.0)) _ low),
  )

  past_next : (names : Names) → T (is_sorted bytes_cmp names)
      → IsPast (option_map (λ p. p.0) (next_in bytes_cmp name names)) names
  past_next [] sorted = tt
  past_next (e ∷ names) sorted =
      by (bytes_cmp name e.0) refl (past_next names (second_true (below_all bytes_cmp e.0 names) _ sorted))
    where
      rest : Names
      rest = where_key bytes_cmp (λ x. is_lt (bytes_cmp name x)) names

      by : (r : Ordering) → bytes_cmp name e.0 ≡ r
          → IsPast (option_map (λ p. p.0) (next_in bytes_cmp name names)) names
          → IsPast (option_map (λ p. p.0)
          (first_of (cond (is_lt r) (e ∷ where_key bytes_cmp (λ x. is_lt (bytes_cmp name x)) names)
          (where_key bytes_cmp (λ x. is_lt (bytes_cmp name x)) names)))) (e ∷ names)
      by Less is later = (
        λ above. ap is_lt (tied_itself nat_list_cmp_total e.0),
        all_past e.0 names
            (first_true (below_all bytes_cmp e.0 names) _ sorted),
      )
      by Equal is later = (λ above. absurd (let clash : Equal ≡ Less = sym is ∙ above in cc), later)
      by Greater is later = (λ above. absurd (let clash : Greater ≡ Less = sym is ∙ above in cc), later)

  -- the name itself is below the end
  under_next : (names : Names) → is_under bytes_cmp (option_map (λ p. p.0) (next_in bytes_cmp name names)) name ≡ true
  under_next [] = refl
  under_next (e ∷ names) = by (is_lt (bytes_cmp name e.0)) refl (under_next names)
    where
      by : (b : Bool) → is_lt (bytes_cmp name e.0) ≡ b
          → is_under bytes_cmp (option_map (λ p. p.0) (next_in bytes_cmp name names)) name ≡ true
          → is_under bytes_cmp (option_map (λ p. p.0)
          (first_of (cond b (e ∷ where_key bytes_cmp (λ x. is_lt (bytes_cmp name x)) names)
          (where_key bytes_cmp (λ x. is_lt (bytes_cmp name x)) names)))) name ≡ true
      by true is later = is
      by false is later = later

  only_dropped : (to : Option (List ℕ)) → is_under bytes_cmp to name ≡ true → (names : Names) → IsPast to names
      → where_key bytes_cmp (λ k. not (is_in_range bytes_cmp name to k)) names ≡ where_key bytes_cmp
      (is_other name) names
  only_dropped to under [] past = refl
  only_dropped to under (e ∷ names) past =
      let here = by (bytes_cmp name e.0) refl past.0 in
      let later = only_dropped to under names past.1 in
      λ i. cond (here i) (e ∷ later i) (later i)
    where
      by : (r : Ordering) → bytes_cmp name e.0 ≡ r → (r ≡ Less → is_under bytes_cmp to e.0 ≡ false)
          → not (is_le r && is_under bytes_cmp to e.0) ≡ not (is_eq r)
      by Less is end = ap not (end refl)
      by Equal is end = ap not (ap (λ (x : List ℕ). is_under bytes_cmp to x) (sym (exact_bytes name e.0 is)) ∙ under)
      by Greater is end = refl

  -- THE RANGE FROM A NAME TO THE NEXT ONE has that name alone
  pub one_name_dropped : (names : Names) → T (is_sorted bytes_cmp names) → (to : Option (List ℕ))
      → to ≡ option_map (λ p. p.0) (next_in bytes_cmp name names)
      → where_key bytes_cmp (λ k. not (is_in_range bytes_cmp name to k)) names ≡ where_key bytes_cmp
      (is_other name) names
  one_name_dropped names sorted to is =
      let past = past_next names sorted in
      only_dropped to (ap (λ (o : Option (List ℕ)). is_under bytes_cmp o name) is ∙ under_next names) names
      (subst (λ (o : Option (List ℕ)). IsPast o names) (sym is) past)
