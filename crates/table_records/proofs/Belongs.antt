-- A well-formed pair belongs to the table whose number its key begins with.
use Rattle.std.specs.Prelude.{◌≡◌, ◌≢◌, ◌⊎◌, ◌&&◌, ◌||◌, ℕ, Bool, true, false, nat_eq, List, [], ◌∷◌, ◌++◌, is_some, get_or, take, drop, refl}
use Rattle.std.proofs.Common.{sym, ◌∙◌, subst, inl, inr, eq-eqb}
use Rattle.std.proofs.lemmas.Bool.{false≢true}
use Rattle.byte_map.specs.Words.{Map}
use Rattle.table_records.specs.Codecs.{Codec, is_pair_of, IsKeyed}
use Rattle.table_records.specs.Tables.{volume_codec, name_codec, file_codec, extent_codec, row_codec, place_codec, container_codec, cluster_codec, settings_codec, result_codec}
use Rattle.table_records.specs.Tables.{Shape, shape_of, shapes, has_number, IsTable, row_fixed, place_fixed, container_fixed, cluster_fixed}
use Rattle.table_records.specs.WellFormed.{is_of, is_of_one, AllWellFormed, BelongsByNumber}

-- ---- tests

pub either : (a b : Bool) → (a || b) ≡ true → (a ≡ true) ⊎ (b ≡ true)
either true b p = inl refl
either false b p = inr p

pub or_left : (a b : Bool) → a ≡ true → (a || b) ≡ true
or_left true b p = refl
or_left false b p = absurd (cc)

pub or_right : (a b : Bool) → b ≡ true → (a || b) ≡ true
or_right true b p = refl
or_right false b p = p

pub neither_left : (a b : Bool) → (a || b) ≡ false → a ≡ false
neither_left true b p = absurd (cc)
neither_left false b p = refl

pub neither_right : (a b : Bool) → (a || b) ≡ false → b ≡ false
neither_right true b p = absurd (cc)
neither_right false b p = p

first_of_both : (a b : Bool) → (a && b) ≡ true → a ≡ true
first_of_both true b p = refl
first_of_both false b p = absurd (cc)

second_of_both : (a b : Bool) → (a && b) ≡ true → b ≡ true
second_of_both true b p = p
second_of_both false b p = absurd (cc)

pub apart : (a b : ℕ) → nat_eq a b ≡ false → a ≢ b
apart a b differ same = false≢true (sym differ ∙ eq-eqb a b same)

-- ---- one of some shapes

module _ (key value : List ℕ) where
  -- a pair of a shape begins with its number
  pub shape_number : (s : Shape) → is_of s key value ≡ true → get_or key 0 0 ≡ s.number
  shape_number s is = s.numbered key (first_of_both (s.is_key key) (s.is_value value) is)

  -- none of the shapes has the number with which the key begins
  none_has : (n : ℕ) (ss : List Shape) → has_number n ss ≡ false → get_or key 0 0 ≡ n → is_of_one ss key value ≡ true → ⊥
  none_has n [] none first one = false≢true one
  none_has n (s ∷ ss) none first one = elim (either (is_of s key value) (is_of_one ss key value) one) [
    | inl is ↦ apart s.number n (neither_left (nat_eq s.number n) (has_number n ss) none) (sym (shape_number s is) ∙ first)
    | inr later ↦ none_has n ss (neither_right (nat_eq s.number n) (has_number n ss) none) first later
  ]

  own_among : (s : Shape) (before after : List Shape) → has_number s.number (before ++ after) ≡ false
      → get_or key 0 0 ≡ s.number → is_of_one (before ++ (s ∷ after)) key value ≡ true → is_of s key value ≡ true
  own_among s [] after none first one = elim (either (is_of s key value) (is_of_one after key value) one) [
    | inl is ↦ is
    | inr later ↦ absurd (none_has s.number after none first later)
  ]
  own_among s (t ∷ before) after none first one =
      elim (either (is_of t key value) (is_of_one (before ++ (s ∷ after)) key value) one) [
        | inl is ↦ absurd (apart t.number s.number (neither_left (nat_eq t.number s.number) (has_number s.number (before ++ after)) none)
            (sym (shape_number t is) ∙ first))
        | inr later ↦ own_among s before after (neither_right (nat_eq t.number s.number) (has_number s.number (before ++ after)) none) first later
      ]

  joins_among : (s : Shape) (before after : List Shape) → is_of s key value ≡ true → is_of_one (before ++ (s ∷ after)) key value ≡ true
  joins_among s [] after is = or_left (is_of s key value) (is_of_one after key value) is
  joins_among s (t ∷ before) after is =
      or_right (is_of t key value) (is_of_one (before ++ (s ∷ after)) key value) (joins_among s before after is)

  -- what follows from a pair of any of the shapes
  abbrev pub FollowsFromEach : Type 0 → List Shape → Type 0
  FollowsFromEach P [] = Unit {0}
  FollowsFromEach P (s ∷ ss) = (is_of s key value ≡ true → P) × FollowsFromEach P ss

  pub follows : (P : Type 0) (ss : List Shape) → FollowsFromEach P ss → is_of_one ss key value ≡ true → P
  follows P [] each one = absurd (false≢true one)
  follows P (s ∷ ss) each one = elim (either (is_of s key value) (is_of_one ss key value) one) [
    | inl is ↦ each.0 is
    | inr later ↦ follows P ss each.1 later
  ]

-- ---- one table of all

module _ {K V : Type 0} (c : Codec K V) (table : IsTable c) where
  -- a well-formed pair with the number of the table is one of the table
  pub own_pair : (key value : List ℕ) → is_of_one shapes key value ≡ true → get_or key 0 0 ≡ c.number → is_pair_of c key value ≡ true
  own_pair key value one first = own_among key value (shape_of c) table.before table.after table.once first
      (subst (λ (ss : List Shape). is_of_one ss key value ≡ true) table.is one)

  -- and a pair of the table is well formed
  pub pair_joins : (key value : List ℕ) → is_pair_of c key value ≡ true → is_of_one shapes key value ≡ true
  pair_joins key value is = subst (λ (ss : List Shape). is_of_one ss key value ≡ true) (sym table.is)
      (joins_among key value (shape_of c) table.before table.after is)

  pub belongs : BelongsByNumber c
  belongs key value one first =
      let is = own_pair key value one first in
      record {
        spells = first_of_both (is_some (c.read_key key)) (c.is_value value) is;
        whole = second_of_both (is_some (c.read_key key)) (c.is_value value) is;
      }

  pub keyed_by_numbers : (m : Map) → AllWellFormed m → IsKeyed c m
  keyed_by_numbers [] all = tt
  keyed_by_numbers (e ∷ m) all = (λ is. (let pair = belongs e.0 e.1 all.0 is in pair.spells), keyed_by_numbers m all.1)

-- ---- the tables

pub volume_is_table : IsTable volume_codec
volume_is_table = record { before = []; after = drop 1 shapes; is = refl; once = refl }

pub name_is_table : IsTable name_codec
name_is_table = record { before = take 1 shapes; after = drop 2 shapes; is = refl; once = refl }

pub file_is_table : IsTable file_codec
file_is_table = record { before = take 2 shapes; after = drop 3 shapes; is = refl; once = refl }

pub extent_is_table : IsTable extent_codec
extent_is_table = record { before = take 3 shapes; after = drop 4 shapes; is = refl; once = refl }

pub row_is_table : IsTable row_codec
row_is_table = row_fixed.table

pub place_is_table : IsTable place_codec
place_is_table = place_fixed.table

pub container_is_table : IsTable container_codec
container_is_table = container_fixed.table

pub cluster_is_table : IsTable cluster_codec
cluster_is_table = cluster_fixed.table

pub settings_are_table : IsTable settings_codec
settings_are_table = record { before = take 8 shapes; after = drop 9 shapes; is = refl; once = refl }

pub result_is_table : IsTable result_codec
result_is_table = record { before = take 9 shapes; after = drop 10 shapes; is = refl; once = refl }
