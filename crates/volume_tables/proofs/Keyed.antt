-- That all pairs of a map are well formed, as a test and as what it tests.
use Rattle.std.specs.Prelude.{◌≡◌, ◌&&◌, Bool, true, false, [], ◌∷◌, refl}
use Rattle.byte_map.specs.Words.{Map}
use Rattle.table_records.specs.WellFormed.{AllWellFormed}
use Rattle.volume_tables.specs.Spelled.{is_well_formed, are_well_formed}

pub first_is : (a b : Bool) → (a && b) ≡ true → a ≡ true
first_is true b p = refl
first_is false b p = absurd (cc)

pub second_is : (a b : Bool) → (a && b) ≡ true → b ≡ true
second_is true b p = p
second_is false b p = absurd (cc)

pub both_are : (a b : Bool) → a ≡ true → b ≡ true → (a && b) ≡ true
both_are true b p q = q
both_are false b p q = absurd (cc)

-- ---- the test, and what it tests

pub all_of_test : (m : Map) → are_well_formed m ≡ true → AllWellFormed m
all_of_test [] is = tt
all_of_test (e ∷ m) is = (
  first_is (is_well_formed e.0 e.1) (are_well_formed m) is,
  all_of_test m (second_is (is_well_formed e.0 e.1) (are_well_formed m) is),
)

pub test_of_all : (m : Map) → AllWellFormed m → are_well_formed m ≡ true
test_of_all [] all = refl
test_of_all (e ∷ m) all = both_are (is_well_formed e.0 e.1) (are_well_formed m) all.0 (test_of_all m all.1)
