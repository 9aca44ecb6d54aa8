-- What the pairs of a well-formed map weigh, table by table: each is a pair of just one table.
use Rattle.std.specs.Prelude.{◌≡◌, ◌+◌, ◌*◌, ◌&&◌, ◌||◌, if◌then◌else◌, ℕ, Bool, true, false, not, List, [], ◌∷◌, length}
use Rattle.std.specs.Prelude.{Option, Some, None, is_some, get_or, refl}
use Rattle.std.proofs.Common.{sym, ◌∙◌, ap, subst, arith}
use Rattle.std.proofs.Math.Nat.{mul-suc}
use Rattle.byte_map.specs.Words.{Map, bytes_in}
use Rattle.table_records.specs.Codecs.{Codec, typed, with_key}
use Rattle.table_records.specs.Tables.{Shape, shape_of, shapes, has_number, IsTable}
use Rattle.table_records.specs.WellFormed.{is_of, is_of_one}
use Rattle.table_records.proofs.Belongs.{apart, neither_left, neither_right, shape_number, own_pair}
use Rattle.volume_tables.specs.Spelled.{is_well_formed, are_well_formed}
use Rattle.volume_tables.proofs.Keyed.{first_is, second_is}

-- each of the tables has a number of its own
abbrev are_distinct : List Shape → Bool
are_distinct [] = true
are_distinct (s ∷ ss) = not (has_number s.number ss) && are_distinct ss

not_true : (b : Bool) → not b ≡ true → b ≡ false
not_true true is = absurd (let clash : false ≡ true = is in cc)
not_true false is = refl

module _ (w : List ℕ → List ℕ → ℕ) where
  -- what a pair weighs for a table, and for some
  abbrev gain : Shape → List ℕ → List ℕ → ℕ
  gain s key value = if is_of s key value then w key value else 0

  abbrev gains : List Shape → List ℕ → List ℕ → ℕ
  gains [] key value = 0
  gains (s ∷ ss) key value = gain s key value + gains ss key value

  -- what the pairs of a map weigh for a table, for some, and all of them
  pub weight_of : Shape → Map → ℕ
  weight_of s [] = 0
  weight_of s (e ∷ m) = gain s e.0 e.1 + weight_of s m

  abbrev pub weights_of : List Shape → Map → ℕ
  weights_of [] m = 0
  weights_of (s ∷ ss) m = weight_of s m + weights_of ss m

  abbrev pub weight_in : Map → ℕ
  weight_in [] = 0
  weight_in (e ∷ m) = w e.0 e.1 + weight_in m

  module _ (key value : List ℕ) where
    -- tables of other numbers gain nothing
    none_gained : (n : ℕ) (ss : List Shape) → has_number n ss ≡ false → get_or key 0 0 ≡ n → gains ss key value ≡ 0
    none_gained n [] none first = refl
    none_gained n (s ∷ ss) none first =
        by (none_gained n ss (neither_right _ (has_number n ss) none) first) (is_of s key value) refl
      where
        by : gains ss key value ≡ 0 → (b : Bool) → is_of s key value ≡ b
            → (if b then w key value else 0) + gains ss key value ≡ 0
        by rest true is = absurd (apart s.number n (neither_left _ (has_number n ss) none)
            (sym (shape_number key value s is) ∙ first))
        by rest false is = omega (arith, rest)

    -- just one gains the pair
    one_gains : (ss : List Shape) → are_distinct ss ≡ true → is_of_one ss key value ≡ true
        → gains ss key value ≡ w key value
    one_gains [] distinct one = absurd (let clash : false ≡ true = one in cc)
    one_gains (s ∷ ss) distinct one =
        by (λ later. one_gains ss (second_is (not (has_number s.number ss)) (are_distinct ss) distinct) later)
        (is_of s key value) refl one
      where
        own : has_number s.number ss ≡ false
        own = not_true _ (first_is (not (has_number s.number ss)) (are_distinct ss) distinct)

        by : (is_of_one ss key value ≡ true → gains ss key value ≡ w key value) → (b : Bool) → is_of s key value ≡ b
            → (b || is_of_one ss key value) ≡ true
            → (if b then w key value else 0) + gains ss key value ≡ w key value
        by rest true is later =
            let none = none_gained s.number ss own (shape_number key value s is) in omega (arith, none)
        by rest false is later = let same = rest later in omega (arith, same)

  split : (ss : List Shape) (key value : List ℕ) (m : Map)
      → weights_of ss ((key, value) ∷ m) ≡ gains ss key value + weights_of ss m
  unfolding weight_of
  split [] key value m = omega arith
  split (s ∷ ss) key value m = let rest = split ss key value m in omega (arith, rest)

  none_weighs : (ss : List Shape) → weights_of ss [] ≡ 0
  unfolding weight_of
  none_weighs [] = refl
  none_weighs (s ∷ ss) = let rest = none_weighs ss in omega (arith, rest)

  -- ALL THAT THE PAIRS WEIGH they weigh for the tables
  pub weighed : (m : Map) → are_well_formed m ≡ true → weights_of shapes m ≡ weight_in m
  weighed [] all = none_weighs shapes
  weighed (e ∷ m) all =
      let one = one_gains e.0 e.1 shapes refl (first_is (is_well_formed e.0 e.1) (are_well_formed m) all) in
      let rest = weighed m (second_is (is_well_formed e.0 e.1) (are_well_formed m) all) in
      let both = split shapes e.0 e.1 m in
      both ∙ (λ i. one i + rest i)

  -- what a table's entries are taken for is what its pairs weigh, where it is so of each entry
  module _ {K V : Type 0} (c : Codec K V) (table : IsTable c) (taken : List (K × V) → ℕ) (none : taken [] ≡ 0)
      (more : (key value : List ℕ) (k : K) (es : List (K × V)) → c.read_key key ≡ Some k → c.is_value value ≡ true
      → taken ((k, c.read_value value) ∷ es) ≡ w key value + taken es) where
    -- with a pair at the front of a map whose key is this one, or none
    abbrev FrontWeighs : List ℕ → List ℕ → Map → Option K → Type 0
    FrontWeighs key value m o =
        (if (is_some o && c.is_value value) then w key value else 0) + weight_of (shape_of c) m
        ≡ taken (with_key c o value (typed c m))

    pub entries_weigh : (m : Map) → are_well_formed m ≡ true → weight_of (shape_of c) m ≡ taken (typed c m)
    unfolding weight_of
    entries_weigh [] all = sym none
    entries_weigh (e ∷ m) all =
        by (entries_weigh m (second_is (is_well_formed e.0 e.1) (are_well_formed m) all)) (c.read_key e.0) refl
      where
        by : weight_of (shape_of c) m ≡ taken (typed c m) → (o : Option K) → c.read_key e.0 ≡ o
            → FrontWeighs e.0 e.1 m (c.read_key e.0)
        by rest None is = subst (FrontWeighs e.0 e.1 m) (sym is) (omega (arith, rest))
        by rest (Some k) is =
            let pair = own_pair c table e.0 e.1 (first_is (is_well_formed e.0 e.1) (are_well_formed m) all)
            (c.numbered e.0 k is) in
            let whole : c.is_value e.1 ≡ true = second_is (is_some (c.read_key e.0)) (c.is_value e.1) pair in
            subst (FrontWeighs e.0 e.1 m) (sym is)
            (ap (λ (b : Bool). (if b then w e.0 e.1 else 0) + weight_of (shape_of c) m) whole
            ∙ ap (λ (n : ℕ). w e.0 e.1 + n) rest
            ∙ sym (more e.0 e.1 k (typed c m) is whole))

-- ---- two weights

-- each pair is one
abbrev pub as_one : List ℕ → List ℕ → ℕ
as_one key value = 1

-- a pair is its record in a checkpoint
abbrev pub as_record : List ℕ → List ℕ → ℕ
as_record key value = 5 + (length key + length value)

pub count_in : (m : Map) → weight_in as_one m ≡ length m
count_in [] = refl
count_in (e ∷ m) = let rest = count_in m in omega (arith, rest)

pub records_in : (m : Map) → weight_in as_record m ≡ 5 * length m + bytes_in m
records_in [] = refl
records_in (e ∷ m) = let rest = records_in m in omega (arith, rest)

pub entries_count : {K V : Type 0} (c : Codec K V) → IsTable c → (m : Map) → are_well_formed m ≡ true
    → weight_of as_one (shape_of c) m ≡ length (typed c m)
entries_count {K} {V} c table = entries_weigh as_one c table (λ es. length es) refl (λ key value k es spells whole. omega arith)

-- records of one length
pub fixed_records : {K V : Type 0} (c : Codec K V) (long size : ℕ) → IsTable c
    → ((b : List ℕ) (k : K) → c.read_key b ≡ Some k → length b ≡ long)
    → ((b : List ℕ) → c.is_value b ≡ true → length b ≡ size) → (m : Map) → are_well_formed m ≡ true
    → weight_of as_record (shape_of c) m ≡ (5 + (long + size)) * length (typed c m)
fixed_records {K} {V} c long size table keys values =
    entries_weigh as_record c table (λ es. (5 + (long + size)) * length es) (mul-none (5 + (long + size)))
    (λ key value k es spells whole.
    let key_size = keys key k spells in
    let value_size = values value whole in
    let one : as_record key value ≡ 5 + (long + size) = omega (arith, key_size, value_size) in
    let further = mul-suc (5 + (long + size)) (length es) in
    omega (arith, one, further))
  where
    mul-none : (n : ℕ) → n * 0 ≡ 0
    mul-none n = omega arith
