-- How a table is read out of a map from byte strings to byte strings.
use Rattle.std.specs.Prelude.{◌≡◌, ◌<◌, ◌&&◌, ℕ, Bool, IsTrue, IsSome, is_some, List, [], ◌∷◌, Option, Some, None, get_or}
use Rattle.std.specs.declared.cmp.Ordering.{Ordering}
use Rattle.std.specs.Cmp.{IsTotalOrder}
use Rattle.byte_map.specs.Words.{Map, bytes_cmp}

-- A table: its number, the order of its keys, the key that bytes spell, if they do, the value that bytes spell, and
-- whether bytes are a value of it. Bytes that are no value are read as some value all the same.
-- The order of spelled keys is the order of the keys, so a key has one spelling.
pub record Codec (K V : Type 0) : Type 0 where
  pub number : ℕ
  pub cmp : K → K → Ordering
  pub read_key : List ℕ → Option K
  pub read_value : List ℕ → V
  pub is_value : List ℕ → Bool
  pub positive : 0 < number
  pub total : IsTotalOrder cmp
  pub ordered : (b c : List ℕ) (j k : K) → read_key b ≡ Some j → read_key c ≡ Some k → bytes_cmp b c ≡ cmp j k
  pub numbered : (b : List ℕ) (k : K) → read_key b ≡ Some k → get_or b 0 0 ≡ number

module _ {K V : Type 0} (c : Codec K V) where
  abbrev pub with_key : Option K → List ℕ → List (K × V) → List (K × V)
  with_key None value es = es
  with_key (Some k) value es = (k, c.read_value value) ∷ es

  -- the entries of the table, in the order of the map
  abbrev pub typed : Map → List (K × V)
  typed [] = []
  typed (e ∷ m) = with_key (c.read_key e.0) e.1 (typed m)

  -- a key and a value of this table
  pub record IsPairOf (key value : List ℕ) : Type 0 where
    pub spells : IsSome (c.read_key key)
    pub whole : IsTrue (c.is_value value)

  -- and as a test
  abbrev pub is_pair_of : List ℕ → List ℕ → Bool
  is_pair_of key value = is_some (c.read_key key) && c.is_value value

  -- each key of a map that begins with the number of the table is a key of the table
  abbrev pub IsKeyed : Map → Type 0
  IsKeyed [] = Unit {0}
  IsKeyed (e ∷ m) = (get_or e.0 0 0 ≡ c.number → IsSome (c.read_key e.0)) × IsKeyed m
