-- What a rule on the entries of a table is for a pair of the map.
use Rattle.std.specs.Prelude.{ℕ, List, Option, Some, None}
use Rattle.table_records.specs.Codecs.{Codec}

module _ {K V : Type 0} (c : Codec K V) (P : K → V → Type 0) where
  abbrev pub HoldsOf : Option K → List ℕ → Type 0
  HoldsOf None value = Unit {0}
  HoldsOf (Some k) value = P k (c.read_value value)

  -- a pair that is no entry of the table meets it, whatever it is
  abbrev pub PairMeets : List ℕ → List ℕ → Type 0
  PairMeets key value = HoldsOf (c.read_key key) value
