-- Which pairs of the map are keys and values of the tables.
use Rattle.std.specs.Prelude.{◌≡◌, ◌&&◌, ◌||◌, ℕ, Bool, false, IsTrue, List, [], ◌∷◌, get_or}
use Rattle.byte_map.specs.Words.{Map}
use Rattle.table_records.specs.Codecs.{Codec, IsPairOf}
use Rattle.table_records.specs.Tables.{Shape, shapes}

abbrev pub is_of : Shape → List ℕ → List ℕ → Bool
is_of s key value = s.is_key key && s.is_value value

abbrev pub is_of_one : List Shape → List ℕ → List ℕ → Bool
is_of_one [] key value = false
is_of_one (s ∷ ss) key value = is_of s key value || is_of_one ss key value

-- a key and a value of one of the tables: the key begins with a known number, and both have the stated lengths
abbrev pub IsWellFormed : List ℕ → List ℕ → Type 0
IsWellFormed key value = IsTrue (is_of_one shapes key value)

-- each pair of a map is well formed
abbrev pub AllWellFormed : Map → Type 0
AllWellFormed [] = Unit {0}
AllWellFormed (e ∷ m) = IsWellFormed e.0 e.1 × AllWellFormed m

-- a well-formed pair that begins with the number of a table is a pair of that table
abbrev pub BelongsByNumber : {K V : Type 0} → Codec K V → Type 0
BelongsByNumber c = (key value : List ℕ) → IsWellFormed key value → get_or key 0 0 ≡ c.number → IsPairOf c key value
