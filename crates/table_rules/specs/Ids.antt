-- The ids that names have.
use Rattle.std.specs.Prelude.{◌≡◌, ◌==◌, ℕ, suc, cond, List, [], ◌∷◌, Option, Some, None}
use Rattle.table_records.specs.Tables.{name_codec}
use Rattle.table_records.specs.Values.{id_in}
use Rattle.table_records.specs.declared.records.FileRecord.{FileRecord}

abbrev pub ids_of : List (List ℕ × ℕ) → List ℕ
ids_of [] = []
ids_of (e ∷ names) = e.1 ∷ ids_of names

abbrev pub id_when : Option (List ℕ) → List ℕ → List ℕ
id_when None value = []
id_when (Some name) value = id_in value ∷ []

-- the id of the file that a pair names, if it is a name
abbrev pub id_in_pair : List ℕ → List ℕ → List ℕ
id_in_pair key value = id_when (name_codec.read_key key) value

-- how often an id stands among these
abbrev pub times : ℕ → List ℕ → ℕ
times id [] = 0
times id (x ∷ xs) = cond (x == id) (suc (times id xs)) (times id xs)

abbrev pub IsOnceIn : List ℕ → ℕ → FileRecord → Type 0
IsOnceIn ids id file = times id ids ≡ 1
