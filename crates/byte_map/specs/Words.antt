-- A map from byte strings to byte strings: its pairs in the order of their keys, under std's `find` and `put`.
use Rattle.std.specs.Prelude.{ℕ, ◌+◌, ◌*◌, List, [], ◌∷◌, length, Bool, not, ◌&&◌, Option, Some, None}
use Rattle.std.specs.declared.cmp.Ordering.{Ordering}
use Rattle.std.specs.Ordering.{nat_cmp, is_lt, is_le}
use Rattle.std.specs.Cmp.Lexicographic.{slice_cmp}
use Rattle.std.specs.FinMap.Entries.{where_key}

-- a key and its value, in the order of the keys
abbrev pub Map : Type 0
Map = List (List ℕ × List ℕ)

-- byte by byte; a proper prefix is less
abbrev pub bytes_cmp : List ℕ → List ℕ → Ordering
bytes_cmp = slice_cmp nat_cmp

abbrev pub first_of : {A : Type 0} → List A → Option A
first_of [] = None
first_of (x ∷ xs) = Some x

-- the entry with the least key above k, of a list in the order of its keys
abbrev pub next_in : {K X : Type 0} → (K → K → Ordering) → K → List (K × X) → Option (K × X)
next_in cmp k es = first_of (where_key cmp (λ x. is_lt (cmp k x)) es)

-- at or above the first, and below the second
abbrev pub is_between : {K : Type 0} → (K → K → Ordering) → K → K → K → Bool
is_between cmp from to k = is_le (cmp from k) && is_lt (cmp k to)

-- the map without the keys of a range
abbrev pub without : List ℕ → List ℕ → Map → Map
without from to m = where_key bytes_cmp (λ k. not (is_between bytes_cmp from to k)) m

-- the pairs of the map whose keys are in a range
abbrev pub pairs_between : List ℕ → List ℕ → Map → Map
pairs_between from to m = where_key bytes_cmp (λ k. is_between bytes_cmp from to k) m

-- the bytes of a key and its value
abbrev pub pair_bytes : List ℕ × List ℕ → ℕ
pair_bytes e = length e.0 + length e.1

-- the bytes of all keys and values
abbrev pub bytes_in : Map → ℕ
bytes_in [] = 0
bytes_in (e ∷ m) = pair_bytes e + bytes_in m

-- the bytes of all keys and values, and so many more for each pair
abbrev pub bytes_with : ℕ → Map → ℕ
bytes_with each m = each * length m + bytes_in m
