-- Lists of texts and their size.
use Rattle.std.specs.Prelude.{ℕ, ◌+◌, List, [], ◌∷◌, length}

-- the bytes of all texts, each with its length of two bytes
abbrev pub list_bytes : List (List ℕ) → ℕ
list_bytes [] = 0
list_bytes (text ∷ texts) = (length text + 2) + list_bytes texts
