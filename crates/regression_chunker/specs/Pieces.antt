-- The pieces of a file, of which some cells may be lost.
use Rattle.std.specs.Prelude.{ℕ, ◌<◌, ◌≡◌, ◌⊎◌, Option, Some, None, List, [], ◌∷◌, length, drop}
use Rattle.regression_chunker.specs.Cuts.{IsEnough, Decides}

-- the bytes before the first lost cell
unfoldable pub known_start : List (Option ℕ) → List ℕ
known_start [] = []
known_start (None ∷ cells) = []
known_start (Some byte ∷ cells) = byte ∷ known_start cells

-- the lengths of the pieces that the cells before the first lost one decide
unfoldable pub IsPieces : List (Option ℕ) → List ℕ → Type 0
IsPieces cells [] = (cells ≡ []) ⊎ ¬ (IsEnough (known_start cells) (length cells))
IsPieces cells (n ∷ ns) = (0 < length cells) × Decides (known_start cells) (length cells) n × IsPieces (drop n cells) ns
