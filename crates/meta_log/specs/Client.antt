-- What a caller of the journal says of a crash.
use Rattle.std.specs.Prelude.{◌≡◌, ◌⊎◌, ℕ, List, length, Ok}
use Rattle.vdisk.specs.Ranges.{part}
use Rattle.byte_map.specs.Words.{Map}
use Rattle.meta_log.specs.Meta.{meta_of}

-- an image spells the map from before; or the map now, and then it has these bytes at a place outside the halves
abbrev pub SpellsEither : ℕ → ℕ → Map → Map → ℕ → List ℕ → List ℕ → Type 0
SpellsEither journal half m n at bytes c =
    (meta_of journal half c ≡ Ok m) ⊎ ((meta_of journal half c ≡ Ok n) × (part at (length bytes) c ≡ bytes))
