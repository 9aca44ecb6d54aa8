-- Whether all pairs of a map are well formed, as a test.
use Rattle.std.specs.Prelude.{◌&&◌, Bool, true, List, [], ◌∷◌, ℕ}
use Rattle.byte_map.specs.Words.{Map}
pub use Rattle.table_records.specs.Codecs.{is_pair_of}
use Rattle.table_records.specs.Tables.{shapes}
use Rattle.table_records.specs.WellFormed.{is_of_one}

-- bytes are a key and a value of one of the tables
abbrev pub is_well_formed : List ℕ → List ℕ → Bool
is_well_formed key value = is_of_one shapes key value

abbrev pub are_well_formed : Map → Bool
are_well_formed [] = true
are_well_formed (e ∷ m) = is_well_formed e.0 e.1 && are_well_formed m
