-- What a scan over a stretch of places has seen.
use Rattle.std.specs.Prelude.{ℕ, ◌+◌, ◌≡◌, List, Option, Some, None}
use Rattle.regression_chunker.specs.Cuts.{print_at, NoMatch, IsFirstMatch, IsLastMatch}
use Rattle.regression_chunker.specs.Tables.{complement_of}
use Rattle.regression_chunker.specs.declared.seen.Seen.{Seen}

-- the first of the places from `from` to `last` that matches, if any
abbrev pub FirstIn : ℕ → List ℕ → ℕ → ℕ → Option ℕ → Type 0
FirstIn k rest from last (Some p) = IsFirstMatch k rest from last p
FirstIn k rest from last None = NoMatch k rest from last

-- the last of them, if any
abbrev pub LastIn : ℕ → List ℕ → ℕ → ℕ → Option ℕ → Type 0
LastIn k rest from last (Some p) = IsLastMatch k rest from last p
LastIn k rest from last None = NoMatch k rest from last

-- what the places after `after` show, up to `last`
pub record Sees (rest : List ℕ) (after last : ℕ) (s : Seen) : Type 0 where
  pub full : FirstIn 16 rest (after + 1) last s.full
  pub fifteen : LastIn 15 rest (after + 1) last s.fifteen
  pub fourteen : LastIn 14 rest (after + 1) last s.fourteen
  pub thirteen : LastIn 13 rest (after + 1) last s.thirteen
  pub twelve : LastIn 12 rest (after + 1) last s.twelve

-- a run over the places after `after` has come to `at`: it knows the print there, and what it has passed
pub record HasRun (rest : List ℕ) (after at print : ℕ) (s : Seen) : Type 0 where
  pub print_is : print ≡ print_at rest at
  pub seen : Sees rest after at s

-- the same of a run that keeps the complement of the print
pub record HasTurningRun (rest : List ℕ) (after at complement : ℕ) (s : Seen) : Type 0 where
  pub complement_is : complement ≡ complement_of (print_at rest at)
  pub seen : Sees rest after at s
