-- What was read ahead of a script, and what is left of it.
use Rattle.std.specs.Prelude.{◌≡◌, ◌≤◌, ◌+◌, ◌-◌, ◌^◌, min, ℕ, List, ◌++◌, take, drop, length, Option, Some}
use Rattle.script_items.specs.declared.input.Input.{Input}
use Rattle.script_items.specs.declared.limits.TheConstants.{MOST_SCRIPT}

-- the bytes that were read ahead
unfoldable pub ahead : Input → List ℕ
ahead input = take (input.end - input.start) (drop input.start input.room.items)

-- how many bytes were handed out
abbrev pub taken : Input → ℕ
taken input = input.came - (input.end - input.start)

-- of a script of so many bytes these are left: those read ahead, and those of the source
pub record IsLeft (input : Input) (source : Option (List ℕ)) (total : ℕ) (bytes : List ℕ) : Type 0 where
  pub rest : List ℕ
  pub told : source ≡ Some rest
  pub whole : bytes ≡ ahead input ++ rest
  pub counted : input.came + length rest ≡ total

-- the first n bytes of what was left were read, none only at its end
pub record HasRead (n : ℕ) (out bytes : List ℕ) (input : Input) (source : Option (List ℕ)) (total : ℕ) : Type 0 where
  pub read : take n out ≡ take n bytes
  pub over : n ≡ 0 → length bytes ≡ 0
  pub left : IsLeft input source total (drop n bytes)

-- the first n bytes of what was left were read; fewer than there is room for only at the end
pub record IsFilled (n : ℕ) (out bytes : List ℕ) (input : Input) (source : Option (List ℕ)) (total : ℕ) : Type 0 where
  pub read : take n out ≡ take (length out) bytes
  pub left : IsLeft input source total (drop (length out) bytes)

-- a source that had given `first` bytes before counts these too, or stands at the last value of a counter
abbrev pub HasGiven : ℕ → ℕ → ℕ → Type 0
HasGiven first came given = min (first + came) (2 ^ 64 - 1) ≤ given

-- a source has given more bytes than a script may have, or stands at the last value of a counter
abbrev pub GaveTooMany : ℕ → ℕ → Type 0
GaveTooMany before now = min (before + (MOST_SCRIPT + 1)) (2 ^ 64 - 1) ≤ now
