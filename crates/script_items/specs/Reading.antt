-- Lines, payloads and items as they are read.
use Rattle.std.specs.Prelude.{◌≡◌, ◌⊎◌, ◌<◌, ◌+◌, ℕ, Bool, true, false, List, [], ◌∷◌, ◌++◌, length, take, drop, Option, MatchOption}
use Rattle.std.specs.List.{list_any}
use Rattle.cmdlet_line.specs.declared.limits.TheConstants.{MOST_LINE}
use Rattle.script_items.specs.declared.limits.TheConstants.{MOST_KEPT}
use Rattle.script_items.specs.Input.{IsLeft}
use Rattle.script_items.specs.declared.input.Input.{Input}
use Rattle.script_items.specs.Script.{is_newline, first_line, line_text, behind_line, asked, item_of, first_item, behind_item}

abbrev pub is_some_byte : List ℕ → Bool
is_some_byte [] = false
is_some_byte (b ∷ bytes) = true

abbrev pub HasNoNewline : List ℕ → Type 0
HasNoNewline bytes = list_any is_newline bytes ≡ false

-- the first newline stands at this place
pub record IsNewlineAt (bytes : List ℕ) (place : ℕ) : Type 0 where
  pub within : place < length bytes
  pub before : HasNoNewline (take place bytes)
  pub split : bytes ≡ take place bytes ++ 10 ∷ drop (place + 1) bytes

-- the place of the first newline, if there is one
abbrev pub FindsNewline : List ℕ → Option ℕ → Type 0
FindsNewline bytes found = MatchOption found (HasNoNewline bytes) (IsNewlineAt bytes)

-- a line that was kept: the same text, or both are too long for a line
abbrev pub IsKept : List ℕ → List ℕ → Type 0
IsKept kept text = (kept ≡ text) ⊎ ((MOST_LINE < length kept) × (MOST_LINE < length text))

-- a line as far as it was read: a front of what was left, with no newline, of which the first bytes are kept
pub record IsFront (input : Input) (source : Option (List ℕ)) (total : ℕ) (bytes kept : List ℕ) : Type 0 where
  pub front : List ℕ
  pub rest : List ℕ
  pub whole : bytes ≡ front ++ rest
  pub plain : HasNoNewline front
  pub first : kept ≡ take MOST_KEPT front
  pub left : IsLeft input source total rest

-- a line that ends in a newline was read to its end, and its first bytes are kept
pub record IsWhole (input : Input) (source : Option (List ℕ)) (total : ℕ) (bytes kept : List ℕ) : Type 0 where
  pub ended : list_any is_newline bytes ≡ true
  pub first : kept ≡ take MOST_KEPT (first_line bytes)
  pub left : IsLeft input source total (behind_line bytes)

-- a line was read on by one piece: to its end, or a longer front of it
abbrev pub IsTakenOn : Bool → Input → Option (List ℕ) → ℕ → List ℕ → List ℕ → Type 0
IsTakenOn true input source total bytes kept = IsWhole input source total bytes kept
IsTakenOn false input source total bytes kept = IsFront input source total bytes kept

-- a line was passed over by one piece: to its end, or a front of it
abbrev pub IsPassedOn : Bool → Input → Option (List ℕ) → ℕ → List ℕ → Type 0
IsPassedOn true input source total bytes = IsLeft input source total (behind_line bytes)
IsPassedOn false input source total bytes =
    (rest : List ℕ) × IsLeft input source total rest × (behind_line bytes ≡ behind_line rest)

-- a line was read, or the end was found
pub record IsLine (bytes : List ℕ) (found : Bool) (kept : List ℕ) (input : Input) (source : Option (List ℕ))
    (total : ℕ) : Type 0 where
  pub some : found ≡ is_some_byte bytes
  pub line : IsKept kept (line_text bytes)
  pub left : IsLeft input source total (behind_line bytes)

-- a payload of so many bytes was read, with the byte in its newline's place; where that is another byte, what stands up
-- to the next newline was passed over
pub record IsPayload (count : ℕ) (bytes payload : List ℕ) (input : Input) (source : Option (List ℕ))
    (total : ℕ) : Type 0 where
  pub payload_is : payload ≡ take (count + 1) bytes
  pub left : IsLeft input source total (behind_line (drop count bytes))

-- an item was read, or the end was found
pub record IsItem (bytes : List ℕ) (found : Bool) (line payload : List ℕ) (input : Input) (source : Option (List ℕ))
    (total : ℕ) : Type 0 where
  pub some : found ≡ is_some_byte bytes
  pub item : found ≡ true → item_of (asked line) payload ≡ first_item bytes
  pub left : found ≡ true → IsLeft input source total (behind_item bytes)

-- the first n bytes of what was left were read
pub record IsReadUpTo (n : ℕ) (out bytes : List ℕ) (input : Input) (source : Option (List ℕ)) (total : ℕ) : Type 0 where
  pub read : take n out ≡ take n bytes
  pub left : IsLeft input source total (drop n bytes)
