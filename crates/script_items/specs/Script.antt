-- How a script splits into items: a line with what belongs to it.
use Rattle.std.specs.Prelude.{◌≡◌, ◌<◌, ◌+◌, ◌-◌, ◌==◌, ℕ, Bool, true, cond, nat_lt, List, [], ◌∷◌, length, take, drop, slice_index, Option, Some, None, Result, Ok, Err}
use Rattle.std.specs.List.{list_any}
use Rattle.cmdlet_line.specs.Lines.{Ask, Write, Refusal, line_of}

-- the session's volume text: `D:`
abbrev pub volume_text : List ℕ
volume_text = 68 ∷ 58 ∷ []

abbrev pub is_newline : ℕ → Bool
is_newline b = b == 10

-- what stands before the first newline
abbrev pub first_line : List ℕ → List ℕ
first_line [] = []
first_line (b ∷ bytes) = cond (is_newline b) [] (b ∷ first_line bytes)

-- what stands behind the first newline
abbrev pub behind_line : List ℕ → List ℕ
behind_line [] = []
behind_line (b ∷ bytes) = cond (is_newline b) bytes (behind_line bytes)

-- without a carriage return at the end
abbrev pub without_return : List ℕ → List ℕ
without_return line = cond (slice_index line (length line - 1) == 13) (take (length line - 1) line) line

-- the first line as it is asked: one carriage return before its newline is dropped
abbrev pub line_text : List ℕ → List ℕ
line_text script = cond (list_any is_newline script) (without_return (first_line script)) (first_line script)

-- what a line asks, or why it is refused
abbrev pub asked : List ℕ → Result Ask Refusal
asked line = line_of volume_text line

-- how many bytes of payload a line takes
abbrev pub wants : Ask → Option ℕ
wants (Write name at count) = Some count
wants other = None

-- a refused line takes none
abbrev pub wanted : Result Ask Refusal → Option ℕ
wanted (Err refusal) = None
wanted (Ok ask) = wants ask

pub data Item : Type 0 where
  -- a refused line
  Bad : Refusal → Item
  -- a line that takes no payload
  Bare : Ask → Item
  -- a line and its payload
  Paid : Ask → List ℕ → Item
  -- the script ends inside the payload
  Cut : Item
  -- another byte stands in the place of the payload's newline
  Spoilt : Item

-- the byte in the newline's place, which the end of the script may leave out
abbrev pub ends_well : List ℕ → Bool
ends_well [] = true
ends_well (b ∷ bytes) = is_newline b

-- the item of a line, with what stands behind it up to the newline's place
abbrev pub with_payload : Ask → List ℕ → Option ℕ → Item
with_payload ask behind None = Bare ask
with_payload ask behind (Some count) =
    cond (nat_lt (length behind) count) Cut (cond (ends_well (drop count behind)) (Paid ask (take count behind)) Spoilt)

abbrev pub item_of : Result Ask Refusal → List ℕ → Item
item_of (Err refusal) behind = Bad refusal
item_of (Ok ask) behind = with_payload ask behind (wants ask)

-- how many bytes behind the line may belong to it: its payload, and the newline behind that
abbrev pub room_of : Option ℕ → ℕ
room_of None = 0
room_of (Some count) = count + 1

-- what stands behind the payload, its newline, and bytes in front of that
abbrev pub past : Option ℕ → List ℕ → List ℕ
past None behind = behind
past (Some count) behind = behind_line (drop count behind)

-- the first item of a script that is not empty, and what stands behind it
abbrev pub first_item : List ℕ → Item
first_item script = let line = asked (line_text script) in
    item_of line (take (room_of (wanted line)) (behind_line script))

abbrev pub behind_item : List ℕ → List ℕ
behind_item script = past (wanted (asked (line_text script))) (behind_line script)

-- the script begins with these items, and this stands behind them
abbrev pub BeginsWith : List Item → List ℕ → List ℕ → Type 0
BeginsWith [] script rest = rest ≡ script
BeginsWith (item ∷ items) script rest =
    (0 < length script) × (item ≡ first_item script) × BeginsWith items (behind_item script) rest
