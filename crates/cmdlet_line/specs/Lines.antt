-- The grammar of a line: what it asks, or why it is refused.
use Rattle.std.specs.Prelude.{◌≡◌, ◌==◌, ◌-◌, ◌^◌, ℕ, Bool, true, cond, nat_lt, List, [], ◌∷◌, length, Option, Some, None, Result, Ok, Err, codes}
use Rattle.std.specs.List.{list_any}
use Rattle.std.specs.Str.{bytes_eq, str_eq_ignore_ascii_case}
use Rattle.cmdlet_line.specs.Words.{behind_spaces, has_bad_quote, words_of, number_in}
use Rattle.cmdlet_line.specs.declared.limits.TheConstants.{MOST_LINE, MOST_COUNT}
use Rattle.cmdlet_line.specs.declared.lines.Line.{Line}
use Rattle.cmdlet_line.specs.declared.lines.Line.TheVariants as lines
use Rattle.cmdlet_line.specs.declared.lines.LineFault.{LineFault}
use Rattle.cmdlet_line.specs.declared.lines.LineFault.TheVariants as faults

-- what a line asks: its command with the values of its parameters
pub data Ask : Type 0 where
  Silent : Ask
  Create : List ℕ → Ask
  Write : List ℕ → ℕ → ℕ → Ask
  Read : List ℕ → ℕ → ℕ → Ask
  Fill : List ℕ → ℕ → ℕ → ℕ → Ask
  Length : List ℕ → ℕ → Ask
  Rename : List ℕ → List ℕ → Ask
  Delete : List ℕ → Ask
  Digest : List ℕ → Ask
  Stat : List ℕ → Ask
  Listing : Ask
  Flush : Ask
  Exit : Ask

-- why a line is refused; a List ℕ is the word at fault, or the name of the parameter
pub data Refusal : Type 0 where
  LineTooLong : Refusal
  BadQuote : Refusal
  UnknownCommand : List ℕ → Refusal
  NotBuilt : List ℕ → Refusal
  UnknownParameter : List ℕ → Refusal
  LeftOut : List ℕ → Refusal
  RepeatedParameter : List ℕ → Refusal
  MissingValue : List ℕ → Refusal
  BadValue : List ℕ → Refusal
  MissingParameter : List ℕ → Refusal

-- what the word of a parameter may be: any word, or a number from the first to the second
pub data Kind : Type 0 where
  Text : Kind
  Number : ℕ → ℕ → Kind

pub record Parameter : Type 0 where
  pub title : List ℕ
  pub kind : Kind

-- what a word of a kind means
abbrev pub Meaning : Kind → Type 0
Meaning Text = List ℕ
Meaning (Number least most) = ℕ

-- None where the word is not of the kind
abbrev pub meaning_of : (k : Kind) → List ℕ → Option (Meaning k)
meaning_of Text word = Some word
meaning_of (Number least most) word = number_in least most word

-- what makes an Ask of the values of these parameters
abbrev pub Makes : List Parameter → Type 0
Makes [] = Ask
Makes (p ∷ ps) = Meaning p.kind → Makes ps

-- how the words behind a command are read
pub data Form : Type 0 where
  -- one word for each parameter, in this order
  InOrder : (ps : List Parameter) → Makes ps → Form
  -- the command is known, and not built yet
  Later : Form

pub data Spelling : Type 0 where
  Exact : Spelling
  AnyCase : Spelling

-- a row of the table of commands
pub record Row : Type 0 where
  pub word : List ℕ
  pub spelling : Spelling
  pub form : Form

-- does a word spell this name?
abbrev pub spells : Spelling → List ℕ → List ℕ → Bool
spells Exact name word = bytes_eq word name
spells AnyCase name word = str_eq_ignore_ascii_case word name

-- go on with the value of the first, or stay at its refusal
infixl 10 ◌>>=◌
abbrev pub ◌>>=◌ : {A B : Type 0} → Result A Refusal → (A → Result B Refusal) → Result B Refusal
(Ok x) >>= f = f x
(Err e) >>= f = Err e

abbrev pub valued : {A : Type 0} → List ℕ → List (List ℕ) → Option A → Result (A × List (List ℕ)) Refusal
valued title words None = Err (BadValue title)
valued title words (Some value) = Ok (value, words)

-- the first word as the value of a parameter, and the words behind it
abbrev pub field : (p : Parameter) → List (List ℕ) → Result (Meaning p.kind × List (List ℕ)) Refusal
field p [] = Err (MissingValue p.title)
field p (word ∷ words) = valued p.title words (meaning_of p.kind word)

abbrev pub all_read : {A : Type 0} → A → List (List ℕ) → Result A Refusal
all_read made [] = Ok made
all_read made (word ∷ words) = Err (UnknownParameter word)

-- one word for each parameter, from left to right, the first fault standing
abbrev pub in_order : (ps : List Parameter) → Makes ps → List (List ℕ) → Result Ask Refusal
in_order [] made words = all_read made words
in_order (p ∷ ps) made words = field p words >>= (λ x. in_order ps (made x.0) x.1)

abbrev pub asked : Form → List ℕ → List (List ℕ) → Result Ask Refusal
asked (InOrder ps makes) word words = in_order ps makes words
asked Later word words = Err (NotBuilt word)

-- what a command's word and the words behind it ask, by the rows of a table
abbrev pub command_of : List Row → List ℕ → List (List ℕ) → Result Ask Refusal
command_of [] word words = Err (UnknownCommand word)
command_of (row ∷ rows) word words =
    cond (spells row.spelling row.word word) (asked row.form word words) (command_of rows word words)

abbrev pub name_parameter : Parameter
name_parameter = record { title = codes "Name"; kind = Text }

abbrev pub at_parameter : Parameter
at_parameter = record { title = codes "At"; kind = Number 0 (2 ^ 64 - 1) }

abbrev pub count_parameter : Parameter
count_parameter = record { title = codes "Count"; kind = Number 0 MOST_COUNT }

abbrev pub byte_parameter : Parameter
byte_parameter = record { title = codes "Byte"; kind = Number 0 255 }

abbrev pub length_parameter : Parameter
length_parameter = record { title = codes "Length"; kind = Number 0 (2 ^ 64 - 1) }

abbrev pub from_parameter : Parameter
from_parameter = record { title = codes "From"; kind = Text }

abbrev pub to_parameter : Parameter
to_parameter = record { title = codes "To"; kind = Text }

-- the parameters of `write` and `read`
abbrev pub range_parameters : List Parameter
range_parameters = name_parameter ∷ at_parameter ∷ count_parameter ∷ []

abbrev pub fill_parameters : List Parameter
fill_parameters = name_parameter ∷ at_parameter ∷ count_parameter ∷ byte_parameter ∷ []

abbrev pub built : List ℕ → (ps : List Parameter) → Makes ps → Row
built word ps makes = record { word = word; spelling = Exact; form = InOrder ps makes }

abbrev pub later : List ℕ → Row
later word = record { word = word; spelling = Exact; form = Later }

abbrev pub later_cmdlet : List ℕ → Row
later_cmdlet word = record { word = word; spelling = AnyCase; form = Later }

-- The table of commands, in groups of at most eight rows: each ends in the next.

unfoldable pub job_cmdlets : List Row
job_cmdlets =
    later_cmdlet (codes "Start-DedupJob")
    ∷ later_cmdlet (codes "Stop-DedupJob")
    ∷ later_cmdlet (codes "Get-DedupJob")
    ∷ later_cmdlet (codes "New-DedupSchedule")
    ∷ later_cmdlet (codes "Set-DedupSchedule")
    ∷ later_cmdlet (codes "Get-DedupSchedule")
    ∷ later_cmdlet (codes "Remove-DedupSchedule")
    ∷ later_cmdlet (codes "Measure-DedupFileMetadata") ∷ []

unfoldable pub volume_cmdlets : List Row
volume_cmdlets =
    later_cmdlet (codes "Enable-DedupVolume")
    ∷ later_cmdlet (codes "Disable-DedupVolume")
    ∷ later_cmdlet (codes "Set-DedupVolume")
    ∷ later_cmdlet (codes "Get-DedupVolume")
    ∷ later_cmdlet (codes "Get-DedupStatus")
    ∷ later_cmdlet (codes "Update-DedupStatus")
    ∷ later_cmdlet (codes "Get-DedupMetadata")
    ∷ later_cmdlet (codes "Expand-DedupFile") ∷ job_cmdlets

unfoldable pub volume_commands : List Row
volume_commands =
    built (codes "stat") (name_parameter ∷ []) Stat
    ∷ built (codes "list") [] Listing
    ∷ built (codes "flush") [] Flush
    ∷ built (codes "exit") [] Exit
    ∷ later (codes "turn")
    ∷ later (codes "load") ∷ volume_cmdlets

unfoldable pub commands : List Row
commands =
    built (codes "create") (name_parameter ∷ []) Create
    ∷ built (codes "write") range_parameters Write
    ∷ built (codes "read") range_parameters Read
    ∷ built (codes "fill") fill_parameters Fill
    ∷ built (codes "length") (name_parameter ∷ length_parameter ∷ []) Length
    ∷ built (codes "rename") (from_parameter ∷ to_parameter ∷ []) Rename
    ∷ built (codes "delete") (name_parameter ∷ []) Delete
    ∷ built (codes "digest") (name_parameter ∷ []) Digest ∷ volume_commands

-- is the word a command, built or not?
abbrev pub is_command : List ℕ → Bool
is_command word = list_any (λ row. spells row.spelling row.word word) commands

-- The line.

-- is a line's text, from its first byte that is no space on, none or a remark?
abbrev pub is_silent : List ℕ → Bool
is_silent [] = true
is_silent (b ∷ bytes) = b == 35

-- the words of a line, where each double quote stands as it may
abbrev pub split : List ℕ → Result (List (List ℕ)) Refusal
split line = cond (has_bad_quote line) (Err BadQuote) (Ok (words_of line))

abbrev pub asked_by : List (List ℕ) → Result Ask Refusal
asked_by [] = Ok Silent
asked_by (word ∷ words) = command_of commands word words

-- what a line asks in a session with this volume text, in the order of the refusals
abbrev pub line_of : List ℕ → List ℕ → Result Ask Refusal
line_of volume line =
    cond (nat_lt MOST_LINE (length line)) (Err LineTooLong)
    (cond (is_silent (behind_spaces line)) (Ok Silent) (split line >>= asked_by))

-- The code's line and fault, without where they lie in memory.

abbrev pub ask_of : Line → Ask
ask_of lines.Silent = Silent
ask_of (lines.Create name) = Create name.now
ask_of (lines.Write name at count) = Write name.now at count
ask_of (lines.Read name at count) = Read name.now at count
ask_of (lines.Fill name at count byte) = Fill name.now at count byte
ask_of (lines.Length name length) = Length name.now length
ask_of (lines.Rename source target) = Rename source.now target.now
ask_of (lines.Delete name) = Delete name.now
ask_of (lines.Digest name) = Digest name.now
ask_of (lines.Stat name) = Stat name.now
ask_of lines.List = Listing
ask_of lines.Flush = Flush
ask_of lines.Exit = Exit

abbrev pub refusal_of : LineFault → Refusal
refusal_of faults.LineTooLong = LineTooLong
refusal_of faults.BadQuote = BadQuote
refusal_of (faults.UnknownCommand word) = UnknownCommand word.now
refusal_of (faults.NotBuilt word) = NotBuilt word.now
refusal_of (faults.UnknownParameter word) = UnknownParameter word.now
refusal_of (faults.LeftOut title) = LeftOut title.now
refusal_of (faults.RepeatedParameter title) = RepeatedParameter title.now
refusal_of (faults.MissingValue title) = MissingValue title.now
refusal_of (faults.BadValue title) = BadValue title.now
refusal_of (faults.MissingParameter title) = MissingParameter title.now

-- what the code returned, seen through view, is what the definition gives
abbrev pub Gives : {X Y : Type 0} → (X → Y) → Result X LineFault → Result Y Refusal → Type 0
Gives view (Ok x) given = given ≡ Ok (view x)
Gives view (Err fault) given = given ≡ Err (refusal_of fault)
