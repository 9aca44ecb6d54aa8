-- Lines as they are written: words behind their spaces, and the words of what a line asks.
use Rattle.std.specs.Prelude.{◌≡◌, ◌≢◌, ◌==◌, ◌<◌, ◌≤◌, ◌++◌, ◌^◌, ℕ, Bool, true, false, List, [], ◌∷◌, length, map, replicate, Ok, codes}
use Rattle.std.specs.List.{All, filter, list_any, slice_split}
use Rattle.std.specs.Fmt.{decimal}
use Rattle.std.specs.Str.Parse.{digits_value}
use Rattle.cmdlet_line.specs.Lines.{Ask, Silent, Create, Write, Read, Fill, Length, Rename, Delete, Digest, Stat, Listing, Flush, Exit, split}
use Rattle.cmdlet_line.specs.Words.{is_space}
use Rattle.cmdlet_line.specs.declared.limits.TheConstants.{MOST_COUNT, MOST_DIGITS, MOST_LINE}

-- a bare word has no space and no double quote; a quoted one may be empty and hold spaces
abbrev pub IsWord : Bool → List ℕ → Type 0
IsWord false word = (0 < length word) × All (λ b. (b ≢ 32) × (b ≢ 34)) word
IsWord true word = All (λ b. b ≢ 34) word

-- a word, whether it is quoted, and how many spaces stand before it
pub record Spaced : Type 0 where
  pub spaces : ℕ
  pub quoted : Bool
  pub word : List ℕ

-- a word as it stands in a line
abbrev pub written : Bool → List ℕ → List ℕ
written false word = word
written true word = 34 ∷ (word ++ 34 ∷ [])

-- the line of these words, with spaces at its end
abbrev pub laid : List Spaced → ℕ → List ℕ
laid [] last = replicate last 32
laid (s ∷ rest) last = replicate s.spaces 32 ++ (written s.quoted s.word ++ laid rest last)

-- the first word has so many spaces before it at least, and each other has one
abbrev pub AreSpaced : ℕ → List Spaced → Type 0
AreSpaced least [] = Unit {0}
AreSpaced least (s ∷ rest) = IsWord s.quoted s.word × (least ≤ s.spaces) × AreSpaced 1 rest

abbrev pub words_laid : List Spaced → List (List ℕ)
words_laid spaced = map (λ s. s.word) spaced

-- the words that ask this
abbrev pub words_for : Ask → List (List ℕ)
words_for Silent = []
words_for (Create name) = codes "create" ∷ name ∷ []
words_for (Write name at count) = codes "write" ∷ name ∷ decimal at ∷ decimal count ∷ []
words_for (Read name at count) = codes "read" ∷ name ∷ decimal at ∷ decimal count ∷ []
words_for (Fill name at count byte) = codes "fill" ∷ name ∷ decimal at ∷ decimal count ∷ decimal byte ∷ []
words_for (Length name length) = codes "length" ∷ name ∷ decimal length ∷ []
words_for (Rename source target) = codes "rename" ∷ source ∷ target ∷ []
words_for (Delete name) = codes "delete" ∷ name ∷ []
words_for (Digest name) = codes "digest" ∷ name ∷ []
words_for (Stat name) = codes "stat" ∷ name ∷ []
words_for Listing = codes "list" ∷ []
words_for Flush = codes "flush" ∷ []
words_for Exit = codes "exit" ∷ []

-- the numbers that a line can give
abbrev pub AreInRange : Ask → Type 0
AreInRange Silent = Unit {0}
AreInRange (Create name) = Unit {0}
AreInRange (Write name at count) = (at < 2 ^ 64) × (count ≤ MOST_COUNT)
AreInRange (Read name at count) = (at < 2 ^ 64) × (count ≤ MOST_COUNT)
AreInRange (Fill name at count byte) = (at < 2 ^ 64) × (count ≤ MOST_COUNT) × (byte < 256)
AreInRange (Length name length) = length < 2 ^ 64
AreInRange (Rename source target) = Unit {0}
AreInRange (Delete name) = Unit {0}
AreInRange (Digest name) = Unit {0}
AreInRange (Stat name) = Unit {0}
AreInRange Listing = Unit {0}
AreInRange Flush = Unit {0}
AreInRange Exit = Unit {0}

-- the word writes the number n, which lies in this range
pub record IsNumber (least most n : ℕ) (word : List ℕ) : Type 0 where
  pub some : 1 ≤ length word
  pub short : length word ≤ MOST_DIGITS
  pub digits : All (λ b. (48 ≤ b) × (b ≤ 57)) word
  pub worth : digits_value 10 word ≡ n
  pub fits : n < 2 ^ 64
  pub above : least ≤ n
  pub below : n ≤ most

-- a line of lawful length with these words
abbrev pub HasWords : List ℕ → List (List ℕ) → Type 0
HasWords line words = (length line ≤ MOST_LINE) × (split line ≡ Ok words)

abbrev pub HasNoQuote : List ℕ → Type 0
HasNoQuote line = list_any (λ b. b == 34) line ≡ false

abbrev pub has_bytes : List ℕ → Bool
has_bytes [] = false
has_bytes (b ∷ bytes) = true

-- what stands between the spaces of a line
abbrev pub between_spaces : List ℕ → List (List ℕ)
between_spaces line = filter has_bytes (slice_split is_space line)
