-- Words and numbers of a line.
use Rattle.std.specs.Prelude.{◌&&◌, ◌==◌, ◌^◌, ℕ, Bool, true, false, cond, not, nat_le, nat_lt, List, [], ◌∷◌, length, drop, Option, Some, None}
use Rattle.std.specs.List.{list_all, onto_first, position_or_len}
use Rattle.std.specs.Char.{is_ascii_digit}
use Rattle.std.specs.Str.Parse.{digits_value}
use Rattle.cmdlet_line.specs.declared.limits.TheConstants.{MOST_DIGITS}
use Rattle.cmdlet_line.specs.declared.quotes.Place.{Place}
use Rattle.cmdlet_line.specs.declared.quotes.Place.TheVariants as place

-- only the byte 32 is a space: a tab is a byte of a word
abbrev pub is_space : ℕ → Bool
is_space b = b == 32

abbrev pub is_no_space : ℕ → Bool
is_no_space b = not (is_space b)

-- a line without the spaces that it begins with
abbrev pub behind_spaces : List ℕ → List ℕ
behind_spaces line = drop (position_or_len is_no_space line) line

abbrev pub is_quote : ℕ → Bool
is_quote b = b == 34

-- where the byte behind this one stands
abbrev pub next : Place → ℕ → Place
next place.Between b = cond (is_space b) place.Between (cond (is_quote b) place.Quoted place.Bare)
next place.Bare b = cond (is_space b) place.Between (cond (is_quote b) place.Astray place.Bare)
next place.Quoted b = cond (is_quote b) place.Closed place.Quoted
next place.Closed b = cond (is_space b) place.Between place.Astray
next place.Astray b = place.Astray

-- where the byte behind all of these stands
abbrev pub behind : Place → List ℕ → Place
behind p [] = p
behind p (b ∷ bytes) = behind (next p b) bytes

-- may a line end here?
abbrev pub is_end : Place → Bool
is_end place.Between = true
is_end place.Bare = true
is_end place.Quoted = false
is_end place.Closed = true
is_end place.Astray = false

abbrev pub has_bad_quote : List ℕ → Bool
has_bad_quote line = not (is_end (behind place.Between line))

-- the words from a place between words on, or from a place in a word that ends at this byte
abbrev pub words_from : Option ℕ → List ℕ → List (List ℕ)
words_from None [] = []
words_from None (b ∷ bytes) =
    cond (is_space b) (words_from None bytes)
    (cond (is_quote b) (words_from (Some 34) bytes) (onto_first b (words_from (Some 32) bytes)))
words_from (Some end) [] = [] ∷ []
words_from (Some end) (b ∷ bytes) =
    cond (b == end) ([] ∷ words_from None bytes) (onto_first b (words_from (Some end) bytes))

-- the words of a line without bad quotes, each as what is between its spaces or its quotes
unfoldable pub words_of : List ℕ → List (List ℕ)
words_of line = words_from None line

-- a numeral is 1 to 20 decimal digits, with no sign; leading zeros may be among them
abbrev pub is_numeral : List ℕ → Bool
is_numeral word = nat_le 1 (length word) && (nat_le (length word) MOST_DIGITS && list_all is_ascii_digit word)

-- the number that a numeral writes, where it fits 64 bits
abbrev pub number_of : List ℕ → Option ℕ
number_of word = cond (is_numeral word && nat_lt (digits_value 10 word) (2 ^ 64)) (Some (digits_value 10 word)) None

abbrev pub within : ℕ → ℕ → Option ℕ → Option ℕ
within least most None = None
within least most (Some n) = cond (nat_le least n && nat_le n most) (Some n) None

-- the number of a range that a word writes
abbrev pub number_in : ℕ → ℕ → List ℕ → Option ℕ
number_in least most word = within least most (number_of word)
