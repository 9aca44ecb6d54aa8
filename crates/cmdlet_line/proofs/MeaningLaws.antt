-- What lines mean whose words are known.
use Rattle.std.proofs.Common.{◌≡◌, ◌≢◌, ◌<◌, ◌≤◌, ◌+◌, ◌-◌, ◌^◌, ◌||◌, ℕ, Bool, true, false, nat_lt, nat_le, List, [], ◌∷◌, ◌++◌, length, length-append, replicate, refl, ◌∙◌, ap, sym, inl, inr, take, arith, codes, Option, Some, None, Ok, Err}
use Rattle.std.proofs.lemmas.List.{length-replicate, length-take, take_all}
use Rattle.std.specs.List.{list_all, list_any, onto_first}
use Rattle.std.specs.Char.{digit_value, is_ascii_digit}
use Rattle.std.specs.Fmt.{decimal}
use Rattle.std.specs.Str.Parse.{AllDigits, digits_value}
use Rattle.std.proofs.lemmas.Bool.{cases_lt, eqb-true}
use Rattle.std.proofs.lemmas.Bool.Decides.{nat_tests}
use Rattle.std.proofs.lemmas.Fmt.{decimal_is_IsNumeral, length-decimal-le}
use Rattle.cmdlet_line.proofs.SpelledLaws.{behind_more_spaces}
use Rattle.cmdlet_line.proofs.LayoutLaws.{bad_quote, split_is_lawful}
use Rattle.cmdlet_line.proofs.WordLaws.{ended, no_words, text_words}
use Rattle.cmdlet_line.specs.Words.{behind_spaces, is_numeral, number_in, number_of, words_from, words_of}
use Rattle.cmdlet_line.specs.Lines.{Ask, LineTooLong, Silent, Create, Write, Read, Fill, Length, Rename, Delete, Digest, Stat, Listing, Flush, Exit, BadQuote, BadValue, MissingValue, NotBuilt, Row, UnknownCommand, UnknownParameter, asked_by, command_of, commands, in_order, is_command, is_silent, line_of, spells, split, range_parameters, volume_commands}
use Rattle.cmdlet_line.specs.Spelled.{AreInRange, AreSpaced, HasWords, Spaced, laid, words_for}

not_long : (n : ℕ) → n ≤ 4096 → nat_lt 4096 n ≡ false
not_long n short = grind (arith, nat_tests)

silent_line : (volume line : List ℕ) → length line ≤ 4096 → is_silent (behind_spaces line) ≡ true
    → line_of volume line ≡ Ok Silent
silent_line volume line short silent = rw (not_long (length line) short, silent) refl

too_long : (volume line : List ℕ) → 4096 < length line → line_of volume line ≡ Err LineTooLong
too_long volume line long = let above : nat_lt 4096 (length line) ≡ true = grind (arith, nat_tests) in rw above refl

-- a line beyond the limit is known by its first bytes
pub front_tells : (volume line : List ℕ) → line_of volume (take 4097 line) ≡ line_of volume line
front_tells volume line =
    elim (cases_lt 4096 (length line)) [
      | inl long ↦ (let front : 4096 < length (take 4097 line) = rw length-take (omega arith) in
          too_long volume (take 4097 line) front ∙ sym (too_long volume line long))
      | inr short ↦ ap (line_of volume) (take_all 4097 line (omega arith))
    ]

pub remark : (volume rest : List ℕ) (n : ℕ) → n + 1 + length rest ≤ 4096
    → line_of volume (replicate n 32 ++ 35 ∷ rest) ≡ Ok Silent
remark volume rest n short =
    let size : length (replicate n 32 ++ 35 ∷ rest) ≤ 4096 = simp (length-append, length-replicate) (omega arith) in
    silent_line volume (replicate n 32 ++ 35 ∷ rest) size (ap is_silent (behind_more_spaces n (35 ∷ rest)))

-- Numbers.

is_digit : (b : ℕ) → digit_value b < 10 → is_ascii_digit b ≡ true
is_digit b small = grind (arith, nat_tests)

are_digits : (word : List ℕ) → AllDigits 10 word → list_all is_ascii_digit word ≡ true
are_digits [] all = refl
are_digits (b ∷ word) all = rw (is_digit b all.0) (are_digits word all.1)

decimal_is_numeral : (n : ℕ) → n < 2 ^ 64 → is_numeral (decimal n) ≡ true
decimal_is_numeral n small =
    let all = decimal_is_IsNumeral n small in
    let short : length (decimal n) ≤ 20 = length-decimal-le 20 n (omega arith) (omega arith) small in
    let digits : list_all is_ascii_digit (decimal n) ≡ true = are_digits (decimal n) all.0.1 in
    let some : nat_le 1 (length (decimal n)) ≡ true = let has = all.0.0 in grind (arith, nat_tests) in
    let few : nat_le (length (decimal n)) 20 ≡ true = grind (arith, nat_tests) in
    rw (some, few, digits) refl

decimal_is_number : (n : ℕ) → n < 2 ^ 64 → number_of (decimal n) ≡ Some n
decimal_is_number n small =
    let worth : digits_value 10 (decimal n) ≡ n = (decimal_is_IsNumeral n small).1 in
    let fits : nat_lt n (2 ^ 64) ≡ true = grind (arith, nat_tests) in
    rw (decimal_is_numeral n small, worth, fits) refl

pub decimal_is_read : (least most n : ℕ) → least ≤ n → n ≤ most → n < 2 ^ 64 → number_in least most (decimal n) ≡ Some n
decimal_is_read least most n low high small =
    let above : nat_le least n ≡ true = grind (arith, nat_tests) in
    let below : nat_le n most ≡ true = grind (arith, nat_tests) in
    rw (decimal_is_number n small, above, below) refl

-- A line with the words of an ask.

-- a text that begins with `#` has words that begin so
remark_words : (line : List ℕ) (c : ℕ) (bytes : List ℕ) (b : ℕ) (word : List ℕ) (words : List (List ℕ))
    → c ∷ bytes ≡ behind_spaces line → c ≡ 35
    → words_of line ≡ (b ∷ word) ∷ words → b ≡ 35
remark_words line c bytes b word words same is are =
    let text : words_from None (c ∷ bytes) ≡ (b ∷ word) ∷ words = sym (text_words line (c ∷ bytes) same) ∙ are in
    let first : words_from None (c ∷ bytes) ≡ onto_first 35 (words_from (Some 32) bytes) = rw is refl in
    let rest = ended 32 bytes in
    let whole : onto_first 35 (words_from (Some 32) bytes) ≡ (35 ∷ _) ∷ _ = ap (onto_first 35) rest in
    let same_first : (35 ∷ _) ∷ _ ≡ (b ∷ word) ∷ words = sym whole ∙ (sym first ∙ text) in
    cc

speaks_up : (line text : List ℕ) (t : Bool) (b : ℕ) (word : List ℕ) (words : List (List ℕ))
    → text ≡ behind_spaces line → is_silent text ≡ t
    → words_of line ≡ (b ∷ word) ∷ words → b ≢ 35 → is_silent text ≡ false
speaks_up line [] t b word words same e are bare = let none : words_of line ≡ [] = no_words line [] same refl in cc
speaks_up line (c ∷ bytes) false b word words same e are bare = e
speaks_up line (c ∷ bytes) true b word words same e are bare =
    absurd (bare (remark_words line c bytes b word words same (eqb-true c 35 e) are))

not_silent : (line : List ℕ) (b : ℕ) (word : List ℕ) (words : List (List ℕ)) → split line ≡ Ok ((b ∷ word) ∷ words)
    → b ≢ 35 → is_silent (behind_spaces line) ≡ false
not_silent line b word words are bare =
    speaks_up line (behind_spaces line) (is_silent (behind_spaces line)) b word words refl refl
    (split_is_lawful line ((b ∷ word) ∷ words) are).1 bare

asks_by_words : (volume line : List ℕ) (words : List (List ℕ)) → HasWords line words
    → is_silent (behind_spaces line) ≡ false → line_of volume line ≡ asked_by words
asks_by_words volume line words has speaks = rw (not_long (length line) has.0, speaks, has.1) refl

silent_words : (volume line : List ℕ) (t : Bool) → HasWords line [] → is_silent (behind_spaces line) ≡ t
    → line_of volume line ≡ Ok Silent
silent_words volume line true has e = silent_line volume line has.0 e
silent_words volume line false has e = asks_by_words volume line [] has e

-- the first word of what is asked, if anything
record Speaks (words : List (List ℕ)) : Type 0 where
  pub first : ℕ
  pub more : List ℕ
  pub rest : List (List ℕ)
  pub bare : first ≢ 35
  pub same : words ≡ (first ∷ more) ∷ rest

speaks : (ask : Ask) → ask ≢ Silent → Speaks (words_for ask)
speaks Silent is = absurd (is refl)
speaks (Create name) is =
    record { first = 99; more = codes "reate"; rest = name ∷ []; bare = omega arith; same = refl }
speaks (Write name at count) is = record {
  first = 119;
  more = codes "rite";
  rest = name ∷ decimal at ∷ decimal count ∷ [];
  bare = omega arith;
  same = refl;
}
speaks (Read name at count) is = record {
  first = 114;
  more = codes "ead";
  rest = name ∷ decimal at ∷ decimal count ∷ [];
  bare = omega arith;
  same = refl;
}
speaks (Fill name at count byte) is = record {
  first = 102;
  more = codes "ill";
  rest = name ∷ decimal at ∷ decimal count ∷ decimal byte ∷ [];
  bare = omega arith;
  same = refl;
}
speaks (Length name size) is =
    record { first = 108; more = codes "ength"; rest = name ∷ decimal size ∷ []; bare = omega arith; same = refl }
speaks (Rename source target) is =
    record { first = 114; more = codes "ename"; rest = source ∷ target ∷ []; bare = omega arith; same = refl }
speaks (Delete name) is =
    record { first = 100; more = codes "elete"; rest = name ∷ []; bare = omega arith; same = refl }
speaks (Digest name) is =
    record { first = 100; more = codes "igest"; rest = name ∷ []; bare = omega arith; same = refl }
speaks (Stat name) is =
    record { first = 115; more = codes "tat"; rest = name ∷ []; bare = omega arith; same = refl }
speaks Listing is =
    record { first = 108; more = codes "ist"; rest = []; bare = omega arith; same = refl }
speaks Flush is =
    record { first = 102; more = codes "lush"; rest = []; bare = omega arith; same = refl }
speaks Exit is =
    record { first = 101; more = codes "xit"; rest = []; bare = omega arith; same = refl }

place_is_read : (n : ℕ) → n < 2 ^ 64 → number_in 0 (2 ^ 64 - 1) (decimal n) ≡ Some n
place_is_read n low = decimal_is_read 0 (2 ^ 64 - 1) n (omega arith) (omega arith) low

count_is_read : (n : ℕ) → n ≤ 1048576 → number_in 0 1048576 (decimal n) ≡ Some n
count_is_read n few = decimal_is_read 0 1048576 n (omega arith) few (omega arith)

byte_is_read : (n : ℕ) → n < 256 → number_in 0 255 (decimal n) ≡ Some n
byte_is_read n few = decimal_is_read 0 255 n (omega arith) (omega arith) (omega arith)

words_asked : (ask : Ask) → AreInRange ask → asked_by (words_for ask) ≡ Ok ask
unfolding commands volume_commands
words_asked Silent fits = refl
words_asked (Create name) fits = refl
words_asked (Write name at count) fits = rw (place_is_read at fits.0, count_is_read count fits.1) refl
words_asked (Read name at count) fits = rw (place_is_read at fits.0, count_is_read count fits.1) refl
words_asked (Fill name at count byte) fits =
    rw (place_is_read at fits.0, count_is_read count fits.1, byte_is_read byte fits.2) refl
words_asked (Length name size) fits = rw (place_is_read size fits) refl
words_asked (Rename source target) fits = refl
words_asked (Delete name) fits = refl
words_asked (Digest name) fits = refl
words_asked (Stat name) fits = refl
words_asked Listing fits = refl
words_asked Flush fits = refl
words_asked Exit fits = refl

-- a line whose first word begins with no `#`
spoken : (volume line : List ℕ) (words : List (List ℕ)) → HasWords line words → Speaks words
    → line_of volume line ≡ asked_by words
spoken volume line words has says =
    asks_by_words volume line words has
    (not_silent line says.first says.more says.rest (has.1 ∙ ap Ok says.same) says.bare)

said : (volume line : List ℕ) (ask : Ask) → ask ≢ Silent → AreInRange ask → HasWords line (words_for ask)
    → line_of volume line ≡ Ok ask
said volume line ask is fits has = spoken volume line (words_for ask) has (speaks ask is) ∙ words_asked ask fits

pub words_ask : (volume line : List ℕ) (ask : Ask) → AreInRange ask → HasWords line (words_for ask)
    → line_of volume line ≡ Ok ask
words_ask volume line Silent fits has = silent_words volume line (is_silent (behind_spaces line)) has refl
words_ask volume line (Create name) fits has = said volume line (Create name) (λ is. cc) fits has
words_ask volume line (Write name at count) fits has = said volume line (Write name at count) (λ is. cc) fits has
words_ask volume line (Read name at count) fits has = said volume line (Read name at count) (λ is. cc) fits has
words_ask volume line (Fill name at count byte) fits has =
    said volume line (Fill name at count byte) (λ is. cc) fits has
words_ask volume line (Length name size) fits has = said volume line (Length name size) (λ is. cc) fits has
words_ask volume line (Rename source target) fits has = said volume line (Rename source target) (λ is. cc) fits has
words_ask volume line (Delete name) fits has = said volume line (Delete name) (λ is. cc) fits has
words_ask volume line (Digest name) fits has = said volume line (Digest name) (λ is. cc) fits has
words_ask volume line (Stat name) fits has = said volume line (Stat name) (λ is. cc) fits has
words_ask volume line Listing fits has = said volume line Listing (λ is. cc) fits has
words_ask volume line Flush fits has = said volume line Flush (λ is. cc) fits has
words_ask volume line Exit fits has = said volume line Exit (λ is. cc) fits has

-- A line of `write` with other words than those.

-- what the words behind `write` ask
pub write_line : (volume line : List ℕ) (words : List (List ℕ)) → HasWords line (codes "write" ∷ words)
    → line_of volume line ≡ in_order range_parameters Write words
unfolding commands
write_line volume line words has =
    spoken volume line (codes "write" ∷ words) has
    (record { first = 119; more = codes "rite"; rest = words; bare = omega arith; same = refl })

no_at : (name at : List ℕ) (rest : List (List ℕ)) → number_in 0 (2 ^ 64 - 1) at ≡ None
    → in_order range_parameters Write (name ∷ at ∷ rest) ≡ Err (BadValue (codes "At"))
no_at name at rest none = rw none refl

after_at : (name at : List ℕ) (rest : List (List ℕ)) (found : Option ℕ) → number_in 0 (2 ^ 64 - 1) at ≡ found
    → found ≢ None
    → (n : ℕ) × (number_in 0 (2 ^ 64 - 1) at ≡ Some n)
after_at name at rest None e is = absurd (is refl)
after_at name at rest (Some n) e is = (n, e)

pub bad_at : (volume line name at : List ℕ) (rest : List (List ℕ))
    → HasWords line (codes "write" ∷ name ∷ at ∷ rest) → number_in 0 (2 ^ 64 - 1) at ≡ None
    → line_of volume line ≡ Err (BadValue (codes "At"))
bad_at volume line name at rest has none = write_line volume line (name ∷ at ∷ rest) has ∙ no_at name at rest none

pub bad_count : (volume line name at count : List ℕ) (rest : List (List ℕ))
    → HasWords line (codes "write" ∷ name ∷ at ∷ count ∷ rest)
    → number_in 0 (2 ^ 64 - 1) at ≢ None → number_in 0 1048576 count ≡ None
    → line_of volume line ≡ Err (BadValue (codes "Count"))
bad_count volume line name at count rest has some none =
    let found = after_at name at (count ∷ rest) (number_in 0 (2 ^ 64 - 1) at) refl some in
    write_line volume line (name ∷ at ∷ count ∷ rest) has ∙ rw (found.1, none) refl

pub missing_count : (volume line name at : List ℕ) → HasWords line (codes "write" ∷ name ∷ at ∷ [])
    → number_in 0 (2 ^ 64 - 1) at ≢ None
    → line_of volume line ≡ Err (MissingValue (codes "Count"))
missing_count volume line name at has some =
    let found = after_at name at [] (number_in 0 (2 ^ 64 - 1) at) refl some in
    write_line volume line (name ∷ at ∷ []) has ∙ rw found.1 refl

-- A line with a word more.

more_words : (ask : Ask) (word : List ℕ) (rest : List (List ℕ)) → ask ≢ Silent → AreInRange ask
    → asked_by (words_for ask ++ word ∷ rest) ≡ Err (UnknownParameter word)
unfolding commands volume_commands
more_words Silent word rest is fits = absurd (is refl)
more_words (Create name) word rest is fits = refl
more_words (Write name at count) word rest is fits = rw (place_is_read at fits.0, count_is_read count fits.1) refl
more_words (Read name at count) word rest is fits = rw (place_is_read at fits.0, count_is_read count fits.1) refl
more_words (Fill name at count byte) word rest is fits =
    rw (place_is_read at fits.0, count_is_read count fits.1, byte_is_read byte fits.2) refl
more_words (Length name size) word rest is fits = rw (place_is_read size fits) refl
more_words (Rename source target) word rest is fits = refl
more_words (Delete name) word rest is fits = refl
more_words (Digest name) word rest is fits = refl
more_words (Stat name) word rest is fits = refl
more_words Listing word rest is fits = refl
more_words Flush word rest is fits = refl
more_words Exit word rest is fits = refl

speaks_on : (words more : List (List ℕ)) → Speaks words → Speaks (words ++ more)
speaks_on words more says = record {
  first = says.first;
  more = says.more;
  rest = says.rest ++ more;
  bare = says.bare;
  same = ap (λ (w : List (List ℕ)). w ++ more) says.same;
}

pub further_word : (volume line word : List ℕ) (ask : Ask) (rest : List (List ℕ)) → AreInRange ask → ask ≢ Silent
    → HasWords line (words_for ask ++ word ∷ rest)
    → line_of volume line ≡ Err (UnknownParameter word)
further_word volume line word ask rest fits is has =
    spoken volume line (words_for ask ++ word ∷ rest) has (speaks_on (words_for ask) (word ∷ rest) (speaks ask is))
    ∙ more_words ask word rest is fits

-- A line that is no words.

pub other_quote : (volume line : List ℕ) → length line ≤ 4096 → is_silent (behind_spaces line) ≡ false
    → ((spaced : List Spaced) (last : ℕ) → AreSpaced 0 spaced → line ≢ laid spaced last)
    → line_of volume line ≡ Err BadQuote
other_quote volume line short speaks other = rw (not_long (length line) short, speaks, bad_quote line other) refl

-- A line whose first word is no command, or one of later.

fails_first : (first rest : Bool) → (first || rest) ≡ false → (first ≡ false) × (rest ≡ false)
fails_first true rest e = cc
fails_first false rest e = (refl, e)

unknown_in : (rows : List Row) (word : List ℕ) (words : List (List ℕ))
    → list_any (λ row. spells row.spelling row.word word) rows ≡ false
    → command_of rows word words ≡ Err (UnknownCommand word)
unknown_in [] word words none = refl
unknown_in (row ∷ rows) word words none =
    let parts =
    fails_first (spells row.spelling row.word word) (list_any (λ r. spells r.spelling r.word word) rows) none in
    rw parts.0 (unknown_in rows word words parts.1)

pub unknown_command : (volume line word : List ℕ) (rest : List (List ℕ)) → HasWords line (word ∷ rest)
    → is_silent (behind_spaces line) ≡ false → is_command word ≡ false
    → line_of volume line ≡ Err (UnknownCommand word)
unknown_command volume line word rest has speaks none =
    asks_by_words volume line (word ∷ rest) has speaks ∙ unknown_in commands word rest none

pub turn_is_later : (volume line : List ℕ) (rest : List (List ℕ)) → HasWords line (codes "turn" ∷ rest)
    → line_of volume line ≡ Err (NotBuilt (codes "turn"))
unfolding commands volume_commands
turn_is_later volume line rest has =
    spoken volume line (codes "turn" ∷ rest) has
    (record { first = 116; more = codes "urn"; rest = rest; bare = omega arith; same = refl })

pub load_is_later : (volume line : List ℕ) (rest : List (List ℕ)) → HasWords line (codes "load" ∷ rest)
    → line_of volume line ≡ Err (NotBuilt (codes "load"))
unfolding commands volume_commands
load_is_later volume line rest has =
    spoken volume line (codes "load" ∷ rest) has
    (record { first = 108; more = codes "oad"; rest = rest; bare = omega arith; same = refl })
