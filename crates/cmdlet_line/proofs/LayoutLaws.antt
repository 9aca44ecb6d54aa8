-- Each line with words is those words behind their spaces.
use Rattle.std.proofs.Common.{◌≡◌, ◌≢◌, ℕ, zero, suc, Bool, true, false, not, cond, List, [], ◌∷◌, ◌++◌, refl, sym, ◌∙◌, ap, subst, arith, append_assoc, None, Some, Ok, Err, Result}
use Rattle.std.specs.List.{All, filter, onto_first, slice_split}
use Rattle.std.proofs.lemmas.Bool.{eq-eqb, eqb-true}
use Rattle.cmdlet_line.proofs.SpelledLaws.{HasNone, IsBare, IsLawful, laid_words, onward}
use Rattle.cmdlet_line.specs.Words.{behind, is_end, is_quote, is_space, next, words_from, words_of}
use Rattle.cmdlet_line.specs.Lines.{BadQuote, Refusal, split}
use Rattle.cmdlet_line.specs.Spelled.{AreSpaced, HasNoQuote, Spaced, between_spaces, has_bytes, laid, words_laid}
use Rattle.cmdlet_line.specs.declared.quotes.Place.{Place}
use Rattle.cmdlet_line.specs.declared.quotes.Place.TheVariants as place

-- these bytes are words, the first of them behind so many spaces at least
abbrev IsLaid : ℕ → List ℕ → Type 0
IsLaid least line = (spaced : List Spaced) × (last : ℕ) × AreSpaced least spaced × (line ≡ laid spaced last)

-- what bytes are that may stand from a place on
abbrev Shows : Place → List ℕ → Type 0
Shows place.Between line = IsLaid 0 line
Shows place.Bare line =
    (word : List ℕ) × (spaced : List Spaced) × (last : ℕ) × IsBare word × AreSpaced 1 spaced
    × (line ≡ word ++ laid spaced last)
Shows place.Quoted line =
    (word : List ℕ) × (spaced : List Spaced) × (last : ℕ) × HasNone word × AreSpaced 1 spaced
    × (line ≡ word ++ 34 ∷ laid spaced last)
Shows place.Closed line = IsLaid 1 line
Shows place.Astray line = ⊥

space_before : (b : ℕ) (bytes : List ℕ) → b ≡ 32 → (spaced : List Spaced) (last : ℕ) → AreSpaced 0 spaced
    → bytes ≡ laid spaced last → IsLaid 1 (b ∷ bytes)
space_before b bytes is [] last are same = ([], suc last, tt, rw (is, same) refl)
space_before b bytes is (s ∷ rest) last are same = (
  record { spaces = suc s.spaces; quoted = s.quoted; word = s.word } ∷ rest,
  last,
  (are.0, omega arith, are.2),
  rw (is, same) refl,
)

fewer : (spaced : List Spaced) → AreSpaced 1 spaced → AreSpaced 0 spaced
fewer [] are = tt
fewer (s ∷ rest) are = (are.0, omega arith, are.2)

spaced_on : (b : ℕ) (bytes : List ℕ) → is_space b ≡ true → Shows place.Between bytes → IsLaid 1 (b ∷ bytes)
spaced_on b bytes e l = space_before b bytes (eqb-true b 32 e) l.0 l.1 l.2 l.3

at_least_none : (bytes : List ℕ) → IsLaid 1 bytes → IsLaid 0 bytes
at_least_none bytes l = (l.0, l.1, fewer l.0 l.2, l.3)

all_more : (P : ℕ → Type 0) (b : ℕ) (word : List ℕ) → P b → All P word → All P (b ∷ word)
all_more P b word first all zero d below = first
all_more P b word first all (suc k) d below = all k d (omega arith)

no_byte : (P : ℕ → Type 0) → All P []
no_byte P k d below = absurd (omega arith)

not_space : (b : ℕ) → is_space b ≡ false → b ≢ 32
not_space b e is = let yes : is_space b ≡ true = eq-eqb b 32 is in cc

not_quote : (b : ℕ) → is_quote b ≡ false → b ≢ 34
not_quote b e is = let yes : is_quote b ≡ true = eq-eqb b 34 is in cc

longer : (b : ℕ) (word : List ℕ) → is_space b ≡ false → is_quote b ≡ false → IsBare word → IsBare (b ∷ word)
longer b word space quote is = all_more (λ x. (x ≢ 32) × (x ≢ 34)) b word (not_space b space, not_quote b quote) is

word_on : (b : ℕ) (bytes : List ℕ) → is_space b ≡ false → is_quote b ≡ false → Shows place.Bare bytes
    → Shows place.Bare (b ∷ bytes)
word_on b bytes space quote l = (
  b ∷ l.0,
  l.1,
  l.2,
  longer b l.0 space quote l.3,
  l.4,
  ap (λ (x : List ℕ). b ∷ x) l.5,
)

word_begun : (b : ℕ) (bytes : List ℕ) → is_space b ≡ false → is_quote b ≡ false → Shows place.Bare bytes
    → Shows place.Between (b ∷ bytes)
word_begun b bytes space quote l = (
  record { spaces = 0; quoted = false; word = b ∷ l.0 } ∷ l.1,
  l.2,
  ((omega arith, longer b l.0 space quote l.3), omega arith, l.4),
  ap (λ (x : List ℕ). b ∷ x) l.5,
)

quote_begun : (b : ℕ) (bytes : List ℕ) → is_quote b ≡ true → Shows place.Quoted bytes → Shows place.Between (b ∷ bytes)
quote_begun b bytes quote l = (
  record { spaces = 0; quoted = true; word = l.0 } ∷ l.1,
  l.2,
  (l.3, omega arith, l.4),
  rw (eqb-true b 34 quote) (ap (λ (x : List ℕ). 34 ∷ x) (l.5 ∙ sym (append_assoc l.0 (34 ∷ []) (laid l.1 l.2)))),
)

quote_on : (b : ℕ) (bytes : List ℕ) → is_quote b ≡ false → Shows place.Quoted bytes → Shows place.Quoted (b ∷ bytes)
quote_on b bytes quote l =
    (b ∷ l.0, l.1, l.2, all_more (λ x. x ≢ 34) b l.0 (not_quote b quote) l.3, l.4, ap (λ (x : List ℕ). b ∷ x) l.5)

quote_closed : (b : ℕ) (bytes : List ℕ) → is_quote b ≡ true → Shows place.Closed bytes → Shows place.Quoted (b ∷ bytes)
quote_closed b bytes quote l =
    ([], l.0, l.1, no_byte (λ x. x ≢ 34), l.2, rw (eqb-true b 34 quote) (ap (λ (x : List ℕ). 34 ∷ x) l.3))

word_closed : (b : ℕ) (bytes : List ℕ) → is_space b ≡ true → Shows place.Between bytes → Shows place.Bare (b ∷ bytes)
word_closed b bytes space l =
    let laid_on = spaced_on b bytes space l in
    ([], laid_on.0, laid_on.1, no_byte (λ x. (x ≢ 32) × (x ≢ 34)), laid_on.2, laid_on.3)

stands : (p q : Place) (b : ℕ) (bytes : List ℕ) → next p b ≡ q → Shows (next p b) bytes → Shows q bytes
stands p q b bytes is l = subst (λ (r : Place). Shows r bytes) is l

-- one byte more, by what it is
one_before : (p : Place) (b : ℕ) (bytes : List ℕ) (space quote : Bool) → is_space b ≡ space → is_quote b ≡ quote
    → Shows (next p b) bytes → Shows p (b ∷ bytes)
one_before place.Between b bytes true quote e f l =
    at_least_none (b ∷ bytes) (spaced_on b bytes e (stands place.Between place.Between b bytes (rw e refl) l))
one_before place.Between b bytes false true e f l =
    quote_begun b bytes f (stands place.Between place.Quoted b bytes (rw (e, f) refl) l)
one_before place.Between b bytes false false e f l =
    word_begun b bytes e f (stands place.Between place.Bare b bytes (rw (e, f) refl) l)
one_before place.Bare b bytes true quote e f l =
    word_closed b bytes e (stands place.Bare place.Between b bytes (rw e refl) l)
one_before place.Bare b bytes false true e f l = absurd (stands place.Bare place.Astray b bytes (rw (e, f) refl) l)
one_before place.Bare b bytes false false e f l =
    word_on b bytes e f (stands place.Bare place.Bare b bytes (rw (e, f) refl) l)
one_before place.Quoted b bytes space true e f l =
    quote_closed b bytes f (stands place.Quoted place.Closed b bytes (rw f refl) l)
one_before place.Quoted b bytes space false e f l =
    quote_on b bytes f (stands place.Quoted place.Quoted b bytes (rw f refl) l)
one_before place.Closed b bytes true quote e f l =
    spaced_on b bytes e (stands place.Closed place.Between b bytes (rw e refl) l)
one_before place.Closed b bytes false quote e f l = absurd (stands place.Closed place.Astray b bytes (rw e refl) l)
one_before place.Astray b bytes space quote e f l = absurd l

none_left : (p : Place) → is_end p ≡ true → Shows p []
none_left place.Between e = ([], 0, tt, refl)
none_left place.Bare e = ([], [], 0, no_byte (λ x. (x ≢ 32) × (x ≢ 34)), tt, refl)
none_left place.Quoted e = cc
none_left place.Closed e = ([], 0, tt, refl)
none_left place.Astray e = cc

shows : (line : List ℕ) (p : Place) → IsLawful p line → Shows p line
shows [] p lawful = none_left p lawful
shows (b ∷ bytes) p lawful = one_before p b bytes (is_space b) (is_quote b) refl refl (shows bytes (next p b) lawful)

ok_is_lawful : (t : Bool) (found words : List (List ℕ))
    → cond {A = Result (List (List ℕ)) Refusal} (not t) (Err BadQuote) (Ok found) ≡ Ok words
    → (t ≡ true) × (found ≡ words)
ok_is_lawful true found words e = (refl, cc)
ok_is_lawful false found words e = cc

pub split_is_lawful : (line : List ℕ) (words : List (List ℕ)) → split line ≡ Ok words
    → IsLawful place.Between line × (words_of line ≡ words)
split_is_lawful line words e = ok_is_lawful (is_end (behind place.Between line)) (words_of line) words e

same_words : (line : List ℕ) (words found : List (List ℕ)) → split line ≡ Ok words → split line ≡ Ok found
    → words ≡ found
same_words line words found e f = cc

pub each_is_laid : (line : List ℕ) (words : List (List ℕ)) → split line ≡ Ok words
    → (spaced : List Spaced) × (last : ℕ) × AreSpaced 0 spaced × (line ≡ laid spaced last) × (words ≡ words_laid spaced)
each_is_laid line words e =
    let l = shows line place.Between (split_is_lawful line words e).0 in
    (l.0, l.1, l.2, l.3, same_words line words (words_laid l.0) e (ap split l.3 ∙ laid_words l.0 l.1 l.2))

not_laid : (line : List ℕ) (t : Bool) → is_end (behind place.Between line) ≡ t → ((spaced : List Spaced) (last : ℕ)
    → AreSpaced 0 spaced → line ≢ laid spaced last)
    → split line ≡ Err BadQuote
not_laid line true e other = let l = shows line place.Between e in absurd (other l.0 l.1 l.2 l.3)
not_laid line false e other = rw e refl

pub bad_quote : (line : List ℕ) → ((spaced : List Spaced) (last : ℕ) → AreSpaced 0 spaced
    → line ≢ laid spaced last) → split line ≡ Err BadQuote
bad_quote line other = not_laid line (is_end (behind place.Between line)) refl other

-- A line without quotes.

no_first : (b : ℕ) (bytes : List ℕ) → HasNoQuote (b ∷ bytes) → (is_quote b ≡ false) × HasNoQuote bytes
no_first b bytes none = grind arith

plain_more : (b : ℕ) (bytes : List ℕ) (space : Bool) → is_space b ≡ space → is_quote b ≡ false
    → IsLawful place.Between bytes × IsLawful place.Bare bytes
    → IsLawful place.Between (b ∷ bytes) × IsLawful place.Bare (b ∷ bytes)
plain_more b bytes true e f rest = (
  onward place.Between place.Between b bytes (rw e refl) rest.0,
  onward place.Bare place.Between b bytes (rw e refl) rest.0,
)
plain_more b bytes false e f rest = (
  onward place.Between place.Bare b bytes (rw (e, f) refl) rest.1,
  onward place.Bare place.Bare b bytes (rw (e, f) refl) rest.1,
)

plain_lawful : (bytes : List ℕ) → HasNoQuote bytes → IsLawful place.Between bytes × IsLawful place.Bare bytes
plain_lawful [] none = (refl, refl)
plain_lawful (b ∷ bytes) none =
    let parts = no_first b bytes none in
    plain_more b bytes (is_space b) refl parts.0 (plain_lawful bytes parts.1)

-- the words between words, and in a word, by the parts between the spaces
abbrev ByParts : List ℕ → Type 0
ByParts bytes = (first : List ℕ) × (parts : List (List ℕ)) × (slice_split is_space bytes ≡ first ∷ parts)
    × (words_from (Some 32) bytes ≡ first ∷ filter has_bytes parts)
    × (words_from None bytes ≡ filter has_bytes (first ∷ parts))

parts_more : (b : ℕ) (bytes : List ℕ) (space : Bool) → is_space b ≡ space → is_quote b ≡ false → ByParts bytes
    → ByParts (b ∷ bytes)
parts_more b bytes true e f rest = (
  [],
  slice_split is_space bytes,
  rw e refl,
  rw e (ap (λ (w : List (List ℕ)). [] ∷ w) (rest.4 ∙ ap (filter has_bytes) (sym rest.2))),
  rw e (rest.4 ∙ ap (filter has_bytes) (sym rest.2)),
)
parts_more b bytes false e f rest = (
  b ∷ rest.0,
  rest.1,
  rw e (ap (onto_first b) rest.2),
  rw e (ap (onto_first b) rest.3),
  rw (e, f) (ap (onto_first b) rest.3),
)

by_parts : (bytes : List ℕ) → HasNoQuote bytes → ByParts bytes
by_parts [] none = ([], [], refl, refl, refl)
by_parts (b ∷ bytes) none =
    let parts = no_first b bytes none in
    parts_more b bytes (is_space b) refl parts.0 (by_parts bytes parts.1)

pub plain_words : (line : List ℕ) → HasNoQuote line → split line ≡ Ok (between_spaces line)
unfolding words_of
plain_words line none =
    let parts = by_parts line none in
    rw (plain_lawful line none).0 (ap Ok (parts.4 ∙ ap (filter has_bytes) (sym parts.2)))
