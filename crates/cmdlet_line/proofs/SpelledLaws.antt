-- Lines written as words behind their spaces.
use Rattle.std.proofs.Common.{◌≡◌, ◌≢◌, ◌≤◌, ℕ, zero, suc, Bool, true, false, List, [], ◌∷◌, ◌++◌, replicate, refl, sym, ◌∙◌, ap, subst, arith, append-nil, append_assoc, None, Some, Ok}
use Rattle.std.specs.List.{All, onto_first, position_or_len}
use Rattle.std.proofs.lemmas.Bool.{ne_eqb}
use Rattle.cmdlet_line.proofs.WordLaws.{drop_one_more}
use Rattle.cmdlet_line.specs.Words.{behind, behind_spaces, is_end, is_no_space, is_quote, is_space, next, words_from, words_of}
use Rattle.cmdlet_line.specs.Lines.{split}
use Rattle.cmdlet_line.specs.Spelled.{AreSpaced, IsWord, Spaced, laid, words_laid, written}
use Rattle.cmdlet_line.specs.declared.quotes.Place.{Place}
use Rattle.cmdlet_line.specs.declared.quotes.Place.TheVariants as place

pub behind_more_spaces : (n : ℕ) (bytes : List ℕ) → behind_spaces (replicate n 32 ++ bytes) ≡ behind_spaces bytes
behind_more_spaces zero bytes = refl
behind_more_spaces (suc n) bytes =
    drop_one_more (position_or_len is_no_space (replicate n 32 ++ bytes)) 32 (replicate n 32 ++ bytes)
    ∙ behind_more_spaces n bytes

-- may these bytes stand from such a place on?
abbrev pub IsLawful : Place → List ℕ → Type 0
IsLawful p bytes = is_end (behind p bytes) ≡ true

-- what the words are of bytes that may stand between words
abbrev pub Reads : List ℕ → List (List ℕ) → Type 0
Reads bytes words = IsLawful place.Between bytes × (words_from None bytes ≡ words)

spaces_read : (n : ℕ) (bytes : List ℕ) (words : List (List ℕ)) → Reads bytes words
    → Reads (replicate n 32 ++ bytes) words
spaces_read zero bytes words reads = reads
spaces_read (suc n) bytes words reads = spaces_read n bytes words reads

-- nothing, or a space first
abbrev pub BeginsSpaced : List ℕ → Type 0
BeginsSpaced [] = Unit {0}
BeginsSpaced (b ∷ bytes) = b ≡ 32

-- A bare word.

abbrev pub IsBare : List ℕ → Type 0
IsBare word = All (λ b. (b ≢ 32) × (b ≢ 34)) word

pub bare_rest : (b : ℕ) (word : List ℕ) → IsBare (b ∷ word) → IsBare word
bare_rest b word is = λ k d below. is (suc k) d (omega arith)

pub bare_first : (b : ℕ) (word : List ℕ) → IsBare (b ∷ word) → (is_space b ≡ false) × (is_quote b ≡ false)
bare_first b word is = let first = is zero 0 (omega arith) in (ne_eqb b 32 first.0, ne_eqb b 34 first.1)

-- from a place to the next one
pub onward : (p q : Place) (b : ℕ) (bytes : List ℕ) → next p b ≡ q → IsLawful q bytes → IsLawful p (b ∷ bytes)
onward p q b bytes is lawful = subst (λ (r : Place). IsLawful r bytes) (sym is) lawful

pub stays_bare : (b : ℕ) → is_space b ≡ false → is_quote b ≡ false → next place.Bare b ≡ place.Bare
stays_bare b space quote = rw (space, quote) refl

pub turns_bare : (b : ℕ) → is_space b ≡ false → is_quote b ≡ false → next place.Between b ≡ place.Bare
turns_bare b space quote = rw (space, quote) refl

pub stays_quoted : (b : ℕ) → is_quote b ≡ false → next place.Quoted b ≡ place.Quoted
stays_quoted b quote = rw quote refl

bare_is_lawful : (word rest : List ℕ) → IsBare word → BeginsSpaced rest → IsLawful place.Between rest
    → IsLawful place.Bare (word ++ rest)
bare_is_lawful [] [] is spaced lawful = refl
bare_is_lawful [] (b ∷ rest) is spaced lawful =
    subst (λ (x : ℕ). IsLawful place.Between (x ∷ rest) → IsLawful place.Bare (x ∷ rest)) (sym spaced) (λ h. h) lawful
bare_is_lawful (b ∷ word) rest is spaced lawful =
    let first = bare_first b word is in
    onward place.Bare place.Bare b (word ++ rest) (stays_bare b first.0 first.1)
    (bare_is_lawful word rest (bare_rest b word is) spaced lawful)

bare_is_read : (word rest : List ℕ) → IsBare word → BeginsSpaced rest
    → words_from (Some 32) (word ++ rest) ≡ word ∷ words_from None rest
bare_is_read [] [] is spaced = refl
bare_is_read [] (b ∷ rest) is spaced = rw spaced refl
bare_is_read (b ∷ word) rest is spaced =
    let first = bare_first b word is in
    rw first.0 (ap (onto_first b) (bare_is_read word rest (bare_rest b word is) spaced))

bare_then : (word rest : List ℕ) (words : List (List ℕ)) → IsWord false word → BeginsSpaced rest → Reads rest words
    → Reads (word ++ rest) (word ∷ words)
bare_then [] rest words is spaced reads = absurd (omega (arith, is.0))
bare_then (b ∷ word) rest words is spaced reads =
    let first = bare_first b word is.1 in
    let more = bare_rest b word is.1 in (
      onward place.Between place.Bare b (word ++ rest) (turns_bare b first.0 first.1)
          (bare_is_lawful word rest more spaced reads.0),
      rw (first.0, first.1)
          (ap (onto_first b) (bare_is_read word rest more spaced ∙ ap (λ (w : List (List ℕ)). word ∷ w) reads.1)),
    )

-- A quoted word.

abbrev pub HasNone : List ℕ → Type 0
HasNone word = All (λ b. b ≢ 34) word

pub none_rest : (b : ℕ) (word : List ℕ) → HasNone (b ∷ word) → HasNone word
none_rest b word is = λ k d below. is (suc k) d (omega arith)

pub none_first : (b : ℕ) (word : List ℕ) → HasNone (b ∷ word) → is_quote b ≡ false
none_first b word is = ne_eqb b 34 (is zero 0 (omega arith))

closed_is_lawful : (rest : List ℕ) → BeginsSpaced rest → IsLawful place.Between rest → IsLawful place.Closed rest
closed_is_lawful [] spaced lawful = refl
closed_is_lawful (b ∷ rest) spaced lawful =
    subst (λ (x : ℕ). IsLawful place.Between (x ∷ rest) → IsLawful place.Closed (x ∷ rest)) (sym spaced) (λ h. h) lawful

quoted_is_lawful : (word rest : List ℕ) → HasNone word → IsLawful place.Closed rest
    → IsLawful place.Quoted (word ++ 34 ∷ rest)
quoted_is_lawful [] rest is lawful = lawful
quoted_is_lawful (b ∷ word) rest is lawful =
    onward place.Quoted place.Quoted b (word ++ 34 ∷ rest) (stays_quoted b (none_first b word is))
    (quoted_is_lawful word rest (none_rest b word is) lawful)

quoted_is_read : (word rest : List ℕ) → HasNone word
    → words_from (Some 34) (word ++ 34 ∷ rest) ≡ word ∷ words_from None rest
quoted_is_read [] rest is = refl
quoted_is_read (b ∷ word) rest is =
    rw (none_first b word is) (ap (onto_first b) (quoted_is_read word rest (none_rest b word is)))

quoted_then : (word rest : List ℕ) (words : List (List ℕ)) → HasNone word → BeginsSpaced rest → Reads rest words
    → Reads (34 ∷ (word ++ 34 ∷ rest)) (word ∷ words)
quoted_then word rest words is spaced reads = (
  quoted_is_lawful word rest is (closed_is_lawful rest spaced reads.0),
  quoted_is_read word rest is ∙ ap (λ (w : List (List ℕ)). word ∷ w) reads.1,
)

word_then : (quoted : Bool) (word rest : List ℕ) (words : List (List ℕ)) → IsWord quoted word → BeginsSpaced rest
    → Reads rest words
    → Reads (written quoted word ++ rest) (word ∷ words)
word_then false word rest words is spaced reads = bare_then word rest words is spaced reads
word_then true word rest words is spaced reads =
    let same : (word ++ 34 ∷ []) ++ rest ≡ word ++ 34 ∷ rest = append_assoc word (34 ∷ []) rest in
    rw same (quoted_then word rest words is spaced reads)

-- A line of such words.

begins_some : (n : ℕ) (rest : List ℕ) → 1 ≤ n → BeginsSpaced (replicate n 32 ++ rest)
begins_some zero rest some = absurd (omega arith)
begins_some (suc n) rest some = refl

begins_spaced : (spaced : List Spaced) (last : ℕ) → AreSpaced 1 spaced → BeginsSpaced (laid spaced last)
begins_spaced [] zero are = tt
begins_spaced [] (suc last) are = refl
begins_spaced (s ∷ rest) last are = begins_some s.spaces (written s.quoted s.word ++ laid rest last) are.1

laid_reads : (spaced : List Spaced) (last least : ℕ) → AreSpaced least spaced
    → Reads (laid spaced last) (words_laid spaced)
laid_reads [] last least are =
    subst (λ (x : List ℕ). Reads x []) (append-nil (replicate last 32)) (spaces_read last [] [] (refl, refl))
laid_reads (s ∷ rest) last least are =
    spaces_read s.spaces (written s.quoted s.word ++ laid rest last) (s.word ∷ words_laid rest)
    (word_then s.quoted s.word (laid rest last) (words_laid rest) are.0 (begins_spaced rest last are.2)
    (laid_reads rest last 1 are.2))

split_reads : (line : List ℕ) (words : List (List ℕ)) → Reads line words → split line ≡ Ok words
unfolding words_of
split_reads line words reads = rw reads.0 (ap Ok reads.1)

pub laid_words : (spaced : List Spaced) (last : ℕ) → AreSpaced 0 spaced
    → split (laid spaced last) ≡ Ok (words_laid spaced)
laid_words spaced last are = split_reads (laid spaced last) (words_laid spaced) (laid_reads spaced last 0 are)
