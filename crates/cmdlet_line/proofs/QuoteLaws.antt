-- Double quotes where none may stand.
use Rattle.std.proofs.Common.{◌≡◌, ◌≢◌, ℕ, true, false, List, [], ◌∷◌, ◌++◌, refl, sym, subst, arith, Ok, Err}
use Rattle.std.proofs.lemmas.Bool.{ne_eqb}
use Rattle.cmdlet_line.proofs.LayoutLaws.{split_is_lawful}
use Rattle.cmdlet_line.proofs.SpelledLaws.{IsBare, HasNone, bare_first, bare_rest, none_first, none_rest, stays_bare, stays_quoted, turns_bare}
use Rattle.cmdlet_line.specs.Words.{behind, is_end, next}
use Rattle.cmdlet_line.specs.Lines.{BadQuote, split}
use Rattle.cmdlet_line.specs.Spelled.{IsWord}
use Rattle.cmdlet_line.specs.declared.quotes.Place.{Place}
use Rattle.cmdlet_line.specs.declared.quotes.Place.TheVariants as place

-- may these bytes not stand from such a place on?
abbrev IsBad : Place → List ℕ → Type 0
IsBad p bytes = is_end (behind p bytes) ≡ false

badly_on : (p q : Place) (b : ℕ) (bytes : List ℕ) → next p b ≡ q → IsBad q bytes → IsBad p (b ∷ bytes)
badly_on p q b bytes is bad = subst (λ (r : Place). IsBad r bytes) (sym is) bad

space_follows : (p : Place) (bytes : List ℕ) → is_end p ≡ true → IsBad place.Between bytes → IsBad p (32 ∷ bytes)
space_follows place.Between bytes lawful bad = bad
space_follows place.Bare bytes lawful bad = bad
space_follows place.Quoted bytes lawful bad = cc
space_follows place.Closed bytes lawful bad = bad
space_follows place.Astray bytes lawful bad = cc

-- a lawful front and a space change nothing
front_first : (p : Place) (front bytes : List ℕ) → is_end (behind p front) ≡ true → IsBad place.Between bytes
    → IsBad p (front ++ 32 ∷ bytes)
front_first p [] bytes lawful bad = space_follows p bytes lawful bad
front_first p (b ∷ front) bytes lawful bad = front_first (next p b) front bytes lawful bad

stays_astray : (bytes : List ℕ) → IsBad place.Astray bytes
stays_astray [] = refl
stays_astray (b ∷ bytes) = stays_astray bytes

inside_bare : (word rest : List ℕ) → IsBare word → IsBad place.Bare (word ++ 34 ∷ rest)
inside_bare [] rest is = stays_astray rest
inside_bare (b ∷ word) rest is =
    let first = bare_first b word is in
    badly_on place.Bare place.Bare b (word ++ 34 ∷ rest) (stays_bare b first.0 first.1)
    (inside_bare word rest (bare_rest b word is))

inside_word : (word rest : List ℕ) → IsWord false word → IsBad place.Between (word ++ 34 ∷ rest)
inside_word [] rest is = absurd (omega (arith, is.0))
inside_word (b ∷ word) rest is =
    let first = bare_first b word is.1 in
    badly_on place.Between place.Bare b (word ++ 34 ∷ rest) (turns_bare b first.0 first.1)
    (inside_bare word rest (bare_rest b word is.1))

behind_closed : (b : ℕ) (rest : List ℕ) → b ≢ 32 → IsBad place.Closed (b ∷ rest)
behind_closed b rest is =
    let away : next place.Closed b ≡ place.Astray = rw (ne_eqb b 32 is) refl in
    badly_on place.Closed place.Astray b rest away (stays_astray rest)

behind_quoted : (word rest : List ℕ) (b : ℕ) → HasNone word → b ≢ 32 → IsBad place.Quoted (word ++ 34 ∷ b ∷ rest)
behind_quoted [] rest b is other = behind_closed b rest other
behind_quoted (c ∷ word) rest b is other =
    badly_on place.Quoted place.Quoted c (word ++ 34 ∷ b ∷ rest) (stays_quoted c (none_first c word is))
    (behind_quoted word rest b (none_rest c word is) other)

never_closed : (word : List ℕ) → HasNone word → IsBad place.Quoted word
never_closed [] is = refl
never_closed (c ∷ word) is =
    badly_on place.Quoted place.Quoted c word (stays_quoted c (none_first c word is))
    (never_closed word (none_rest c word is))

refused : (front bytes : List ℕ) (words : List (List ℕ)) → split front ≡ Ok words → IsBad place.Between bytes
    → split (front ++ 32 ∷ bytes) ≡ Err BadQuote
refused front bytes words are bad =
    let whole : IsBad place.Between (front ++ 32 ∷ bytes) =
    front_first place.Between front bytes (split_is_lawful front words are).0 bad in
    rw whole refl

pub quote_inside : (front word rest : List ℕ) (words : List (List ℕ)) → split front ≡ Ok words → IsWord false word
    → split (front ++ 32 ∷ (word ++ 34 ∷ rest)) ≡ Err BadQuote
quote_inside front word rest words are is = refused front (word ++ 34 ∷ rest) words are (inside_word word rest is)

pub quote_touched : (front word rest : List ℕ) (b : ℕ) (words : List (List ℕ)) → split front ≡ Ok words
    → IsWord true word → b ≢ 32 → split (front ++ 32 ∷ 34 ∷ (word ++ 34 ∷ b ∷ rest)) ≡ Err BadQuote
quote_touched front word rest b words are is other =
    refused front (34 ∷ (word ++ 34 ∷ b ∷ rest)) words are (behind_quoted word rest b is other)

pub quote_open : (front word : List ℕ) (words : List (List ℕ)) → split front ≡ Ok words → IsWord true word
    → split (front ++ 32 ∷ 34 ∷ word) ≡ Err BadQuote
quote_open front word words are is = refused front (34 ∷ word) words are (never_closed word is)
