-- The first word of a line.
use Rattle.std.proofs.Common.{◌≡◌, ◌≢◌, ◌==◌, ◌<◌, ◌≤◌, ◌+◌, ◌-◌, ℕ, suc, Bool, true, false, cond, not, nat_lt, List, [], ◌∷◌, length, get_or, drop, take, refl, sym, ◌∙◌, ap, subst, arith, add-zero, None, Some}
use Rattle.std.specs.List.{onto_first, position, position_or_len}
use Rattle.std.proofs.lemmas.Bool.{ne_eqb}
use Rattle.std.proofs.lemmas.List.{take_all, drop_all, take_rest, get_or-drop, length-drop}
use Rattle.std.proofs.lemmas.List.Sums.{prefix_len-le-length, passes_at_first}
use Rattle.cmdlet_line.specs.Words.{behind_spaces, is_no_space, is_space, words_from, words_of}

-- A word up to its end.

take_one_more : (n b : ℕ) (bytes : List ℕ) → take (1 + n) (b ∷ bytes) ≡ b ∷ take n bytes
take_one_more n b bytes = let e : 1 + n ≡ suc n = omega arith in rw e refl

drop_past : (n b : ℕ) (bytes : List ℕ) → drop (1 + n + 1) (b ∷ bytes) ≡ drop (n + 1) bytes
drop_past n b bytes = let e : 1 + n + 1 ≡ suc (n + 1) = omega arith in rw e refl

-- a word that ends at this byte, up to the place n, and what stands behind that place
abbrev pub Ended : ℕ → List ℕ → ℕ → Type 0
Ended end bytes n = words_from (Some end) bytes ≡ take n bytes ∷ words_from None (drop (n + 1) bytes)

ended_more : (end b : ℕ) (bytes : List ℕ) (t : Bool) → (b == end) ≡ t
    → Ended end bytes (position_or_len (λ x. x == end) bytes)
    → Ended end (b ∷ bytes) (position_or_len (λ x. x == end) (b ∷ bytes))
ended_more end b bytes true e rest = rw e refl
ended_more end b bytes false e rest =
    let n : ℕ = position_or_len (λ x. x == end) bytes in
    rw e (ap (onto_first b) rest ∙ rw (take_one_more n b bytes, drop_past n b bytes) refl)

pub ended : (end : ℕ) (bytes : List ℕ) → Ended end bytes (position_or_len (λ x. x == end) bytes)
ended end [] = refl
ended end (b ∷ bytes) = ended_more end b bytes (b == end) refl (ended end bytes)

place_found : (n at : ℕ) (t : Bool) → cond t (Some n) None ≡ Some at → n ≡ at
place_found n at true e = cc
place_found n at false e = cc

place_missing : (n most : ℕ) → n ≤ most → cond (nat_lt n most) (Some n) None ≡ None → n ≡ most
place_missing n most within e = grind arith

pub ends_at : (end at : ℕ) (bytes : List ℕ) → position (λ x. x == end) bytes ≡ Some at
    → words_from (Some end) bytes ≡ take at bytes ∷ words_of (take (length bytes - (at + 1)) (drop (at + 1) bytes))
unfolding words_of
ends_at end at bytes found =
    let is : position_or_len (λ x. x == end) bytes ≡ at = place_found _ at _ found in
    rw (take_rest bytes (at + 1)) (subst (Ended end bytes) is (ended end bytes))

pub ends_nowhere : (end : ℕ) (bytes : List ℕ) → position (λ x. x == end) bytes ≡ None
    → words_from (Some end) bytes ≡ bytes ∷ words_of []
unfolding words_of
ends_nowhere end bytes missing =
    let is : position_or_len (λ x. x == end) bytes ≡ length bytes =
    place_missing _ _ (prefix_len-le-length (λ x. not (x == end)) bytes) missing in
    subst (Ended end bytes) is (ended end bytes)
    ∙ rw (take_all (length bytes) bytes (omega arith), drop_all (length bytes + 1) bytes (omega arith)) refl

-- The text of a line.

pub drop_one_more : (n b : ℕ) (bytes : List ℕ) → drop (1 + n) (b ∷ bytes) ≡ drop n bytes
drop_one_more n b bytes = let e : 1 + n ≡ suc n = omega arith in rw e refl

bare_begins : (b : ℕ) (bytes : List ℕ) → is_space b ≡ false → behind_spaces (b ∷ bytes) ≡ b ∷ bytes
bare_begins b bytes e = rw e refl

one_more : (b : ℕ) (bytes : List ℕ) (t : Bool) → is_space b ≡ t
    → words_from None bytes ≡ words_from None (behind_spaces bytes)
    → words_from None (b ∷ bytes) ≡ words_from None (behind_spaces (b ∷ bytes))
one_more b bytes true e rest =
    rw e (rest ∙ ap (words_from None) (sym (drop_one_more (position_or_len is_no_space bytes) b bytes)))
one_more b bytes false e rest = ap (words_from None) (sym (bare_begins b bytes e))

words_of_text : (line : List ℕ) → words_from None line ≡ words_from None (behind_spaces line)
words_of_text [] = refl
words_of_text (b ∷ bytes) = one_more b bytes (is_space b) refl (words_of_text bytes)

not_yes : (t : Bool) → not t ≡ true → t ≡ false
not_yes true e = cc
not_yes false e = refl

-- the text of a line begins with no space
begins_bare : (line : List ℕ) → 0 < length (behind_spaces line) → is_space (get_or (behind_spaces line) 0 0) ≡ false
begins_bare line some =
    let n : ℕ = position_or_len is_no_space line in
    let below : n < length line = omega (arith, length-drop n line) in
    let bare : is_no_space (get_or line n 0) ≡ true = passes_at_first is_no_space line 0 below in
    rw (get_or-drop, add-zero) (not_yes _ bare)

pub no_words : (line text : List ℕ) → text ≡ behind_spaces line → length text ≡ 0 → words_of line ≡ []
unfolding words_of
no_words line [] same none = words_of_text line ∙ ap (words_from None) (sym same)
no_words line (b ∷ bytes) same none = absurd (omega arith)

pub text_words : (line text : List ℕ) → text ≡ behind_spaces line → words_of line ≡ words_from None text
unfolding words_of
text_words line text same = words_of_text line ∙ ap (words_from None) (sym same)

begins_with : (line : List ℕ) (b : ℕ) (bytes : List ℕ) → b ∷ bytes ≡ behind_spaces line → is_space b ≡ false
begins_with line b bytes same =
    let long : 0 < length (behind_spaces line) = rw (← same) (omega arith) in
    let at : get_or (behind_spaces line) 0 0 ≡ b = rw (← same) refl in
    rw (← at) (begins_bare line long)

quoted_text : (b : ℕ) (bytes : List ℕ) → b ≡ 34 → words_from None (b ∷ bytes) ≡ words_from (Some 34) bytes
quoted_text b bytes is = rw is refl

bare_text : (b : ℕ) (bytes : List ℕ) → is_space b ≡ false → b ≢ 34
    → words_from None (b ∷ bytes) ≡ words_from (Some 32) (b ∷ bytes)
bare_text b bytes space quote = rw (space, ne_eqb b 34 quote) refl

quoted_word : (line text : List ℕ) → text ≡ behind_spaces line → length text ≢ 0 → get_or text 0 0 ≡ 34
    → words_of line ≡ words_from (Some 34) (drop 1 text)
quoted_word line [] same some first = absurd (some refl)
quoted_word line (b ∷ bytes) same some first = text_words line (b ∷ bytes) same ∙ quoted_text b bytes first

pub bare_word : (line text : List ℕ) → text ≡ behind_spaces line → length text ≢ 0 → get_or text 0 0 ≢ 34
    → words_of line ≡ words_from (Some 32) text
bare_word line [] same some first = absurd (some refl)
bare_word line (b ∷ bytes) same some first =
    text_words line (b ∷ bytes) same ∙ bare_text b bytes (begins_with line b bytes same) first

pub quoted_behind : (line text : List ℕ) → text ≡ behind_spaces line → length text ≢ 0 → get_or text 0 0 ≡ 34
    → words_of line ≡ words_from (Some 34) (take (length text - 1) (drop 1 text))
quoted_behind line text same some first =
    quoted_word line text same some first ∙ ap (words_from (Some 34)) (sym (take_rest text 1))
