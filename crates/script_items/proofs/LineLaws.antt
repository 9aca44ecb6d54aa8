-- Lines read piece by piece.
use Rattle.std.proofs.Common.{◌≡◌, ◌≢◌, ◌≤◌, ◌<◌, ◌+◌, ◌-◌, ◌==◌, ◌||◌, ℕ, zero, suc, Bool, true, false, not, List, [], ◌∷◌, ◌++◌, length, take, drop, min, get_or, Option, Some, None, refl, sym, ◌∙◌, ap, subst, arith, append_assoc, append-nil, length-take, inl, inr}
use Rattle.std.proofs.lemmas.Bool.{cases_Bool, cases_lt, eqb-true, ne_eqb}
use Rattle.std.proofs.lemmas.List.{take_all, drop_more, take-append-drop, drop-append-le, drop_at, get_or-take, nil_from_length, take_min}
use Rattle.std.proofs.Math.Seq.{take-append-add}
use Rattle.std.specs.List.{list_any}
use Rattle.memchr.specs.Find.{IsFirstByte, is_byte}
use Rattle.script_items.specs.Input.{ahead, IsLeft}
use Rattle.script_items.specs.declared.input.Input.{Input}
use Rattle.script_items.specs.Script.{is_newline, first_line, behind_line, without_return}
use Rattle.script_items.specs.Reading.{HasNoNewline, IsNewlineAt, FindsNewline, IsKept, IsFront, IsWhole, IsLine, is_some_byte}
use Rattle.script_items.proofs.InputLaws.{left_passed}

none_newline : (xs : List ℕ) → ((k : ℕ) → k < length xs → (get_or xs k 0 == 10) ≡ true → ⊥) → HasNoNewline xs
none_newline [] h = refl
none_newline (x ∷ xs) h = elim (cases_Bool (x == 10)) [
  | inl on ↦ absurd (h 0 (omega arith) on)
  | inr off ↦ rw off (none_newline xs (λ k l. h (suc k) (omega arith)))
]

pub finds_newline : (xs : List ℕ) (r : Option ℕ) → IsFirstByte (is_byte 10) xs r → FindsNewline xs r
finds_newline xs None h = none_newline xs (λ k l on. h k (omega arith) l on)
finds_newline xs (Some k) h =
    let within : k < length xs = h.0.high in
    let ten : get_or xs k 0 ≡ 10 = eqb-true (get_or xs k 0) 10 h.1 in
    record {
      within = within;
      before = none_newline (take k xs) (λ j l on.
          let small : j < k = omega (arith, length-take k xs) in
          h.0.before j (omega arith) small (ap (λ b. b == 10) (sym (get_or-take k xs j 0 small)) ∙ on));
      split = sym (take-append-drop k xs) ∙ (ap (λ x. take k xs ++ x) (drop_more xs k 0 within) ∙ ap (λ b. take k xs ++ b ∷ drop (k + 1) xs) ten);
    }

no_newline_then : (a b : List ℕ) → HasNoNewline a → HasNoNewline b → HasNoNewline (a ++ b)
no_newline_then [] b first second = second
no_newline_then (x ∷ a) b first second = elim (cases_Bool (x == 10)) [
  | inl on ↦ absurd (let bad : (true || list_any is_newline a) ≡ false = subst (λ (t : Bool). (t || list_any is_newline a) ≡ false) on first in cc)
  | inr off ↦ rw off (no_newline_then a b (subst (λ (t : Bool). (t || list_any is_newline a) ≡ false) off first) second)
]

plain_byte : (x : ℕ) (a : List ℕ) → HasNoNewline (x ∷ a) → ((x == 10) ≡ false) × HasNoNewline a
plain_byte x a h = elim (cases_Bool (x == 10)) [
  | inl on ↦ absurd (let bad : (true || list_any is_newline a) ≡ false = subst (λ (t : Bool). (t || list_any is_newline a) ≡ false) on h in cc)
  | inr off ↦ (off, subst (λ (t : Bool). (t || list_any is_newline a) ≡ false) off h)
]

pub first_line_of : (a rest : List ℕ) → HasNoNewline a → first_line (a ++ 10 ∷ rest) ≡ a
first_line_of [] rest h = refl
first_line_of (x ∷ a) rest h = let p = plain_byte x a h in rw p.0 (ap (λ xs. x ∷ xs) (first_line_of a rest p.1))

pub first_line_all : (a : List ℕ) → HasNoNewline a → first_line a ≡ a
first_line_all [] h = refl
first_line_all (x ∷ a) h = let p = plain_byte x a h in rw p.0 (ap (λ xs. x ∷ xs) (first_line_all a p.1))

pub behind_line_of : (a rest : List ℕ) → HasNoNewline a → behind_line (a ++ 10 ∷ rest) ≡ rest
behind_line_of [] rest h = refl
behind_line_of (x ∷ a) rest h = let p = plain_byte x a h in rw p.0 (behind_line_of a rest p.1)

pub behind_line_on : (a rest : List ℕ) → HasNoNewline a → behind_line (a ++ rest) ≡ behind_line rest
behind_line_on [] rest h = refl
behind_line_on (x ∷ a) rest h = let p = plain_byte x a h in rw p.0 (behind_line_on a rest p.1)

has_newline_of : (a rest : List ℕ) → HasNoNewline a → list_any is_newline (a ++ 10 ∷ rest) ≡ true
has_newline_of [] rest h = refl
has_newline_of (x ∷ a) rest h = let p = plain_byte x a h in rw p.0 (has_newline_of a rest p.1)

take_front : (n : ℕ) (xs ys : List ℕ) → take n (take n xs ++ ys) ≡ take n (xs ++ ys)
take_front zero xs ys = refl
take_front (suc n) [] ys = refl
take_front (suc n) (x ∷ xs) ys = ap (λ l. x ∷ l) (take_front n xs ys)

pub front_none : (input : Input) (source : Option (List ℕ)) (total : ℕ) (s : List ℕ) → IsLeft input source total s → IsFront input source total s []
front_none input source total s so = record { front = []; rest = s; whole = refl; plain = refl; first = refl; left = so }

-- all that stood ahead was taken, and no newline was in it
pub front_more : (old now : Input) (source : Option (List ℕ)) (total : ℕ) (s kept later : List ℕ) → (so : IsFront old source total s kept) → HasNoNewline (ahead old)
    → later ≡ take 4098 (kept ++ ahead old) → ahead now ≡ drop (length (ahead old)) (ahead old) → now.came ≡ old.came → IsFront now source total s later
front_more old now source total s kept later so plain same bytes came =
    let n : ℕ = length (ahead old) in
    let rest : so.rest ≡ ahead old ++ so.left.rest = so.left.whole in
    let behind : drop n so.rest ≡ so.left.rest = ap (drop n) rest ∙ drop_at (ahead old) so.left.rest n refl in
    record {
      front = so.front ++ ahead old;
      rest = drop n so.rest;
      whole = so.whole ∙ (ap (λ x. so.front ++ x) rest ∙ (sym (append_assoc so.front (ahead old) so.left.rest) ∙ ap (λ x. (so.front ++ ahead old) ++ x) (sym behind)));
      plain = no_newline_then so.front (ahead old) so.plain plain;
      first = same ∙ (ap (λ x. take 4098 (x ++ ahead old)) so.first ∙ take_front 4098 so.front (ahead old));
      left = left_passed old now source total n so.rest (omega arith) bytes came so.left;
    }

-- what stood ahead was taken up to a newline
pub front_whole : (old now : Input) (source : Option (List ℕ)) (total place : ℕ) (s kept later : List ℕ) → (so : IsFront old source total s kept) → (at : IsNewlineAt (ahead old) place)
    → later ≡ take 4098 (kept ++ take place (ahead old)) → ahead now ≡ drop (place + 1) (ahead old) → now.came ≡ old.came → IsWhole now source total s later
front_whole old now source total place s kept later so at same bytes came =
    let text : List ℕ = so.front ++ take place (ahead old) in
    let behind : List ℕ = drop (place + 1) (ahead old) ++ so.left.rest in
    let fits : place + 1 ≤ length (ahead old) = omega (arith, at.within) in
    let rest : so.rest ≡ take place (ahead old) ++ (10 ∷ behind) = so.left.whole ∙ (ap (λ x. x ++ so.left.rest) at.split ∙ append_assoc (take place (ahead old)) (10 ∷ drop (place + 1) (ahead old)) so.left.rest) in
    let is : s ≡ text ++ 10 ∷ behind = so.whole ∙ (ap (λ x. so.front ++ x) rest ∙ sym (append_assoc so.front (take place (ahead old)) (10 ∷ behind))) in
    let plain : HasNoNewline text = no_newline_then so.front (take place (ahead old)) so.plain at.before in
    let left : drop (place + 1) so.rest ≡ behind_line s = ap (drop (place + 1)) so.left.whole ∙ (drop-append-le (place + 1) (ahead old) so.left.rest fits ∙ sym (ap behind_line is ∙ behind_line_of text behind plain)) in
    record {
      ended = ap (list_any is_newline) is ∙ has_newline_of text behind plain;
      first = same ∙ (ap (λ x. take 4098 (x ++ take place (ahead old))) so.first ∙ (take_front 4098 so.front (take place (ahead old)) ∙ ap (take 4098) (sym (ap first_line is ∙ first_line_of text behind plain))));
      left = subst (λ (x : List ℕ). IsLeft now source total x) left (left_passed old now source total (place + 1) so.rest fits bytes came so.left);
    }

pub passed_more : (old now : Input) (source : Option (List ℕ)) (total : ℕ) (s : List ℕ) → (so : IsLeft old source total s) → HasNoNewline (ahead old)
    → ahead now ≡ drop (length (ahead old)) (ahead old) → now.came ≡ old.came → (rest : List ℕ) × IsLeft now source total rest × (behind_line s ≡ behind_line rest)
passed_more old now source total s so plain bytes came =
    let n : ℕ = length (ahead old) in (
      drop n s,
      left_passed old now source total n s (omega arith) bytes came so,
      ap behind_line so.whole ∙ (behind_line_on (ahead old) so.rest plain ∙ sym (ap behind_line (ap (drop n) so.whole ∙ drop_at (ahead old) so.rest n refl))),
    )

pub passed_whole : (old now : Input) (source : Option (List ℕ)) (total place : ℕ) (s : List ℕ) → (so : IsLeft old source total s) → (at : IsNewlineAt (ahead old) place)
    → ahead now ≡ drop (place + 1) (ahead old) → now.came ≡ old.came → IsLeft now source total (behind_line s)
passed_whole old now source total place s so at bytes came =
    let behind : List ℕ = drop (place + 1) (ahead old) ++ so.rest in
    let fits : place + 1 ≤ length (ahead old) = omega (arith, at.within) in
    let is : s ≡ take place (ahead old) ++ 10 ∷ behind = so.whole ∙ (ap (λ x. x ++ so.rest) at.split ∙ append_assoc (take place (ahead old)) (10 ∷ drop (place + 1) (ahead old)) so.rest) in
    let left : drop (place + 1) s ≡ behind_line s = ap (drop (place + 1)) so.whole ∙ (drop-append-le (place + 1) (ahead old) so.rest fits ∙ sym (ap behind_line is ∙ behind_line_of (take place (ahead old)) behind at.before)) in
    subst (λ (x : List ℕ). IsLeft now source total x) left (left_passed old now source total (place + 1) s fits bytes came so)

-- a text of which the first 4,098 bytes are kept
kept_front : (text : List ℕ) → IsKept (take 4098 text) text
kept_front text = elim (cases_lt 4098 (length text)) [
  | inl long ↦ inr (omega (arith, length-take 4098 text), omega arith)
  | inr short ↦ inl (take_all 4098 text short)
]

shorter : (line : List ℕ) → length line ≤ length (without_return line) + 1
shorter line = elim (cases_Bool (get_or line (length line - 1) 0 == 13)) [
  | inl on ↦ rw on (omega (arith, length-take (length line - 1) line))
  | inr off ↦ rw off (omega arith)
]

kept_dropped : (text : List ℕ) → IsKept (without_return (take 4098 text)) (without_return text)
kept_dropped text = elim (cases_lt 4098 (length text)) [
  | inl long ↦ inr (omega (arith, length-take 4098 text, shorter (take 4098 text)), omega (arith, shorter text))
  | inr short ↦ inl (ap without_return (take_all 4098 text short))
]

some_newline : (s : List ℕ) → list_any is_newline s ≡ true → is_some_byte s ≡ true
some_newline [] h = cc
some_newline (b ∷ s) h = refl

pub line_whole : (input : Input) (source : Option (List ℕ)) (total : ℕ) (s kept later : List ℕ) → IsWhole input source total s kept → later ≡ without_return kept → IsLine s true later input source total
line_whole input source total s kept later so same = record {
  some = sym (some_newline s so.ended);
  line = rw (same ∙ ap without_return so.first, so.ended) (kept_dropped (first_line s));
  left = so.left;
}

some_front : (s : List ℕ) → is_some_byte (take 4098 s) ≡ is_some_byte s
some_front [] = refl
some_front (b ∷ s) = refl

behind_none : (s : List ℕ) → HasNoNewline s → behind_line s ≡ []
behind_none [] h = refl
behind_none (x ∷ s) h = let p = plain_byte x s h in rw p.0 (behind_none s p.1)

pub line_over : (input : Input) (source : Option (List ℕ)) (total : ℕ) (s kept : List ℕ) (some : Bool) → (so : IsFront input source total s kept) → length so.rest ≡ 0 → some ≡ is_some_byte kept → IsLine s some kept input source total
line_over input source total s kept some so over found =
    let none : so.rest ≡ [] = nil_from_length so.rest over in
    let is : s ≡ so.front = so.whole ∙ (ap (λ x. so.front ++ x) none ∙ append-nil so.front) in
    let plain : HasNoNewline s = subst (λ (x : List ℕ). HasNoNewline x) (sym is) so.plain in
    let first : kept ≡ take 4098 s = so.first ∙ ap (take 4098) (sym is) in
    record {
      some = found ∙ (ap is_some_byte first ∙ some_front s);
      line = rw (first, plain, first_line_all s plain) (kept_front s);
      left = subst (λ (x : List ℕ). IsLeft input source total x) (none ∙ sym (behind_none s plain)) so.left;
    }

pub kept_more : (line bytes : List ℕ) (n : ℕ) → length line ≤ 4098 → length line + n ≡ 4098 → line ++ take (min n (length bytes)) bytes ≡ take 4098 (line ++ bytes)
kept_more line bytes n few is = ap (λ x. line ++ x) (take_min n bytes) ∙ (sym (take-append-add line bytes n) ∙ ap (λ k. take k (line ++ bytes)) is)

abbrev pub front_read : (old now : Input) (before after : Option (List ℕ)) (total : ℕ) (s kept : List ℕ) → (so : IsFront old before total s kept) → IsLeft now after total so.rest → IsFront now after total s kept
front_read old now before after total s kept so left = record { front = so.front; rest = so.rest; whole = so.whole; plain = so.plain; first = so.first; left = left }

pub some_kept : (kept : List ℕ) (none : Bool) → none ≡ (length kept == 0) → not none ≡ is_some_byte kept
some_kept [] none h = ap not h
some_kept (b ∷ kept) none h =
    let ne : length (b ∷ kept) ≢ 0 = omega arith in
    ap not (h ∙ ne_eqb (length (b ∷ kept)) 0 ne)

pub behind_over : (input : Input) (source : Option (List ℕ)) (total : ℕ) (s rest : List ℕ) → IsLeft input source total rest → behind_line s ≡ behind_line rest → length rest ≡ 0 → IsLeft input source total (behind_line s)
behind_over input source total s rest so same over =
    let none : rest ≡ [] = nil_from_length rest over in
    subst (λ (x : List ℕ). IsLeft input source total x) (none ∙ sym (same ∙ ap behind_line none)) so
