-- Lists of texts, read and spelled text by text.
use Rattle.std.specs.Prelude.{◌≡◌, ◌≤◌, ◌<◌, ◌+◌, ◌-◌, ◌||◌, ℕ, zero, suc, Bool, true, false, List, [], ◌∷◌, ◌++◌, length, get_or, take, drop, Some, None, nat_lt, if◌then◌else◌, refl}
use Rattle.std.proofs.Common.{sym, ◌∙◌, ap, subst, arith, ltb-false, length-take, length-drop}
use Rattle.std.proofs.lemmas.List.{append-nil, append_assoc, drop-drop, take_all}
use Rattle.byteorder.specs.Endian.{big_number}
use Rattle.table_records.specs.Texts.{list_bytes}
use Rattle.table_records.specs.Settings.{Read, text_bytes, texts_bytes, with_text, first_size, is_cut, texts_in, rest_of, fitting_size, prepend, nothing_behind}
use Rattle.table_records.specs.Orders.{some_same}
use Rattle.table_records.proofs.ListBytes.{list_bytes_append}

-- ---- one text

pub cut_none : (k room : ℕ) (b : List ℕ) → fitting_size room b ≡ None → texts_in (suc k) room b ≡ None
cut_none k room b is = by (is_cut room b) is
  where
    by : (t : Bool) → (if t then None else Some (first_size b)) ≡ None
        → (if t then None else with_text (take (big_number 2 b) (drop 2 b)) (texts_in k (room - first_size b) (drop (first_size b) b))) ≡ None
    by true e = refl
    by false e = absurd (cc)

pub fitting_means : (room s : ℕ) (b : List ℕ) → fitting_size room b ≡ Some s → (first_size b ≡ s) × (is_cut room b ≡ false)
fitting_means room s b is = by (is_cut room b) refl is
  where
    by : (t : Bool) → is_cut room b ≡ t → (if t then None else Some (first_size b)) ≡ Some s → (first_size b ≡ s) × (is_cut room b ≡ false)
    by true e f = absurd (cc)
    by false e f = (some_same (first_size b) s f, e)

pub uncut : (room : ℕ) (b : List ℕ) → is_cut room b ≡ false → (first_size b ≤ length b) × (first_size b ≤ room)
uncut room b is = by (nat_lt (length b) (first_size b)) (nat_lt room (first_size b)) refl refl is
  where
    by : (p q : Bool) → nat_lt (length b) (first_size b) ≡ p → nat_lt room (first_size b) ≡ q → (p || q) ≡ false
        → (first_size b ≤ length b) × (first_size b ≤ room)
    by true q e f whole = absurd (cc)
    by false true e f whole = absurd (cc)
    by false false e f whole = (ltb-false (length b) (first_size b) e, ltb-false room (first_size b) f)

pub fitting_fits : (room s : ℕ) (b : List ℕ) → fitting_size room b ≡ Some s → (s ≤ length b) × (s ≤ room)
fitting_fits room s b is =
    let means = fitting_means room s b is in
    let fits = uncut room b means.1 in
    (subst (λ (n : ℕ). n ≤ length b) means.0 fits.0, subst (λ (n : ℕ). n ≤ room) means.0 fits.1)

one_more : (k room s : ℕ) (b : List ℕ) → fitting_size room b ≡ Some s
    → texts_in (suc k) room b ≡ with_text (take (big_number 2 b) (drop 2 b)) (texts_in k (room - s) (drop s b))
one_more k room s b is =
    let means = fitting_means room s b is in
    ap (λ (t : Bool). if t then None else with_text (take (big_number 2 b) (drop 2 b)) (texts_in k (room - first_size b) (drop (first_size b) b))) means.1
    ∙ ap (λ (n : ℕ). with_text (take (big_number 2 b) (drop 2 b)) (texts_in k (room - n) (drop n b))) means.0

-- ---- skipping

rest_with : (text : List ℕ) (r : Read (List (List ℕ))) → rest_of (with_text text r) ≡ rest_of r
rest_with text None = refl
rest_with text (Some (texts, rest)) = refl

pub skip_more : (k room place s : ℕ) (bytes : List ℕ) → fitting_size room (drop place bytes) ≡ Some s
    → rest_of (texts_in (suc k) room (drop place bytes)) ≡ rest_of (texts_in k (room - s) (drop (place + s) bytes))
skip_more k room place s bytes is =
    let b : List ℕ = drop place bytes in
    let text : List ℕ = take (big_number 2 (drop place bytes)) (drop 2 (drop place bytes)) in
    ap (λ (r : Read (List (List ℕ))). rest_of r) (one_more k room s (drop place bytes) is)
    ∙ rest_with text (texts_in k (room - s) (drop s (drop place bytes)))
    ∙ ap (λ (l : List ℕ). rest_of (texts_in k (room - s) l)) (drop-drop s place bytes)

-- ---- reading

pub prepend_none : (r : Read (List (List ℕ))) → prepend [] r ≡ r
prepend_none None = refl
prepend_none (Some (texts, rest)) = refl

prepend_with : (front : List (List ℕ)) (text : List ℕ) (r : Read (List (List ℕ))) → prepend front (with_text text r) ≡ prepend (front ++ text ∷ []) r
prepend_with front text None = refl
prepend_with front text (Some (texts, rest)) =
    ap (λ (ts : List (List ℕ)). Some (ts, rest)) (sym (append_assoc front (text ∷ []) texts))

-- the first text of bytes, at its place among more
pub text_at : (place s : ℕ) (bytes : List ℕ) → first_size (drop place bytes) ≡ s
    → take (s - 2) (drop (place + 2) bytes) ≡ take (big_number 2 (drop place bytes)) (drop 2 (drop place bytes))
text_at place s bytes is =
    let size : s - 2 ≡ big_number 2 (drop place bytes) = omega (arith, is) in
    (λ i. take (size i) (sym (drop-drop 2 place bytes) i))

pub read_more : (k place s : ℕ) (bytes : List ℕ) (ts : List (List ℕ)) (text : List ℕ)
    → fitting_size (8192 - list_bytes ts) (drop place bytes) ≡ Some s → text ≡ take (s - 2) (drop (place + 2) bytes)
    → prepend ts (texts_in (suc k) (8192 - list_bytes ts) (drop place bytes))
    ≡ prepend (ts ++ text ∷ []) (texts_in k (8192 - list_bytes (ts ++ text ∷ [])) (drop (place + s) bytes))
read_more k place s bytes ts text is same =
    let room : ℕ = 8192 - list_bytes ts in
    let means = fitting_means (8192 - list_bytes ts) s (drop place bytes) is in
    let fits = fitting_fits (8192 - list_bytes ts) s (drop place bytes) is in
    let here : take (big_number 2 (drop place bytes)) (drop 2 (drop place bytes)) ≡ text = sym (same ∙ text_at place s bytes means.0) in
    let size : length text + 2 ≡ s =
    omega (arith, ap (λ (l : List ℕ). length l) here, means.0, fits.0, length-take (big_number 2 (drop place bytes)) (drop 2 (drop place bytes)), length-drop 2 (drop place bytes)) in
    let left : 8192 - list_bytes ts - s ≡ 8192 - list_bytes (ts ++ text ∷ []) = omega (arith, size, list_bytes_append ts text) in
    ap (λ (r : Read (List (List ℕ))). prepend ts r) (one_more k (8192 - list_bytes ts) s (drop place bytes) is)
    ∙ prepend_with ts (take (big_number 2 (drop place bytes)) (drop 2 (drop place bytes))) (texts_in k (8192 - list_bytes ts - s) (drop s (drop place bytes)))
    ∙ (λ i. prepend (ts ++ here i ∷ []) (texts_in k (left i) (drop-drop s place bytes i)))

-- ---- spelling

pub texts_bytes_more : (ts : List (List ℕ)) (i : ℕ) → i < length ts → texts_bytes (take (i + 1) ts) ≡ texts_bytes (take i ts) ++ text_bytes (get_or ts i [])
texts_bytes_more ts i low =
    let step : i + 1 ≡ suc i = omega arith in
    ap (λ (n : ℕ). texts_bytes (take n ts)) step ∙ by ts i low
  where
    by : (ts : List (List ℕ)) (i : ℕ) → i < length ts → texts_bytes (take (suc i) ts) ≡ texts_bytes (take i ts) ++ text_bytes (get_or ts i [])
    by [] i low = absurd (omega (arith, low))
    by (x ∷ ts) zero low = append-nil (text_bytes x)
    by (x ∷ ts) (suc i) low =
        ap (λ (b : List ℕ). text_bytes x ++ b) (by ts i (omega (arith, low)))
        ∙ sym (append_assoc (text_bytes x) (texts_bytes (take i ts)) (text_bytes (get_or ts i [])))

-- ---- slices

pub to_the_end : (place : ℕ) (b : List ℕ) → take (length b - place) (drop place b) ≡ drop place b
to_the_end place b = take_all (length b - place) (drop place b) (omega (arith, length-drop place b))

pub not_last : (ts : List (List ℕ)) (place : ℕ) (b : List ℕ) → place < length b → nothing_behind (Some (ts, drop place b)) ≡ None
not_last ts place b low = by (drop place b) (omega (arith, low, length-drop place b))
  where
    by : (rest : List ℕ) → 0 < length rest → nothing_behind (Some (ts, rest)) ≡ None
    by [] some = absurd (omega (arith, some))
    by (x ∷ rest) some = refl
