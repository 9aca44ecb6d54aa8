-- The bytes of records, and that they are read back.
use Rattle.std.specs.Prelude.{◌≡◌, ◌<◌, ◌≤◌, ◌+◌, ◌^◌, ℕ, zero, suc, Bool, true, false, nat_lt, List, [], ◌∷◌, ◌++◌, length, take, drop, get_or, Option, Some, None, option_map, if◌then◌else◌, refl}
use Rattle.std.specs.List.{AllByRecursion}
use Rattle.std.proofs.Common.{sym, ◌∙◌, ap, subst, arith, append_assoc, length-append, length-drop}
use Rattle.std.proofs.lemmas.Bool.{le-ltb, ltb-false}
use Rattle.std.proofs.lemmas.List.{append-nil, take_at, drop_at, drop-drop, take-append-le, drop-append-le, get_or_append_left}
use Rattle.byteorder.specs.Endian.{big_bytes, big_number}
use Rattle.byteorder.specs.Numbers.{big_number-reads_back, big_from-append, length-bytes_high_first}
use Rattle.vdisk.specs.Ranges.{part}
use Rattle.byte_map.specs.Words.{Map}
use Rattle.meta_log.specs.Records.{Record, Put, DropRange, change, changes, first_length, second_length, rest_length, tagged, record_at, with_record, records_from, records_of}

-- a tag, the lengths of two strings, and the strings
abbrev pub text_of : ℕ → List ℕ → List ℕ → List ℕ
text_of tag first second = tag ∷ (big_bytes 2 (length first) ++ (big_bytes 2 (length second) ++ (first ++ second)))

-- how many bytes that is
abbrev pub record_length : List ℕ → List ℕ → ℕ
record_length first second = 5 + (length first + length second)

abbrev pub bytes_of : Record → List ℕ
bytes_of (Put key value) = text_of 1 key value
bytes_of (DropRange from to) = text_of 2 from to

abbrev pub spelled : List Record → List ℕ
spelled [] = []
spelled (r ∷ rs) = bytes_of r ++ spelled rs

-- a record whose lengths have two bytes
abbrev pub Fits : Record → Type 0
Fits (Put key value) = (length key < 2 ^ 16) × (length value < 2 ^ 16)
Fits (DropRange from to) = (length from < 2 ^ 16) × (length to < 2 ^ 16)

-- these records, and then those
abbrev pub prepended : List Record → Option (List Record) → Option (List Record)
prepended rs rest = option_map (λ qs. rs ++ qs) rest

-- ---- one record is read back

pub length_text : (tag : ℕ) (first second : List ℕ) → length (text_of tag first second) ≡ 5 + (length first + length second)
length_text tag first second = omega (
  arith,
  length-append (big_bytes 2 (length first)) (big_bytes 2 (length second) ++ (first ++ second)),
  length-append (big_bytes 2 (length second)) (first ++ second),
  length-append first second,
  length-bytes_high_first 2 (length first),
  length-bytes_high_first 2 (length second),
)

module _ (tag : ℕ) (first second rest : List ℕ) where
  abbrev laid : List ℕ
  laid = tag ∷ (big_bytes 2 (length first) ++ (big_bytes 2 (length second) ++ (first ++ (second ++ rest))))

  text_laid : text_of tag first second ++ rest ≡ laid
  text_laid =
      ap (λ (q : List ℕ). tag ∷ q) (append_assoc (big_bytes 2 (length first)) (big_bytes 2 (length second) ++ (first ++ second)) rest
      ∙ ap (λ (q : List ℕ). big_bytes 2 (length first) ++ q) (append_assoc (big_bytes 2 (length second)) (first ++ second) rest
      ∙ ap (λ (q : List ℕ). big_bytes 2 (length second) ++ q) (append_assoc first second rest)))

  from_second : drop 3 laid ≡ big_bytes 2 (length second) ++ (first ++ (second ++ rest))
  from_second = drop_at (big_bytes 2 (length first)) (big_bytes 2 (length second) ++ (first ++ (second ++ rest))) 2 (length-bytes_high_first 2 (length first))

  from_strings : drop 5 laid ≡ first ++ (second ++ rest)
  from_strings = sym (drop-drop 2 3 laid) ∙ ap (λ (q : List ℕ). drop 2 q) from_second ∙ drop_at (big_bytes 2 (length second)) (first ++ (second ++ rest)) 2 (length-bytes_high_first 2 (length second))

  module _ (short : length first < 2 ^ 16) (low : length second < 2 ^ 16) where
    first_is : first_length laid ≡ length first
    first_is = big_number-reads_back 2 (length first) (big_bytes 2 (length second) ++ (first ++ (second ++ rest))) short

    second_is : second_length laid ≡ length second
    second_is = ap (λ (q : List ℕ). big_number 2 q) from_second ∙ big_number-reads_back 2 (length second) (first ++ (second ++ rest)) low

    laid_rest : rest_length laid ≡ 4 + (length first + length second)
    laid_rest = omega (arith, first_is, second_is)

    laid_back : record_at laid ≡ tagged tag first second
    laid_back =
        let whole : nat_lt (length laid) (suc (rest_length laid)) ≡ false =
        le-ltb _ _ (omega (arith, laid_rest, ap length text_laid, length-append (text_of tag first second) rest, length_text tag first second)) in
        let one : part 5 (first_length laid) laid ≡ first =
        ap (λ (k : ℕ). take k (drop 5 laid)) first_is ∙ ap (λ (q : List ℕ). take (length first) q) from_strings ∙ take_at first (second ++ rest) (length first) refl in
        let two : part (5 + first_length laid) (second_length laid) laid ≡ second =
        ap (λ (k : ℕ). take k (drop (5 + first_length laid) laid)) second_is
        ∙ ap (λ (k : ℕ). take (length second) (drop (5 + k) laid)) first_is
        ∙ ap (λ (q : List ℕ). take (length second) q) (sym (drop-drop (length first) 5 laid) ∙ ap (λ (q : List ℕ). drop (length first) q) from_strings ∙ drop_at first (second ++ rest) (length first) refl)
        ∙ take_at second rest (length second) refl in
        ap (λ (t : Bool). if t then None else tagged tag (part 5 (first_length laid) laid) (part (5 + first_length laid) (second_length laid) laid)) whole
        ∙ ap (λ (q : List ℕ). tagged tag q (part (5 + first_length laid) (second_length laid) laid)) one
        ∙ ap (λ (q : List ℕ). tagged tag first q) two

-- the record at the front of its bytes is itself
pub record_back : (r : Record) (rest : List ℕ) → Fits r → record_at (bytes_of r ++ rest) ≡ Some r
record_back (Put key value) rest fits = ap (λ (q : List ℕ). record_at q) (text_laid 1 key value rest) ∙ laid_back 1 key value rest fits.0 fits.1
record_back (DropRange from to) rest fits = ap (λ (q : List ℕ). record_at q) (text_laid 2 from to rest) ∙ laid_back 2 from to rest fits.0 fits.1

-- what stands behind its tag are its other bytes
pub rest_back : (r : Record) (rest : List ℕ) → Fits r → suc (rest_length (bytes_of r ++ rest)) ≡ length (bytes_of r)
rest_back (Put key value) rest fits =
    let long = ap (λ (q : List ℕ). rest_length q) (text_laid 1 key value rest) ∙ laid_rest 1 key value rest fits.0 fits.1 in
    omega (arith, long, length_text 1 key value)
rest_back (DropRange from to) rest fits =
    let long = ap (λ (q : List ℕ). rest_length q) (text_laid 2 from to rest) ∙ laid_rest 2 from to rest fits.0 fits.1 in
    omega (arith, long, length_text 2 from to)

-- ---- records behind others

-- bytes that are passed over
pub records_skip : (n : ℕ) (xs rest : List ℕ) → length xs ≡ n → records_from n (xs ++ rest) ≡ records_from 0 rest
records_skip zero [] rest same = refl
records_skip zero (x ∷ xs) rest same = absurd (omega (arith, same))
records_skip (suc n) [] rest same = absurd (omega (arith, same))
records_skip (suc n) (x ∷ xs) rest same = records_skip n xs rest (omega (arith, same))

prepended_none : (o : Option (List Record)) → o ≡ prepended [] o
prepended_none None = refl
prepended_none (Some qs) = refl

-- a record that was read, and the records behind it
pub with_record_means : (o : Option Record) (p : Option (List Record)) (rs : List Record) → with_record o p ≡ Some rs
    → (r : Record) × (qs : List Record) × (o ≡ Some r) × (p ≡ Some qs) × (rs ≡ r ∷ qs)
with_record_means None p rs is = absurd (cc)
with_record_means (Some r) None rs is = absurd (cc)
with_record_means (Some r) (Some qs) rs is = let same : r ∷ qs ≡ rs = cc in (r, qs, refl, refl, sym same)

with_record_prepended : (r : Record) (qs : List Record) (o : Option (List Record)) → with_record (Some r) (prepended qs o) ≡ prepended (r ∷ qs) o
with_record_prepended r qs None = refl
with_record_prepended r qs (Some more) = refl

-- a record that was read is whole
pub record_whole : (bytes : List ℕ) (r : Record) → record_at bytes ≡ Some r → suc (rest_length bytes) ≤ length bytes
record_whole bytes r is = by (nat_lt (length bytes) (suc (rest_length bytes))) refl is
  where
    by : (t : Bool) → nat_lt (length bytes) (suc (rest_length bytes)) ≡ t
        → (if t then None else tagged (get_or bytes 0 0) (part 5 (first_length bytes) bytes) (part (5 + first_length bytes) (second_length bytes) bytes)) ≡ Some r
        → suc (rest_length bytes) ≤ length bytes
    by true p e = absurd (cc)
    by false p e = ltb-false _ _ p

-- what stands behind a whole record does not matter to it
module _ (bytes more : List ℕ) (whole : suc (rest_length bytes) ≤ length bytes) where
  first_joined : first_length (bytes ++ more) ≡ first_length bytes
  first_joined =
      ap (λ (q : List ℕ). big_number 2 q) (drop-append-le 1 bytes more (omega (arith, whole)))
      ∙ big_from-append 2 (drop 1 bytes) more (omega (arith, whole, length-drop 1 bytes))

  second_joined : second_length (bytes ++ more) ≡ second_length bytes
  second_joined =
      ap (λ (q : List ℕ). big_number 2 q) (drop-append-le 3 bytes more (omega (arith, whole)))
      ∙ big_from-append 2 (drop 3 bytes) more (omega (arith, whole, length-drop 3 bytes))

  pub rest_joined : rest_length (bytes ++ more) ≡ rest_length bytes
  rest_joined = omega (arith, first_joined, second_joined)

  part_joined : (at n : ℕ) → at + n ≤ length bytes → part at n (bytes ++ more) ≡ part at n bytes
  part_joined at n fits =
      ap (λ (q : List ℕ). take n q) (drop-append-le at bytes more (omega (arith, fits)))
      ∙ take-append-le n (drop at bytes) more (omega (arith, fits, length-drop at bytes))

  pub record_joined : record_at (bytes ++ more) ≡ record_at bytes
  record_joined =
      let n = first_length bytes in
      let k = second_length bytes in
      let all : List ℕ = bytes ++ more in
      let cut : nat_lt (length all) (suc (rest_length all)) ≡ false = le-ltb _ _ (omega (arith, whole, rest_joined, length-append bytes more)) in
      let uncut : nat_lt (length bytes) (suc (rest_length bytes)) ≡ false = le-ltb _ _ whole in
      ap (λ (t : Bool). if t then None else tagged (get_or all 0 0) (part 5 (first_length all) all) (part (5 + first_length all) (second_length all) all)) cut
      ∙ (λ i. tagged (get_or all 0 0) (part 5 (first_joined i) all) (part (5 + first_joined i) (second_joined i) all))
      ∙ (λ i. tagged (get_or_append_left bytes more 0 0 (omega (arith, whole)) i) (part_joined 5 n (omega (arith, whole)) i) (part_joined (5 + n) k (omega (arith, whole)) i))
      ∙ sym (ap (λ (t : Bool). if t then None else tagged (get_or bytes 0 0) (part 5 n bytes) (part (5 + n) k bytes)) uncut)

-- a list of records goes on behind its bytes
pub records_joined : (skip : ℕ) (body more : List ℕ) (rs : List Record) → skip ≤ length body → records_from skip body ≡ Some rs
    → records_from skip (body ++ more) ≡ prepended rs (records_from 0 more)
records_joined zero [] more rs low is =
    let none : [] ≡ rs = cc in
    subst (λ (qs : List Record). records_from 0 more ≡ prepended qs (records_from 0 more)) none (prepended_none (records_from 0 more))
records_joined (suc skip) [] more rs low is = absurd (omega (arith, low))
records_joined (suc skip) (b ∷ body) more rs low is = records_joined skip body more rs (omega (arith, low)) is
records_joined zero (tag ∷ body) more rs low is =
    let read = with_record_means (record_at (tag ∷ body)) (records_from (rest_length (tag ∷ body)) body) rs is in
    let whole = record_whole (tag ∷ body) read.0 read.2 in
    let behind = records_joined (rest_length (tag ∷ body)) body more read.1 (omega (arith, whole)) read.3 in
    (λ i. with_record (record_joined (tag ∷ body) more whole i) (records_from (rest_joined (tag ∷ body) more whole i) (body ++ more)))
    ∙ (λ i. with_record (read.2 i) (behind i))
    ∙ with_record_prepended read.0 read.1 (records_from 0 more)
    ∙ ap (λ (qs : List Record). prepended qs (records_from 0 more)) (sym read.4)

-- a record at the front, and the records behind it
pub records_front : (r : Record) (rest : List ℕ) → Fits r → records_of (bytes_of r ++ rest) ≡ prepended (r ∷ []) (records_of rest)
records_front r rest fits = by r fits
  where
    read : (tag : ℕ) (body : List ℕ) (s : Record) → record_at (tag ∷ (body ++ rest)) ≡ Some s → suc (rest_length (tag ∷ (body ++ rest))) ≡ suc (length body)
        → records_from 0 (tag ∷ (body ++ rest)) ≡ prepended (s ∷ []) (records_of rest)
    read tag body s is long =
        (λ i. with_record (is i) (records_from (rest_length (tag ∷ (body ++ rest))) (body ++ rest)))
        ∙ ap (λ (o : Option (List Record)). with_record (Some s) o) (records_skip (rest_length (tag ∷ (body ++ rest))) body rest (omega (arith, long)) ∙ prepended_none (records_of rest))
        ∙ with_record_prepended s [] (records_of rest)

    by : (s : Record) → Fits s → records_of (bytes_of s ++ rest) ≡ prepended (s ∷ []) (records_of rest)
    by (Put key value) f = read 1 (big_bytes 2 (length key) ++ (big_bytes 2 (length value) ++ (key ++ value))) (Put key value) (record_back (Put key value) rest f) (rest_back (Put key value) rest f)
    by (DropRange from to) f = read 2 (big_bytes 2 (length from) ++ (big_bytes 2 (length to) ++ (from ++ to))) (DropRange from to) (record_back (DropRange from to) rest f) (rest_back (DropRange from to) rest f)

-- the records that were spelled are read
pub records_back : (rs : List Record) → AllByRecursion Fits rs → records_of (spelled rs) ≡ Some rs
records_back [] all = refl
records_back (r ∷ rs) all = records_front r (spelled rs) all.0 ∙ ap (λ (o : Option (List Record)). prepended (r ∷ []) o) (records_back rs all.1)

-- one more record behind a list of them
pub records_push : (body : List ℕ) (rs : List Record) (r : Record) → Fits r → records_of body ≡ Some rs → records_of (body ++ bytes_of r) ≡ Some (rs ++ r ∷ [])
records_push body rs r fits is =
    let one : records_of (bytes_of r) ≡ Some (r ∷ []) = ap (λ (q : List ℕ). records_of q) (sym (append-nil (bytes_of r))) ∙ records_front r [] fits in
    records_joined 0 body (bytes_of r) rs (omega arith) is ∙ ap (λ (o : Option (List Record)). prepended rs o) one

pub changes_joined : (rs qs : List Record) (m : Map) → changes (rs ++ qs) m ≡ changes qs (changes rs m)
changes_joined [] qs m = refl
changes_joined (r ∷ rs) qs m = changes_joined rs qs (change r m)

-- the last record changes what the others made
pub changes_push : (rs : List Record) (r : Record) (m : Map) → changes (rs ++ r ∷ []) m ≡ change r (changes rs m)
changes_push rs r m = changes_joined rs (r ∷ []) m
