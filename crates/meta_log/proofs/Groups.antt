-- A group behind the others: what a half spells while it is written, and once it is.
use Rattle.std.proofs.Common.{◌≡◌, ◌≢◌, ◌⊎◌, inl, inr, ℕ, zero, suc, Bool, true, false, ◌+◌, ◌≤◌, ◌<◌, ◌^◌, List, [], ◌∷◌, ◌++◌, length, get_or, take, drop, nat_eq, nat_lt, refl, sym, ◌∙◌, ap, arith, append_assoc, length-append, length-take, take-append-drop}
use Rattle.std.specs.Prelude.{◌&&◌, if◌then◌else◌, Some, None, Option}
use Rattle.std.specs.Cmp.Lexicographic.{pointwise}
use Rattle.std.proofs.lemmas.Bool.{eq-eqb, ne_eqb, le-ltb, cases_lt}
use Rattle.std.proofs.lemmas.Bool.Decides.{eqb_tells}
use Rattle.std.proofs.lemmas.List.{take_at, drop_at, drop-drop, drop-take, drop_more, drop_all, drop-append-le, append-nil, get_or-take, get_or-drop}
use Rattle.byteorder.specs.Endian.{big_bytes, big_number}
use Rattle.byteorder.specs.Numbers.{big_number-reads_back, big_from-append, length-bytes_high_first}
use Rattle.vdisk.specs.Disk.{ChangedWithin}
use Rattle.vdisk.specs.Ranges.{part, same_front}
use Rattle.sha2.proofs.Facts256.{length-sha256}
use Rattle.byte_map.specs.Words.{Map}
use Rattle.meta_log.specs.Records.{Record, records_of, changes}
use Rattle.meta_log.specs.Meta.{digest_of, and_then, where_digest, group_length, group_body, group_at, groups_from, groups_length, groups_end, map_of_half}
use Rattle.meta_log.specs.Group.{group_text}
use Rattle.meta_log.specs.Ready.{GoesOn}

pub length_digest : (text : List ℕ) → length (digest_of text) ≡ 32
unfolding digest_of
length_digest text = length-sha256 text

pub same_bytes : (xs : List ℕ) → pointwise nat_eq xs xs ≡ true
same_bytes [] = refl
same_bytes (x ∷ xs) = ap (λ (b : Bool). b && pointwise nat_eq xs xs) (eq-eqb x x refl) ∙ same_bytes xs

-- a closed gate ends the groups
pub closed : (gate : ℕ) (m : Map) (rest : List ℕ) → gate ≢ 1 → groups_from 0 m (gate ∷ rest) ≡ Some m
closed gate m rest shut = elim (eqb_tells gate 1) [
  | inl same ↦ absurd (shut same.1)
  | inr other ↦ ap (λ (t : Bool). if t then and_then (group_at rest) (λ rs. groups_from (36 + group_length rest) (changes rs m) rest) else Some m) other.0
]

-- so does the end of the half
pub shut_at : (place : ℕ) (s : List ℕ) (m : Map) → get_or s place 0 ≢ 1 → groups_from 0 m (drop place s) ≡ Some m
shut_at place s m shut = elim (cases_lt place (length s)) [
  | inl within ↦ ap (λ (q : List ℕ). groups_from 0 m q) (drop_more s place 0 within) ∙ closed (get_or s place 0) m (drop (place + 1) s) shut
  | inr past ↦ ap (λ (q : List ℕ). groups_from 0 m q) (drop_all place s past)
]

-- there no group stands
pub no_groups : (place : ℕ) (s : List ℕ) → get_or s place 0 ≢ 1 → groups_length 0 (drop place s) ≡ 0
no_groups place s shut = elim (cases_lt place (length s)) [
  | inl within ↦
      ap (λ (q : List ℕ). groups_length 0 q) (drop_more s place 0 within)
      ∙ ap (λ (t : Bool). if t then suc (groups_length (36 + group_length (drop (place + 1) s)) (drop (place + 1) s)) else 0) (ne_eqb (get_or s place 0) 1 shut)
  | inr past ↦ ap (λ (q : List ℕ). groups_length 0 q) (drop_all place s past)
]

-- bytes that are passed over count
pub length_skip : (n : ℕ) (bytes : List ℕ) → n ≤ length bytes → groups_length n bytes ≡ n + groups_length 0 (drop n bytes)
length_skip zero bytes low = omega arith
length_skip (suc n) [] low = absurd (omega (arith, low))
length_skip (suc n) (b ∷ bytes) low = let behind = length_skip n bytes (omega (arith, low)) in omega (arith, behind)

skip : (n : ℕ) (m : Map) (xs rest : List ℕ) → length xs ≡ n → groups_from n m (xs ++ rest) ≡ groups_from 0 m rest
skip zero m [] rest e = refl
skip zero m (x ∷ xs) rest e = absurd (omega arith)
skip (suc n) m [] rest e = absurd (omega arith)
skip (suc n) m (x ∷ xs) rest e = skip n m xs rest (omega arith)

-- a group: the length of its body in four bytes, the digest, the body
module _ (head dig body : List ℕ) (four : length head ≡ 4) (counts : big_number 4 head ≡ length body) (size : length dig ≡ 32) (sound : dig ≡ digest_of (head ++ body)) where
  abbrev laid : List ℕ → List ℕ
  laid rest = head ++ (dig ++ (body ++ rest))

  count_is : (rest : List ℕ) → group_length (laid rest) ≡ length body
  count_is rest = big_from-append 4 head (dig ++ (body ++ rest)) (omega (arith, four)) ∙ counts

  digest_is : (rest : List ℕ) → part 4 32 (laid rest) ≡ dig
  digest_is rest = ap (λ (l : List ℕ). take 32 l) (drop_at head (dig ++ (body ++ rest)) 4 four) ∙ take_at dig (body ++ rest) 32 size

  body_is : (rest : List ℕ) → group_body (laid rest) ≡ body
  body_is rest =
      ap (λ (k : ℕ). take k (drop 36 (laid rest))) (count_is rest)
      ∙ ap (λ (l : List ℕ). take (length body) l) (sym (drop-drop 32 4 (laid rest)) ∙ ap (λ (l : List ℕ). drop 32 l) (drop_at head (dig ++ (body ++ rest)) 4 four) ∙ drop_at dig (body ++ rest) 32 size)
      ∙ take_at body rest (length body) refl

  long : (rest : List ℕ) → length (laid rest) ≡ 36 + length body + length rest
  long rest = omega (arith, four, size, length-append head (dig ++ (body ++ rest)), length-append dig (body ++ rest), length-append body rest)

  group_is : (rest : List ℕ) → group_at (laid rest) ≡ records_of body
  group_is rest =
      let n = group_length (laid rest) in
      let whole : nat_lt (length (laid rest)) (36 + n) ≡ false = le-ltb _ _ (omega (arith, long rest, count_is rest)) in
      let read : List ℕ → List ℕ → List ℕ → Option (List Record) = λ d t b. where_digest d (t ++ b) (records_of b) in
      ap (λ (t : Bool). if t then None else read (part 4 32 (laid rest)) (take 4 (laid rest)) (group_body (laid rest))) whole
      ∙ ap (λ (d : List ℕ). read d (take 4 (laid rest)) (group_body (laid rest))) (digest_is rest ∙ sound)
      ∙ ap (λ (t : List ℕ). read (digest_of (head ++ body)) t (group_body (laid rest))) (take_at head (dig ++ (body ++ rest)) 4 four)
      ∙ ap (λ (b : List ℕ). read (digest_of (head ++ body)) head b) (body_is rest)
      ∙ ap (λ (t : Bool). if t then records_of body else None) (same_bytes (digest_of (head ++ body)))

  -- an open gate before it: the map goes on from the changed one
  opened_laid : (m : Map) (rs : List Record) (rest : List ℕ) → records_of body ≡ Some rs → groups_from 0 m (1 ∷ laid rest) ≡ groups_from 0 (changes rs m) rest
  opened_laid m rs rest reads =
      ap (λ (o : Option (List Record)). and_then o (λ qs. groups_from (36 + group_length (laid rest)) (changes qs m) (laid rest))) (group_is rest ∙ reads)
      ∙ ap (λ (k : ℕ). groups_from (36 + k) (changes rs m) (laid rest)) (count_is rest)
      ∙ ap (λ (l : List ℕ). groups_from (36 + length body) (changes rs m) l) (sym (append_assoc head (dig ++ body) rest ∙ ap (λ (l : List ℕ). head ++ l) (append_assoc dig body rest)))
      ∙ skip (36 + length body) (changes rs m) (head ++ (dig ++ body)) rest (omega (arith, four, size, length-append head (dig ++ body), length-append dig body))

  -- its bytes, the gate's with them, and those of the groups behind it
  length_laid : (rest : List ℕ) → groups_length 0 (1 ∷ laid rest) ≡ 37 + length body + groups_length 0 rest
  length_laid rest =
      let k = 36 + length body in
      let front : List ℕ = head ++ (dig ++ body) in
      let long_front : length front ≡ k = omega (arith, four, size, length-append head (dig ++ body), length-append dig body) in
      let together : laid rest ≡ front ++ rest = sym (append_assoc head (dig ++ body) rest ∙ ap (λ (l : List ℕ). head ++ l) (append_assoc dig body rest)) in
      let behind : drop k (laid rest) ≡ rest = ap (λ (l : List ℕ). drop k l) together ∙ drop_at front rest k long_front in
      let passed : groups_length k (laid rest) ≡ k + groups_length 0 (drop k (laid rest)) = length_skip k (laid rest) (omega (arith, long rest)) in
      let all : groups_length 0 (1 ∷ laid rest) ≡ suc (k + groups_length 0 rest) =
      ap (λ (j : ℕ). suc (groups_length (36 + j) (laid rest))) (count_is rest)
      ∙ ap (λ (j : ℕ). suc j) (passed ∙ ap (λ (l : List ℕ). k + groups_length 0 l) behind) in
      omega (arith, all)

pub length_group : (body : List ℕ) → length (group_text body) ≡ 36 + length body
unfolding group_text
length_group body = omega (
  arith,
  length-append (big_bytes 4 (length body)) (digest_of (big_bytes 4 (length body) ++ body) ++ body),
  length-append (digest_of (big_bytes 4 (length body) ++ body)) body,
  length-bytes_high_first 4 (length body),
  length_digest (big_bytes 4 (length body) ++ body),
)

pub opened : (body : List ℕ) (m : Map) (rs : List Record) (rest : List ℕ) → length body < 2 ^ 32 → records_of body ≡ Some rs
    → groups_from 0 m (1 ∷ (group_text body ++ rest)) ≡ groups_from 0 (changes rs m) rest
unfolding group_text
opened body m rs rest short reads =
    let head = big_bytes 4 (length body) in
    let dig = digest_of (head ++ body) in
    let counts : big_number 4 head ≡ length body = ap (λ (q : List ℕ). big_number 4 q) (sym (append-nil head)) ∙ big_number-reads_back 4 (length body) [] short in
    ap (λ (q : List ℕ). groups_from 0 m (1 ∷ q)) (append_assoc head (dig ++ body) rest ∙ ap (λ (q : List ℕ). head ++ q) (append_assoc dig body rest))
    ∙ opened_laid head dig body (length-bytes_high_first 4 (length body)) counts (length_digest (head ++ body)) refl m rs rest reads

pub opened_length : (body rest : List ℕ) → length body < 2 ^ 32
    → groups_length 0 (1 ∷ (group_text body ++ rest)) ≡ 37 + length body + groups_length 0 rest
unfolding group_text
opened_length body rest short =
    let head = big_bytes 4 (length body) in
    let dig = digest_of (head ++ body) in
    let counts : big_number 4 head ≡ length body = ap (λ (q : List ℕ). big_number 4 q) (sym (append-nil head)) ∙ big_number-reads_back 4 (length body) [] short in
    ap (λ (q : List ℕ). groups_length 0 (1 ∷ q)) (append_assoc head (dig ++ body) rest ∙ ap (λ (q : List ℕ). head ++ q) (append_assoc dig body rest))
    ∙ length_laid head dig body (length-bytes_high_first 4 (length body)) counts (length_digest (head ++ body)) refl rest

-- ---- a half whose groups end at a closed gate, or at its end

pub half_spells : (place : ℕ) (half : List ℕ) (m : Map) → GoesOn place half m → map_of_half half ≡ Some m
half_spells place half m goes = goes.spells half refl refl ∙ shut_at place half m goes.closed

pub half_ends : (place : ℕ) (half : List ℕ) (m : Map) → GoesOn place half m → groups_end half ≡ place
half_ends place half m goes = let none = no_groups place half goes.closed in let ends = goes.ends half refl refl in omega (arith, none, ends)

-- bytes behind the closed gate are not read
pub torn_behind : (place n : ℕ) (r s : List ℕ) (m : Map) → GoesOn place r m → ChangedWithin (place + 1) n r s → map_of_half s ≡ Some m
torn_behind place n r s m goes change =
    let gate : get_or s place 0 ≡ get_or r place 0 =
    sym (get_or-take (place + 1) s place 0 (omega arith)) ∙ ap (λ (q : List ℕ). get_or q place 0) change.before ∙ get_or-take (place + 1) r place 0 (omega arith) in
    goes.spells s change.size (same_front place (place + 1) r s (omega arith) change.before)
    ∙ shut_at place s m (λ is_open. goes.closed (sym gate ∙ is_open))

-- the group stands behind the gate, and no open gate behind it
module _ (place : ℕ) (r r₁ body : List ℕ) (rs : List Record) (m : Map) (n : ℕ) (short : length body < 2 ^ 32) (reads : records_of body ≡ Some rs)
    (goes : GoesOn place r m) (fits : place + (37 + length body) ≤ length r)
    (change : ChangedWithin (place + 1) n r r₁) (written : part (place + 1) (36 + length body) r₁ ≡ group_text body)
    (shut : get_or r₁ (place + (37 + length body)) 0 ≢ 1) where
  abbrev next : ℕ
  next = place + (37 + length body)

  -- the gate, the group and what is behind it, whatever the gate is
  tail_is : (s : List ℕ) → ChangedWithin place 1 r₁ s → drop place s ≡ get_or s place 0 ∷ (group_text body ++ drop next r₁)
  tail_is s gate =
      let k = 36 + length body in
      let rest : drop k (drop (place + 1) r₁) ≡ drop next r₁ = drop-drop k (place + 1) r₁ ∙ (let same : place + 1 + k ≡ next = omega arith in ap (λ (j : ℕ). drop j r₁) same) in
      drop_more s place 0 (omega (arith, fits, change.size, gate.size))
      ∙ ap (λ (q : List ℕ). get_or s place 0 ∷ q) (gate.after ∙ sym (take-append-drop k (drop (place + 1) r₁)) ∙ (λ i. written i ++ rest i))

  front_is : (s : List ℕ) → ChangedWithin place 1 r₁ s → take place s ≡ take place r
  front_is s gate = gate.before ∙ same_front place (place + 1) r r₁ (omega arith) change.before

  -- the gate is torn: the old map or the new one
  pub torn_gate : (s : List ℕ) → ChangedWithin place 1 r₁ s → (map_of_half s ≡ Some m) ⊎ (map_of_half s ≡ Some (changes rs m))
  torn_gate s gate =
      let spells : map_of_half s ≡ groups_from 0 m (get_or s place 0 ∷ (group_text body ++ drop next r₁)) =
      goes.spells s (gate.size ∙ change.size) (front_is s gate) ∙ ap (λ (q : List ℕ). groups_from 0 m q) (tail_is s gate) in
      elim (eqb_tells (get_or s place 0) 1) [
        | inl same ↦ inr (spells ∙ ap (λ (g : ℕ). groups_from 0 m (g ∷ (group_text body ++ drop next r₁))) same.1
            ∙ opened body m rs (drop next r₁) short reads ∙ shut_at next r₁ (changes rs m) shut)
        | inr other ↦ inl (spells ∙ closed (get_or s place 0) m (group_text body ++ drop next r₁) other.1)
      ]

  -- the gate is open: the new map, and the free tail behind the group
  pub goes_on_behind : (s : List ℕ) → ChangedWithin place 1 r₁ s → get_or s place 0 ≡ 1 → GoesOn next s (changes rs m)
  goes_on_behind s gate is_open =
      let k = 36 + length body in
      let group : drop place (take next s) ≡ 1 ∷ group_text body =
      drop-take place (37 + length body) s
      ∙ ap (λ (q : List ℕ). take (37 + length body) q) (tail_is s gate ∙ ap (λ (g : ℕ). g ∷ (group_text body ++ drop next r₁)) is_open)
      ∙ (let more : 37 + length body ≡ suc k = omega arith in ap (λ (j : ℕ). take j (1 ∷ (group_text body ++ drop next r₁))) more)
      ∙ ap (λ (q : List ℕ). 1 ∷ q) (take_at (group_text body) (drop next r₁) k (length_group body)) in
      let tail_of : (t : List ℕ) → length t ≡ length s → take next t ≡ take next s → drop place t ≡ 1 ∷ (group_text body ++ drop next t) = λ t same_size same_head.
      ap (λ (q : List ℕ). drop place q) (sym (take-append-drop next t))
      ∙ drop-append-le place (take next t) (drop next t) (omega (arith, length-take next t, same_size, gate.size, change.size, fits))
      ∙ ap (λ (q : List ℕ). q ++ drop next t) (ap (λ (q : List ℕ). drop place q) same_head ∙ group) in
      record {
        spells = λ t same_size same_head.
            goes.spells t (same_size ∙ gate.size ∙ change.size) (same_front place next s t (omega arith) same_head ∙ front_is s gate)
            ∙ ap (λ (q : List ℕ). groups_from 0 m q) (tail_of t same_size same_head) ∙ opened body m rs (drop next t) short reads;
        ends = λ t same_size same_head.
            let before = goes.ends t (same_size ∙ gate.size ∙ change.size) (same_front place next s t (omega arith) same_head ∙ front_is s gate) in
            let behind = ap (λ (q : List ℕ). groups_length 0 q) (tail_of t same_size same_head) ∙ opened_length body (drop next t) short in
            omega (arith, before, behind);
        closed = λ is.
            let place_is : place + 1 + k ≡ next = omega arith in
            let there : (q : List ℕ) → get_or (drop (place + 1) q) k 0 ≡ get_or q next 0 = λ q. get_or-drop (place + 1) q k 0 ∙ ap (λ (j : ℕ). get_or q j 0) place_is in
            shut (sym (there r₁) ∙ ap (λ (q : List ℕ). get_or q k 0) (sym gate.after) ∙ there s ∙ is);
        within = omega (arith, fits, change.size, gate.size);
        behind = omega (arith, goes.behind);
      }
