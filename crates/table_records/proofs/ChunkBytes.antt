-- Records of the tables of chunks are read back from the bytes that spell them.
use Rattle.std.specs.Prelude.{◌≡◌, ◌≤◌, ◌<◌, ◌+◌, ◌-◌, ◌^◌, ℕ, zero, suc, List, [], ◌∷◌, ◌++◌, length, take, drop, get_or, slice_set, nat_lt, replicate, if◌then◌else◌, IsTrue, refl}
use borrow.Rule.Slice.PartMut.{put_mid}
use Rattle.std.proofs.Common.{sym, ◌∙◌, ap, arith, eq-eqb, length-append}
use Rattle.std.proofs.lemmas.List.{append-nil, append_assoc, take_at, drop_at, take_all, drop_all}
use Rattle.byteorder.specs.Endian.{big_bytes, big_number}
use Rattle.byteorder.specs.Numbers.{big_number-reads_back, length-bytes_high_first}
use Rattle.table_records.specs.declared.chunk_records.Row.{Row}
use Rattle.table_records.specs.declared.chunk_records.Container.{Container}
use Rattle.table_records.specs.Values.{has_length, row_in, row_bytes, container_in, container_bytes}

-- a number of one byte
pub one_byte : (n : ℕ) (b : List ℕ) → n < length b → get_or b n 0 ≡ big_number 1 (drop n b)
one_byte zero [] within = absurd (omega (arith, within))
one_byte zero (x ∷ b) within = omega arith
one_byte (suc n) [] within = absurd (omega (arith, within))
one_byte (suc n) (x ∷ b) within = one_byte n b (omega (arith, within))

pub container_size : (c : Container) → length (container_bytes c) ≡ 5
container_size c = omega (arith, length-bytes_high_first 4 c.used)

-- a container, whatever stands behind it
pub container_back : (c : Container) (out : List ℕ) → c.used < 256 ^ 4
    → container_in (take 5 (container_bytes c ++ out)) ≡ c
container_back c out fits =
    let size = container_size c in
    let kind : big_number 1 (container_bytes c) ≡ c.kind = omega arith in
    let used : big_number 4 (big_bytes 4 c.used) ≡ c.used = big_number-again 4 c.used fits in
    ap container_in (take_at (container_bytes c) out 5 size)
    ∙ (λ i. record {
      kind = if nat_lt (size i) 1 then 0 else kind i;
      used = if nat_lt (size i) 5 then 0 else used i;
    })
  where
    big_number-again : (n x : ℕ) → x < 256 ^ n → big_number n (big_bytes n x) ≡ x
    big_number-again n x fits = ap (λ (b : List ℕ). big_number n b) (sym (append-nil (big_bytes n x))) ∙ big_number-reads_back n x [] fits

pub row_size : (r : Row) → length r.digest ≡ 32 → length (row_bytes r) ≡ 50
row_size r digest =
    let redirect = length-bytes_high_first 8 r.redirect in
    let seen = length-bytes_high_first 4 r.seen in
    let long = length-bytes_high_first 4 r.length in
    let rest = length-append (big_bytes 4 r.seen) (big_bytes 8 r.redirect) in
    let more = length-append (big_bytes 4 r.length) (r.partition ∷ (big_bytes 4 r.seen ++ big_bytes 8 r.redirect)) in
    let all = length-append r.digest (big_bytes 4 r.length ++ (r.partition ∷ (big_bytes 4 r.seen ++ big_bytes 8 r.redirect))) in
    omega (arith, digest, redirect, seen, long, rest, more, all)

pub row_back : (r : Row) → length r.digest ≡ 32 → r.length < 256 ^ 4 → r.seen < 256 ^ 4 → r.redirect < 256 ^ 8
    → row_in (row_bytes r) ≡ r
row_back r digest length_fits seen_fits redirect_fits =
    let size = row_size r digest in
    (λ i. record {
      kind = if nat_lt (size i) 1 then 0 else kind i;
      digest = if nat_lt (size i) 33 then replicate 32 0 else taken i;
      length = if nat_lt (size i) 37 then 0 else long i;
      partition = if nat_lt (size i) 38 then 0 else part i;
      seen = if nat_lt (size i) 42 then 0 else seen i;
      redirect = if nat_lt (size i) 50 then 0 else redirect i;
    })
  where
    e : List ℕ
    e = big_bytes 8 r.redirect

    d : List ℕ
    d = big_bytes 4 r.seen ++ e

    c : List ℕ
    c = r.partition ∷ d

    b : List ℕ
    b = big_bytes 4 r.length ++ c

    kind : big_number 1 (row_bytes r) ≡ r.kind
    kind = omega arith

    taken : take 32 (r.digest ++ b) ≡ r.digest
    taken = take_at r.digest b 32 digest

    at_length : drop 32 (r.digest ++ b) ≡ b
    at_length = drop_at r.digest b 32 digest

    long : big_number 4 (drop 32 (r.digest ++ b)) ≡ r.length
    long = ap (λ (x : List ℕ). big_number 4 x) at_length ∙ big_number-reads_back 4 r.length c length_fits

    front : List ℕ
    front = r.digest ++ big_bytes 4 r.length

    front_size : length front ≡ 36
    front_size = omega (arith, digest, length-append r.digest (big_bytes 4 r.length), length-bytes_high_first 4 r.length)

    at_part : drop 36 (r.digest ++ b) ≡ c
    at_part = ap (λ (x : List ℕ). drop 36 x) (sym (append_assoc r.digest (big_bytes 4 r.length) c)) ∙ drop_at front c 36 front_size

    part : big_number 1 (drop 36 (r.digest ++ b)) ≡ r.partition
    part = ap (λ (x : List ℕ). big_number 1 x) at_part ∙ (omega arith)

    more : List ℕ
    more = front ++ (r.partition ∷ [])

    more_size : length more ≡ 37
    more_size = omega (arith, front_size, length-append front (r.partition ∷ []))

    as_more : r.digest ++ b ≡ more ++ d
    as_more = sym (append_assoc r.digest (big_bytes 4 r.length) c) ∙ sym (append_assoc front (r.partition ∷ []) d)

    at_seen : drop 37 (r.digest ++ b) ≡ d
    at_seen = ap (λ (x : List ℕ). drop 37 x) as_more ∙ drop_at more d 37 more_size

    seen : big_number 4 (drop 37 (r.digest ++ b)) ≡ r.seen
    seen = ap (λ (x : List ℕ). big_number 4 x) at_seen ∙ big_number-reads_back 4 r.seen e seen_fits

    most : List ℕ
    most = more ++ big_bytes 4 r.seen

    most_size : length most ≡ 41
    most_size = omega (arith, more_size, length-append more (big_bytes 4 r.seen), length-bytes_high_first 4 r.seen)

    at_redirect : drop 41 (r.digest ++ b) ≡ e
    at_redirect = ap (λ (x : List ℕ). drop 41 x) (as_more ∙ sym (append_assoc more (big_bytes 4 r.seen) e)) ∙ drop_at most e 41 most_size

    again : big_number 8 e ≡ r.redirect
    again = ap (λ (x : List ℕ). big_number 8 x) (sym (append-nil e)) ∙ big_number-reads_back 8 r.redirect [] redirect_fits

    redirect : big_number 8 (drop 41 (r.digest ++ b)) ≡ r.redirect
    redirect = ap (λ (x : List ℕ). big_number 8 x) at_redirect ∙ again

-- ---- writes behind what was written

-- bytes written behind a front of n bytes, over the first m of those that stood there
pub put_behind : (y front out back buf : List ℕ) (n m : ℕ) → y ≡ front ++ out → length front ≡ n
    → buf ≡ back ++ drop m (take (length y - n) (drop n y))
    → put_mid n (length y - n) y buf ≡ front ++ (back ++ drop m out)
put_behind y front out back buf n m is size written =
    let long : length y ≡ n + length out = omega (arith, ap (λ (l : List ℕ). length l) is, length-append front out, size) in
    let rest : drop n y ≡ out = ap (λ (l : List ℕ). drop n l) is ∙ drop_at front out n size in
    let short : length (drop n y) ≤ length y - n = omega (arith, ap (λ (l : List ℕ). length l) rest, long) in
    let front_is : take n y ≡ front = ap (λ (l : List ℕ). take n l) is ∙ take_at front out n size in
    let all : take (length y - n) (drop n y) ≡ out = take_all (length y - n) (drop n y) short ∙ rest in
    let none : drop (length y - n) (drop n y) ≡ [] = drop_all (length y - n) (drop n y) short in
    (λ i. front_is i ++ (written i ++ none i))
    ∙ (λ i. front ++ ((back ++ drop m (all i)) ++ []))
    ∙ ap (λ (l : List ℕ). front ++ l) (append-nil (back ++ drop m out))

pub drop_further : (n m : ℕ) (xs : List ℕ) → drop m (drop n xs) ≡ drop (n + m) xs
drop_further zero m xs = let same : m ≡ zero + m = omega arith in ap (λ (k : ℕ). drop k xs) same
drop_further (suc n) m [] = drop_all m [] (omega arith) ∙ sym (drop_all (suc n + m) [] (omega arith))
drop_further (suc n) m (x ∷ xs) =
    let same : suc (n + m) ≡ suc n + m = omega arith in
    drop_further n m xs ∙ ap (λ (k : ℕ). drop k (x ∷ xs)) same

-- a byte, and 32 behind it, over those that stood there
pub digest_put : (out digest : List ℕ) (kind : ℕ) → 37 ≤ length out → length digest ≡ 32
    → put_mid 1 32 (slice_set out 0 kind) digest ≡ (kind ∷ digest) ++ drop 33 out
digest_put [] digest kind room size = absurd (omega (arith, room))
digest_put (o ∷ out) digest kind room size = refl

-- what was spelled is as long as a row
pub whole_row : (r : Row) (out new : List ℕ) → length (row_bytes r) ≡ 50 → new ≡ row_bytes r ++ drop 50 out
    → IsTrue (has_length 50 (take 50 new))
whole_row r out new size is =
    eq-eqb (length (take 50 new)) 50
    (ap (λ (b : List ℕ). length (take 50 b)) is ∙ ap (λ (b : List ℕ). length b) (take_at (row_bytes r) (drop 50 out) 50 size) ∙ size)
