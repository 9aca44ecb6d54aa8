-- Lists of entries and their bytes.
use Rattle.std.specs.Prelude.{◌≡◌, ◌+◌, ◌*◌, ◌/◌, ◌<◌, ◌≤◌, ℕ, zero, suc, All, List, [], ◌∷◌, ◌++◌, length, get_or, take, drop, refl}
use Rattle.std.proofs.Common.{sym, ◌∙◌, ap, arith, length-append, length-take, length-drop}
use Rattle.std.proofs.lemmas.List.{append-nil, take-append-drop, drop_at}
use Rattle.byteorder.specs.Endian.{big_bytes, big_number}
use Rattle.byteorder.specs.Numbers.{big_from-append, big_number-reads_back, length-bytes_high_first}
use Rattle.stream_map.specs.declared.entry.Entry.{Entry}
use Rattle.stream_map.specs.Entries.{bytes_of, entry_of}
use Rattle.stream_map.specs.Pieces.{Fits, spell, first_entries, entries_in}
use Rattle.stream_map.proofs.Bytes.{spelled_pair, byte_in_front, byte_behind}

drop_joined : (n : ℕ) (front back : List ℕ) → n ≤ length front → drop n (front ++ back) ≡ drop n front ++ back
drop_joined zero front back low = refl
drop_joined (suc n) [] back low = absurd (omega (arith, low))
drop_joined (suc n) (x ∷ front) back low = drop_joined n front back (omega (arith, low))

-- what stands behind the first twelve bytes does not matter
entry_joined : (front back : List ℕ) → 12 ≤ length front → entry_of (front ++ back) ≡ entry_of front
entry_joined front back low =
    let id : big_number 8 (front ++ back) ≡ big_number 8 front = big_from-append 8 front back (omega (arith, low)) in
    let len : big_number 4 (drop 8 (front ++ back)) ≡ big_number 4 (drop 8 front) =
    ap (λ (l : List ℕ). big_number 4 l) (drop_joined 8 front back (omega (arith, low)))
    ∙ big_from-append 4 (drop 8 front) back (omega (arith, low, length-drop 8 front)) in
    λ i. record { id = id i; length = len i }

size_of : (e : Entry) → length (bytes_of e) ≡ 12
size_of e =
    let front = length-bytes_high_first 8 e.id in
    let back = length-bytes_high_first 4 e.length in
    length-append (big_bytes 8 e.id) (big_bytes 4 e.length) ∙ (λ i. front i + back i)

entry_back : (e : Entry) → Fits e → entry_of (bytes_of e) ≡ e
entry_back e fits =
    let id : big_number 8 (bytes_of e) ≡ e.id = big_number-reads_back 8 e.id (big_bytes 4 e.length) fits.0 in
    let tail : drop 8 (bytes_of e) ≡ big_bytes 4 e.length = drop_at (big_bytes 8 e.id) (big_bytes 4 e.length) 8 (length-bytes_high_first 8 e.id) in
    let len : big_number 4 (drop 8 (bytes_of e)) ≡ e.length =
    ap (λ (l : List ℕ). big_number 4 l) (tail ∙ sym (append-nil (big_bytes 4 e.length))) ∙ big_number-reads_back 4 e.length [] fits.1 in
    λ i. record { id = id i; length = len i }

size_spelled : (es : List Entry) → length (spell es) ≡ 12 * length es
size_spelled [] = refl
size_spelled (e ∷ es) = omega (arith, length-append (bytes_of e) (spell es), size_of e, size_spelled es)

pub entries_counted : (n : ℕ) (b : List ℕ) → length b ≡ 12 * n → entries_in b ≡ first_entries n b
entries_counted n b size =
    let count : length b / 12 ≡ n = omega (arith, size) in
    ap (λ (m : ℕ). first_entries m b) count

first_back : (es : List Entry) → All Fits es → first_entries (length es) (spell es) ≡ es
first_back [] all = refl
first_back (e ∷ es) all =
    let fits : Fits e = all 0 e (omega arith) in
    let one : entry_of (bytes_of e ++ spell es) ≡ e = entry_joined (bytes_of e) (spell es) (omega (arith, size_of e)) ∙ entry_back e fits in
    let rest : drop 12 (bytes_of e ++ spell es) ≡ spell es = drop_at (bytes_of e) (spell es) 12 (size_of e) in
    let more : first_entries (length es) (drop 12 (bytes_of e ++ spell es)) ≡ es =
    ap (λ (b : List ℕ). first_entries (length es) b) rest ∙ first_back es (λ k d low. all (suc k) d (omega (arith, low))) in
    λ i. one i ∷ more i

pub entries_back : (es : List Entry) → All Fits es → entries_in (spell es) ≡ es
entries_back es all = entries_counted (length es) (spell es) (size_spelled es) ∙ first_back es all

nothing_left : (b : List ℕ) → length b ≡ 0 → b ≡ []
nothing_left [] size = refl
nothing_left (x ∷ b) size = absurd (omega (arith, size))

first_spelled : (n : ℕ) (b : List ℕ) → length b ≡ 12 * n → ((i : ℕ) → get_or b i 0 < 256) → spell (first_entries n b) ≡ b
first_spelled zero b size bytes = sym (nothing_left b (omega (arith, size)))
first_spelled (suc n) b size bytes =
    let front : length (take 12 b) ≡ 12 = omega (arith, size, length-take 12 b) in
    let back : length (drop 12 b) ≡ 12 * n = omega (arith, size, length-drop 12 b) in
    let one : entry_of b ≡ entry_of (take 12 b) =
    ap (λ (l : List ℕ). entry_of l) (sym (take-append-drop 12 b)) ∙ entry_joined (take 12 b) (drop 12 b) (omega (arith, front)) in
    let here : bytes_of (entry_of b) ≡ take 12 b =
    ap (λ (e : Entry). bytes_of e) one ∙ spelled_pair 8 4 (take 12 b) front (λ i. byte_in_front 12 i b bytes) in
    let rest : spell (first_entries n (drop 12 b)) ≡ drop 12 b = first_spelled n (drop 12 b) back (λ i. byte_behind 12 i b bytes) in
    (λ i. here i ++ rest i) ∙ take-append-drop 12 b

pub entries_spelled : (n : ℕ) (b : List ℕ) → length b ≡ 12 * n → ((i : ℕ) → get_or b i 0 < 256) → spell (entries_in b) ≡ b
entries_spelled n b size bytes = ap (λ (es : List Entry). spell es) (entries_counted n b size) ∙ first_spelled n b size bytes

first_count : (n : ℕ) (b : List ℕ) → length (first_entries n b) ≡ n
first_count zero b = refl
first_count (suc n) b = ap (λ (m : ℕ). suc m) (first_count n (drop 12 b))

pub entries_count : (n : ℕ) (b : List ℕ) → length b ≡ 12 * n → length (entries_in b) ≡ n
entries_count n b size = ap (λ (es : List Entry). length es) (entries_counted n b size) ∙ first_count n b

first_joined : (n m : ℕ) (front back : List ℕ) → length front ≡ 12 * n → first_entries (n + m) (front ++ back) ≡ first_entries n front ++ first_entries m back
first_joined zero m front back size =
    let count : 0 + m ≡ m = omega arith in
    let none : front ≡ [] = nothing_left front (omega (arith, size)) in
    λ i. first_entries (count i) (none i ++ back)
first_joined (suc n) m front back size =
    let one : entry_of (front ++ back) ≡ entry_of front = entry_joined front back (omega (arith, size)) in
    let rest : first_entries (n + m) (drop 12 (front ++ back)) ≡ first_entries n (drop 12 front) ++ first_entries m back =
    ap (λ (l : List ℕ). first_entries (n + m) l) (drop_joined 12 front back (omega (arith, size)))
    ∙ first_joined n m (drop 12 front) back (omega (arith, size, length-drop 12 front)) in
    let count : suc n + m ≡ suc (n + m) = omega arith in
    ap (λ (k : ℕ). first_entries k (front ++ back)) count ∙ (λ i. one i ∷ rest i)

pub entries_joined : (n : ℕ) (front back : List ℕ) → length front ≡ 12 * n → entries_in (front ++ back) ≡ entries_in front ++ entries_in back
entries_joined n front back size =
    let count : length (front ++ back) / 12 ≡ n + length back / 12 = omega (arith, size, length-append front back) in
    ap (λ (m : ℕ). first_entries m (front ++ back)) count ∙ first_joined n (length back / 12) front back size
    ∙ ap (λ (es : List Entry). es ++ entries_in back) (sym (entries_counted n front size))
