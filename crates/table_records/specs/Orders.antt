-- Keys compare as the bytes that spell them.
use Rattle.std.specs.Prelude.{◌≡◌, ◌&&◌, ◌^◌, ◌+◌, ◌*◌, ◌/◌, ◌%◌, ◌<◌, ℕ, zero, suc, Bool, true, false, List, [], ◌∷◌, ◌++◌, length, get_or, Option, Some, None, is_some, nat_eq, nat_lt, take, drop, if◌then◌else◌, refl}
use Rattle.std.proofs.Common.{sym, ◌∙◌, ap, subst, arith, rules, ltb-true, eqb-true}
use Rattle.std.specs.declared.cmp.Ordering.{Ordering}
use Rattle.std.specs.declared.cmp.Ordering.TheVariants.{Less, Equal, Greater}
use Rattle.std.specs.Ordering.{nat_cmp, ordering_then, MatchOrdering}
use Rattle.std.specs.Cmp.{IsTotalOrder, ranks, nat_cmp_is, nat_cmp_total, tied_itself, on_total}
use Rattle.std.specs.Cmp.Derive.{point_total}
use Rattle.std.specs.Cmp.Rules.{comparing}
use Rattle.std.specs.Cmp.Lexicographic.{pointwise, bytes_decides}
use Rattle.std.specs.Option.{unwrap_or}
use Rattle.std.specs.Int.{byte_at}
use Rattle.std.proofs.lemmas.List.{take-append-drop}
use Rattle.std.proofs.Math.Nat.{mod-eq_of_lt, mod-lt, div-one}
use Rattle.std.proofs.lemmas.Nat.{mod-pow-add, pow_pos, row_fits}
use Rattle.byteorder.specs.Endian.{big_bytes, big_number}
use Rattle.byteorder.specs.Numbers.{length-bytes_high_first}
use Rattle.byteorder.proofs.Bytes.{pow256}
use Rattle.byte_map.specs.Words.{bytes_cmp}
use Rattle.table_records.specs.declared.jobs.JobKind.{JobKind}
use Rattle.table_records.specs.declared.jobs.JobKind.TheVariants.{Optimization, GarbageCollection, Scrubbing, Unoptimization}
use Rattle.table_records.specs.Keys.{spelled_by, number_in, both, pair_in, nothing_in, all_in, kind_number, kind_of, kind_in, behind, single_cmp, pair_cmp, kind_cmp}
use Rattle.groundwork.proofs.Bytes.{low_bytes_cmp}

pub some_same : {A : Type 0} (x y : A) → Some x ≡ Some y → x ≡ y
some_same {A} x y e = ap (λ (o : Option A). unwrap_or o x) e

-- ---- numbers

number_bytes_cmp : (n x y : ℕ) → x < 256 ^ n → y < 256 ^ n → bytes_cmp (big_bytes n x) (big_bytes n y) ≡ nat_cmp x y
number_bytes_cmp n x y fits too =
    let same : (z : ℕ) → z < 256 ^ n → z % 2 ^ (8 * n) ≡ z =
    λ z small. mod-eq_of_lt {n = z} {m = 2 ^ (8 * n)} (subst (λ (m : ℕ). z < m) (pow256 n) small) in
    low_bytes_cmp n x y ∙ (λ i. nat_cmp (same x fits i) (same y too i))

-- a number that is read fits, and just these bytes spell it
pub spelled_means : (n : ℕ) (b : List ℕ) (x y : ℕ) → spelled_by n b x ≡ Some y → (y < 256 ^ n) × (big_bytes n y ≡ b)
spelled_means n b x y is = by (nat_lt x (256 ^ n)) (pointwise nat_eq (big_bytes n x) b) refl refl is
  where
    by : (s t : Bool) → nat_lt x (256 ^ n) ≡ s → pointwise nat_eq (big_bytes n x) b ≡ t
        → (if s && t then Some x else None) ≡ Some y → (y < 256 ^ n) × (big_bytes n y ≡ b)
    by true true p q e =
        let same : x ≡ y = some_same x y e in
        subst (λ (z : ℕ). (z < 256 ^ n) × (big_bytes n z ≡ b)) same (ltb-true x (256 ^ n) p, (bytes_decides (big_bytes n x) b).0 q)
    by true false p q e = absurd (cc)
    by false t p q e = absurd (cc)

pub number_means : (n : ℕ) (b : List ℕ) (x : ℕ) → number_in n b ≡ Some x → (x < 256 ^ n) × (big_bytes n x ≡ b)
number_means n b x is = spelled_means n b (big_number n b) x is

pub number_ordered : (n : ℕ) (b c : List ℕ) (j k : ℕ) → number_in n b ≡ Some j → number_in n c ≡ Some k → bytes_cmp b c ≡ nat_cmp j k
number_ordered n b c j k one two =
    let x = number_means n b j one in
    let y = number_means n c k two in
    (λ i. bytes_cmp (sym x.1 i) (sym y.1 i)) ∙ number_bytes_cmp n j k x.0 y.0

-- ---- two numbers

-- behind fronts of one length
fronts_cmp : (a b c d : List ℕ) → length a ≡ length b → bytes_cmp (a ++ c) (b ++ d) ≡ ordering_then (bytes_cmp a b) (bytes_cmp c d)
fronts_cmp [] [] c d same = refl
fronts_cmp [] (y ∷ b) c d same = absurd (omega (arith, same))
fronts_cmp (x ∷ a) [] c d same = absurd (omega (arith, same))
fronts_cmp (x ∷ a) (y ∷ b) c d same =
    ap (λ (r : Ordering). ordering_then (nat_cmp x y) r) (fronts_cmp a b c d (omega (arith, same))) ∙ grouped (nat_cmp x y)
  where
    grouped : (r : Ordering) → ordering_then r (ordering_then (bytes_cmp a b) (bytes_cmp c d)) ≡ ordering_then (ordering_then r (bytes_cmp a b)) (bytes_cmp c d)
    grouped Less = refl
    grouped Equal = refl
    grouped Greater = refl

both_means : (o p : Option ℕ) (x y : ℕ) → both o p ≡ Some (x, y) → (o ≡ Some x) × (p ≡ Some y)
both_means None p x y is = absurd (cc)
both_means (Some a) None x y is = absurd (cc)
both_means (Some a) (Some b) x y is =
    let same : (a, b) ≡ (x, y) = some_same (a, b) (x, y) is in
    (ap (λ (q : ℕ × ℕ). Some q.0) same, ap (λ (q : ℕ × ℕ). Some q.1) same)

pair_means : (n k : ℕ) (b : List ℕ) (x y : ℕ) → pair_in n k b ≡ Some (x, y) → (x < 256 ^ n) × (y < 256 ^ k) × (b ≡ big_bytes n x ++ big_bytes k y)
pair_means n k b x y is =
    let parts = both_means (number_in n (take n b)) (number_in k (drop n b)) x y is in
    let front = number_means n (take n b) x parts.0 in
    let back = number_means k (drop n b) y parts.1 in
    (front.0, back.0, sym (take-append-drop n b) ∙ (λ i. sym front.1 i ++ sym back.1 i))

pub pair_ordered : (n k : ℕ) (b c : List ℕ) (p q : ℕ × ℕ) → pair_in n k b ≡ Some p → pair_in n k c ≡ Some q → bytes_cmp b c ≡ pair_cmp p q
pair_ordered n k b c (x, v) (y, w) one two =
    let left = pair_means n k b x v one in
    let right = pair_means n k c y w two in
    (λ i. bytes_cmp (left.2 i) (right.2 i))
    ∙ fronts_cmp (big_bytes n x) (big_bytes n y) (big_bytes k v) (big_bytes k w) (length-bytes_high_first n x ∙ sym (length-bytes_high_first n y))
    ∙ (λ i. ordering_then (number_bytes_cmp n x y left.0 right.0 i) (number_bytes_cmp k v w left.1 right.1 i))

pub pair_total : IsTotalOrder pair_cmp
pair_total = search (comparing, rules)

-- ---- nothing, any bytes, a kind

pub nothing_ordered : (b c : List ℕ) (j k : Unit {0}) → nothing_in b ≡ Some j → nothing_in c ≡ Some k → bytes_cmp b c ≡ single_cmp j k
nothing_ordered [] [] j k one two = refl
nothing_ordered [] (y ∷ c) j k one two = absurd (cc)
nothing_ordered (x ∷ b) c j k one two = absurd (cc)

pub single_total : IsTotalOrder single_cmp
single_total = point_total

pub all_ordered : (b c j k : List ℕ) → all_in b ≡ Some j → all_in c ≡ Some k → bytes_cmp b c ≡ bytes_cmp j k
all_ordered b c j k one two = λ i. bytes_cmp (some_same b j one i) (some_same c k two i)

pub kind_means : (n : ℕ) (k : JobKind) → kind_of n ≡ Some k → n ≡ kind_number k
kind_means n k is = by (nat_eq n 1) (nat_eq n 2) (nat_eq n 3) (nat_eq n 4) refl refl refl refl is
  where
    named : (j : JobKind) → n ≡ kind_number j → Some j ≡ Some k → n ≡ kind_number k
    named j number same = number ∙ ap kind_number (some_same j k same)

    by : (p q r s : Bool) → nat_eq n 1 ≡ p → nat_eq n 2 ≡ q → nat_eq n 3 ≡ r → nat_eq n 4 ≡ s
        → (if p then Some Optimization else if q then Some GarbageCollection else if r then Some Scrubbing else if s then Some Unoptimization else None) ≡ Some k
        → n ≡ kind_number k
    by true q r s e1 e2 e3 e4 same = named Optimization (eqb-true n 1 e1) same
    by false true r s e1 e2 e3 e4 same = named GarbageCollection (eqb-true n 2 e2) same
    by false false true s e1 e2 e3 e4 same = named Scrubbing (eqb-true n 3 e3) same
    by false false false true e1 e2 e3 e4 same = named Unoptimization (eqb-true n 4 e4) same
    by false false false false e1 e2 e3 e4 same = absurd (cc)

then_equal : (r : Ordering) → ordering_then r Equal ≡ r
then_equal Less = refl
then_equal Equal = refl
then_equal Greater = refl

pub kind_ordered : (b c : List ℕ) (j k : JobKind) → kind_in b ≡ Some j → kind_in c ≡ Some k → bytes_cmp b c ≡ kind_cmp j k
kind_ordered [] c j k one two = absurd (cc)
kind_ordered (x ∷ []) [] j k one two = absurd (cc)
kind_ordered (x ∷ []) (y ∷ []) j k one two =
    then_equal (nat_cmp x y) ∙ (λ i. nat_cmp (kind_means x j one i) (kind_means y k two i))
kind_ordered (x ∷ []) (y ∷ z ∷ c) j k one two = absurd (cc)
kind_ordered (x ∷ z ∷ b) c j k one two = absurd (cc)

pub kind_total : IsTotalOrder kind_cmp
kind_total = on_total kind_number nat_cmp_total

-- ---- behind the number of a table

module _ {K : Type 0} (number : ℕ) (read : List ℕ → Option K) where
  pub behind_means : (b : List ℕ) (k : K) → behind number read b ≡ Some k → (rest : List ℕ) × (b ≡ number ∷ rest) × (read rest ≡ Some k)
  behind_means [] k is = absurd (cc)
  behind_means (f ∷ rest) k is = by (nat_eq f number) refl is
    where
      by : (t : Bool) → nat_eq f number ≡ t → (if t then read rest else None) ≡ Some k → (r : List ℕ) × (f ∷ rest ≡ number ∷ r) × (read r ≡ Some k)
      by true p e = (rest, ap (λ (x : ℕ). x ∷ rest) (eqb-true f number p), e)
      by false p e = absurd (cc)

  pub behind_numbered : (b : List ℕ) (k : K) → behind number read b ≡ Some k → get_or b 0 0 ≡ number
  behind_numbered b k is = ap (λ (l : List ℕ). get_or l 0 0) (behind_means b k is).1

  pub behind_ordered : (cmp : K → K → Ordering) → ((b c : List ℕ) (j k : K) → read b ≡ Some j → read c ≡ Some k → bytes_cmp b c ≡ cmp j k)
      → (b c : List ℕ) (j k : K) → behind number read b ≡ Some j → behind number read c ≡ Some k → bytes_cmp b c ≡ cmp j k
  behind_ordered cmp ordered b c j k one two =
      let p = behind_means b j one in
      let q = behind_means c k two in
      (λ i. bytes_cmp (p.1 i) (q.1 i))
      ∙ ap (λ (o : Ordering). ordering_then o (bytes_cmp p.0 q.0)) (tied_itself nat_cmp_total number)
      ∙ ordered p.0 q.0 j k p.2 q.2

-- bytes that are a key, as a test, begin with the number
pub key_numbered : {K : Type 0} (number : ℕ) (read : List ℕ → Option K)
    → ((b : List ℕ) (k : K) → read b ≡ Some k → get_or b 0 0 ≡ number)
    → (b : List ℕ) → is_some (read b) ≡ true → get_or b 0 0 ≡ number
key_numbered {K} number read numbered b is = by (read b) refl is
  where
    by : (o : Option K) → read b ≡ o → is_some o ≡ true → get_or b 0 0 ≡ number
    by None e some = absurd (cc)
    by (Some k) e some = numbered b k e
