-- What is spelled is read back, and what code reads is what a key spells.
use Rattle.std.specs.Prelude.{◌≡◌, ◌&&◌, ◌⊎◌, ◌^◌, ◌+◌, ◌*◌, ◌%◌, ◌<◌, ℕ, zero, suc, Bool, true, false, cond, List, [], ◌∷◌, ◌++◌, length, get_or, Option, Some, None, nat_eq, nat_lt, take, drop, if◌then◌else◌, refl}
use Rattle.std.proofs.Common.{sym, ◌∙◌, ap, subst, inl, inr, arith, lt-ltb, eqb-true, eq-eqb, length-take, length-drop}
use Rattle.std.specs.Ordering.{nat_cmp}
use Rattle.std.specs.Cmp.{nat_cmp_total, tied_itself}
use Rattle.std.specs.Cmp.Lexicographic.{pointwise, bytes_decides, unequal}
use Rattle.std.proofs.lemmas.List.{append-nil, take_at, drop_at, get_or-take, get_or-drop, get_or_past}
use Rattle.std.proofs.lemmas.Bool.{cases_lt}
use Rattle.std.proofs.lemmas.Map.Lookups.{exact_bytes}
use Rattle.std.specs.Int.{byte_at}
use Rattle.std.proofs.Math.Nat.{mod-eq_of_lt}
use Rattle.std.proofs.lemmas.Nat.{shr_high, mod_low}
use Rattle.byteorder.specs.Endian.{big_bytes, big_number}
use Rattle.byteorder.specs.Numbers.{big_number-reads_back, length-bytes_high_first, big_from-lt, big_from-cons, big_from-take}
use Rattle.byteorder.proofs.Bytes.{pow256}
use Rattle.table_records.specs.Keys.{spelled_by, number_in, both, pair_in, number_key, pair_key}
use Rattle.groundwork.proofs.Bytes.{byte_at_is, low_bytes_cmp}
use Rattle.groundwork.proofs.Bytes.{spelled_again}

-- ---- from numbers to bytes

by_itself : (n x : ℕ) → x < 256 ^ n → spelled_by n (big_bytes n x) x ≡ Some x
by_itself n x fits =
    let here : nat_lt x (256 ^ n) ≡ true = lt-ltb x (256 ^ n) fits in
    let same : pointwise nat_eq (big_bytes n x) (big_bytes n x) ≡ true = (bytes_decides (big_bytes n x) (big_bytes n x)).1 refl in
    λ i. cond (here i && same i) (Some x) None

pub number_spelled : (n x : ℕ) → x < 256 ^ n → number_in n (big_bytes n x) ≡ Some x
number_spelled n x fits =
    let back : big_number n (big_bytes n x) ≡ x = ap (λ (b : List ℕ). big_number n b) (sym (append-nil (big_bytes n x))) ∙ big_number-reads_back n x [] fits in
    ap (λ (y : ℕ). spelled_by n (big_bytes n x) y) back ∙ by_itself n x fits

pub number_key_spelled : (table n x : ℕ) → x < 256 ^ n → number_key table n (table ∷ big_bytes n x) ≡ Some x
number_key_spelled table n x fits =
    ap (λ (t : Bool). cond t (number_in n (big_bytes n x)) None) (eq-eqb table table refl) ∙ number_spelled n x fits

pub pair_key_spelled : (table n k x y : ℕ) → x < 256 ^ n → y < 256 ^ k → pair_key table n k (table ∷ (big_bytes n x ++ big_bytes k y)) ≡ Some (x, y)
pair_key_spelled table n k x y fits too =
    let spelled : List ℕ = big_bytes n x ++ big_bytes k y in
    let front : take n spelled ≡ big_bytes n x = take_at (big_bytes n x) (big_bytes k y) n (length-bytes_high_first n x) in
    let back : drop n spelled ≡ big_bytes k y = drop_at (big_bytes n x) (big_bytes k y) n (length-bytes_high_first n x) in
    ap (λ (t : Bool). cond t (pair_in n k spelled) None) (eq-eqb table table refl)
    ∙ (λ i. both (number_in n (front i)) (number_in k (back i)))
    ∙ (λ i. both (number_spelled n x fits i) (number_spelled k y too i))

-- ---- from bytes to numbers

number_known : (n : ℕ) (b : List ℕ) → length b ≡ n → ((i : ℕ) → get_or b i 0 < 256) → number_in n b ≡ Some (big_number n b)
number_known n b size bytes =
    ap (λ (c : List ℕ). spelled_by n c (big_number n b)) (sym (spelled_again n b size bytes)) ∙ by_itself n (big_number n b) (big_from-lt 0 n b bytes)

-- bytes of another length spell no number
number_unfit : (n : ℕ) (b : List ℕ) → (length b ≡ n → ⊥) → number_in n b ≡ None
number_unfit n b other =
    let no : pointwise nat_eq (big_bytes n (big_number n b)) b ≡ false =
    unequal nat_eq (big_bytes n (big_number n b)) b (λ e. other (sym e ∙ length-bytes_high_first n (big_number n b))) in
    ap (λ (t : Bool). if nat_lt (big_number n b) (256 ^ n) && t then Some (big_number n b) else None) no ∙ by (nat_lt (big_number n b) (256 ^ n))
  where
    by : (t : Bool) → (if t && false then Some (big_number n b) else None) ≡ None
    by true = refl
    by false = refl

pub number_key_known : (table n : ℕ) (b : List ℕ) → length b ≡ n + 1 → get_or b 0 0 ≡ table → ((i : ℕ) → get_or b i 0 < 256)
    → number_key table n b ≡ Some (big_number n (drop 1 b))
number_key_known table n [] size first bytes = absurd (omega (arith, size))
number_key_known table n (x ∷ b) size first bytes =
    ap (λ (t : Bool). if t then number_in n b else None) (eq-eqb x table first) ∙ number_known n b (omega (arith, size)) (λ i. bytes (suc i))

pub number_key_none : (table n : ℕ) (b : List ℕ) → (length b ≡ n + 1 → get_or b 0 0 ≡ table → ⊥) → number_key table n b ≡ None
number_key_none table n [] other = refl
number_key_none table n (x ∷ b) other = by (nat_eq x table) refl
  where
    by : (t : Bool) → nat_eq x table ≡ t → (if t then number_in n b else None) ≡ None
    by true e = number_unfit n b (λ size. other (omega (arith, size)) (eqb-true x table e))
    by false e = refl

pub front_byte : (m : ℕ) (b : List ℕ) (i : ℕ) → get_or b i 0 < 256 → get_or (take m b) i 0 < 256
front_byte m b i low = elim (cases_lt i m) [
  | inl less ↦ subst (λ (y : ℕ). y < 256) (sym (get_or-take m b i 0 less)) low
  | inr more ↦ subst (λ (y : ℕ). y < 256) (sym (get_or_past (take m b) i 0 (omega (arith, more, length-take m b)))) (omega arith)
]

pub pair_key_known : (table n k : ℕ) (b : List ℕ) → length b ≡ n + k + 1 → get_or b 0 0 ≡ table → ((i : ℕ) → get_or b i 0 < 256)
    → pair_key table n k b ≡ Some (big_number n (drop 1 b), big_number k (drop (n + 1) b))
pair_key_known table n k [] size first bytes = absurd (omega (arith, size))
pair_key_known table n k (x ∷ b) size first bytes =
    let front : number_in n (take n b) ≡ Some (big_number n b) =
    number_known n (take n b) (omega (arith, size, length-take n b)) (λ i. front_byte n b i (bytes (suc i)))
    ∙ ap (λ (y : ℕ). Some y) (big_from-take 0 n n b (omega arith)) in
    let back : number_in k (drop n b) ≡ Some (big_number k (drop n b)) =
    number_known k (drop n b) (omega (arith, size, length-drop n b)) (λ i. subst (λ (y : ℕ). y < 256) (sym (get_or-drop n b i 0)) (bytes (suc (n + i)))) in
    let step : n + 1 ≡ suc n = omega arith in
    ap (λ (t : Bool). if t then pair_in n k b else None) (eq-eqb x table first)
    ∙ (λ i. both (front i) (back i)) ∙ ap (λ (m : ℕ). Some (big_number n b, big_number k (drop m (x ∷ b)))) (sym step)

one_missing : (o p : Option ℕ) → (o ≡ None) ⊎ (p ≡ None) → both o p ≡ None
one_missing None p h = refl
one_missing (Some y) None h = refl
one_missing (Some y) (Some z) (inl e) = absurd (cc)
one_missing (Some y) (Some z) (inr e) = absurd (cc)

pair_unfit : (n k : ℕ) (b : List ℕ) → (length b ≡ n + k → ⊥) → pair_in n k b ≡ None
pair_unfit n k b other = one_missing (number_in n (take n b)) (number_in k (drop n b)) (elim (cases_lt (length b) n) [
  | inl short ↦ inl (number_unfit n (take n b) (λ size. omega (arith, short, size, length-take n b)))
  | inr long ↦ inr (number_unfit k (drop n b) (λ size. other (omega (arith, long, size, length-drop n b))))
])

pub pair_key_none : (table n k : ℕ) (b : List ℕ) → (length b ≡ n + k + 1 → get_or b 0 0 ≡ table → ⊥) → pair_key table n k b ≡ None
pair_key_none table n k [] other = refl
pair_key_none table n k (x ∷ b) other = by (nat_eq x table) refl
  where
    by : (t : Bool) → nat_eq x table ≡ t → (if t then pair_in n k b else None) ≡ None
    by true e = pair_unfit n k b (λ size. other (omega (arith, size)) (eqb-true x table e))
    by false e = refl
