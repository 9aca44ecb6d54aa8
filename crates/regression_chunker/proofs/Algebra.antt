use Rattle.std.proofs.Common.{ℕ, zero, suc, ◌+◌, ◌*◌, ◌/◌, ◌%◌, ◌^◌, ◌<◌, ◌≤◌, ◌⊎◌, inl, inr, bit_xor, List, [], ◌∷◌, ◌++◌, length, ◌≡◌, refl, sym, ◌∙◌, ap, subst, arith, lit<, lit≤}
use Rattle.std.proofs.Math.Nat.{mul_assoc, mul-one, pow-suc, mod-one, mod-eq_of_lt}
use Rattle.std.proofs.Math.Pow.{pow_mono}
use Rattle.std.specs.Int.{bit_at}
use Rattle.std.specs.Int.Bits.{xor_self, xor_zero_l, xor_zero_r, xor_assoc}
use Rattle.std.proofs.lemmas.Nat.{xor_comm, xor_lt, xor_shr, xor_mod, xor_block, mod-pow-add, mod_below, pow_pos}
use Rattle.regression_chunker.specs.Fingerprint.{times_x, times_x_to, with_bits, print_after}

-- ---- laws of xor that the kit has not

xor_of_doubles : (a b : ℕ) → bit_xor a b * 2 ≡ bit_xor (a * 2) (b * 2)
xor_of_doubles a b =
    let e : bit_xor (a * 2 ^ 1 + 0) (b * 2 ^ 1 + 0) ≡ bit_xor a b * 2 ^ 1 + bit_xor 0 0 = xor_block 1 a b 0 0 (lit< tt) (lit< tt) in
    let l : a * 2 + 0 ≡ a * 2 = omega arith in
    let r : b * 2 + 0 ≡ b * 2 = omega arith in
    let s : bit_xor a b * 2 + 0 ≡ bit_xor a b * 2 = omega arith in
    sym s ∙ sym e ∙ ap (λ x. bit_xor x (b * 2 + 0)) l ∙ ap (λ y. bit_xor (a * 2) y) r

-- the middle two of four change places
pub xor_swap : (a b c d : ℕ) → bit_xor (bit_xor a b) (bit_xor c d) ≡ bit_xor (bit_xor a c) (bit_xor b d)
xor_swap a b c d =
    xor_assoc a b (bit_xor c d)
    ∙ ap (λ x. bit_xor a x) (sym (xor_assoc b c d) ∙ ap (λ y. bit_xor y d) (xor_comm b c) ∙ xor_assoc c b d)
    ∙ sym (xor_assoc a c (bit_xor b d))

-- a term that stands twice falls out
pub xor_cancel : (a b : ℕ) → bit_xor (bit_xor a b) b ≡ a
xor_cancel a b = xor_assoc a b b ∙ ap (λ x. bit_xor a x) (xor_self b) ∙ xor_zero_r a

-- ---- one step

abbrev low : ℕ → ℕ
low v = v * 2 % 2 ^ 64

low_linear : (a b : ℕ) → low (bit_xor a b) ≡ bit_xor (low a) (low b)
low_linear a b = ap (λ x. x % 2 ^ 64) (xor_of_doubles a b) ∙ xor_mod (a * 2) (b * 2) 64

low_fits : (v : ℕ) → low v < 2 ^ 64
low_fits v = omega arith

top_bit : (v : ℕ) → v < 2 ^ 64 → (v / 2 ^ 63 ≡ 0) ⊎ (v / 2 ^ 63 ≡ 1)
top_bit v fits = grind arith

at_zero : (v : ℕ) → v / 2 ^ 63 ≡ 0 → times_x v ≡ low v
unfolding times_x
at_zero v is = rw is refl

at_one : (v : ℕ) → v / 2 ^ 63 ≡ 1 → times_x v ≡ bit_xor (low v) 27
unfolding times_x
at_one v is = rw is refl

pub times_fits : (v : ℕ) → v < 2 ^ 64 → times_x v < 2 ^ 64
times_fits v fits = elim (top_bit v fits) [
  | inl is ↦ rw (at_zero v is) (low_fits v)
  | inr is ↦ rw (at_one v is) (xor_lt 64 (low v) 27 (low_fits v) (lit< tt))
]

pub times_linear : (a b : ℕ) → a < 2 ^ 64 → b < 2 ^ 64 → times_x (bit_xor a b) ≡ bit_xor (times_x a) (times_x b)
times_linear a b la lb =
    let top : bit_xor a b / 2 ^ 63 ≡ bit_xor (a / 2 ^ 63) (b / 2 ^ 63) = xor_shr a b 63 in
    elim (top_bit a la) [
      | inl za ↦ elim (top_bit b lb) [
        | inl zb ↦ at_zero (bit_xor a b) (top ∙ rw (za, zb) refl) ∙ low_linear a b ∙ rw (at_zero a za, at_zero b zb) refl
        | inr ob ↦ at_one (bit_xor a b) (top ∙ rw (za, ob) refl) ∙ ap (λ x. bit_xor x 27) (low_linear a b)
            ∙ xor_assoc (low a) (low b) 27 ∙ rw (at_zero a za, at_one b ob) refl
      ]
      | inr oa ↦ elim (top_bit b lb) [
        | inl zb ↦ at_one (bit_xor a b) (top ∙ rw (oa, zb) refl) ∙ ap (λ x. bit_xor x 27) (low_linear a b)
            ∙ xor_assoc (low a) (low b) 27 ∙ ap (λ x. bit_xor (low a) x) (xor_comm (low b) 27) ∙ sym (xor_assoc (low a) 27 (low b))
            ∙ rw (at_one a oa, at_zero b zb) refl
        | inr ob ↦ at_zero (bit_xor a b) (top ∙ rw (oa, ob) refl) ∙ low_linear a b
            ∙ sym (rw (at_one a oa, at_one b ob) (xor_swap (low a) 27 (low b) 27 ∙ xor_zero_r (bit_xor (low a) (low b))))
      ]
    ]

-- ---- k steps

pub times_to_fits : (k v : ℕ) → v < 2 ^ 64 → times_x_to k v < 2 ^ 64
unfolding times_x_to
times_to_fits zero v fits = fits
times_to_fits (suc k) v fits = times_fits (times_x_to k v) (times_to_fits k v fits)

pub times_to_linear : (k a b : ℕ) → a < 2 ^ 64 → b < 2 ^ 64 → times_x_to k (bit_xor a b) ≡ bit_xor (times_x_to k a) (times_x_to k b)
unfolding times_x_to
times_to_linear zero a b la lb = refl
times_to_linear (suc k) a b la lb =
    ap times_x (times_to_linear k a b la lb)
    ∙ times_linear (times_x_to k a) (times_x_to k b) (times_to_fits k a la) (times_to_fits k b lb)

pub times_to_add : (k n v : ℕ) → times_x_to (k + n) v ≡ times_x_to k (times_x_to n v)
unfolding times_x_to
times_to_add zero n v = ap (λ m. times_x_to m v) (let e : 0 + n ≡ n = omega arith in e)
times_to_add (suc k) n v =
    ap (λ m. times_x_to m v) (let e : suc k + n ≡ suc (k + n) = omega arith in e) ∙ ap times_x (times_to_add k n v)

-- while no bit leaves at the top, a step doubles
pub times_to_small : (k v : ℕ) → v * 2 ^ k < 2 ^ 64 → times_x_to k v ≡ v * 2 ^ k
unfolding times_x_to
times_to_small zero v fits = sym (mul-one v)
times_to_small (suc k) v fits =
    let e : v * 2 ^ suc k ≡ v * 2 ^ k * 2 = ap (λ x. v * x) (pow-suc 2 k) ∙ sym (mul_assoc v (2 ^ k) 2) in
    let room : v * 2 ^ k * 2 < 2 ^ 64 = subst (λ x. x < 2 ^ 64) e fits in
    let less : v * 2 ^ k < 2 ^ 63 = omega (arith, room) in
    ap times_x (times_to_small k v (omega (arith, room)))
    ∙ at_zero (v * 2 ^ k) (omega (arith, less))
    ∙ mod-eq_of_lt room
    ∙ sym e

pub times_to_suc : (k v : ℕ) → times_x_to k (times_x v) ≡ times_x_to (suc k) v
unfolding times_x_to
times_to_suc zero v = refl
times_to_suc (suc k) v = ap times_x (times_to_suc k v)

-- ---- bits and bytes in

pub low_bits_join : (k b : ℕ) → bit_xor (bit_at b k * 2 ^ k) (b % 2 ^ k) ≡ b % 2 ^ suc k
low_bits_join k b =
    let fits : b % 2 ^ k < 2 ^ k = mod_below b (2 ^ k) (pow_pos k) in
    let block : bit_xor (bit_at b k * 2 ^ k + 0) (0 * 2 ^ k + b % 2 ^ k) ≡ bit_xor (bit_at b k) 0 * 2 ^ k + bit_xor 0 (b % 2 ^ k)
    = xor_block k (bit_at b k) 0 0 (b % 2 ^ k) (pow_pos k) fits in
    let l : bit_at b k * 2 ^ k + 0 ≡ bit_at b k * 2 ^ k = omega arith in
    let r : 0 * 2 ^ k + b % 2 ^ k ≡ b % 2 ^ k = omega arith in
    let joined : b % 2 ^ (1 + k) ≡ (b / 2 ^ k % 2 ^ 1) * 2 ^ k + b % 2 ^ k = mod-pow-add b 1 k in
    let one : 1 + k ≡ suc k = omega arith in
    ap (λ x. bit_xor x (b % 2 ^ k)) (sym l) ∙ ap (λ y. bit_xor (bit_at b k * 2 ^ k + 0) y) (sym r) ∙ block
    ∙ ap (λ x. x * 2 ^ k + b % 2 ^ k) (xor_zero_r (bit_at b k)) ∙ sym joined ∙ ap (λ n. b % 2 ^ n) one

pub bit_fits : (b k : ℕ) → bit_at b k < 2
bit_fits b k = mod_below (b / 2 ^ k) 2 (lit< tt)

pub bit_fits_64 : (b k : ℕ) → bit_at b k < 2 ^ 64
bit_fits_64 b k = let small : bit_at b k < 2 = bit_fits b k in omega (arith, small)

pub bit_cases : (bit : ℕ) → bit < 2 → (bit ≡ 0) ⊎ (bit ≡ 1)
bit_cases bit small = grind arith

bit_room : (k bit : ℕ) → suc k ≤ 64 → bit < 2 → bit * 2 ^ k < 2 ^ 64
bit_room k bit le small =
    let p : 2 ^ k ≤ 2 ^ 63 = pow_mono (let le63 : k ≤ 63 = omega (arith, le) in le63) in
    elim (bit_cases bit small) [
      | inl is ↦ rw is (let z : 0 * 2 ^ k ≡ 0 = omega arith in rw z (lit< tt))
      | inr is ↦ rw is (let z : 1 * 2 ^ k ≡ 2 ^ k = omega arith in rw z (omega (arith, p)))
    ]

bits_in_next : (k v b : ℕ) → suc k ≤ 64 → v < 2 ^ 64 →
    with_bits k (bit_xor (times_x v) (bit_at b k)) b ≡ bit_xor (times_x_to k (bit_xor (times_x v) (bit_at b k))) (b % 2 ^ k) →
    with_bits k (bit_xor (times_x v) (bit_at b k)) b ≡ bit_xor (times_x_to (suc k) v) (b % 2 ^ suc k)
bits_in_next k v b le fits rest =
    let bit : bit_at b k < 2 = bit_fits b k in
    let small : bit_at b k < 2 ^ 64 = omega (arith, bit) in
    let room : bit_at b k * 2 ^ k < 2 ^ 64 = bit_room k (bit_at b k) le bit in
    rest ∙ ap (λ x. bit_xor x (b % 2 ^ k)) (times_to_linear k (times_x v) (bit_at b k) (times_fits v fits) small
    ∙ ap (λ x. bit_xor x (times_x_to k (bit_at b k))) (times_to_suc k v)
    ∙ ap (λ x. bit_xor (times_x_to (suc k) v) x) (times_to_small k (bit_at b k) room))
    ∙ xor_assoc (times_x_to (suc k) v) (bit_at b k * 2 ^ k) (b % 2 ^ k)
    ∙ ap (λ x. bit_xor (times_x_to (suc k) v) x) (low_bits_join k b)

pub bits_in : (k v b : ℕ) → k ≤ 64 → v < 2 ^ 64 → with_bits k v b ≡ bit_xor (times_x_to k v) (b % 2 ^ k)
unfolding with_bits times_x_to
bits_in zero v b le fits = sym (xor_zero_r v) ∙ ap (λ x. bit_xor v x) (sym (mod-one b))
bits_in (suc k) v b le fits = bits_in_next k v b le fits (bits_in k (bit_xor (times_x v) (bit_at b k)) b (omega (arith, le)) (xor_lt 64 (times_x v) (bit_at b k) (times_fits v fits) (bit_fits_64 b k)))

-- ---- bytes in

pub byte_in : (v b : ℕ) → v < 2 ^ 64 → b < 256 → with_bits 8 v b ≡ bit_xor (times_x_to 8 v) b
byte_in v b fits small = bits_in 8 v b (lit≤ tt) fits ∙ ap (λ x. bit_xor (times_x_to 8 v) x) (mod-eq_of_lt small)

low_byte : (b : ℕ) → b % 2 ^ 8 < 2 ^ 64
low_byte b = omega arith

byte_in_fits : (v b : ℕ) → v < 2 ^ 64 → with_bits 8 v b < 2 ^ 64
byte_in_fits v b fits =
    rw (bits_in 8 v b (lit≤ tt) fits) (xor_lt 64 (times_x_to 8 v) (b % 2 ^ 8) (times_to_fits 8 v fits) (low_byte b))

pub print_fits : (v : ℕ) (bs : List ℕ) → v < 2 ^ 64 → print_after v bs < 2 ^ 64
unfolding print_after
print_fits v [] fits = fits
print_fits v (b ∷ bs) fits = print_fits (with_bits 8 v b) bs (byte_in_fits v b fits)

pub print_append : (v : ℕ) (bs cs : List ℕ) → print_after v (bs ++ cs) ≡ print_after (print_after v bs) cs
unfolding print_after
print_append v [] cs = refl
print_append v (b ∷ bs) cs = print_append (with_bits 8 v b) bs cs

pub print_one : (v b : ℕ) → print_after v (b ∷ []) ≡ with_bits 8 v b
unfolding print_after
print_one v b = refl

times_none : (v : ℕ) → times_x_to 0 v ≡ v
unfolding times_x_to
times_none v = refl

pub times_zero : (k : ℕ) → times_x_to k 0 ≡ 0
times_zero k = times_to_small k 0 (let z : 0 * 2 ^ k ≡ 0 = omega arith in rw z (lit< tt)) ∙ (let z : 0 * 2 ^ k ≡ 0 = omega arith in z)

zero_in : (b : ℕ) → with_bits 8 0 b ≡ b % 2 ^ 8
zero_in b = bits_in 8 0 b (lit≤ tt) (lit< tt) ∙ ap (λ x. bit_xor x (b % 2 ^ 8)) (times_zero 8) ∙ xor_zero_l (b % 2 ^ 8)

carries_next : (n v b p : ℕ) → v < 2 ^ 64 →
    bit_xor (times_x_to n (with_bits 8 v b)) p ≡ bit_xor (times_x_to (n + 8) v) (bit_xor (times_x_to n (with_bits 8 0 b)) p)
carries_next n v b p fits =
    ap (λ x. bit_xor x p)
    (ap (λ y. times_x_to n y) (bits_in 8 v b (lit≤ tt) fits)
    ∙ times_to_linear n (times_x_to 8 v) (b % 2 ^ 8) (times_to_fits 8 v fits) (low_byte b)
    ∙ ap (λ x. bit_xor x (times_x_to n (b % 2 ^ 8))) (sym (times_to_add n 8 v)))
    ∙ xor_assoc (times_x_to (n + 8) v) (times_x_to n (b % 2 ^ 8)) p
    ∙ ap (λ x. bit_xor (times_x_to (n + 8) v) (bit_xor (times_x_to n x) p)) (sym (zero_in b))

-- what stood before is carried along by a power of x
pub print_carries : (v : ℕ) (bs : List ℕ) → v < 2 ^ 64 → print_after v bs ≡ bit_xor (times_x_to (8 * length bs) v) (print_after 0 bs)
unfolding print_after
print_carries v [] fits = sym (ap (λ k. bit_xor (times_x_to k v) 0) (let z : 8 * 0 ≡ 0 = refl in z) ∙ xor_zero_r (times_x_to 0 v) ∙ times_none v)
print_carries v (b ∷ bs) fits =
    print_carries (with_bits 8 v b) bs (byte_in_fits v b fits)
    ∙ carries_next (8 * length bs) v b (print_after 0 bs) fits
    ∙ ap (λ k. bit_xor (times_x_to k v) (bit_xor (times_x_to (8 * length bs) (with_bits 8 0 b)) (print_after 0 bs)))
    (let e : 8 * length bs + 8 ≡ 8 * suc (length bs) = omega arith in e)
    ∙ ap (λ x. bit_xor (times_x_to (8 * suc (length bs)) v) x) (sym (print_carries (with_bits 8 0 b) bs (byte_in_fits 0 b (lit< tt))))

-- ---- a push by tables

-- eight steps at once: what leaves at the top is the product of the highest byte
pub top_leaves : (v : ℕ) → v < 2 ^ 64 → times_x_to 8 v ≡ bit_xor (v * 2 ^ 8 % 2 ^ 64) (times_x_to 64 (v / 2 ^ 56))
top_leaves v fits =
    let h : ℕ = v / 2 ^ 56 in
    let l : ℕ = v % 2 ^ 56 in
    let few : h < 2 ^ 8 = omega (arith, fits) in
    let low_is : l < 2 ^ 56 = omega arith in
    let room : h * 2 ^ 56 < 2 ^ 64 = omega (arith, few) in
    let room_low : l * 2 ^ 8 < 2 ^ 64 = omega (arith, low_is) in
    let fits_low : l < 2 ^ 64 = omega (arith, low_is) in
    let block : bit_xor (h * 2 ^ 56 + 0) (0 * 2 ^ 56 + l) ≡ bit_xor h 0 * 2 ^ 56 + bit_xor 0 l = xor_block 56 h 0 0 l (lit< tt) low_is in
    let parts : v ≡ bit_xor (h * 2 ^ 56) l =
    (let e : v ≡ h * 2 ^ 56 + l = omega arith in e)
    ∙ ap (λ x. x * 2 ^ 56 + l) (sym (xor_zero_r h)) ∙ sym block
    ∙ ap (λ x. bit_xor x (0 * 2 ^ 56 + l)) (let e : h * 2 ^ 56 + 0 ≡ h * 2 ^ 56 = omega arith in e)
    ∙ ap (λ x. bit_xor (h * 2 ^ 56) x) (let e : 0 * 2 ^ 56 + l ≡ l = omega arith in e) in
    let small_high : h * 2 ^ 56 ≡ times_x_to 56 h = sym (times_to_small 56 h room) in
    let left : l * 2 ^ 8 ≡ v * 2 ^ 8 % 2 ^ 64 = omega (arith, low_is, fits) in
    ap (λ x. times_x_to 8 x) parts
    ∙ times_to_linear 8 (h * 2 ^ 56) l room fits_low
    ∙ ap (λ x. bit_xor x (times_x_to 8 l)) (ap (λ x. times_x_to 8 x) small_high ∙ sym (times_to_add 8 56 h))
    ∙ ap (λ x. bit_xor (times_x_to 64 h) x) (times_to_small 8 l room_low ∙ left)
    ∙ xor_comm (times_x_to 64 h) (v * 2 ^ 8 % 2 ^ 64)

pub xor_last_two : (a b c : ℕ) → bit_xor (bit_xor a b) c ≡ bit_xor (bit_xor a c) b
xor_last_two a b c = xor_assoc a b c ∙ ap (λ x. bit_xor a x) (xor_comm b c) ∙ sym (xor_assoc a c b)

pub print_cons : (o : ℕ) (tail : List ℕ) → o < 256 → print_after 0 (o ∷ tail) ≡ bit_xor (times_x_to (8 * length tail) o) (print_after 0 tail)
unfolding print_after
print_cons o tail old =
    print_carries (with_bits 8 0 o) tail (byte_in_fits 0 o (lit< tt))
    ∙ ap (λ x. bit_xor (times_x_to (8 * length tail) x) (print_after 0 tail)) (zero_in o ∙ mod-eq_of_lt old)

-- s and h are the parts of eight steps, a the tail's eight steps, o the oldest byte's share
push_adds_up : (s h i o a : ℕ) → bit_xor s h ≡ bit_xor o a → bit_xor a i ≡ bit_xor (bit_xor s (bit_xor i o)) h
push_adds_up s h i o a e = sym (
    xor_last_two s (bit_xor i o) h
    ∙ ap (λ x. bit_xor x (bit_xor i o)) (e ∙ xor_comm o a)
    ∙ ap (λ x. bit_xor (bit_xor a o) x) (xor_comm i o)
    ∙ sym (xor_assoc (bit_xor a o) o i)
    ∙ ap (λ x. bit_xor x i) (xor_cancel a o))

-- the oldest byte falls out, a new one comes in
pub pushed : (o : ℕ) (tail : List ℕ) (i : ℕ) → o < 256 → i < 256 → length tail ≡ 47 →
    let v = print_after 0 (o ∷ tail) in
    print_after 0 (tail ++ i ∷ []) ≡ bit_xor (bit_xor (v * 2 ^ 8 % 2 ^ 64) (bit_xor i (times_x_to 384 o))) (times_x_to 64 (v / 2 ^ 56))
pushed o tail i old new long =
    let t : ℕ = print_after 0 tail in
    let v : ℕ = print_after 0 (o ∷ tail) in
    let fits : t < 2 ^ 64 = print_fits 0 tail (lit< tt) in
    let fits_v : v < 2 ^ 64 = print_fits 0 (o ∷ tail) (lit< tt) in
    let fits_o : o < 2 ^ 64 = omega (arith, old) in
    let bits : 8 * length tail ≡ 376 = omega (arith, long) in
    let is : v ≡ bit_xor (times_x_to 376 o) t = print_cons o tail old ∙ ap (λ k. bit_xor (times_x_to k o) t) bits in
    let eight : times_x_to 8 v ≡ bit_xor (times_x_to 384 o) (times_x_to 8 t) =
    ap (λ x. times_x_to 8 x) is
    ∙ times_to_linear 8 (times_x_to 376 o) t (times_to_fits 376 o fits_o) fits
    ∙ ap (λ x. bit_xor x (times_x_to 8 t)) (sym (times_to_add 8 376 o)) in
    print_append 0 tail (i ∷ []) ∙ print_one t i ∙ byte_in t i fits new
    ∙ push_adds_up (v * 2 ^ 8 % 2 ^ 64) (times_x_to 64 (v / 2 ^ 56)) i (times_x_to 384 o) (times_x_to 8 t)
    (sym (top_leaves v fits_v) ∙ eight)

-- ---- a table from its lower half

doubles : (v : ℕ) → v * 2 < 2 ^ 64 → times_x v ≡ v * 2
unfolding times_x_to
doubles v fits = times_to_small 1 v fits

pub entry_even : (k i : ℕ) → i < 128 → times_x (times_x_to k i) ≡ times_x_to k (2 * i)
unfolding times_x_to
entry_even k i few =
    sym (times_to_suc k i) ∙ ap (λ v. times_x_to k v) (doubles i (omega (arith, few)) ∙ (let e : i * 2 ≡ 2 * i = omega arith in e))

pub entry_odd : (k i : ℕ) → i < 128 → bit_xor (times_x (times_x_to k i)) (times_x_to k 1) ≡ times_x_to k (2 * i + 1)
entry_odd k i few =
    let block : bit_xor (i * 2 ^ 1 + 0) (0 * 2 ^ 1 + 1) ≡ bit_xor i 0 * 2 ^ 1 + bit_xor 0 1 = xor_block 1 i 0 0 1 (lit< tt) (lit< tt) in
    let joined : bit_xor (2 * i) 1 ≡ 2 * i + 1 =
    ap (λ x. bit_xor x 1) (let e : 2 * i ≡ i * 2 ^ 1 + 0 = omega arith in e) ∙ block
    ∙ ap (λ x. x * 2 ^ 1 + bit_xor 0 1) (xor_zero_r i) ∙ (let e : i * 2 ^ 1 + 1 ≡ 2 * i + 1 = omega arith in e) in
    ap (λ x. bit_xor x (times_x_to k 1)) (entry_even k i few)
    ∙ sym (times_to_linear k (2 * i) 1 (omega (arith, few)) (lit< tt))
    ∙ ap (λ v. times_x_to k v) joined
