use Rattle.std.proofs.Common.{ℕ, ◌+◌, ◌-◌, ◌*◌, ◌/◌, ◌%◌, ◌^◌, ◌<◌, ◌≤◌, bit_xor, ◌≡◌, refl, sym, ◌∙◌, ap, subst, arith, lit<}
use Rattle.std.specs.Int.RustNames.{bit_or}
use Rattle.std.specs.Int.Bits.{xor_self, xor_zero_l, xor_zero_r, xor_assoc}
use Rattle.std.proofs.lemmas.Nat.{xor_comm, xor_lt, xor_shr, xor_mod, xor_block, or_shifted}
use Rattle.regression_chunker.specs.Fingerprint.{times_x_to}
use Rattle.regression_chunker.specs.Tables.{push_of, complement_of}
use Rattle.regression_chunker.proofs.Algebra.{xor_swap, xor_cancel, xor_last_two}

abbrev ones : ℕ
ones = 0xffff_ffff_ffff_ffff

-- what a turn by a byte leaves in place, and what it brings round
abbrev up : ℕ → ℕ
up v = v * 2 ^ 8 % 2 ^ 64

abbrev round : ℕ → ℕ
round v = v / 2 ^ 56

up_linear : (a b : ℕ) → up (bit_xor a b) ≡ bit_xor (up a) (up b)
up_linear a b =
    let block : bit_xor (a * 2 ^ 8 + 0) (b * 2 ^ 8 + 0) ≡ bit_xor a b * 2 ^ 8 + bit_xor 0 0 = xor_block 8 a b 0 0 (lit< tt) (lit< tt) in
    let l : a * 2 ^ 8 + 0 ≡ a * 2 ^ 8 = omega arith in
    let r : b * 2 ^ 8 + 0 ≡ b * 2 ^ 8 = omega arith in
    let s : bit_xor a b * 2 ^ 8 + 0 ≡ bit_xor a b * 2 ^ 8 = omega arith in
    ap (λ x. x % 2 ^ 64) (sym s ∙ sym block ∙ ap (λ x. bit_xor x (b * 2 ^ 8 + 0)) l ∙ ap (λ y. bit_xor (a * 2 ^ 8) y) r)
    ∙ xor_mod (a * 2 ^ 8) (b * 2 ^ 8) 64

-- a turn, as a sum and as a xor
pub turn_sum : (v : ℕ) → v < 2 ^ 64 → bit_or (up v) (round v) ≡ up v + round v
turn_sum v fits =
    let l : ℕ = v % 2 ^ 56 in
    let high : up v ≡ l * 2 ^ 8 = omega arith in
    let small : round v < 2 ^ 8 = omega (arith, fits) in
    ap (λ x. bit_or x (round v)) high ∙ or_shifted l 8 (round v) small ∙ ap (λ x. x + round v) (sym high)

turn_xor : (v : ℕ) → v < 2 ^ 64 → up v + round v ≡ bit_xor (up v) (round v)
turn_xor v fits =
    let l : ℕ = v % 2 ^ 56 in
    let high : up v ≡ l * 2 ^ 8 = omega arith in
    let small : round v < 2 ^ 8 = omega (arith, fits) in
    let block : bit_xor (l * 2 ^ 8 + 0) (0 * 2 ^ 8 + round v) ≡ bit_xor l 0 * 2 ^ 8 + bit_xor 0 (round v) =
    xor_block 8 l 0 0 (round v) (lit< tt) small in
    let a : l * 2 ^ 8 + 0 ≡ up v = omega (arith, high) in
    let b : 0 * 2 ^ 8 + round v ≡ round v = omega arith in
    ap (λ x. x + round v) high ∙ ap (λ x. x * 2 ^ 8 + round v) (sym (xor_zero_r l))
    ∙ ap (λ x. bit_xor l 0 * 2 ^ 8 + x) (sym (xor_zero_l (round v)))
    ∙ sym block ∙ ap (λ x. bit_xor x (0 * 2 ^ 8 + round v)) a ∙ ap (λ x. bit_xor (up v) x) b

pub complement_fits : (v : ℕ) → v < 2 ^ 64 → complement_of v < 2 ^ 64
complement_fits v fits = xor_lt 64 v ones fits (lit< tt)

pub complement_twice : (v : ℕ) → bit_xor (complement_of v) ones ≡ v
complement_twice v = xor_cancel v ones

-- the turn of a complement
turn_of_complement : (v : ℕ) → v < 2 ^ 64 → up (complement_of v) + round (complement_of v) ≡ bit_xor (bit_xor (up v) (round v)) ones
turn_of_complement v fits =
    turn_xor (complement_of v) (complement_fits v fits)
    ∙ ap (λ x. bit_xor x (round (complement_of v))) (up_linear v ones)
    ∙ ap (λ x. bit_xor (bit_xor (up v) (up ones)) x) (xor_shr v ones 56)
    ∙ xor_swap (up v) (up ones) (round v) (round ones)

-- what falls out stands twice: a is what moves up, h what leaves at the top, o the ones, x what comes in by
-- the window's ends, t what comes in for h
adds_up : (a h o x t : ℕ) → bit_xor (bit_xor (bit_xor (bit_xor a h) o) x) (bit_xor t h) ≡ bit_xor (bit_xor (bit_xor a x) t) o
adds_up a h o x t =
    ap (λ y. bit_xor (bit_xor y x) (bit_xor t h)) (xor_last_two a h o)
    ∙ ap (λ y. bit_xor y (bit_xor t h)) (xor_last_two (bit_xor a o) h x)
    ∙ ap (λ y. bit_xor (bit_xor (bit_xor (bit_xor a o) x) h) y) (xor_comm t h)
    ∙ sym (xor_assoc (bit_xor (bit_xor (bit_xor a o) x) h) h t)
    ∙ ap (λ y. bit_xor y t) (xor_cancel (bit_xor (bit_xor a o) x) h)
    ∙ ap (λ y. bit_xor y t) (xor_last_two a o x)
    ∙ xor_last_two (bit_xor a x) o t

-- the byte that comes round is the complement of what leaves
comes_round : (v : ℕ) → bit_xor (round (complement_of v)) 0xff ≡ round v
comes_round v = ap (λ x. bit_xor x 0xff) (xor_shr v ones 56) ∙ xor_cancel (round v) 0xff

pub turned_push : (v q turned new old entry : ℕ) → v < 2 ^ 64 → q ≡ complement_of v → turned ≡ bit_or (up q) (round q) →
    entry ≡ bit_xor (times_x_to 64 (bit_xor (turned % 2 ^ 8) 0xff)) (bit_xor (turned % 2 ^ 8) 0xff) →
    bit_xor (bit_xor turned (bit_xor new (times_x_to 384 old))) entry ≡ complement_of (push_of v new old)
turned_push v q turned new old entry fits is turns entry_is =
    let x : ℕ = bit_xor new (times_x_to 384 old) in
    let h : ℕ = round v in
    let fits_q : q < 2 ^ 64 = subst (λ y. y < 2 ^ 64) (sym is) (complement_fits v fits) in
    let sum : turned ≡ up q + round q = turns ∙ turn_sum q fits_q in
    let whole : turned ≡ bit_xor (bit_xor (up v) h) ones = sum ∙ ap (λ y. up y + round y) is ∙ turn_of_complement v fits in
    let low : turned % 2 ^ 8 ≡ round q = omega (arith, sum, fits_q) in
    let own : bit_xor (turned % 2 ^ 8) 0xff ≡ h = ap (λ y. bit_xor y 0xff) (low ∙ ap (λ y. round y) is) ∙ comes_round v in
    let entry_h : entry ≡ bit_xor (times_x_to 64 h) h = entry_is ∙ ap (λ y. bit_xor (times_x_to 64 y) y) own in
    ap (λ y. bit_xor (bit_xor y x) entry) whole
    ∙ ap (λ y. bit_xor (bit_xor (bit_xor (bit_xor (up v) h) ones) x) y) entry_h
    ∙ adds_up (up v) h ones x (times_x_to 64 h)

-- ---- matches

low_complement : (v : ℕ) → complement_of v % 2 ^ 12 ≡ bit_xor (v % 2 ^ 12) 4095
low_complement v = xor_mod v ones 12

pub match_is_zero : (v : ℕ) → v % 2 ^ 12 ≡ 2 ^ 12 - 1 → complement_of v % 2 ^ 12 ≡ 0
match_is_zero v is = low_complement v ∙ ap (λ y. bit_xor y 4095) is ∙ xor_self 4095

pub zero_is_match : (v : ℕ) → complement_of v % 2 ^ 12 ≡ 0 → v % 2 ^ 12 ≡ 2 ^ 12 - 1
zero_is_match v zeroed =
    sym (xor_cancel (v % 2 ^ 12) 4095) ∙ ap (λ y. bit_xor y 4095) (sym (low_complement v) ∙ zeroed) ∙ xor_zero_l 4095
