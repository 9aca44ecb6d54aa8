-- Numbers and the bytes that spell them, the highest first.
use Rattle.std.specs.Prelude.{◌≡◌, ◌^◌, ◌+◌, ◌*◌, ◌/◌, ◌%◌, ◌<◌, ℕ, zero, suc, List, [], ◌∷◌, length, get_or, refl}
use Rattle.std.proofs.Common.{sym, ◌∙◌, ap, subst, arith}
use Rattle.std.specs.declared.cmp.Ordering.TheVariants.{Equal}
use Rattle.std.specs.Ordering.{nat_cmp, ordering_then}
use Rattle.std.specs.Cmp.{nat_cmp_is, nat_cmp_total, tied_itself}
use Rattle.std.specs.Cmp.Lexicographic.{slice_cmp}
use Rattle.std.proofs.lemmas.Map.Lookups.{exact_bytes}
use Rattle.std.specs.Int.{byte_at}
use Rattle.std.proofs.Math.Nat.{mod-eq_of_lt, mod-lt, div-one}
use Rattle.std.proofs.lemmas.Nat.{mod-pow-add, pow_pos, shr_high, mod_low}
use Rattle.byteorder.specs.Endian.{big_bytes, big_number}
use Rattle.byteorder.specs.Numbers.{big_from-lt, big_from-cons}
use Rattle.byteorder.proofs.Bytes.{pow256}
use Rattle.groundwork.proofs.Orders.{rows_cmp}

pub byte_at_is : (k x : ℕ) → byte_at k x ≡ x / 2 ^ (8 * k) % 2 ^ 8
byte_at_is zero x = ap (λ (n : ℕ). n % 256) (sym (div-one x))
byte_at_is (suc k) x = ap (λ (n : ℕ). x / n % 256) (pow256 (suc k))

-- the lowest n bytes of two numbers compare as what they spell
pub low_bytes_cmp : (n x y : ℕ) → slice_cmp nat_cmp (big_bytes n x) (big_bytes n y) ≡ nat_cmp (x % 2 ^ (8 * n)) (y % 2 ^ (8 * n))
low_bytes_cmp zero x y = nat_cmp_is (x % 1) (y % 1) Equal (omega arith)
low_bytes_cmp (suc k) x y =
    let whole : 8 + 8 * k ≡ 8 * suc k = omega arith in
    let split : (n : ℕ) → n % 2 ^ (8 * suc k) ≡ (n / 2 ^ (8 * k) % 2 ^ 8) * 2 ^ (8 * k) + n % 2 ^ (8 * k) =
    λ n. ap (λ (e : ℕ). n % 2 ^ e) (sym whole) ∙ mod-pow-add n 8 (8 * k) in
    (λ i. ordering_then (nat_cmp (byte_at_is k x i) (byte_at_is k y i)) (low_bytes_cmp k x y i))
    ∙ rows_cmp (x / 2 ^ (8 * k) % 2 ^ 8) (y / 2 ^ (8 * k) % 2 ^ 8) (x % 2 ^ (8 * k)) (y % 2 ^ (8 * k)) (2 ^ (8 * k))
    (mod-lt x (pow_pos (8 * k))) (mod-lt y (pow_pos (8 * k)))
    ∙ (λ i. nat_cmp (sym (split x) i) (sym (split y) i))

-- bytes that are read as a number are what spells it
pub spelled_again : (n : ℕ) (b : List ℕ) → length b ≡ n → ((i : ℕ) → get_or b i 0 < 256) → big_bytes n (big_number n b) ≡ b
spelled_again zero [] size bytes = refl
spelled_again zero (x ∷ b) size bytes = absurd (omega (arith, size))
spelled_again (suc k) [] size bytes = absurd (omega (arith, size))
spelled_again (suc k) (x ∷ b) size bytes =
    let rest : (i : ℕ) → get_or b i 0 < 256 = λ i. bytes (suc i) in
    let low : big_number k b < 2 ^ (8 * k) = subst (λ (m : ℕ). big_number k b < m) (pow256 k) (big_from-lt 0 k b rest) in
    let whole : big_number (suc k) (x ∷ b) ≡ x * 2 ^ (8 * k) + big_number k b = (λ i. x * pow256 k i + big_from-cons 0 k x b i) in
    let top : byte_at k (x * 2 ^ (8 * k) + big_number k b) ≡ x =
    byte_at_is k (x * 2 ^ (8 * k) + big_number k b) ∙ ap (λ (q : ℕ). q % 2 ^ 8) (shr_high x (8 * k) (big_number k b) low) ∙ mod-eq_of_lt {n = x} {m = 2 ^ 8} (bytes 0) in
    let below : big_bytes k (x * 2 ^ (8 * k) + big_number k b) ≡ big_bytes k (big_number k b) =
    exact_bytes (big_bytes k (x * 2 ^ (8 * k) + big_number k b)) (big_bytes k (big_number k b))
    (low_bytes_cmp k (x * 2 ^ (8 * k) + big_number k b) (big_number k b)
    ∙ (λ i. nat_cmp (mod_low x (8 * k) (big_number k b) low i) (mod-eq_of_lt {n = big_number k b} {m = 2 ^ (8 * k)} low i))
    ∙ tied_itself nat_cmp_total (big_number k b)) in
    ap (λ (m : ℕ). big_bytes (suc k) m) whole ∙ (λ i. top i ∷ below i) ∙ ap (λ (l : List ℕ). x ∷ l) (spelled_again k b (omega (arith, size)) rest)
