-- What the front of a list tells of its parts.
use Rattle.std.proofs.Common.{◌≡◌, ℕ, ◌+◌, ◌-◌, ◌≤◌, ◌<◌, List, get_or, take, drop, sym, ◌∙◌, ap, arith}
use Rattle.std.proofs.lemmas.List.{take-take, drop-take, get_or-take}
use Rattle.byteorder.specs.Endian.{big_number}
use Rattle.byteorder.specs.Numbers.{big_from-take}
use Rattle.vdisk.specs.Ranges.{part}

part_of_front : (p at n : ℕ) (x : List ℕ) → at + n ≤ p → part at n (take p x) ≡ part at n x
part_of_front p at n x fits =
    let whole : at + (p - at) ≡ p = omega (arith, fits) in
    ap (λ (k : ℕ). take n (drop at (take k x))) (sym whole) ∙ ap (λ (q : List ℕ). take n q) (drop-take at (p - at) x)
    ∙ take-take n (p - at) (drop at x) (omega (arith, fits))

pub part_same : (p at n : ℕ) (x y : List ℕ) → at + n ≤ p → take p x ≡ take p y → part at n x ≡ part at n y
part_same p at n x y fits same = sym (part_of_front p at n x fits) ∙ ap (λ (q : List ℕ). part at n q) same ∙ part_of_front p at n y fits

pub get_same : (p i : ℕ) (x y : List ℕ) → i < p → take p x ≡ take p y → get_or x i 0 ≡ get_or y i 0
get_same p i x y low same = sym (get_or-take p x i 0 low) ∙ ap (λ (q : List ℕ). get_or q i 0) same ∙ get_or-take p y i 0 low

pub number_same : (p at n : ℕ) (x y : List ℕ) → at + n ≤ p → take p x ≡ take p y → big_number n (drop at x) ≡ big_number n (drop at y)
number_same p at n x y fits same =
    sym (big_from-take 0 n n (drop at x) (omega arith)) ∙ ap (λ (q : List ℕ). big_number n q) (part_same p at n x y fits same)
    ∙ big_from-take 0 n n (drop at y) (omega arith)
