-- A disk that tells nothing meets what is said of crashes.
use Rattle.std.proofs.Common.{◌≤◌, ℕ, length, take, ap, ◌∙◌, arith, length-take}
use Rattle.std.proofs.lemmas.List.{take_all, take_min, length-replicate, take-replicate}
use Rattle.vdisk.specs.Disk.{GrownTo, ChangedWithin, Follows}
use Rattle.vdisk.specs.Ranges.{changed_same}
use Rattle.vdisk.specs.Disk.{zeros}

pub grew : (size to : ℕ) → Follows (GrownTo to) (λ c. length c ≤ size) (λ c. length c ≤ to)
grew size to c left = (
  take size c,
  omega (arith, length-take size c),
  record {
    front = ap (λ (k : ℕ). take k c) (length-take size c) ∙ take_min size c;
    no_shorter = omega (arith, length-take size c);
    no_longer = left;
  },
)

pub wrote : (size at n : ℕ) → Follows (ChangedWithin at n) (λ c. length c ≤ size) (λ c. length c ≤ size)
wrote size at n c left = (c, left, changed_same at n c)

pub zeros_grew : (size to : ℕ) → size ≤ to → GrownTo to (zeros size) (zeros to)
zeros_grew size to more =
    let z : ℕ = 0 in
    record {
      front = ap (λ (k : ℕ). take k (zeros to)) (length-replicate size z) ∙ take-replicate size to z more;
      no_shorter = omega (arith, length-replicate size z, length-replicate to z, more);
      no_longer = omega (arith, length-replicate to z);
    }

pub same_grew : (size to : ℕ) → size ≤ to → Follows (GrownTo to) (λ c. length c ≤ size) (λ c. length c ≤ size)
same_grew size to more c left = (c, left, record { front = take_all (length c) c (omega arith); no_shorter = omega arith; no_longer = omega (arith, left, more) })
