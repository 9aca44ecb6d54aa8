-- What a disk means that tells nothing of what it holds: a crash may leave anything that is no longer than its size.
use Rattle.std.specs.Prelude.{ℕ, ◌<◌, ◌≤◌, ◌^◌, length, false}
use Rattle.std.proofs.Common.{subst, sym, arith}
use Rattle.std.proofs.lemmas.List.{length-replicate}
use Rattle.vdisk.specs.Disk.{DiskState, zeros}

pub length-zeros : (n : ℕ) → n < 2 ^ 64 → length (zeros n) < 2 ^ 64
length-zeros n small = let z : ℕ = 0 in subst (λ (k : ℕ). k < 2 ^ 64) (sym (length-replicate n z)) small

pub zeros_within : (n : ℕ) → length (zeros n) ≤ n
zeros_within n = let z : ℕ = 0 in omega (arith, length-replicate n z)

-- a disk of that size, at that moment, with that count of faults
abbrev pub silent_state : (size moment faults : ℕ) → size < 2 ^ 64 → moment < 2 ^ 64 → faults < 2 ^ 64 → DiskState
silent_state size moment faults small timed counted = record {
  tells = false;
  image = zeros size;
  may_leave = λ c. length c ≤ size;
  moment = moment;
  left_since = λ t c. length c ≤ size;
  faults = faults;
  small = length-zeros size small;
  timed = timed;
  counted = counted;
  reads = zeros_within size;
  counts_now = λ t c le now. now;
  only_now = λ c left. left;
}
