use Rattle.std.proofs.Common.{◌≡◌, ◌<◌, ◌≤◌, ◌⊎◌, ℕ, true, length, reverse}
use Rattle.vdisk.specs.Past.{is_pending}
use Rattle.vdisk.proofs.crash.touched.Given as goal

abbrev pub invariant-loop-last : goal.invariant-loop-last
invariant-loop-last l = record {
  inside : (i : ℕ) → i < l.size → is_pending (reverse l.events) i ≡ true → ((l.from ≤ i) × (i < l.to)) ⊎ (is_pending (reverse l.left) i ≡ true);
  end : l.to ≤ l.size;
}

abbrev pub decreases-loop-last : goal.decreases-loop-last
decreases-loop-last l = length l.left
