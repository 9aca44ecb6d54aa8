use Rattle.std.proofs.Common.{◌≡◌, ◌<◌, ◌≤◌, ◌⊎◌, ◌-◌, ℕ, get_or}
use Rattle.vdisk.proofs.crash.restore.Given as goal

abbrev pub invariant-loop-i : goal.invariant-loop-i
invariant-loop-i l = record {
  done : (k : ℕ) → l.at ≤ k → k < l.i → get_or l.image k 0 ≡ get_or l.was (k - l.at) 0;
  rest : (k : ℕ) → (k < l.at) ⊎ (l.i ≤ k) → get_or l.image k 0 ≡ get_or l.initial.image k 0;
}
