use Rattle.std.proofs.Common.{◌≡◌, ◌<◌, ◌≤◌, ◌⊎◌, ℕ, get_or}
use Rattle.vdisk.proofs.crash.clear.Given as goal

abbrev pub invariant-loop-i : goal.invariant-loop-i
invariant-loop-i l = record {
  done : (k : ℕ) → l.from ≤ k → k < l.i → get_or l.image k 0 ≡ 0;
  rest : (k : ℕ) → (k < l.from) ⊎ (l.i ≤ k) → get_or l.image k 0 ≡ get_or l.initial.image k 0;
}
