use Rattle.std.proofs.Common.{◌≡◌, ◌<◌, ◌≤◌, ◌⊎◌, ℕ, true, false, get_or}
use Rattle.vdisk.proofs.crash.mark.Given as goal

abbrev pub invariant-loop-i : goal.invariant-loop-i
invariant-loop-i l = record {
  done : (k : ℕ) → l.at ≤ k → k < l.i → get_or l.pending k false ≡ true;
  rest : (k : ℕ) → (k < l.at) ⊎ (l.i ≤ k) → get_or l.pending k false ≡ get_or l.initial.pending k false;
}
