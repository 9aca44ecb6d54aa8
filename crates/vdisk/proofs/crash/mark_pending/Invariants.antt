use Rattle.std.proofs.Common.{◌≡◌, ◌<◌, ◌||◌, ℕ, false, length, get_or, reverse}
use Rattle.vdisk.specs.Past.{is_pending}
use Rattle.vdisk.proofs.crash.mark_pending.Given as goal

abbrev pub invariant-loop-last : goal.invariant-loop-last
invariant-loop-last l = (i : ℕ) → i < length l.pending → (get_or l.pending i false || is_pending (reverse l.left) i) ≡ (get_or l.initial.pending i false || is_pending (reverse l.events) i)

abbrev pub decreases-loop-last : goal.decreases-loop-last
decreases-loop-last l = length l.left
