use Rattle.std.proofs.Common.{◌≡◌, ◌<◌, ℕ, length, get_or, reverse}
use Rattle.vdisk.specs.Past.{byte_at_sync}
use Rattle.vdisk.proofs.crash.undo_unsynced.Given as goal

abbrev pub invariant-loop-last : goal.invariant-loop-last
invariant-loop-last l = (i : ℕ) → i < length l.image → byte_at_sync (reverse l.left) i (get_or l.image i 0) ≡ byte_at_sync (reverse l.events) i (get_or l.initial.image i 0)

abbrev pub decreases-loop-last : goal.decreases-loop-last
decreases-loop-last l = length l.left
