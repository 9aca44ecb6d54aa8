use Rattle.std.proofs.Common.{◌≡◌, ◌<◌, ◌*◌, ℕ, length, get_or}
use Rattle.regression_chunker.specs.Fingerprint.{times_x_to}
use Rattle.regression_chunker.proofs.tables.table.Given as goal

abbrev pub invariant-loop-i : goal.invariant-loop-i
invariant-loop-i l = record { whole : length l.entries ≡ 256; rule : (k : ℕ) → k < 2 * l.i → get_or l.entries k 0 ≡ times_x_to l.bits k }
