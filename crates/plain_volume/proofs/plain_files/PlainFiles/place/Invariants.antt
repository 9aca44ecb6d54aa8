use Rattle.std.proofs.Common.{ℕ, ◌<◌}
use Rattle.plain_volume.specs.Files.{IsBelow, name_at}
use Rattle.plain_volume.proofs.plain_files.PlainFiles.place.Given as goal

abbrev pub invariant-loop-i : goal.invariant-loop-i
invariant-loop-i l = (j : ℕ) → j < l.i → IsBelow (name_at l.self j) l.name
