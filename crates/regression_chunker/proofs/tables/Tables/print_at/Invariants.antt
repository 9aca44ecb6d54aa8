use Rattle.std.proofs.Common.{◌≡◌, ◌-◌}
use Rattle.std.specs.List.{slice_range}
use Rattle.regression_chunker.specs.Fingerprint.{print_after}
use Rattle.regression_chunker.proofs.tables.Tables.print_at.Given as goal

abbrev pub invariant-loop-i : goal.invariant-loop-i
invariant-loop-i l = l.print ≡ print_after 0 (slice_range l.rest (l.at - 48) l.i)
