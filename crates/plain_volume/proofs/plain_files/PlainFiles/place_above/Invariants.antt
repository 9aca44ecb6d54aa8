use Rattle.std.proofs.Common.{◌≡◌, drop}
use Rattle.plain_volume.specs.Volume.{next_above}
use Rattle.plain_volume.specs.Files.{volume_of}
use Rattle.plain_volume.proofs.plain_files.PlainFiles.place_above.Given as goal

abbrev pub invariant-loop-i : goal.invariant-loop-i
invariant-loop-i l = next_above l.name (volume_of l.self) ≡ next_above l.name (volume_of (drop l.i l.self))
