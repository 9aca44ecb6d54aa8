-- What a disk over a file means.
use Rattle.std.specs.Prelude.{IsNone}
use Rattle.vdisk.specs.Disk.{DiskState}
use Rattle.vdisk.specs.Silent.{silent_state}
use Rattle.vdisk.specs.declared.file_disk.FileDisk.{FileDisk}

abbrev pub file_state : FileDisk → DiskState
file_state disk = silent_state disk.size disk.made disk.faults disk.small disk.timed disk.counted

-- its file could not be opened
abbrev pub IsUnopened : FileDisk → Type 0
IsUnopened disk = IsNone disk.file
