-- How a volume is opened, and why none is.
use Rattle.std.specs.Prelude.{◌≡◌, ◌⊎◌, Bool, true, false, ℕ, List}
use Rattle.vdisk.specs.Causes.{Rose}
use Rattle.vdisk.specs.Disk.{DiskState}
use Rattle.volume_core.specs.States.{IsStateOf, IsFreshState}
use Rattle.volume_inside.specs.declared.mount_fault.MountFault.{MountFault}
use Rattle.volume_inside.specs.declared.mount_fault.MountFault.TheVariants as mount
use Rattle.volume_tables.specs.Mount.{IsMountFault}
use Rattle.volume_tables.specs.Formats.{IsFormatFault}
use Rattle.ddpsh.specs.States.{State}
use Rattle.ddpsh.specs.declared.commands.Command.{Command}
use Rattle.ddpsh.specs.declared.commands.Command.TheVariants.{Mount, Format}
use Rattle.ddpsh.specs.declared.ending.End.{End}
use Rattle.ddpsh.specs.declared.ending.End.TheVariants as ends

-- the state that a run opens with: that of the image, or that of a fresh volume of so many clusters
abbrev pub Opens : Command → List ℕ → State → Type 0
Opens Mount image s = IsStateOf image s
Opens (Format clusters) image s = IsFreshState clusters s

-- why the disk was not mounted, or no volume made on it
abbrev pub IsOpeningFault : Command → DiskState → DiskState → MountFault → Type 0
IsOpeningFault Mount old new fault = IsMountFault old new fault
IsOpeningFault (Format clusters) old new fault = IsFormatFault clusters old new fault

-- not a fault of the device, and not want of memory
abbrev pub is_reason : MountFault → Bool
is_reason mount.Failed = false
is_reason mount.Memory = false
is_reason other = true

-- How a run ends that was refused a volume. It ends for want of memory where the volume was not opened for that, or
-- where the text of the reason wanted some.
abbrev pub IsRefusedEnd : MountFault → End → Type 0
IsRefusedEnd fault ends.Device = fault ≡ mount.Failed
IsRefusedEnd fault ends.Memory = (fault ≡ mount.Memory) ⊎ (is_reason fault ≡ true)
IsRefusedEnd fault (ends.Refused reason) = (reason ≡ fault) × (is_reason fault ≡ true)
IsRefusedEnd fault other = ⊥

-- how a run ends that opened no volume: the device failed, memory was wanting, or the image or its size is refused
abbrev pub EndsUnopened : Command → DiskState → DiskState → End → Type 0
EndsUnopened command old new ends.Device = Rose old.faults new.faults
EndsUnopened command old new ends.Memory = Unit {0}
EndsUnopened command old new (ends.Refused fault) = IsOpeningFault command old new fault × (is_reason fault ≡ true)
EndsUnopened command old new other = ⊥
