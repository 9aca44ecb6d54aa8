-- What a run comes to where nothing fails.
use Rattle.std.specs.Prelude.{◌≡◌, ◌⊎◌, ◌≤◌, ◌<◌, ◌*◌, ℕ, IsTrue, List, length, Ok}
use Rattle.volume_inside.specs.declared.layout.TheConstants.{CLUSTER_BYTES}
use Rattle.vdisk.specs.Disk.{DiskState}
use Rattle.vdisk.specs.Causes.{Rose}
use Rattle.volume_inside.specs.Inside.{Inside}
use Rattle.volume_inside.specs.InsideOf.{InsideOf}
use Rattle.volume_tables.specs.Mount.{read_meta}
use Rattle.script_items.specs.declared.limits.TheConstants.{MOST_SCRIPT}
use Rattle.ddpsh.specs.declared.commands.Command.{Command}
use Rattle.ddpsh.specs.declared.commands.Command.TheVariants.{Mount, Format}

-- the disk tells an image that holds a volume, or is not longer than the volume that is to be made on it
abbrev pub CanOpen : Command → DiskState → Type 0
CanOpen Mount disk = IsTrue disk.tells × ((inside : Inside) × InsideOf read_meta disk.image (Ok inside))
CanOpen (Format clusters) disk = length disk.image ≤ CLUSTER_BYTES * clusters

-- a count of faults that does not tell of any
abbrev pub DidNotRise : ℕ → ℕ → Type 0
DidNotRise before now = Rose before now → ⊥

-- THE STATUS OF A RUN THAT NOTHING FAILED: that of a script that was served to its end or to an `exit`, or that of want
-- of memory, or that of a script with more bytes than a run reads.
abbrev pub IsComplete : List ℕ → ℕ → Type 0
IsComplete script status =
    (status ≡ 0) ⊎ ((status ≡ 1) ⊎ ((status ≡ 4) ⊎ ((status ≡ 7) × (MOST_SCRIPT < length script))))
