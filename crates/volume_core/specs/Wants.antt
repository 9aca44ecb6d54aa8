-- The resource that is wanting for a call, if one is.
use Rattle.std.specs.Prelude.{IsTrue, Option, Some, None}
use Rattle.vdisk.specs.declared.disk.Disk.{Ghosts}
use Rattle.plain_volume.specs.Step.{may_want}
use Rattle.plain_volume.specs.declared.call.Call.{Call}
use Rattle.plain_volume.specs.declared.call.Fault.{Fault}
use Rattle.volume_core.specs.States.{wants_in, state_of}
use Rattle.volume_core.specs.declared.volume.Volume.{Volume as Mounted}

-- a want that a call may have
abbrev pub IsWant : Call → Option Fault → Type 0
IsWant call None = Unit {0}
IsWant call (Some fault) = IsTrue (may_want call fault)

module _ {D : Type 0} {d : Ghosts D} where
  -- what a call wants in the state of a mounted volume
  abbrev pub wants_of : Mounted D d → Call → Option Fault
  wants_of v call = wants_in (state_of v) call
