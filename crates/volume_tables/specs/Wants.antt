-- When a resource is wanting for a call, and what it answers then.
use Rattle.std.specs.Prelude.{◌≡◌, ◌⊎◌, ◌+◌, ◌&&◌, ℕ, Bool, true, false, not, cond, nat_eq, nat_lt, IsTrue, Option, Some, None, Ok, Err}
use Rattle.vdisk.specs.Causes.{Rose}
use Rattle.vdisk.specs.declared.disk.Disk.{Ghosts}
use Rattle.plain_volume.specs.Step.{Outcome}
use Rattle.plain_volume.specs.Replies.{own_reply}
use Rattle.plain_volume.specs.declared.call.Reply.{Reply}
use Rattle.plain_volume.specs.declared.call.Reply.TheVariants as reply
use Rattle.plain_volume.specs.declared.call.Fault.{Fault}
use Rattle.plain_volume.specs.declared.call.Fault.TheVariants.{Worn, TableFull, Full, Failed, Damaged, Memory}
use Rattle.volume_inside.specs.Layout.{half_bytes}
use Rattle.volume_inside.specs.Rules.{next_id_of}
pub use Rattle.volume_tables.specs.Pending.{Needs, last_id, free_of}
use Rattle.volume_tables.specs.Pending.{finds_room, pending_of}
use Rattle.volume_tables.specs.Tables.{tables_now, checkpoint_of, clusters_in, disk_of, would_wear}
use Rattle.volume_tables.specs.declared.tables.Tables.{Tables}

module _ {D : Type 0} {d : Ghosts D} where
  -- records of so many bytes find room without a commit, and so many clusters are free
  abbrev pub has_room : Tables D d → Needs → Bool
  has_room t n = finds_room (pending_of t) n

  -- THE RESOURCE THAT IS WANTING, the first one in this order: ids, room in a checkpoint, clusters, and epochs, where a
  -- commit must come first
  abbrev pub wanting : Tables D d → Needs → Option Fault
  wanting t n =
      cond (n.draws && nat_eq (next_id_of (tables_now t)) last_id) (Some Worn)
      (cond (nat_lt (half_bytes (clusters_in t)) (checkpoint_of t + n.grows)) (Some TableFull)
      (cond (nat_lt (free_of t) n.clusters) (Some (Full n.clusters (free_of t)))
      (cond (not (has_room t n) && would_wear t) (Some Worn) None)))

-- want of a resource stands in the place of an answer, or of a lost cell, which is looked for later
abbrev pub is_late : Outcome → Bool
is_late (Ok answer) = true
is_late (Err (Damaged place)) = true
is_late (Err fault) = false

-- the reply of a machine that lacks this, where no device fails and memory is ample
abbrev pub reply_of : Outcome → Option Fault → Reply
reply_of (Ok answer) (Some fault) = reply.Refused fault
reply_of (Err (Damaged place)) (Some fault) = reply.Refused fault
reply_of outcome want = own_reply outcome

-- a refusal because the device failed, which it counts: no earlier refusal stands in its place
abbrev pub IsFailed : Outcome → ℕ → ℕ → Reply → Type 0
IsFailed outcome before now given = (given ≡ reply.Refused Failed) × IsTrue (is_late outcome) × Rose before now

-- WHAT A CALL ANSWERS THAT TAKES NO MEMORY, where the count of the device's faults went from one to another
abbrev pub IsReplied : Outcome → Option Fault → ℕ → ℕ → Reply → Type 0
IsReplied outcome want before now given = (given ≡ reply_of outcome want) ⊎ IsFailed outcome before now given

-- the same of a call that takes memory
abbrev pub IsRepliedOrMemory : Outcome → Option Fault → ℕ → ℕ → Reply → Type 0
IsRepliedOrMemory outcome want before now given =
    IsReplied outcome want before now given ⊎ (given ≡ reply.Refused Memory)

module _ {D : Type 0} {d : Ghosts D} where
  -- a refusal before anything was changed: what is wanting, or that the device failed, which it counts
  abbrev pub IsWanting : Tables D d → Tables D d → Needs → Fault → Type 0
  IsWanting old new n fault = (wanting old n ≡ Some fault) ⊎ ((fault ≡ Failed) × Rose (disk_of old).faults (disk_of new).faults)
