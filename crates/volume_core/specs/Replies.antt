-- What a volume replies to a call, and what it leaves.
use Rattle.std.specs.Prelude.{◌≡◌, ℕ, List, Option, Result, Ok, Err}
use Rattle.vdisk.specs.declared.disk.Disk.{Ghosts}
use Rattle.plain_volume.specs.Step.{plain, after}
use Rattle.plain_volume.specs.declared.call.Call.{Call}
use Rattle.plain_volume.specs.declared.call.Reply.{Reply}
use Rattle.plain_volume.specs.declared.call.Reply.TheVariants as reply
use Rattle.plain_volume.specs.declared.call.Fault.{Fault}
use Rattle.volume_tables.specs.Wants.{IsReplied, IsRepliedOrMemory}
use Rattle.volume_core.specs.Volumes.{view_now, disk_of}
use Rattle.volume_core.specs.Wants.{wants_of}
use Rattle.volume_core.specs.declared.volume.Volume.{Volume as Mounted}

-- the replies of calls that tell a digest, a length, or a name
abbrev pub digest_reply : Result (List ℕ) Fault → Reply
digest_reply (Ok digest) = reply.Digest digest
digest_reply (Err fault) = reply.Refused fault

abbrev pub length_reply : Result ℕ Fault → Reply
length_reply (Ok len) = reply.Length len
length_reply (Err fault) = reply.Refused fault

abbrev pub name_reply : Result (Option (List ℕ)) Fault → Reply
name_reply (Ok name) = reply.Name name
name_reply (Err fault) = reply.Refused fault

module _ {D : Type 0} {d : Ghosts D} where
  -- THE REPLY OF A CALL: the plain machine's, or the resource that is wanting, or that the device failed, whose count
  -- of faults then rose in the call
  abbrev pub Replies : Call → Mounted D d → Mounted D d → Reply → Type 0
  Replies call old new given =
      IsReplied (plain (view_now old) call) (wants_of old call) (disk_of old).faults (disk_of new).faults given

  -- the same of a call that takes memory
  abbrev pub RepliesOrMemory : Call → Mounted D d → Mounted D d → Reply → Type 0
  RepliesOrMemory call old new given =
      IsRepliedOrMemory (plain (view_now old) call) (wants_of old call) (disk_of old).faults (disk_of new).faults given

  -- the volume after a call is what the plain machine leaves after this reply
  abbrev pub FollowsPlain : Call → Mounted D d → Mounted D d → Reply → Type 0
  FollowsPlain call old new given = view_now new ≡ after (view_now old) call given
