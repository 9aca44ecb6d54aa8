-- What a call with its reply does to the state of a volume.
use Rattle.std.specs.Prelude.{◌≡◌, ◌≤◌, ◌+◌, ℕ, Bool, false, true, List, [], ◌∷◌, length, Option, Some, None}
use Rattle.meta_log.specs.Meta.{last_epoch}
use Rattle.plain_volume.specs.declared.call.Call.{Call}
use Rattle.plain_volume.specs.declared.call.Call.TheVariants.{Create, Write, SetLength, Rename, Delete, Read, Digest}
use Rattle.plain_volume.specs.declared.call.Call.TheVariants.{Stat, Next, Flush}
use Rattle.plain_volume.specs.declared.call.Fault.{Fault}
use Rattle.plain_volume.specs.declared.call.Fault.TheVariants.{Worn, Failed, Damaged, Memory}
use Rattle.plain_volume.specs.declared.call.Reply.{Reply}
use Rattle.plain_volume.specs.declared.call.Reply.TheVariants as reply
use Rattle.volume_inside.specs.Inside.{Inside}
use Rattle.volume_tables.specs.Pending.{Pending, worn_out}
use Rattle.volume_files.specs.Insides.{inside_created, inside_renamed, inside_deleted, inside_resized, inside_written}
use Rattle.volume_files.specs.Lengths.{length_of}
use Rattle.volume_files.specs.Needs.{create_needs, rename_needs, delete_needs, write_needs, length_needs}
use Rattle.volume_files.specs.Needs.{create_bytes, rename_bytes, delete_bytes, write_bytes}
use Rattle.rw_filter.specs.Beside.{ReadsBeside}
use Rattle.volume_core.specs.Bounds.{changed_by}
use Rattle.volume_core.specs.States.{VolumeState, id_of_name, tables_told, wears_at, committed_in, roomed_in}
use Rattle.volume_core.specs.States.{done_in, worn_in}

-- what an answered call leaves of an inside: a call that reads leaves all, and so does a flush
abbrev pub inside_done : Call → Inside → Inside
inside_done (Create name) i = inside_created name i
inside_done (Write name at bytes) i = inside_written name at bytes i
inside_done (SetLength name len) i = inside_resized name len i
inside_done (Rename from to) i = inside_renamed from to i
inside_done (Delete name) i = inside_deleted name i
inside_done (Read name at count) i = i
inside_done (Digest name) i = i
inside_done (Stat name) i = i
inside_done (Next after) i = i
inside_done Flush i = i

-- what a call with its reply leaves of an inside: a refused call leaves all
abbrev pub inside_after : Call → Reply → Inside → Inside
inside_after call (reply.Refused fault) i = i
inside_after call given i = inside_done call i

-- ---- what waits for a commit

-- what waits once the file of an id was changed, if there is an id
abbrev pub of_file : VolumeState → Option ℕ → (ℕ → Pending) → Pending
of_file s None change = s.pending
of_file s (Some id) change = change id

abbrev pub id_written_in : VolumeState → ℕ → ℕ → List ℕ → Pending
id_written_in s id at [] = s.pending
id_written_in s id at (b ∷ bytes) = done_in s (write_needs (tables_told s.inside) id at (length (b ∷ bytes)))
    (write_bytes at (length (b ∷ bytes)))

abbrev pub id_resized_in : VolumeState → ℕ → ℕ → Pending
id_resized_in s id len =
    let needs = length_needs (tables_told s.inside) id (length_of (tables_told s.inside) id) len in
    done_in s needs needs.records

-- WHAT WAITS AFTER A CALL that was answered. A flush commits; another call that changes takes its clusters and stages
-- its records, behind a commit where these find no room; and one that reads leaves all.
abbrev pub pending_done : Call → VolumeState → Pending
pending_done (Create name) s = done_in s (create_needs name) (create_bytes name)
pending_done (Write name at bytes) s = of_file s (id_of_name s name) (λ id. id_written_in s id at bytes)
pending_done (SetLength name len) s = of_file s (id_of_name s name) (λ id. id_resized_in s id len)
pending_done (Rename from to) s = of_file s (id_of_name s from)
    (λ id. done_in s (rename_needs from to) (rename_bytes s.inside.names from to id))
pending_done (Delete name) s = done_in s (delete_needs name) (delete_bytes s.inside.names name)
pending_done Flush s = committed_in s
pending_done (Read name at count) s = s.pending
pending_done (Digest name) s = s.pending
pending_done (Stat name) s = s.pending
pending_done (Next after) s = s.pending

-- what waits after a call that was refused as worn, which one that reads never is
abbrev pub pending_worn : Call → VolumeState → Pending
pending_worn (Create name) s = worn_in s (create_needs name)
pending_worn (Read name at count) s = s.pending
pending_worn (Digest name) s = s.pending
pending_worn (Stat name) s = s.pending
pending_worn (Next after) s = s.pending
pending_worn call s = worn_out s.pending

-- what waits after a call that was refused because a cell is lost: a write made room before it read, perhaps by a commit,
-- and all other calls leave all
abbrev pub pending_lost : Call → VolumeState → Pending
pending_lost (Write name at bytes) s = of_file s (id_of_name s name)
    (λ id. roomed_in s (write_needs (tables_told s.inside) id at (length bytes)))
pending_lost call s = s.pending

-- ---- states

-- what an answered call leaves of a state
abbrev pub state_done : Call → VolumeState → VolumeState
state_done call s = record s { inside = inside_done call s.inside; pending = pending_done call s }

-- what a refused call leaves of a state: all, but for what waits where it was refused as worn, or because a cell is lost
abbrev pub state_refused : Call → Fault → VolumeState → VolumeState
state_refused call Worn s = record s { pending = pending_worn call s }
state_refused call (Damaged place) s = record s { pending = pending_lost call s }
state_refused call fault s = s

-- WHAT A CALL WITH ITS REPLY LEAVES OF A STATE: a call is a function of the state
abbrev pub state_after : Call → Reply → VolumeState → VolumeState
state_after call (reply.Refused fault) s = state_refused call fault s
state_after call given s = state_done call s

-- a reply after which the state is told: any but a refusal because the device failed, or for want of memory
abbrev pub is_told : Reply → Bool
is_told (reply.Refused Failed) = false
is_told (reply.Refused Memory) = false
is_told given = true

-- WHAT A CALL WITH ITS REPLY DOES TO A STATE. Unless the device failed or memory was wanting, it is told whole. Then
-- too no setting, result or id changes that is not the call's own, a call that reads leaves the state, whole, and the
-- epoch never falls; it rises by one at most, unless the device failed, and only in a call that may make something
-- durable. A commit is refused as worn only where the last epoch is taken.
pub record Moves (call : Call) (given : Reply) (old new : VolumeState) : Type 0 where
  pub told : is_told given ≡ true → new ≡ state_after call given old
  pub inside : new.inside ≡ inside_after call given old.inside
  pub clusters : new.clusters ≡ old.clusters
  pub reads : changed_by call ≡ 0 → new ≡ old
  pub stands : old.pending.epoch ≤ new.pending.epoch
  pub epoch : (given ≡ reply.Refused Failed → ⊥) → new.pending.epoch ≤ old.pending.epoch + changed_by call
  pub wears : wears_at new ≡ true → new.pending.epoch ≡ last_epoch

-- a write of so many bytes at a place of the file of a name reads a block first, of which it fills a part
pub record ReadsABlock (name : List ℕ) (at count : ℕ) (s : VolumeState) : Type 0 where
  pub id : ℕ
  pub named : id_of_name s name ≡ Some id
  pub reads : ReadsBeside (tables_told s.inside) id at count
