-- What waits for a commit, and what becomes of it: numbers alone, and no place of a cluster.
use Rattle.std.specs.Prelude.{◌+◌, ◌-◌, ◌*◌, ◌&&◌, ◌||◌, nat_eq, nat_le, if◌then◌else◌, ℕ, Bool, false, true}
use Rattle.meta_log.specs.Log.{passes_half, epochs_for}
use Rattle.meta_log.specs.Meta.{last_epoch}
use Rattle.groundwork.specs.declared.limits.TheConstants.{LAST_ID}
use Rattle.meta_log.specs.declared.limits.TheConstants.{GROUP_HEAD}
use Rattle.volume_tables.specs.declared.room.TheConstants.{MOST_RECORDS}

-- What a call asks for: whether it draws an id; the bytes by which it makes a checkpoint of the tables longer, before it
-- drops anything; the most bytes of records that it may stage; and the clusters that it writes.
pub record Needs : Type 0 where
  pub draws : Bool
  pub grows : ℕ
  pub records : ℕ
  pub clusters : ℕ

-- the last id, which is never drawn
abbrev pub last_id : ℕ
last_id = LAST_ID

-- WHAT WAITS FOR A COMMIT: the epoch of the journal's live half, and where in it the next group goes; the bytes of the
-- records that are staged, and the ends of jobs that are not yet; the clusters that are free at once; and whether a
-- commit was worn.
pub record Pending : Type 0 where
  pub epoch : ℕ
  pub place : ℕ
  pub staged : ℕ
  pub unstaged : ℕ
  pub free : ℕ
  pub worn : Bool

-- the bytes of the records that a commit makes durable: those that are staged, and 16 of each end that is not
abbrev pub due_in : Pending → ℕ
due_in p = p.staged + 16 * p.unstaged

-- A commit would be refused as worn, where a half of the journal has so many bytes: one was, or what is due does not fit
-- behind the last group, and the last epoch is used up.
abbrev pub wears_in : ℕ → Pending → Bool
wears_in half p = p.worn || (passes_half half p.place (due_in p) && nat_eq p.epoch last_epoch)

-- what a call needs finds room without a commit
abbrev pub finds_room : Pending → Needs → Bool
finds_room p n = nat_le (p.staged + n.records) MOST_RECORDS && nat_le n.clusters p.free

-- where the next group goes once records of so many bytes are durable: behind their group, or behind the checkpoint of
-- so many bytes that was written where that did not fit
abbrev pub place_after : ℕ → ℕ → ℕ → ℕ → ℕ
place_after half checkpoint place bytes =
    if nat_eq bytes 0 then place else (if passes_half half place bytes then checkpoint else place + (GROUP_HEAD + bytes))

-- what waits where nothing does
abbrev pub settled : ℕ → ℕ → ℕ → Pending
settled epoch place free = record {
  epoch = epoch;
  place = place;
  staged = 0;
  unstaged = 0;
  free = free;
  worn = false;
}

-- AFTER A COMMIT nothing waits, and so many clusters are free: all that the tables do not name.
abbrev pub committed : ℕ → ℕ → ℕ → Pending → Pending
committed half checkpoint left p =
    settled (p.epoch + epochs_for half p.place (due_in p)) (place_after half checkpoint p.place (due_in p)) left

-- AFTER A COMMIT THAT WAS REFUSED AS WORN all ends of jobs are staged, and each later one is refused so.
abbrev pub worn_out : Pending → Pending
worn_out p = if p.worn then p else record p { staged = due_in p; unstaged = 0; worn = true }

-- once records of so many bytes were staged, and so many free clusters taken
abbrev pub spent : ℕ → ℕ → Pending → Pending
spent bytes clusters p = record p { staged = p.staged + bytes; free = p.free - clusters }
