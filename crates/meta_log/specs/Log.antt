-- What a log stands for.
use Rattle.std.specs.Prelude.{◌≡◌, ◌⊎◌, ◌≤◌, ◌&&◌, nat_lt, nat_eq, if◌then◌else◌, ◌+◌, ◌*◌, ◌-◌, ℕ, Bool, List, length, drop, Some, Result}
use Rattle.vdisk.specs.Disk.{DiskState}
use Rattle.vdisk.specs.declared.disk.Disk.{Ghosts}
use Rattle.byte_map.specs.Words.{Map, bytes_in}
use Rattle.meta_log.specs.declared.limits.TheConstants.{BEFORE_BODY, CHECKPOINT_HEAD, GROUP_HEAD, RECORD_HEAD}
use Rattle.meta_log.specs.Records.{Record, records_of, changes}
use Rattle.meta_log.specs.Meta.{meta_of, place_in, epoch_in}
use Rattle.meta_log.specs.Ready.{Layout, Stands}
use Rattle.meta_log.specs.declared.log.MetaLog.{MetaLog}

-- the bytes of a checkpoint of a map, whose record of a pair has five bytes before the pair's
abbrev pub checkpoint_length : Map → ℕ
checkpoint_length m = CHECKPOINT_HEAD + (RECORD_HEAD * length m + bytes_in m)

-- records of so many bytes do not fit into a half behind groups that end at this place
abbrev pub passes_half : ℕ → ℕ → ℕ → Bool
passes_half half place bytes = nat_lt 0 bytes && nat_lt half (place + (GROUP_HEAD + bytes))

-- how many epochs a commit of records of so many bytes takes: one where they do not fit behind the last group
abbrev pub epochs_for : ℕ → ℕ → ℕ → ℕ
epochs_for half place bytes = if passes_half half place bytes then 1 else 0

module _ {D : Type 0} {d : Ghosts D} where
  -- its disk
  abbrev pub state_of : MetaLog D d → DiskState
  state_of log = d.state log.disk

  -- the map now, with all that is staged
  abbrev pub now_of : MetaLog D d → Map
  now_of log = log.map

  -- the bytes of the staged records
  abbrev pub staged_of : MetaLog D d → ℕ
  staged_of log = length log.staged.items - BEFORE_BODY

  abbrev pub layout_of : MetaLog D d → Layout
  layout_of log = record {
    at = log.at;
    half = log.half;
    live_at = log.live_at;
    other_at = log.other_at;
    place = log.place;
    epoch = log.epoch;
    other_open = log.other_open;
  }

  -- the map that an image spells, whose journal stands where this one does
  abbrev pub meta : MetaLog D d → List ℕ → Result Map ℕ
  meta log = meta_of log.at log.half

  -- each crash image spells the stored map, which the staged records change into the map now
  pub record IsLog (log : MetaLog D d) (stored : Map) : Type 0 where
    pub stands : Stands (layout_of log) (state_of log) stored
    pub records : List Record
    pub spelled : records_of (drop BEFORE_BODY log.staged.items) ≡ Some records
    pub now : changes records stored ≡ now_of log

  -- these bytes of the disk lie below both halves, or above both
  abbrev pub IsOutside : MetaLog D d → ℕ → ℕ → Type 0
  IsOutside log at n = (log.at + 2 * log.half ≤ at) ⊎ (at + n ≤ log.at)

  -- the halves, where the next group goes, and the epoch stay
  pub record KeepsPlace (old new : MetaLog D d) : Type 0 where
    pub at : new.at ≡ old.at
    pub half : new.half ≡ old.half
    pub next : new.place ≡ old.place
    pub epoch : new.epoch ≡ old.epoch

  -- a commit now writes a checkpoint: something is staged, and does not fit behind the last group
  abbrev pub needs_checkpoint : MetaLog D d → Bool
  needs_checkpoint log = passes_half log.half log.place (staged_of log)

  -- how many epochs a commit now takes
  abbrev pub epochs_taken : MetaLog D d → ℕ
  epochs_taken log = if needs_checkpoint log then 1 else 0

  -- where the next group goes after a commit: behind the new group, or behind the new checkpoint
  abbrev pub next_place : MetaLog D d → ℕ
  next_place log =
      if nat_eq (staged_of log) 0 then log.place
      else (if needs_checkpoint log then checkpoint_length (now_of log) else log.place + (GROUP_HEAD + staged_of log))

  -- The epoch that the disk's image tells has risen by one exactly where what was staged did not fit behind the last
  -- group of the live half, as the image before told it.
  abbrev pub HasSpentEpochs : MetaLog D d → MetaLog D d → Type 0
  HasSpentEpochs old new =
      epoch_in old.at old.half (state_of new).image
      ≡ epoch_in old.at old.half (state_of old).image
      + epochs_for old.half (place_in old.at old.half (state_of old).image) (staged_of old)
