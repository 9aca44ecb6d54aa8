-- What the journal of the tables means.
use Rattle.std.specs.Prelude.{ℕ, Bool}
use Rattle.vdisk.specs.Disk.{DiskState}
use Rattle.vdisk.specs.declared.disk.Disk.{Ghosts}
use Rattle.byte_map.specs.Words.{Map}
use Rattle.meta_log.specs.Log.{IsLog, staged_of}
use Rattle.meta_log.specs.declared.log.MetaLog.{MetaLog}

module _ {D : Type 0} {d : Ghosts D} where
  -- its disk
  abbrev pub log_state : MetaLog D d → DiskState
  log_state log = d.state log.disk

  -- its map now, with all that is staged
  abbrev pub log_now : MetaLog D d → Map
  log_now log = log.map

  -- the bytes of the staged records
  abbrev pub log_staged : MetaLog D d → ℕ
  log_staged log = staged_of log

  -- the live half's epoch, and where in it the next group goes
  abbrev pub log_epoch : MetaLog D d → ℕ
  log_epoch log = log.epoch

  abbrev pub log_place : MetaLog D d → ℕ
  log_place log = log.place

  -- a write or a sync has failed
  abbrev pub log_stopped : MetaLog D d → Bool
  log_stopped log = log.stopped

  -- each crash image spells this map
  abbrev pub IsLogOf : MetaLog D d → Map → Type 0
  IsLogOf log m = IsLog log m

  abbrev pub IsSameLog : MetaLog D d → MetaLog D d → Type 0
  IsSameLog old new = d.is_same old.disk new.disk
