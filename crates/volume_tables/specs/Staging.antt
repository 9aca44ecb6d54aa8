-- What staging a record of a table does to the journal.
use Rattle.std.specs.Prelude.{◌≡◌, ◌⊎◌, ◌↔◌, ◌<◌, ◌+◌, ℕ, List, length, Option, Some, IsTrue, Result, IsOk, IsErrOf, OnOk, OnErr}
use Rattle.std.specs.FinMap.Entries.{find, put}
use Rattle.byte_map.specs.Words.{Map, bytes_cmp}
use Rattle.table_records.specs.Codecs.{Codec}
use Rattle.table_records.specs.Changes.{IsDropped}
use Rattle.plain_volume.specs.declared.call.Fault.{Fault}
use Rattle.plain_volume.specs.declared.call.Fault.TheVariants.{TableFull, Memory}
use Rattle.meta_log.specs.Log.{KeepsPlace, checkpoint_length}
use Rattle.volume_tables.specs.Log.{log_now, log_staged, log_stopped, IsLogOf}
use Rattle.vdisk.specs.declared.disk.Disk.{Ghosts}
use Rattle.meta_log.specs.declared.log.MetaLog.{MetaLog}

module _ {D : Type 0} {d : Ghosts D} where
  -- what no call that stages touches
  pub record IsQuiet (old new : MetaLog D d) : Type 0 where
    pub log : (m : Map) → IsLogOf old m → IsLogOf new m
    pub disk : new.disk ≡ old.disk
    pub place : KeepsPlace old new
    pub running : log_stopped new ≡ log_stopped old

  -- an entry of a table was put, or not
  pub record IsStagedPut {K V : Type 0} (c : Codec K V) (k : K) (v : V) (old new : MetaLog D d)
      (result : Result (Unit {0}) Fault) : Type 0 where
    pub key : List ℕ
    pub value : List ℕ
    pub spells : c.read_key key ≡ Some k
    pub whole : IsTrue (c.is_value value)
    pub means : c.read_value value ≡ v
    pub ok : OnOk result (log_now new ≡ put bytes_cmp key value (log_now old))
    pub err : OnErr result (log_now new ≡ log_now old)
    pub taken : OnOk result (log_staged new ≡ log_staged old + (5 + (length key + length value)))
    pub left : OnErr result (log_staged new ≡ log_staged old)
    pub full : IsErrOf result TableFull ↔ (old.half < checkpoint_length (put bytes_cmp key value (log_now old)))
    pub in_place : (w : List ℕ) → find bytes_cmp key (log_now old) ≡ Some w → length w ≡ length value
        → IsOk result
    pub refused : OnErr result (IsErrOf result TableFull ⊎ IsErrOf result Memory)
    pub quiet : IsQuiet old new

  -- the entries of a range of keys were dropped
  pub record IsStagedDrop {K V : Type 0} (c : Codec K V) (from : K) (to : Option K)
      (old new : MetaLog D d) : Type 0 where
    pub dropped : IsDropped c from to (log_now old) (log_now new)
    pub taken : log_staged new ≡ log_staged old + (5 + (length dropped.low + length dropped.high))
    pub quiet : IsQuiet old new
