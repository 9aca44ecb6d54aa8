-- What a new name, a dropped one and another name of a file do to the tables.
use Rattle.std.specs.Prelude.{◌≡◌, ◌≤◌, ◌<◌, ◌==◌, ℕ, Bool, true, false, not, List, length, Some, None, Err}
use Rattle.std.specs.Ordering.{eq_by_cmp}
use Rattle.std.specs.FinMap.Entries.{find}
use Rattle.groundwork.specs.declared.limits.TheConstants.{MOST_NAME_BYTES}
use Rattle.byte_map.specs.Words.{bytes_cmp}
use Rattle.plain_volume.specs.Volume.{Volume, is_lawful}
use Rattle.plain_volume.specs.Step.{plain}
use Rattle.plain_volume.specs.declared.call.Call.{Call}
use Rattle.plain_volume.specs.declared.call.Fault.{Fault}
use Rattle.plain_volume.specs.declared.limits.TheConstants.{MOST_FILES}
use Rattle.table_records.specs.declared.records.FileRecord.{FileRecord}
use Rattle.volume_inside.specs.Entries.{Each}
use Rattle.volume_inside.specs.Changes.{created, deleted, renamed}
use Rattle.volume_inside.specs.Rules.{next_id_of}
use Rattle.volume_inside.specs.Typed.{Typed}
use Rattle.volume_tables.specs.Wants.{is_late}

-- the record of a file of no bytes
abbrev pub empty_file : FileRecord
empty_file = record { length = 0; map_row = 0; covers = 0 }

-- a new file of no bytes under a name, which draws the next id
abbrev pub with_new : List ℕ → Typed → Typed
with_new name t = created (record { version = 1; next_id = next_id_of t }) name empty_file t

-- another name
abbrev pub is_other : List ℕ → List ℕ → Bool
is_other name other = not (eq_by_cmp bytes_cmp name other)

-- without a name, its file and its blocks
abbrev pub without_name : List ℕ → ℕ → Typed → Typed
without_name name id t = deleted (is_other name) (λ x. not (x == id)) (λ k. not (k.0 == id)) t

-- a file under another name
abbrev pub with_renamed : List ℕ → List ℕ → ℕ → Typed → Typed
with_renamed from to id t = renamed to id (is_other from) t

-- a new file may have this name
pub record IsNewName (t : Typed) (name : List ℕ) : Type 0 where
  pub lawful : is_lawful name ≡ true
  pub free : find bytes_cmp name t.names ≡ None
  pub few : length t.names < MOST_FILES

-- a file has the first name, and no file has the second
pub record IsRenaming (t : Typed) (from to : List ℕ) (id : ℕ) : Type 0 where
  pub lawful : is_lawful from ≡ true
  pub lawful_to : is_lawful to ≡ true
  pub named : find bytes_cmp from t.names ≡ Some id
  pub free : find bytes_cmp to t.names ≡ None

-- names of no more bytes than one may have
abbrev pub AreShort : List (List ℕ × ℕ) → Type 0
AreShort names = Each (λ name id. length name ≤ MOST_NAME_BYTES) names

-- the plain machine refuses a call so, before any want
pub record IsRefused (v : Volume) (call : Call) (fault : Fault) : Type 0 where
  pub plainly : plain v call ≡ Err fault
  pub early : is_late (Err fault) ≡ false
