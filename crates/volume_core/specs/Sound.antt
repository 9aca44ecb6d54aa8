-- That tables are sound has one proof at most.
use Rattle.std.specs.Prelude.{◌≡◌, ℕ, List, [], ◌∷◌, Option, Some, None}
use Rattle.std.proofs.Props.{props}
use mathlib.Core.HLevel.{×_prop, Unit-prop, ⊥_prop}
use Rattle.vdisk.specs.declared.disk.Disk.{Ghosts}
use Rattle.table_records.specs.declared.jobs.JobKind.{JobKind}
use Rattle.table_records.specs.declared.records.VolumeRecord.{VolumeRecord}
use Rattle.table_records.specs.declared.records.FileRecord.{FileRecord}
use Rattle.table_records.specs.declared.chunk_records.Row.{Row}
use Rattle.table_records.specs.declared.records.Extent.{Extent}
use Rattle.table_records.specs.declared.records.ResultRecord.{ResultRecord}
use Rattle.table_records.specs.declared.settings.Settings.{Settings}
use Rattle.volume_inside.specs.Typed.{Typed, FileBlock}
use Rattle.volume_inside.specs.RuleProps.{each_prop, chunks_prop, maps_prop}
use Rattle.volume_inside.specs.Lists.{IsOut, IsOnce}
use Rattle.volume_inside.specs.Rules.{IsVolumeRecord, AreSettings, IsResultRecord, RecordsHold, NameHolds}
use Rattle.volume_inside.specs.ChunkRules.{CoverHolds, MapRowHolds}
use Rattle.volume_inside.specs.Rules.{IsNamedOnce, NamesHold, FileHolds, FilesHold, MapRowsHold, LiesIn, ExtentHolds}
use Rattle.volume_inside.specs.Rules.{ExtentsHold, RulesHold}
use Rattle.volume_tables.specs.Sound.{IsSound}
use Rattle.volume_tables.specs.declared.tables.Tables.{Tables}

volume_record_prop : (v : VolumeRecord) → IsProp (IsVolumeRecord v)
volume_record_prop v = Prim.hlevel props

settings_prop : (s : Settings) → IsProp (AreSettings s)
settings_prop s = Prim.hlevel props

result_prop : (r : ResultRecord) → IsProp (IsResultRecord r)
result_prop r = Prim.hlevel props

records_prop : (volumes : List (Unit {0} × VolumeRecord)) (all : List (Unit {0} × Settings))
    (ends : List (JobKind × ResultRecord)) → IsProp (RecordsHold volumes all ends)
records_prop volumes all ends = Prim.hlevel (props, volume_record_prop, settings_prop, result_prop)

name_prop : (files : List (ℕ × FileRecord)) (name : List ℕ) (id : ℕ) → IsProp (NameHolds files name id)
name_prop files name id = Prim.hlevel props

once_named_prop : (names : List (List ℕ × ℕ)) (id : ℕ) (file : FileRecord) → IsProp (IsNamedOnce names id file)
once_named_prop names id file = Prim.hlevel props

names_prop : (names : List (List ℕ × ℕ)) (files : List (ℕ × FileRecord)) → IsProp (NamesHold names files)
names_prop names files = Prim.hlevel (
  props,
  each_prop (NameHolds files) (name_prop files) names,
  each_prop (IsNamedOnce names) (once_named_prop names) files,
)

cover_prop : (file : FileRecord) → IsProp (CoverHolds file)
cover_prop file = Prim.hlevel props

file_prop : (next id : ℕ) (file : FileRecord) → IsProp (FileHolds next id file)
file_prop next id file = Prim.hlevel (props, cover_prop file)

files_prop : (next : ℕ) (files : List (ℕ × FileRecord)) → IsProp (FilesHold next files)
files_prop next files = each_prop (FileHolds next) (file_prop next) files

map_row_prop : (rows : List (ℕ × Row)) (id : ℕ) (file : FileRecord) → IsProp (MapRowHolds rows id file)
map_row_prop rows id file = Prim.hlevel props

map_rows_prop : (rows : List (ℕ × Row)) (files : List (ℕ × FileRecord)) → IsProp (MapRowsHold rows files)
map_rows_prop rows files = each_prop (MapRowHolds rows) (map_row_prop rows) files

lies_prop : (k : FileBlock) (e : Extent) (file : Option FileRecord) → IsProp (LiesIn k e file)
lies_prop k e None = ⊥_prop
lies_prop k e (Some file) = Prim.hlevel props

extent_prop : (n : ℕ) (files : List (ℕ × FileRecord)) (k : FileBlock) (e : Extent) → IsProp (ExtentHolds n files k e)
extent_prop n files k e = Prim.hlevel (props, lies_prop)

extents_prop : (n : ℕ) (files : List (ℕ × FileRecord)) (extents : List (FileBlock × Extent))
    → IsProp (ExtentsHold n files extents)
extents_prop n files extents = each_prop (ExtentHolds n files) (extent_prop n files) extents

differ_prop : (x c : ℕ) → IsProp (x ≡ c → ⊥)
differ_prop x c = Prim.hlevel props

out_prop : (c : ℕ) (xs : List ℕ) → IsProp (IsOut c xs)
out_prop c [] = Unit-prop
out_prop c (x ∷ xs) = ×_prop (differ_prop x c) (out_prop c xs)

once_prop : (xs : List ℕ) → IsProp (IsOnce xs)
once_prop [] = Unit-prop
once_prop (x ∷ xs) = ×_prop (out_prop x xs) (once_prop xs)

rules_prop : (n : ℕ) (t : Typed) → IsProp (RulesHold n t)
rules_prop n t = Prim.hlevel (
  props,
  records_prop,
  names_prop,
  files_prop,
  map_rows_prop,
  extents_prop,
  chunks_prop,
  once_prop,
)

module _ {D : Type 0} {d : Ghosts D} where
  pub sound_prop : (t : Tables D d) → IsProp (IsSound t)
  sound_prop t = Prim.hlevel (props, rules_prop, maps_prop)
