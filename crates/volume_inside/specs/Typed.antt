-- The tables of a volume, each a list in the order of its keys. A further one is a field, and a line of those that are
-- made of codecs.
use Rattle.std.specs.Prelude.{ℕ, List}
use Rattle.byte_map.specs.Words.{Map}
use Rattle.table_records.specs.Codecs.{Codec, typed}
use Rattle.table_records.specs.Tables.{volume_codec, name_codec, file_codec, extent_codec, settings_codec, result_codec}
use Rattle.table_records.specs.declared.jobs.JobKind.{JobKind}
use Rattle.table_records.specs.declared.records.VolumeRecord.{VolumeRecord}
use Rattle.table_records.specs.declared.records.FileRecord.{FileRecord}
use Rattle.table_records.specs.declared.records.Extent.{Extent}
use Rattle.table_records.specs.declared.records.ResultRecord.{ResultRecord}
use Rattle.table_records.specs.declared.settings.Settings.{Settings}
use Rattle.volume_inside.specs.ChunkTables.{ChunkTables, chunk_tables_by}

-- a file, and which of its blocks of 4096 bytes
abbrev pub FileBlock : Type 0
FileBlock = ℕ × ℕ

pub record Typed : Type 0 where
  pub volume : List (Unit {0} × VolumeRecord)
  pub names : List (List ℕ × ℕ)
  pub files : List (ℕ × FileRecord)
  pub extents : List (FileBlock × Extent)
  pub chunks : ChunkTables
  pub settings : List (Unit {0} × Settings)
  pub results : List (JobKind × ResultRecord)

-- the tables that are made of codecs so
abbrev pub tables_by : ((K V : Type 0) → Codec K V → List (K × V)) → Typed
tables_by f = record {
  volume = f _ _ volume_codec;
  names = f _ _ name_codec;
  files = f _ _ file_codec;
  extents = f _ _ extent_codec;
  chunks = chunk_tables_by f;
  settings = f _ _ settings_codec;
  results = f _ _ result_codec;
}

-- the tables that a map from byte strings to byte strings spells
abbrev pub typed_of : Map → Typed
typed_of m = tables_by (λ K V c. typed c m)
