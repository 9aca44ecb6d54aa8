-- The tables of a volume that has just been formatted.
use Rattle.std.specs.Prelude.{ℕ, List, [], ◌∷◌, ◌++◌, false}
use Rattle.byteorder.specs.Endian.{big_bytes}
use Rattle.byte_map.specs.Words.{Map}
use Rattle.table_records.specs.declared.jobs.JobKind.TheVariants.{Optimization, GarbageCollection, Scrubbing, Unoptimization}
use Rattle.table_records.specs.declared.records.ResultRecord.{ResultRecord}
use Rattle.table_records.specs.declared.settings.Settings.{Settings}
use Rattle.table_records.specs.Settings.{settings_bytes}
use Rattle.volume_inside.specs.declared.rules.TheConstants.{LEAST_MINIMUM_SIZE}
use Rattle.volume_inside.specs.Typed.{Typed, typed_of}

-- jobs are off, chunks are not compared byte by byte, and nothing is out of policy
abbrev pub fresh_settings : Settings
fresh_settings = record {
  enabled = false;
  verify = false;
  minimum_size = LEAST_MINIMUM_SIZE;
  age_days = 3;
  threshold = 100;
  folders = [];
  types = [];
}

-- no job of a kind has ended
abbrev pub no_result : ResultRecord
no_result = record { second = 0; result = 0 }

abbrev pub fresh_tables : Typed
fresh_tables = record (typed_of []) {
  volume = (tt, record { version = 1; next_id = 1 }) ∷ [];
  settings = (tt, fresh_settings) ∷ [];
  results = (Optimization, no_result) ∷ (GarbageCollection, no_result)
      ∷ (Scrubbing, no_result) ∷ (Unoptimization, no_result) ∷ [];
}

-- the same as a map from byte strings to byte strings
abbrev pub result_value : List ℕ
result_value = big_bytes 8 0 ++ (0 ∷ [])

abbrev pub result_pairs : Map
result_pairs =
    (10 ∷ 1 ∷ [], result_value) ∷ (10 ∷ 2 ∷ [], result_value)
    ∷ (10 ∷ 3 ∷ [], result_value) ∷ (10 ∷ 4 ∷ [], result_value) ∷ []

abbrev pub fresh_map : Map
fresh_map = (1 ∷ [], big_bytes 4 1 ++ big_bytes 8 1) ∷ (9 ∷ [], settings_bytes fresh_settings) ∷ result_pairs
