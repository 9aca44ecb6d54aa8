-- What the journal's map holds between two calls.
use Rattle.std.specs.Prelude.{◌≡◌, ℕ, T, true, [], ◌∷◌}
use Rattle.std.specs.FinMap.Entries.{is_sorted}
use Rattle.byte_map.specs.Words.{Map, bytes_cmp}
use Rattle.table_records.specs.Codecs.{typed}
use Rattle.table_records.specs.Tables.{volume_codec, settings_codec, result_codec}
use Rattle.table_records.specs.declared.settings.Settings.{Settings}
use Rattle.volume_tables.specs.declared.ends.JobEnds.{JobEnds}
use Rattle.volume_tables.specs.Spelled.{are_well_formed}
use Rattle.volume_tables.specs.Ends.{staged_results}

-- the keys of a map rise, and it has this
pub record SortedAnd (P : Map → Type 0) (m : Map) : Type 0 where
  pub sorted : T (is_sorted bytes_cmp m)
  pub has : P m

-- The keys rise, each pair is well formed, and the records that are always there are these.
pub record HasContents (m : Map) (next_id : ℕ) (settings : Settings) (ends : JobEnds) : Type 0 where
  pub sorted : is_sorted bytes_cmp m ≡ true
  pub spelled : are_well_formed m ≡ true
  pub volume : typed volume_codec m ≡ (tt, record { version = 1; next_id = next_id }) ∷ []
  pub settings_there : typed settings_codec m ≡ (tt, settings) ∷ []
  pub ends_there : typed result_codec m ≡ staged_results ends

-- The keys rise, each pair is well formed, and the results of jobs are these.
pub record HasEnds (m : Map) (ends : JobEnds) : Type 0 where
  pub sorted : is_sorted bytes_cmp m ≡ true
  pub spelled : are_well_formed m ≡ true
  pub ends_there : typed result_codec m ≡ staged_results ends
