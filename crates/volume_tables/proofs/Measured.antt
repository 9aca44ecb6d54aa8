-- How many pairs a well-formed map has, and how many bytes a checkpoint of it, told by its tables.
use Rattle.std.specs.Prelude.{◌≡◌, ◌+◌, ℕ, true, length}
use Rattle.std.specs.Prelude.{refl}
use Rattle.std.proofs.Common.{arith}
use Rattle.byte_map.specs.Words.{Map}
use Rattle.meta_log.specs.Log.{checkpoint_length}
use Rattle.table_records.specs.Codecs.{typed}
use Rattle.table_records.specs.KeySizes.{has_size}
use Rattle.table_records.specs.Tables.{volume_codec, name_codec, file_codec, extent_codec, settings_codec, result_codec}
use Rattle.table_records.specs.Tables.{shape_of}
use Rattle.table_records.proofs.Belongs.{volume_is_table, name_is_table, file_is_table, extent_is_table}
use Rattle.table_records.proofs.Belongs.{settings_are_table, result_is_table}
use Rattle.volume_inside.specs.ChunkTables.{chunk_tables_of, sum_of}
use Rattle.volume_inside.specs.Typed.{Typed, typed_of}
use Rattle.volume_tables.specs.Sizes.{name_bytes, setting_bytes, chunk_bytes, chunks_in, tables_bytes, others_in}
use Rattle.volume_tables.specs.Spelled.{are_well_formed}
use Rattle.volume_tables.proofs.SettingsSize.{value_size}
use Rattle.volume_tables.proofs.Sizes.{name_key, file_key, extent_key, volume_key, settings_key, result_key}
use Rattle.volume_tables.proofs.Weighed.{as_one, as_record, weight_of, weighed, count_in, records_in}
use Rattle.volume_tables.proofs.Weighed.{entries_weigh, entries_count, fixed_records}

-- the names and the others
abbrev pairs_in : Typed → ℕ
pairs_in t = length t.names + others_in t

-- its pairs are the names and the others, and its checkpoint is as long as its tables tell
abbrev IsMeasured : Map → Type 0
IsMeasured m = (length m ≡ pairs_in (typed_of m)) × (checkpoint_length m ≡ tables_bytes (typed_of m))

module _ (m : Map) (all : are_well_formed m ≡ true) where
  -- ---- the tables of chunks

  chunks_count : sum_of (λ K V c long size fixed es. weight_of as_one (shape_of c) m) (chunk_tables_of m)
      ≡ chunks_in (chunk_tables_of m)
  chunks_count = λ i. sum_of (λ K V c long size fixed es. entries_count c fixed.table m all i) (chunk_tables_of m)

  chunks_records : sum_of (λ K V c long size fixed es. weight_of as_record (shape_of c) m) (chunk_tables_of m)
      ≡ chunk_bytes (chunk_tables_of m)
  chunks_records = λ i. sum_of (λ K V c long size fixed es.
      fixed_records c long size fixed.table fixed.keys fixed.values m all i) (chunk_tables_of m)

  -- ---- the tables whose records are not all of one length

  names_records : weight_of as_record (shape_of name_codec) m ≡ name_bytes (typed name_codec m)
  names_records = entries_weigh as_record name_codec name_is_table name_bytes refl
      (λ key value k es spells whole.
      let long = name_key key k spells in
      let size = has_size 8 value whole in
      omega (arith, long, size)) m all

  settings_records : weight_of as_record (shape_of settings_codec) m ≡ setting_bytes (typed settings_codec m)
  settings_records = entries_weigh as_record settings_codec settings_are_table setting_bytes refl
      (λ key value k es spells whole.
      let long = settings_key key spells in
      let size = value_size value (settings_codec.read_value value) whole refl in
      omega (arith, long, size)) m all

  -- ---- all

  pub measured : IsMeasured m
  measured = (
    omega (
      arith,
      weighed as_one m all,
      count_in m,
      entries_count volume_codec volume_is_table m all,
      entries_count name_codec name_is_table m all,
      entries_count file_codec file_is_table m all,
      entries_count extent_codec extent_is_table m all,
      chunks_count,
      entries_count settings_codec settings_are_table m all,
      entries_count result_codec result_is_table m all,
    ),
    omega (
      arith,
      weighed as_record m all,
      records_in m,
      fixed_records volume_codec 1 12 volume_is_table (λ b k is. volume_key b is) (has_size 12) m all,
      names_records,
      fixed_records file_codec 9 24 file_is_table file_key (has_size 24) m all,
      fixed_records extent_codec 13 6 extent_is_table extent_key (has_size 6) m all,
      chunks_records,
      settings_records,
      fixed_records result_codec 2 9 result_is_table result_key (has_size 9) m all,
    ),
  )
