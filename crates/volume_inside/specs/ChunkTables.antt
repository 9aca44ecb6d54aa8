-- The tables of chunks, each a list in the order of its keys. They are one field of all tables: a change of another table
-- leaves it as it stands. A further one is a field, a line of those that are made of codecs, and a term of the sum.
use Rattle.std.specs.Prelude.{◌+◌, ℕ, List}
use Rattle.byte_map.specs.Words.{Map}
use Rattle.table_records.specs.Codecs.{Codec, typed}
use Rattle.table_records.specs.Tables.{row_codec, place_codec, container_codec, cluster_codec}
use Rattle.table_records.specs.Tables.{IsFixed, row_fixed, place_fixed, container_fixed, cluster_fixed}
use Rattle.table_records.specs.declared.chunk_records.Row.{Row}
use Rattle.table_records.specs.declared.chunk_records.Place.{Place}
use Rattle.table_records.specs.declared.chunk_records.Container.{Container}

-- a row, and which of its copies
abbrev pub CopyKey : Type 0
CopyKey = ℕ × ℕ

-- a container, and which of its pages of 4096 bytes
abbrev pub PageKey : Type 0
PageKey = ℕ × ℕ

pub record ChunkTables : Type 0 where
  pub rows : List (ℕ × Row)
  pub places : List (CopyKey × Place)
  pub containers : List (ℕ × Container)
  pub clusters : List (PageKey × ℕ)

-- the tables that are made of codecs so
abbrev pub chunk_tables_by : ((K V : Type 0) → Codec K V → List (K × V)) → ChunkTables
chunk_tables_by f = record {
  rows = f _ _ row_codec;
  places = f _ _ place_codec;
  containers = f _ _ container_codec;
  clusters = f _ _ cluster_codec;
}

-- the sum of what each of the tables is taken for, whose keys and values have so many bytes
abbrev pub sum_of : ((K V : Type 0) (c : Codec K V) (long size : ℕ) → IsFixed c long size → List (K × V) → ℕ) → ChunkTables → ℕ
sum_of f t =
    f _ _ row_codec 9 50 row_fixed t.rows
    + (f _ _ place_codec 10 12 place_fixed t.places
    + (f _ _ container_codec 9 5 container_fixed t.containers
    + f _ _ cluster_codec 13 4 cluster_fixed t.clusters))

-- the tables of chunks that a map from byte strings to byte strings spells
abbrev pub chunk_tables_of : Map → ChunkTables
chunk_tables_of m = chunk_tables_by (λ K V c. typed c m)
