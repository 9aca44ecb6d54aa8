-- The tables. A further one is a codec here, a line in the list of all, and its code.
use Rattle.std.specs.Prelude.{◌≡◌, ◌<◌, ◌+◌, ◌||◌, ◌++◌, ℕ, Bool, true, false, nat_eq, nat_lt, List, [], ◌∷◌, take, drop}
use Rattle.std.specs.Prelude.{Some, length, is_some, get_or, refl}
use Rattle.std.proofs.Common.{arith, ltb-true}
use Rattle.std.specs.Ordering.{nat_cmp}
use Rattle.std.specs.Cmp.{nat_cmp_total}
use Rattle.std.specs.Cmp.Lexicographic.{nat_list_cmp_total}
use Rattle.byte_map.specs.Words.{bytes_cmp}
use Rattle.table_records.specs.declared.records.VolumeRecord.{VolumeRecord}
use Rattle.table_records.specs.declared.records.FileRecord.{FileRecord}
use Rattle.table_records.specs.declared.records.Extent.{Extent}
use Rattle.table_records.specs.declared.chunk_records.Row.{Row}
use Rattle.table_records.specs.declared.chunk_records.Place.{Place}
use Rattle.table_records.specs.declared.chunk_records.Container.{Container}
use Rattle.table_records.specs.declared.records.ResultRecord.{ResultRecord}
use Rattle.table_records.specs.declared.jobs.JobKind.{JobKind}
use Rattle.table_records.specs.declared.settings.Settings.{Settings}
use Rattle.table_records.specs.Codecs.{Codec}
use Rattle.table_records.specs.Keys.{number_in, pair_in, nothing_in, all_in, kind_in, single_key, number_key, pair_key, bytes_key, kind_key, single_cmp, pair_cmp, kind_cmp}
use Rattle.table_records.specs.Orders.{number_ordered, pair_ordered, pair_total, nothing_ordered, single_total, all_ordered, kind_ordered, kind_total, behind_numbered, behind_ordered, key_numbered}
use Rattle.table_records.specs.KeySizes.{number_size, pair_size, has_size}
use Rattle.table_records.specs.Settings.{settings_or_empty, is_settings}
use Rattle.table_records.specs.Values.{has_length, volume_in, id_in, file_in, extent_in, row_in, place_in, container_in, cluster_in, result_in}

pub some_positive : (n : ℕ) → 0 < n + 1
some_positive n = omega arith

-- there is a number above that of a table
pub is_followed : (n : ℕ) → nat_lt n 255 ≡ true → n < 255
is_followed n is = ltb-true n 255 is

abbrev pub volume_codec : Codec (Unit {0}) VolumeRecord
volume_codec = record {
  number = 1;
  cmp = single_cmp;
  read_key = single_key 1;
  read_value = volume_in;
  is_value = has_length 12;
  positive = some_positive 0;
  total = single_total;
  ordered = behind_ordered 1 nothing_in single_cmp nothing_ordered;
  numbered = behind_numbered 1 nothing_in;
}

abbrev pub name_codec : Codec (List ℕ) ℕ
name_codec = record {
  number = 2;
  cmp = bytes_cmp;
  read_key = bytes_key 2;
  read_value = id_in;
  is_value = has_length 8;
  positive = some_positive 1;
  total = nat_list_cmp_total;
  ordered = behind_ordered 2 all_in bytes_cmp all_ordered;
  numbered = behind_numbered 2 all_in;
}

abbrev pub file_codec : Codec ℕ FileRecord
file_codec = record {
  number = 3;
  cmp = nat_cmp;
  read_key = number_key 3 8;
  read_value = file_in;
  is_value = has_length 24;
  positive = some_positive 2;
  total = nat_cmp_total;
  ordered = behind_ordered 3 (number_in 8) nat_cmp (number_ordered 8);
  numbered = behind_numbered 3 (number_in 8);
}

-- the key is a file and the number of a block of it
abbrev pub extent_codec : Codec (ℕ × ℕ) Extent
extent_codec = record {
  number = 4;
  cmp = pair_cmp;
  read_key = pair_key 4 8 4;
  read_value = extent_in;
  is_value = has_length 6;
  positive = some_positive 3;
  total = pair_total;
  ordered = behind_ordered 4 (pair_in 8 4) pair_cmp (pair_ordered 8 4);
  numbered = behind_numbered 4 (pair_in 8 4);
}

abbrev pub row_codec : Codec ℕ Row
row_codec = record {
  number = 5;
  cmp = nat_cmp;
  read_key = number_key 5 8;
  read_value = row_in;
  is_value = has_length 50;
  positive = some_positive 4;
  total = nat_cmp_total;
  ordered = behind_ordered 5 (number_in 8) nat_cmp (number_ordered 8);
  numbered = behind_numbered 5 (number_in 8);
}

-- the key is a row and the number of a copy of it
abbrev pub place_codec : Codec (ℕ × ℕ) Place
place_codec = record {
  number = 6;
  cmp = pair_cmp;
  read_key = pair_key 6 8 1;
  read_value = place_in;
  is_value = has_length 12;
  positive = some_positive 5;
  total = pair_total;
  ordered = behind_ordered 6 (pair_in 8 1) pair_cmp (pair_ordered 8 1);
  numbered = behind_numbered 6 (pair_in 8 1);
}

abbrev pub container_codec : Codec ℕ Container
container_codec = record {
  number = 7;
  cmp = nat_cmp;
  read_key = number_key 7 8;
  read_value = container_in;
  is_value = has_length 5;
  positive = some_positive 6;
  total = nat_cmp_total;
  ordered = behind_ordered 7 (number_in 8) nat_cmp (number_ordered 8);
  numbered = behind_numbered 7 (number_in 8);
}

-- the key is a container and the number of a page of it
abbrev pub cluster_codec : Codec (ℕ × ℕ) ℕ
cluster_codec = record {
  number = 8;
  cmp = pair_cmp;
  read_key = pair_key 8 8 4;
  read_value = cluster_in;
  is_value = has_length 4;
  positive = some_positive 7;
  total = pair_total;
  ordered = behind_ordered 8 (pair_in 8 4) pair_cmp (pair_ordered 8 4);
  numbered = behind_numbered 8 (pair_in 8 4);
}

abbrev pub result_codec : Codec JobKind ResultRecord
result_codec = record {
  number = 10;
  cmp = kind_cmp;
  read_key = kind_key 10;
  read_value = result_in;
  is_value = has_length 9;
  positive = some_positive 9;
  total = kind_total;
  ordered = behind_ordered 10 kind_in kind_cmp kind_ordered;
  numbered = behind_numbered 10 kind_in;
}

abbrev pub settings_codec : Codec (Unit {0}) Settings
settings_codec = record {
  number = 9;
  cmp = single_cmp;
  read_key = single_key 9;
  read_value = settings_or_empty;
  is_value = is_settings;
  positive = some_positive 8;
  total = single_total;
  ordered = behind_ordered 9 nothing_in single_cmp nothing_ordered;
  numbered = behind_numbered 9 nothing_in;
}

-- ---- all tables

-- How the pairs of a table are spelled: its number, with which each of its keys begins, and which bytes are its keys
-- and its values.
pub record Shape : Type 0 where
  pub number : ℕ
  pub is_key : List ℕ → Bool
  pub is_value : List ℕ → Bool
  pub numbered : (b : List ℕ) → is_key b ≡ true → get_or b 0 0 ≡ number

abbrev pub shape_of : {K V : Type 0} → Codec K V → Shape
shape_of {K} c = record {
  number = c.number;
  is_key = λ b. is_some (c.read_key b);
  is_value = c.is_value;
  numbered = λ b is. key_numbered c.number c.read_key c.numbered b is;
}

-- ALL TABLES. A further one is a line here, and one in `is_well_formed` of the code.
abbrev pub shapes : List Shape
shapes =
    shape_of volume_codec
    ∷ shape_of name_codec
    ∷ shape_of file_codec
    ∷ shape_of extent_codec
    ∷ shape_of row_codec
    ∷ shape_of place_codec
    ∷ shape_of container_codec
    ∷ shape_of cluster_codec
    ∷ shape_of settings_codec
    ∷ shape_of result_codec
    ∷ []

-- a table of this number is one of these
abbrev pub has_number : ℕ → List Shape → Bool
has_number n [] = false
has_number n (s ∷ ss) = nat_eq s.number n || has_number n ss

-- the table is one of all, and none of the others has its number
pub record IsTable {K V : Type 0} (c : Codec K V) : Type 0 where
  pub before : List Shape
  pub after : List Shape
  pub is : shapes ≡ before ++ (shape_of c ∷ after)
  pub once : has_number c.number (before ++ after) ≡ false

-- ---- tables whose records all have as many bytes

-- The table is one of all, its keys have so many bytes, and its values so many.
pub record IsFixed {K V : Type 0} (c : Codec K V) (long size : ℕ) : Type 0 where
  pub table : IsTable c
  pub keys : (b : List ℕ) (k : K) → c.read_key b ≡ Some k → length b ≡ long
  pub values : (b : List ℕ) → c.is_value b ≡ true → length b ≡ size

pub row_fixed : IsFixed row_codec 9 50
row_fixed = record {
  table = record { before = take 4 shapes; after = drop 5 shapes; is = refl; once = refl };
  keys = number_size 5 8;
  values = has_size 50;
}

pub place_fixed : IsFixed place_codec 10 12
place_fixed = record {
  table = record { before = take 5 shapes; after = drop 6 shapes; is = refl; once = refl };
  keys = pair_size 6 8 1;
  values = has_size 12;
}

pub container_fixed : IsFixed container_codec 9 5
container_fixed = record {
  table = record { before = take 6 shapes; after = drop 7 shapes; is = refl; once = refl };
  keys = number_size 7 8;
  values = has_size 5;
}

pub cluster_fixed : IsFixed cluster_codec 13 4
cluster_fixed = record {
  table = record { before = take 7 shapes; after = drop 8 shapes; is = refl; once = refl };
  keys = pair_size 8 8 4;
  values = has_size 4;
}
