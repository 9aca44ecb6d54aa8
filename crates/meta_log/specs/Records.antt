-- Records: their bytes, and what they do to a map.
use Rattle.std.specs.Prelude.{◌==◌, ◌+◌, ℕ, zero, suc, nat_lt, List, [], ◌∷◌, length, drop, get_or, Option, Some, None, if◌then◌else◌, option_map}
use Rattle.std.specs.FinMap.Entries.{put, is_sorted}
use Rattle.byteorder.specs.Endian.{big_number}
use Rattle.vdisk.specs.Ranges.{part}
use Rattle.byte_map.specs.Words.{Map, bytes_cmp, without}

pub data Record : Type 0 where
  -- sets the value of a key
  Put : List ℕ → List ℕ → Record
  -- drops every key k with from <= k < to
  DropRange : List ℕ → List ℕ → Record

-- a map changed by a record
abbrev pub change : Record → Map → Map
change (Put key value) m = put bytes_cmp key value m
change (DropRange from to) m = without from to m

-- a map changed by each record in order
abbrev pub changes : List Record → Map → Map
changes [] m = m
changes (r ∷ rs) m = changes rs (change r m)

-- A record is a tag [1], the lengths of its two strings [2] [2], and the strings.
abbrev pub first_length : List ℕ → ℕ
first_length bytes = big_number 2 (drop 1 bytes)

abbrev pub second_length : List ℕ → ℕ
second_length bytes = big_number 2 (drop 3 bytes)

-- what stands behind the tag
abbrev pub rest_length : List ℕ → ℕ
rest_length bytes = 4 + first_length bytes + second_length bytes

abbrev pub tagged : ℕ → List ℕ → List ℕ → Option Record
tagged tag first second =
    if tag == 1 then Some (Put first second) else (if tag == 2 then Some (DropRange first second) else None)

-- the record at the front of these bytes
abbrev pub record_at : List ℕ → Option Record
record_at bytes =
    if nat_lt (length bytes) (suc (rest_length bytes)) then None
    else tagged (get_or bytes 0 0) (part 5 (first_length bytes) bytes)
    (part (5 + first_length bytes) (second_length bytes) bytes)

abbrev pub with_record : Option Record → Option (List Record) → Option (List Record)
with_record None rest = None
with_record (Some r) rest = option_map (λ rs. r ∷ rs) rest

-- the records that these bytes are a list of, after so many bytes that are passed over
abbrev pub records_from : ℕ → List ℕ → Option (List Record)
records_from skip [] = Some []
records_from (suc skip) (b ∷ bytes) = records_from skip bytes
records_from zero (tag ∷ bytes) = with_record (record_at (tag ∷ bytes)) (records_from (rest_length (tag ∷ bytes)) bytes)

abbrev pub records_of : List ℕ → Option (List Record)
records_of = records_from 0

-- the pairs that these records set, where each sets one
abbrev pub pairs_of : List Record → Option Map
pairs_of [] = Some []
pairs_of (Put key value ∷ rs) = option_map (λ m. (key, value) ∷ m) (pairs_of rs)
pairs_of (DropRange from to ∷ rs) = None

abbrev pub ascending : Map → Option Map
ascending m = if is_sorted bytes_cmp m then Some m else None
