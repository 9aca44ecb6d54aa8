-- What is known while a half is read.
use Rattle.std.specs.Prelude.{◌≡◌, ◌<◌, ◌≤◌, ◌+◌, ◌*◌, ◌^◌, ℕ, suc, T, List, ◌∷◌, length, take, drop, true, Option, Some, option_map}
use Rattle.std.specs.FinMap.Entries.{is_sorted}
use Rattle.vdisk.specs.Ranges.{part}
use Rattle.byte_map.specs.Words.{Map, bytes_cmp, bytes_in}
use Rattle.meta_log.specs.declared.limits.TheConstants.{BEFORE_BODY, CHECKPOINT_HEAD, RECORD_HEAD}
use Rattle.meta_log.specs.Records.{Record, Put, DropRange, change, changes, first_length, second_length, rest_length, record_at, records_of, pairs_of}
use Rattle.meta_log.specs.Spelled.{Fits}
use Rattle.meta_log.specs.Short.{are_short}
use Rattle.meta_log.specs.Meta.{and_then, group_length, group_at, groups_from, groups_length, groups_end, is_epoch, epoch_of, body_length, checkpoint_at, checkpoint_map, map_of_half}
use Rattle.meta_log.specs.declared.head.Effect.{Effect}
use Rattle.meta_log.specs.declared.head.Effect.TheVariants.{Sets, Drops}
use Rattle.meta_log.specs.declared.head.RecordHead.{RecordHead}

-- the record of two strings
abbrev pub record_of : Effect → List ℕ → List ℕ → Record
record_of Sets first second = Put first second
record_of Drops first second = DropRange first second

-- the bytes of a map's Put records, each of which has five bytes before its pair
abbrev pub records_bytes : Map → ℕ
records_bytes m = RECORD_HEAD * length m + bytes_in m

abbrev pub strings_bytes : Record → ℕ
strings_bytes (Put key value) = length key + length value
strings_bytes (DropRange from to) = length from + length to

-- a map that a checkpoint can spell: its keys ascend strictly, and its strings have lengths of two bytes
pub record IsSpellable (m : Map) : Type 0 where
  pub sorted : T (is_sorted bytes_cmp m)
  pub short : are_short m ≡ true

-- the head of the record at the front of these bytes
pub record IsHeadOf (bytes : List ℕ) (head : RecordHead) : Type 0 where
  pub first : head.first ≡ first_length bytes
  pub second : head.second ≡ second_length bytes
  pub whole : 5 + (head.first + head.second) ≤ length bytes
  pub low : head.first < 2 ^ 16
  pub short : head.second < 2 ^ 16
  pub reads : record_at bytes
      ≡ Some (record_of head.effect (part 5 head.first bytes) (part (5 + head.first) head.second bytes))

-- the pairs that these bytes' records set, where each sets one
abbrev pub pairs_in : List ℕ → Option Map
pairs_in bytes = and_then (records_of bytes) (λ made. pairs_of made)

-- the head of the Put record at the front of these bytes, which has its strings' bytes and five more
pub record IsPutHeadOf (bytes : List ℕ) (head : RecordHead) : Type 0 where
  pub whole : 5 + (head.first + head.second) ≤ length bytes
  pub first : head.first < 2 ^ 16
  pub second : head.second < 2 ^ 16
  pub rest : pairs_in bytes
      ≡ option_map (λ m. (part 5 head.first bytes, part (5 + head.first) head.second bytes) ∷ m)
      (pairs_in (drop (5 + (head.first + head.second)) bytes))

-- the record at the front of these bytes, so many of them, has changed a map
pub record IsTaken (bytes : List ℕ) (old new : Map) (n : ℕ) : Type 0 where
  pub made : Record
  pub reads : record_at bytes ≡ Some made
  pub changed : new ≡ change made old
  pub count : n ≡ suc (rest_length bytes)
  pub within : n ≤ length bytes
  pub long : 5 + strings_bytes made ≤ n
  pub short : Fits made

-- the group at the front of these bytes is whole, and its digest is right
pub record IsGroupOf (bytes : List ℕ) (n : ℕ) : Type 0 where
  pub count : n ≡ group_length bytes
  pub whole : BEFORE_BODY + n ≤ length bytes
  pub reads : group_at bytes ≡ records_of (part BEFORE_BODY n bytes)

-- the group at the front of these bytes, so many of them, has changed a map
pub record IsGroupTaken (bytes : List ℕ) (old new : Map) (n : ℕ) : Type 0 where
  pub made : List Record
  pub reads : group_at bytes ≡ Some made
  pub changed : new ≡ changes made old
  pub count : n ≡ BEFORE_BODY + group_length bytes
  pub within : n ≤ length bytes
  pub fits : records_bytes new ≤ records_bytes old + n
  pub spellable : IsSpellable new

-- the checkpoint at the front of a half is whole, its epoch is in range, and its digest is right
pub record IsCheckpointOf (half : List ℕ) (n : ℕ) : Type 0 where
  pub epoch : is_epoch (epoch_of half) ≡ true
  pub count : n ≡ body_length half
  pub whole : CHECKPOINT_HEAD + n ≤ length half
  pub reads : checkpoint_at half ≡ checkpoint_map (part CHECKPOINT_HEAD n half)

-- A half was read up to a place: whatever stands from there on, the half's map is this one changed by the groups there,
-- and its groups end where those do. A checkpoint of it takes no more bytes than were read.
pub record IsReadTo (place : ℕ) (half : List ℕ) (m : Map) : Type 0 where
  pub spells : (s : List ℕ) → length s ≡ length half → take place s ≡ take place half
      → map_of_half s ≡ groups_from 0 m (drop place s)
  pub ends : (s : List ℕ) → length s ≡ length half → take place s ≡ take place half
      → groups_end s ≡ place + groups_length 0 (drop place s)
  pub within : place ≤ length half
  pub fits : CHECKPOINT_HEAD + records_bytes m ≤ place
  pub spellable : IsSpellable m
