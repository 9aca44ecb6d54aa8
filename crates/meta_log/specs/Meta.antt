-- The map that the two halves of an image spell.
use Rattle.std.specs.Prelude.{◌&&◌, ◌==◌, ◌+◌, ◌-◌, ◌^◌, ℕ, zero, suc, Bool, nat_eq, nat_lt, List, [], ◌∷◌, ◌++◌, length, take, drop, get_or, Option, Some, None, Result, Ok, Err, if◌then◌else◌}
use Rattle.std.specs.Cmp.Lexicographic.{pointwise}
use Rattle.byteorder.specs.Endian.{big_number}
use Rattle.sha2.specs.Sha256.{sha256}
use Rattle.vdisk.specs.Ranges.{part}
use Rattle.byte_map.specs.Words.{Map}
use Rattle.meta_log.specs.declared.limits.TheConstants.{BEFORE_BODY, CHECKPOINT_HEAD}
use Rattle.meta_log.specs.Records.{Record, records_of, changes, pairs_of, ascending}

-- SHA-256 of FIPS 180-4. No lemma on what a torn write leaves looks into it.
unfoldable pub digest_of : List ℕ → List ℕ
digest_of text = sha256 text

abbrev pub and_then : {A B : Type 0} → Option A → (A → Option B) → Option B
and_then None next = None
and_then (Some x) next = next x

abbrev pub where_digest : {A : Type 0} → List ℕ → List ℕ → Option A → Option A
where_digest digest text value = if pointwise nat_eq digest (digest_of text) then value else None

-- Behind an open gate a group is the length of its body [4], the digest of length and body [32], and the body.
abbrev pub group_length : List ℕ → ℕ
group_length bytes = big_number 4 bytes

abbrev pub group_body : List ℕ → List ℕ
group_body bytes = part BEFORE_BODY (group_length bytes) bytes

-- the records of the group at the front of these bytes
abbrev pub group_at : List ℕ → Option (List Record)
group_at bytes =
    if nat_lt (length bytes) (BEFORE_BODY + group_length bytes) then None
    else where_digest (part 4 32 bytes) (take 4 bytes ++ group_body bytes) (records_of (group_body bytes))

-- a map changed by the groups up to the first closed gate, or up to the end, after so many bytes that are passed over
abbrev pub groups_from : ℕ → Map → List ℕ → Option Map
groups_from skip m [] = Some m
groups_from (suc skip) m (b ∷ bytes) = groups_from skip m bytes
groups_from zero m (gate ∷ bytes) =
    if gate == 1 then and_then (group_at bytes) (λ rs. groups_from (BEFORE_BODY + group_length bytes) (changes rs m) bytes)
    else Some m

-- how many bytes the groups have up to the first closed gate, or up to the end, after so many that are passed over
abbrev pub groups_length : ℕ → List ℕ → ℕ
groups_length skip [] = 0
groups_length (suc skip) (b ∷ bytes) = suc (groups_length skip bytes)
groups_length zero (gate ∷ bytes) = if gate == 1 then suc (groups_length (BEFORE_BODY + group_length bytes) bytes) else 0

-- A half begins with a checkpoint: gate [1], epoch [8], the length of the body [4], the digest of these two and the
-- body [32], and the body.
abbrev pub is_open : List ℕ → Bool
is_open half = get_or half 0 0 == 1

abbrev pub epoch_of : List ℕ → ℕ
epoch_of half = big_number 8 (drop 1 half)

abbrev pub body_length : List ℕ → ℕ
body_length half = big_number 4 (drop 9 half)

abbrev pub body_of : List ℕ → List ℕ
body_of half = part CHECKPOINT_HEAD (body_length half) half

-- the pairs of a checkpoint, which is a list of Put records with strictly ascending keys
abbrev pub checkpoint_map : List ℕ → Option Map
checkpoint_map body = and_then (records_of body) (λ rs. and_then (pairs_of rs) (λ m. ascending m))

-- an epoch is 1 to 2^63 - 1
abbrev pub last_epoch : ℕ
last_epoch = 2 ^ 63 - 1

abbrev pub is_epoch : ℕ → Bool
is_epoch e = nat_lt 0 e && nat_lt e (2 ^ 63)

-- the pairs of the checkpoint at the front of a half
abbrev pub checkpoint_at : List ℕ → Option Map
checkpoint_at half =
    if nat_lt (length half) (CHECKPOINT_HEAD + body_length half) then None
    else where_digest (part 13 32 half) (part 1 12 half ++ body_of half) (checkpoint_map (body_of half))

-- the map that a live half spells
abbrev pub map_of_half : List ℕ → Option Map
map_of_half half =
    if is_epoch (epoch_of half)
    then and_then (checkpoint_at half) (λ m. groups_from 0 m (drop (CHECKPOINT_HEAD + body_length half) half))
    else None

-- where the groups behind the checkpoint of a half end
abbrev pub groups_end : List ℕ → ℕ
groups_end half = CHECKPOINT_HEAD + body_length half + groups_length 0 (drop (CHECKPOINT_HEAD + body_length half) half)

-- the half with an open gate and the greater epoch, where there is one
abbrev pub live_of : List ℕ → List ℕ → Option ℕ
live_of first second =
    if is_open first && is_open second
    then (if nat_lt (epoch_of second) (epoch_of first) then Some 0
    else (if nat_lt (epoch_of first) (epoch_of second) then Some 1 else None))
    else (if is_open first then Some 0 else (if is_open second then Some 1 else None))

abbrev pub or_damaged : ℕ → Option Map → Result Map ℕ
or_damaged half None = Err half
or_damaged half (Some m) = Ok m

-- the map of the live half; or which half is damaged: 2 where neither is live
abbrev pub map_of_live : Option ℕ → List ℕ → List ℕ → Result Map ℕ
map_of_live None first second = Err 2
map_of_live (Some zero) first second = or_damaged 0 (map_of_half first)
map_of_live (Some (suc n)) first second = or_damaged 1 (map_of_half second)

-- the map that an image spells, whose halves of so many bytes stand one behind the other at a place
abbrev pub meta_of : ℕ → ℕ → List ℕ → Result Map ℕ
meta_of at half image =
    let first = part at half image in
    let second = part (at + half) half image in
    map_of_live (live_of first second) first second

-- the one of two halves that is live
abbrev pub live_one : Option ℕ → List ℕ → List ℕ → List ℕ
live_one None first second = []
live_one (Some zero) first second = first
live_one (Some (suc n)) first second = second

-- the live half of an image, as bytes
abbrev pub live_half : ℕ → ℕ → List ℕ → List ℕ
live_half at half image =
    let first = part at half image in
    let second = part (at + half) half image in
    live_one (live_of first second) first second

-- where in the live half of an image the groups end
abbrev pub place_in : ℕ → ℕ → List ℕ → ℕ
place_in at half image = groups_end (live_half at half image)

-- the epoch of the live half of an image
abbrev pub epoch_in : ℕ → ℕ → List ℕ → ℕ
epoch_in at half image = epoch_of (live_half at half image)
