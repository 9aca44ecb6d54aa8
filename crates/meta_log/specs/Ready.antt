-- When a journal may be used, and what its calls do to a disk.
use Rattle.std.specs.Prelude.{◌≡◌, ◌≢◌, ◌⊎◌, ◌<◌, ◌≤◌, ◌+◌, ◌*◌, ℕ, Bool, IsTrue, List, length, take, drop, get_or, Ok}
use Rattle.vdisk.specs.Disk.{DiskState, ChangedWithin}
use Rattle.vdisk.specs.Ranges.{part}
use Rattle.byte_map.specs.Words.{Map}
use Rattle.meta_log.specs.declared.limits.TheConstants.{CHECKPOINT_HEAD}
use Rattle.meta_log.specs.Meta.{map_of_half, groups_from, groups_length, groups_end, epoch_of, epoch_in, place_in, meta_of}

-- Where a journal stands on its disk: its two halves of so many bytes, one behind the other, which of them is live
-- and where that one's next group goes; the live half's epoch; whether the other half's gate may be open.
pub record Layout : Type 0 where
  pub at : ℕ
  pub half : ℕ
  pub live_at : ℕ
  pub other_at : ℕ
  pub place : ℕ
  pub epoch : ℕ
  pub other_open : Bool

-- the live half is the first and the other the second, or the other way round
abbrev pub AreHalves : ℕ → ℕ → ℕ → ℕ → Type 0
AreHalves at half live_at other_at =
    ((live_at ≡ at) × (other_at ≡ at + half)) ⊎ ((live_at ≡ at + half) × (other_at ≡ at))

-- From a closed gate on, whatever stands in the half's free tail, its map is this one changed by the groups there, and
-- its groups end where those do. So the groups of the half as it is end at the gate.
pub record GoesOn (place : ℕ) (half : List ℕ) (m : Map) : Type 0 where
  pub spells : (s : List ℕ) → length s ≡ length half → take place s ≡ take place half
      → map_of_half s ≡ groups_from 0 m (drop place s)
  pub ends : (s : List ℕ) → length s ≡ length half → take place s ≡ take place half
      → groups_end s ≡ place + groups_length 0 (drop place s)
  pub closed : get_or half place 0 ≢ 1
  pub within : place ≤ length half
  pub behind : CHECKPOINT_HEAD ≤ place

-- The half is live beside the other one: its gate is open, and the other's is closed, or stands over a lesser epoch.
pub record IsLive (epoch : ℕ) (other_open : Bool) (half other : List ℕ) : Type 0 where
  pub gate : get_or half 0 0 ≡ 1
  pub counts : epoch_of half ≡ epoch
  pub beside : (get_or other 0 0 ≢ 1) ⊎ (IsTrue other_open × (epoch_of other < epoch))
  -- a gate that may be written over, and so be torn open, stands over a lesser epoch
  pub lesser : IsTrue other_open → epoch_of other < epoch

-- an image tells that a journal goes on from this place, where the live half's groups end, and from that half's epoch
pub record GoesOnFrom (at half place epoch : ℕ) (image : List ℕ) : Type 0 where
  pub next : place ≡ place_in at half image
  pub counts : epoch ≡ epoch_in at half image

-- The disk tells what it holds, each crash image has the journal of the disk as it reads, and that spells the map.
pub record Stands (l : Layout) (s : DiskState) (m : Map) : Type 0 where
  pub told : IsTrue s.tells
  pub fits : l.at + 2 * l.half ≤ length s.image
  pub halves : AreHalves l.at l.half l.live_at l.other_at
  pub same : (c : List ℕ) → s.may_leave c
      → (part l.at (2 * l.half) c ≡ part l.at (2 * l.half) s.image) × (length c ≡ length s.image)
  pub live : IsLive l.epoch l.other_open (part l.live_at l.half s.image) (part l.other_at l.half s.image)
  pub goes_on : GoesOn l.place (part l.live_at l.half s.image) m

-- What a crash in a commit may leave: what it might have left before but for the journal, which spells the same map;
-- or the disk as it read but for the journal, which spells the new map.
abbrev pub IsCommitImage : ℕ → ℕ → DiskState → Map → List ℕ → Type 0
IsCommitImage at half old n c =
    ((d : List ℕ) × old.may_leave d × ChangedWithin at (2 * half) d c × (meta_of at half c ≡ meta_of at half d))
    ⊎ (ChangedWithin at (2 * half) old.image c × (meta_of at half c ≡ Ok n))

-- What a crash may leave after a commit that answered Ok: the new map, with the bytes outside as they read,
-- or as a crash might have left them where nothing was staged.
abbrev pub IsSettledImage : ℕ → ℕ → DiskState → Map → Map → List ℕ → Type 0
IsSettledImage at half old m n c =
    (meta_of at half c ≡ Ok n) × (ChangedWithin at (2 * half) old.image c ⊎ (old.may_leave c × (m ≡ n)))
