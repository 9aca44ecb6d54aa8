-- How a checkpoint changes where a journal stands.
use Rattle.std.specs.Prelude.{◌≡◌, ◌≢◌, ◌+◌, ℕ, true, List, get_or}
use Rattle.vdisk.specs.Disk.{DiskState, ChangedWithin}
use Rattle.vdisk.specs.Ranges.{part}
use Rattle.meta_log.specs.Ready.{Layout}

-- The gate of the other half stands closed in each image that a crash may leave, which otherwise is one of before but
-- for that half.
pub record IsShut (l : Layout) (old new : DiskState) : Type 0 where
  pub tells : new.tells ≡ old.tells
  pub change : ChangedWithin l.other_at l.half old.image new.image
  pub from : (c : List ℕ) → new.may_leave c
      → (d : List ℕ) × old.may_leave d × ChangedWithin l.other_at l.half d c
      × (get_or (part l.other_at l.half c) 0 0 ≢ 1)

-- the halves have changed places, and the next group goes behind the new checkpoint
abbrev pub turned : Layout → ℕ → Layout
turned l place = record l {
  live_at = l.other_at;
  other_at = l.live_at;
  place = place;
  epoch = l.epoch + 1;
  other_open = true;
}
