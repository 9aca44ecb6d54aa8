-- A fresh journal, and what a crash leaves while it is made.
use Rattle.std.specs.Prelude.{◌≡◌, ◌⊎◌, ◌+◌, ◌*◌, ℕ, false, List, [], Ok, Err}
use Rattle.vdisk.specs.Disk.{DiskState, ChangedWithin}
use Rattle.meta_log.specs.declared.limits.TheConstants.{CHECKPOINT_HEAD}
use Rattle.meta_log.specs.Meta.{meta_of}
use Rattle.meta_log.specs.Ready.{Layout}

-- the first half is live, with the checkpoint of no pair and the first epoch
abbrev pub fresh : ℕ → ℕ → Layout
fresh at half = record {
  at = at;
  half = half;
  live_at = at;
  other_at = at + half;
  place = CHECKPOINT_HEAD;
  epoch = 1;
  other_open = false;
}

-- What a crash may leave: what it might have left before but for the two gates; or the disk as it read but for the
-- halves, which spell no map, or the empty one.
abbrev pub IsFormatImage : ℕ → ℕ → DiskState → List ℕ → Type 0
IsFormatImage at half old c =
    ((d : List ℕ) × (e : List ℕ) × old.may_leave d × ChangedWithin (at + half) 1 d e × ChangedWithin at 1 e c)
    ⊎ (ChangedWithin at (2 * half) old.image c × ((meta_of at half c ≡ Err 2) ⊎ (meta_of at half c ≡ Ok [])))
