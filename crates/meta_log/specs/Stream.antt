-- What a stream of bytes to a disk does: it writes them in order, and keeps the last of them waiting.
use Rattle.std.specs.Prelude.{◌≡◌, ◌≤◌, ◌+◌, ◌-◌, ℕ, IsTrue, List, ◌++◌, length}
use Rattle.vdisk.specs.Disk.{DiskState, ChangedWithin}
use Rattle.vdisk.specs.Ranges.{part}
use Rattle.vdisk.specs.Steps.{TornWithin}

-- what was streamed from a place on: the disk's bytes up to the next place, and those that wait
abbrev pub streamed : ℕ → ℕ → List ℕ → DiskState → List ℕ
streamed from place waiting s = part from (place - from) s.image ++ waiting

-- the stream of a place, waiting bytes and a disk goes on by these bytes
pub record Advances (bytes : List ℕ) (place : ℕ) (waiting : List ℕ) (old : DiskState) (next : ℕ) (waits : List ℕ)
    (new : DiskState) : Type 0 where
  pub low : place ≤ next
  pub count : next + length waits ≡ place + (length waiting + length bytes)
  pub text : IsTrue old.tells → (from : ℕ) → from ≤ place
      → streamed from next waits new ≡ streamed from place waiting old ++ bytes

-- writes in a range of n bytes, which a crash may tear
pub record WritesWithin (at n : ℕ) (old new : DiskState) : Type 0 where
  pub change : ChangedWithin at n old.image new.image
  pub torn : TornWithin at n old new
