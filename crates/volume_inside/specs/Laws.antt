-- Words and statements of the laws.
use Rattle.std.specs.Prelude.{◌≡◌, ◌*◌, ℕ, Bool, List, None, Ok}
use Rattle.vdisk.specs.Disk.{DiskState, ChangedWithin}
use Rattle.vdisk.specs.Steps.{Keeps, TornWithin}
use Rattle.byte_map.specs.Words.{Map}
use Rattle.plain_volume.specs.Volume.{Cells, Volume, lost_where}
use Rattle.volume_inside.specs.Typed.{typed_of}
use Rattle.volume_inside.specs.Ranges.{IsApart}
use Rattle.volume_inside.specs.Named.{named}
use Rattle.volume_inside.specs.Inside.{inside_at}
use Rattle.volume_inside.specs.ChunkRules.{MapsHold}
use Rattle.volume_inside.specs.Rules.{IsVolume}
use Rattle.volume_inside.specs.Shows.{Area, Shows, Kept, ShowsEither, view_at}
use Rattle.volume_inside.specs.Commits.{IsCommitImage, IsSettledImage}

-- no cell is lost, whichever places are looked at
abbrev pub IsWhole : Cells → Type 0
IsWhole cells = (test : ℕ → Bool) (n : ℕ) → lost_where test n cells ≡ None

-- each image that a crash now may leave spells the map
abbrev pub Spells : Area → DiskState → Map → Type 0
Spells a s m = (image : List ℕ) → s.may_leave image → a.meta image ≡ Ok m

-- a change of n bytes at a place is not seen by the journal
abbrev pub IsUnread : Area → ℕ → ℕ → Type 0
IsUnread a at n = (old new : List ℕ) → ChangedWithin at n old new → a.meta new ≡ a.meta old

-- A write of data apart from the journal and from what the stored tables name, torn anyhow, keeps what is shown.
abbrev pub DataWritesKeep : DiskState → DiskState → Type 0
DataWritesKeep old new =
    (a : Area) (at n : ℕ) (m : Map) (w : Volume) → TornWithin at n old new → Spells a old m → IsUnread a at n
    → IsApart at n (named (typed_of m)) → Kept a old w → Keeps old new (Shows a w)

-- Before a commit each crash image spells m and shows w. The map now is n, one of a volume whose bases have the maps
-- that they should, and neither map names a byte of the journal, whose halves of so many bytes stand at a place.
pub record IsReady (a : Area) (old : DiskState) (at half : ℕ) (m n : Map) (w : Volume) : Type 0 where
  pub spells : Spells a old m
  pub apart : IsApart at (2 * half) (named (typed_of m))
  pub apart_now : IsApart at (2 * half) (named (typed_of n))
  pub volume : IsVolume a.clusters n
  pub maps : MapsHold (inside_at (typed_of n) old.image)
  pub kept : Kept a old w

-- At each moment of a commit a crash leaves what was shown before it or the tables now.
abbrev pub CommitsShowEither : DiskState → DiskState → Type 0
CommitsShowEither old new =
    (a : Area) (at half : ℕ) (m n : Map) (w : Volume) → IsReady a old at half m n w
    → Keeps old new (IsCommitImage a.meta at half old n)
    → Keeps old new (ShowsEither a w (view_at (typed_of n) old.image))

-- After a commit that answered Ok the tables now are kept.
abbrev pub CommitsSettle : DiskState → DiskState → Type 0
CommitsSettle old new =
    (a : Area) (at half : ℕ) (m n : Map) (w : Volume) → IsReady a old at half m n w
    → ((image : List ℕ) → new.may_leave image → IsSettledImage a.meta at half old m n image)
    → Kept a new (view_at (typed_of n) old.image)
