-- What an image shows, and what is kept.
use Rattle.std.specs.Prelude.{◌≡◌, ◌⊎◌, ◌*◌, ℕ, List, length, Result, Ok}
use Rattle.vdisk.specs.Disk.{DiskState}
use Rattle.byte_map.specs.Words.{Map}
use Rattle.plain_volume.specs.Volume.{Volume}
use Rattle.volume_inside.specs.declared.layout.TheConstants.{CLUSTER_BYTES}
use Rattle.volume_inside.specs.Typed.{Typed, typed_of}
use Rattle.volume_inside.specs.Inside.{Inside, inside_at}
use Rattle.volume_inside.specs.View.{view}
use Rattle.volume_inside.specs.Superblock.{HasSuperblock}
use Rattle.volume_inside.specs.ChunkRules.{MapsHold}
use Rattle.volume_inside.specs.Rules.{IsVolume}

-- How the images of a volume are read: how many clusters they have, and what the journal of an image spells, a map or
-- the number of the half that is damaged.
pub record Area : Type 0 where
  pub clusters : ℕ
  pub meta : List ℕ → Result Map ℕ

-- the image has an inside, and this is it
pub record HasInside (a : Area) (i : Inside) (image : List ℕ) : Type 0 where
  pub superblock : HasSuperblock a.clusters image
  pub size : length image ≡ CLUSTER_BYTES * a.clusters
  pub stored : Map
  pub spells : a.meta image ≡ Ok stored
  pub volume : IsVolume a.clusters stored
  pub is : inside_at (typed_of stored) image ≡ i
  pub maps : MapsHold (inside_at (typed_of stored) image)

-- the image has an inside, and w is its view
pub record Shows (a : Area) (w : Volume) (image : List ℕ) : Type 0 where
  pub inside : Inside
  pub has : HasInside a inside image
  pub is : view inside ≡ w

-- WHAT IS KEPT, in the sense of the definition: each image that a crash now may leave has an inside and shows w. The
-- stronger invariant of the calls has a name of its own where these are.
abbrev pub Kept : Area → DiskState → Volume → Type 0
Kept a s w = (image : List ℕ) → s.may_leave image → Shows a w image

-- an image shows one of the two
abbrev pub ShowsEither : Area → Volume → Volume → List ℕ → Type 0
ShowsEither a w now image = Shows a w image ⊎ Shows a now image

-- the volume that tables spell with the disk as it reads
abbrev pub view_at : Typed → List ℕ → Volume
view_at t image = view (inside_at t image)

-- what tables in memory and the disk as it reads show now
abbrev pub now : Typed → DiskState → Volume
now t s = view_at t s.image
