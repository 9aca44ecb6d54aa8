-- The inside of an image, or the first reason why it has none.
use Rattle.std.specs.Prelude.{◌≡◌, ◌≢◌, ◌*◌, ℕ, List, [], ◌∷◌, length, Some, Result, Ok, Err}
use Rattle.std.specs.FinMap.{find}
use Rattle.byte_map.specs.Words.{Map, bytes_cmp}
use Rattle.table_records.specs.Values.{volume_in}
use Rattle.volume_inside.specs.declared.layout.TheConstants.{CLUSTER_BYTES}
use Rattle.volume_inside.specs.declared.mount_fault.MountFault.{MountFault}
use Rattle.volume_inside.specs.declared.mount_fault.MountFault.TheVariants.{NotVolume, SizeDiffers, MetaDamaged, VersionUnknown, BadTable, Failed, Memory}
use Rattle.volume_inside.specs.Inside.{Inside}
use Rattle.volume_inside.specs.Superblock.{HasSuperblock}
use Rattle.volume_inside.specs.Rules.{IsLeastBroken}
use Rattle.volume_inside.specs.Shows.{Area, HasInside}

-- what the journal of an image of so many clusters spells: a map, or the number of the half that is damaged
abbrev pub Reading : Type 0
Reading = ℕ → List ℕ → Result Map ℕ

abbrev pub area_of : Reading → ℕ → Area
area_of read n = record { clusters = n; meta = read n }

-- the superblock names n clusters, and the image has as many
pub record IsImageOf (n : ℕ) (image : List ℕ) : Type 0 where
  pub superblock : HasSuperblock n image
  pub size : length image ≡ CLUSTER_BYTES * n

-- the record of the volume is there with its 12 bytes, and has a version that is not 1
pub record HasVersion (found : ℕ) (m : Map) : Type 0 where
  pub value : List ℕ
  pub there : find bytes_cmp (1 ∷ []) m ≡ Some value
  pub whole : length value ≡ 12
  pub is : found ≡ (volume_in value).version
  pub unknown : found ≢ 1

-- each reason stands for itself where those before it do not hold
abbrev pub InsideOf : Reading → List ℕ → Result Inside MountFault → Type 0
InsideOf read image (Ok i) = (n : ℕ) × HasInside (area_of read n) i image
InsideOf read image (Err NotVolume) = (n : ℕ) → HasSuperblock n image → ⊥
InsideOf read image (Err (SizeDiffers said size)) =
    (n : ℕ) × HasSuperblock n image × (said ≡ CLUSTER_BYTES * n) × (size ≡ length image) × (said ≢ size)
InsideOf read image (Err (MetaDamaged half)) = (n : ℕ) × IsImageOf n image × (read n image ≡ Err half)
InsideOf read image (Err (VersionUnknown found)) =
    (n : ℕ) × (m : Map) × IsImageOf n image × (read n image ≡ Ok m) × HasVersion found m
InsideOf read image (Err (BadTable rule)) =
    (n : ℕ) × (m : Map) × IsImageOf n image × (read n image ≡ Ok m) × ((found : ℕ) → HasVersion found m → ⊥)
    × IsLeastBroken n m image rule
InsideOf read image (Err Failed) = ⊥
InsideOf read image (Err Memory) = ⊥
