-- The bytes of a checkpoint, and the half that has it.
use Rattle.std.specs.Prelude.{◌≡◌, ◌≢◌, ◌⊎◌, ◌≤◌, ◌+◌, ◌-◌, ℕ, List, [], ◌∷◌, ◌++◌, length, get_or}
use Rattle.byteorder.specs.Endian.{big_bytes}
use Rattle.vdisk.specs.Disk.{DiskState, ChangedWithin}
use Rattle.vdisk.specs.Ranges.{part}
use Rattle.byte_map.specs.Words.{Map}
use Rattle.meta_log.specs.declared.limits.TheConstants.{CHECKPOINT_HEAD}
use Rattle.meta_log.specs.Records.{Record, Put}
use Rattle.meta_log.specs.Spelled.{spelled}
use Rattle.meta_log.specs.Meta.{digest_of}

-- a record for each pair
abbrev pub puts : Map → List Record
puts [] = []
puts (e ∷ m) = Put e.0 e.1 ∷ puts m

abbrev pub body_text : Map → List ℕ
body_text m = spelled (puts m)

-- its epoch and the length of its body
abbrev pub front_text : ℕ → Map → List ℕ
front_text epoch m = big_bytes 8 epoch ++ big_bytes 4 (length (body_text m))

-- what stands behind its gate
abbrev pub checkpoint_text : ℕ → Map → List ℕ
checkpoint_text epoch m = front_text epoch m ++ (digest_of (front_text epoch m ++ body_text m) ++ body_text m)

-- behind whatever gate the half has the checkpoint of this map, and no open gate behind that
pub record IsCheckpoint (epoch : ℕ) (m : Map) (half : List ℕ) : Type 0 where
  pub text : part 1 (44 + length (body_text m)) half ≡ checkpoint_text epoch m
  pub closed : get_or half (CHECKPOINT_HEAD + length (body_text m)) 0 ≢ 1
  pub within : CHECKPOINT_HEAD + length (body_text m) ≤ length half

-- What a crash may leave while a checkpoint is written to the half at a place: bytes behind its closed gate are torn;
-- or the checkpoint stands there, and its gate is torn.
abbrev pub IsHalfImage : ℕ → ℕ → DiskState → ℕ → Map → List ℕ → Type 0
IsHalfImage at half old epoch m c =
    ((d : List ℕ) × old.may_leave d × ChangedWithin (at + 1) (half - 1) d c)
    ⊎ (ChangedWithin at half old.image c × IsCheckpoint epoch m (part at half c))
