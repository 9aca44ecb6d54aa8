-- What a crash leaves, during a run and behind it.
use Rattle.std.specs.Prelude.{◌≡◌, ◌⊎◌, ◌≤◌, ◌+◌, ℕ, List, [], ◌∷◌, length, take, false, Contains, Ok}
use Rattle.vdisk.specs.Disk.{DiskState}
use Rattle.vdisk.specs.Steps.{Keeps}
use Rattle.vdisk.specs.declared.disk.Disk.{Ghosts}
use Rattle.plain_volume.specs.Volume.{Volume}
use Rattle.plain_volume.specs.Step.{replay}
use Rattle.plain_volume.specs.declared.call.Call.{Call}
use Rattle.plain_volume.specs.declared.call.Reply.{Reply}
use Rattle.volume_inside.specs.Inside.{Inside}
use Rattle.volume_inside.specs.InsideOf.{InsideOf}
use Rattle.volume_inside.specs.View.{view}
use Rattle.volume_tables.specs.Mount.{read_meta}
use Rattle.volume_core.specs.Bounds.{HasSpent}
use Rattle.volume_core.specs.Volumes.{disk_of, view_now, clusters_in, stopped, IsKept}
use Rattle.ddpsh.specs.Bounds.{touched_by_all}
use Rattle.ddpsh.specs.declared.acks.Ack.{Ack}
use Rattle.volume_core.specs.declared.volume.Volume.{Volume as Engine}

-- mounting the image gives this volume
pub record Mounts (w : Volume) (image : List ℕ) : Type 0 where
  pub inside : Inside
  pub has : InsideOf read_meta image (Ok inside)
  pub is : view inside ≡ w

-- mounting the image gives the volume after the first so many of these calls, at least some number of them
pub record MountsAfter (opening : Volume) (calls : List (Call × Reply)) (least : ℕ) (image : List ℕ) : Type 0 where
  pub count : ℕ
  pub enough : least ≤ count
  pub within : count ≤ length calls
  pub mounts : Mounts (replay opening (take count calls)) image

module _ {D : Type 0} {d : Ghosts D} where
  -- WHAT A LINE CARRIES OVER with its calls: at any moment of them a crash leaves what was kept before them, or the
  -- volume after the first so many of them; and one of these is kept after them, unless the volume is stopped. What was
  -- spent goes on by the clusters that they touch, one id and one epoch at most.
  pub record Carries (old new : Engine D d) (calls : List (Call × Reply)) : Type 0 where
    pub moments : (w : Volume) → IsKept old w
        → Keeps (disk_of old) (disk_of new) (λ c. Mounts w c ⊎ MountsAfter (view_now old) calls 0 c)
    pub kept : (w : Volume) → IsKept old w → stopped new ≡ false
        → IsKept new w ⊎ ((k : ℕ) × (k ≤ length calls) × IsKept new (replay (view_now old) (take k calls)))
    pub clusters : clusters_in new ≡ clusters_in old
    pub spends : (b i : ℕ) → HasSpent old b i → stopped new ≡ false
        → HasSpent new (b + touched_by_all calls) (i + 1)

-- the moments of these acknowledgements never fall, from one moment to another
abbrev pub AreInOrder : ℕ → List Ack → ℕ → Type 0
AreInOrder from [] to = from ≤ to
AreInOrder from (ack ∷ acks) to = (from ≤ ack.moment) × AreInOrder ack.moment acks to

-- WHAT A CRASH LEAVES since a volume was opened at a moment, where these calls were made and these acknowledgements
-- were given: the volume after a front of the calls, which holds every call that was acknowledged by then.
pub record Lasts (opening : Volume) (opened : ℕ) (calls : List (Call × Reply)) (acks : List Ack)
    (s : DiskState) : Type 0 where
  pub since : (c : List ℕ) → s.left_since opened c → MountsAfter opening calls 0 c
  pub acknowledged : (ack : Ack) → Contains acks ack → (c : List ℕ) → s.left_since ack.moment c
      → MountsAfter opening calls ack.calls c
  pub order : AreInOrder opened acks s.moment

-- The same, told of each moment before the opening too, at which a crash could leave the opening volume alone.
pub record LastsFrom (opening : Volume) (first now : DiskState) (calls : List (Call × Reply))
    (acks : List Ack) : Type 0 where
  pub since : (t : ℕ) → t ≤ first.moment → ((c : List ℕ) → first.left_since t c → Mounts opening c)
      → (c : List ℕ) → now.left_since t c → MountsAfter opening calls 0 c
  pub acknowledged : (ack : Ack) → Contains acks ack → (c : List ℕ) → now.left_since ack.moment c
      → MountsAfter opening calls ack.calls c
  pub order : AreInOrder first.moment acks now.moment
