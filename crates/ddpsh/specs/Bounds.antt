-- What a run has spent, and what may be wanting in it.
use Rattle.std.specs.Prelude.{◌≡◌, ◌+◌, ℕ, List, [], ◌∷◌, Some, None}
use Rattle.vdisk.specs.declared.disk.Disk.{Ghosts}
use Rattle.plain_volume.specs.declared.call.Call.{Call}
use Rattle.plain_volume.specs.declared.call.Call.TheVariants.{Flush}
use Rattle.plain_volume.specs.declared.call.Reply.{Reply}
use Rattle.plain_volume.specs.declared.call.Fault.{Fault}
use Rattle.volume_core.specs.Bounds.{touched_by, HasSpent, IsSpentIn, IsSpent}
use Rattle.volume_core.specs.Volumes.{clusters_in}
use Rattle.volume_core.specs.Wants.{wants_of}
use Rattle.volume_core.specs.declared.volume.Volume.{Volume as Engine}
use Rattle.volume_core.specs.States.{plain_in, wants_in}
use Rattle.ddpsh.specs.States.{State}
use Rattle.ddpsh.specs.Runs.{Entry}

-- the clusters that these calls touch, each call by itself
abbrev pub touched_by_all : List (Call × Reply) → ℕ
touched_by_all [] = 0
touched_by_all (pair ∷ calls) = touched_by pair.0 + touched_by_all calls

-- WHAT MAY BE WANTING in a volume of n clusters whose writes touched b so far: no id and no epoch, so a flush is not
-- refused; clusters, or the bytes of a half of the journal, only where they are spent.
pub record AreSpent (n b : ℕ) (s : State) : Type 0 where
  pub spent : (call : Call) (fault : Fault) → wants_in s call ≡ Some fault → IsSpentIn ⊥ n (plain_in s) b call fault
  pub flushes : wants_in s Flush ≡ None

-- the same of the state before each of these lines, and of the one that they leave
abbrev pub Bounded : ℕ → ℕ → State → List Entry → Type 0
Bounded n b before [] = AreSpent n b before
Bounded n b before (e ∷ es) = AreSpent n b before × Bounded n (b + touched_by_all e.calls) e.after es

module _ {D : Type 0} {d : Ghosts D} where
  -- a volume of n clusters that has spent nothing yet
  pub record IsFresh (n : ℕ) (v : Engine D d) : Type 0 where
    pub clusters : clusters_in v ≡ n
    pub spent : HasSpent v 0 0

  -- whatever the volume has spent, what is wanting in it is spent
  abbrev pub WantsAreSpent : Engine D d → Type 0
  WantsAreSpent v = (b i : ℕ) (call : Call) (fault : Fault) → HasSpent v b i → wants_of v call ≡ Some fault
      → IsSpent v b i call fault
