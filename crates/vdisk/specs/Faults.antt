-- Which calls an object in memory is to fail. Its calls are numbered from 1.
use Rattle.std.specs.Prelude.{◌≡◌, ◌⊎◌, ◌≤◌, ◌+◌, ◌-◌, ◌^◌, ℕ, List, [], Option, Some, None, Contains, min, Vec}
use Rattle.std.specs.declared.alloc.Global.{Global}
use Rattle.vdisk.specs.declared.faults.FaultPlan.{FaultPlan}

-- a counter one further, or still where it stands at its last value
abbrev pub counted_on : ℕ → ℕ
counted_on n = min (n + 1) (2 ^ 64 - 1)

-- the listed numbers
abbrev pub numbers : Option (Vec ℕ Global) → List ℕ
numbers None = []
numbers (Some listed) = listed.items

-- the call of this number is to fail
abbrev pub FailsAt : FaultPlan → ℕ → Type 0
FailsAt plan number = (plan.from ≤ number) ⊎ Contains (numbers plan.listed) number

-- the next call is to fail
abbrev pub FailsNext : FaultPlan → Type 0
FailsNext plan = FailsAt plan (counted_on plan.made)

-- no call was made, none is listed, and none below the end of the count is to fail
abbrev pub IsUntried : FaultPlan → Type 0
IsUntried plan = plan ≡ record { made = 0; from = 2 ^ 64 - 1; listed = None }

-- one more call was made
abbrev pub Tried : FaultPlan → FaultPlan → Type 0
Tried old new = new ≡ record old { made = counted_on old.made }
