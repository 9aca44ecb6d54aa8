-- What a call of lent tables says, said of the tables that were lent.
use Rattle.std.specs.Prelude.{◌≡◌, false, ℕ}
use Rattle.std.proofs.Common.{sym, subst}
use Rattle.vdisk.specs.Causes.{Rose}
use Rattle.vdisk.specs.declared.disk.Disk.{Ghosts}
use Rattle.plain_volume.specs.Volume.{Volume}
use Rattle.plain_volume.specs.Step.{plain}
use Rattle.plain_volume.specs.Replies.{IsOwnOrMemory}
use Rattle.plain_volume.specs.declared.call.Call.{Call}
use Rattle.plain_volume.specs.declared.call.Reply.{Reply}
use Rattle.volume_tables.specs.Tables.{disk_of, view_now, stopped}
use Rattle.volume_tables.specs.declared.tables.Tables.{Tables}
use Rattle.volume_tables.specs.Sound.{IsSound, IsKept, Endures}
use Rattle.volume_tables.specs.Spending.{Spends}
use Rattle.volume_tables.specs.Wants.{IsReplied, IsRepliedOrMemory}
use Rattle.volume_core.specs.Moves.{Moves}
use Rattle.volume_core.specs.States.{state_at, wants_in}
use Rattle.volume_core.proofs.Told.{tables_want, replied_told, replied_told_too}

module _ {D : Type 0} {d : Ghosts D} (t a u : Tables D d) (same : a ≡ t) where
  pub lent_sound : IsSound t → IsSound a
  lent_sound = subst (λ (x : Tables D d). IsSound x) (sym same)

  pub lent_kept : (w : Volume) → IsKept t w → IsKept a w
  lent_kept w = subst (λ (x : Tables D d). IsKept x w) (sym same)

  pub lent_runs : stopped t ≡ false → stopped a ≡ false
  lent_runs = subst (λ (x : Tables D d). stopped x ≡ false) (sym same)

  pub lent_spends : (touched ids : ℕ) → Spends touched ids a u → Spends touched ids t u
  lent_spends touched ids = subst (λ (x : Tables D d). Spends touched ids x u) same

  pub lent_endures : Endures a u → Endures t u
  lent_endures = subst (λ (x : Tables D d). Endures x u) same

  -- the device failed only where its count of faults rose
  pub lent_rose : (Failed : Type 0) → (Failed → Rose (disk_of a).faults (disk_of u).faults) → Failed
      → Rose (disk_of t).faults (disk_of u).faults
  lent_rose Failed = subst (λ (x : Tables D d). Failed → Rose (disk_of x).faults (disk_of u).faults) same

  pub lent_moves : (call : Call) (given : Reply) → Moves call given (state_at a) (state_at u)
      → Moves call given (state_at t) (state_at u)
  lent_moves call given = subst (λ (x : Tables D d). Moves call given (state_at x) (state_at u)) same

  -- a reply by what the lent tables want is one by what the state wants
  pub lent_replied : IsSound t → (call : Call) (given : Reply)
      → IsReplied (plain (view_now a) call) (tables_want a call) (disk_of a).faults (disk_of u).faults given
      → IsReplied (plain (view_now t) call) (wants_in (state_at t) call) (disk_of t).faults (disk_of u).faults given
  lent_replied sound call given is =
      subst (λ (x : Tables D d). IsReplied (plain (view_now x) call) (wants_in (state_at x) call) (disk_of x).faults
      (disk_of u).faults given) same
      (replied_told a (lent_sound sound) call (disk_of a).faults (disk_of u).faults given is)

  pub lent_replied_too : IsSound t → (call : Call) (given : Reply)
      → IsRepliedOrMemory (plain (view_now a) call) (tables_want a call) (disk_of a).faults (disk_of u).faults given
      → IsRepliedOrMemory (plain (view_now t) call) (wants_in (state_at t) call) (disk_of t).faults (disk_of u).faults
      given
  lent_replied_too sound call given is =
      subst (λ (x : Tables D d). IsRepliedOrMemory (plain (view_now x) call) (wants_in (state_at x) call)
      (disk_of x).faults (disk_of u).faults given) same
      (replied_told_too a (lent_sound sound) call (disk_of a).faults (disk_of u).faults given is)

-- a reply of a call that only looks at lent tables
pub lent_own : {D : Type 0} {d : Ghosts D} (t a : Tables D d) → a ≡ t → (call : Call) (given : Reply)
    → IsOwnOrMemory (view_now a) call given (view_now a) → IsOwnOrMemory (view_now t) call given (view_now t)
lent_own {D = D} {d = d} t a same call given =
    subst (λ (x : Tables D d). IsOwnOrMemory (view_now x) call given (view_now x)) same
