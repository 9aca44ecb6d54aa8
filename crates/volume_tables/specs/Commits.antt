-- What a commit does.
use Rattle.std.specs.Prelude.{◌≡◌, ◌⊎◌, ◌↔◌, ◌≤◌, IsTrue, false, true, map, Result, IsOk, OnOk, OnErr, IsErrOf}
use Rattle.vdisk.specs.Causes.{Rose}
use Rattle.vdisk.specs.Steps.{Keeps}
use Rattle.vdisk.specs.declared.disk.Disk.{Ghosts}
use Rattle.cluster_space.specs.States.{released}
use Rattle.plain_volume.specs.Volume.{Volume}
use Rattle.plain_volume.specs.declared.call.Fault.{Fault}
use Rattle.plain_volume.specs.declared.call.Fault.TheVariants.{Worn, Failed}
use Rattle.volume_inside.specs.Typed.{Typed}
use Rattle.volume_inside.specs.Shows.{Kept, ShowsEither}
use Rattle.volume_tables.specs.Log.{log_epoch, IsSameLog}
use Rattle.volume_tables.specs.Pending.{pending_of, worn_out, after_commit}
use Rattle.volume_tables.specs.Tables.{tables_now, inside_now, view_now, states_of, checkpoint_of, disk_of, area_of}
use Rattle.volume_tables.specs.Tables.{due_of, would_wear, stopped, IsTables, KeepsNamed}
use Rattle.volume_tables.specs.declared.tables.Tables.{Tables}

module _ {D : Type 0} {d : Ghosts D} where
  -- WHAT A COMMIT DOES: the tables are as they were, and after Ok they are durable.
  pub record IsCommitted (old new : Tables D d) (result : Result (Unit {0}) Fault) : Type 0 where
    -- what a crash shows during it, and after Ok
    pub moments : (stored : Typed) (w : Volume) → IsTables old stored → Kept (area_of old) (disk_of old) w
        → Keeps (disk_of old) (disk_of new) (ShowsEither (area_of old) w (view_now old))
    pub kept : (stored : Typed) (w : Volume) → IsTables old stored → Kept (area_of old) (disk_of old) w
        → OnOk result (Kept (area_of old) (disk_of new) (view_now old))
    -- what is stored then
    pub tables : (stored : Typed) → IsTables old stored → OnOk result (IsTables new (tables_now old))
    pub still_stored : (stored : Typed) → IsTables old stored → IsErrOf result Worn → IsTables new stored
    -- what stays
    pub now : tables_now new ≡ tables_now old
    pub inside : inside_now new ≡ inside_now old
    -- what any tables name apart from the journal has the bytes that it had
    pub frame : KeepsNamed old new
    pub clusters : new.clusters ≡ old.clusters
    pub checkpoint : checkpoint_of new ≡ checkpoint_of old
    pub same : IsSameLog old.log new.log
    -- clusters that were deferred are free
    pub freed : OnOk result (states_of new ≡ map released (states_of old))
    -- what waits then, exactly
    pub pending : OnOk result (pending_of new ≡ after_commit old)
    pub tired : IsErrOf result Worn → pending_of new ≡ worn_out (pending_of old)
    pub same_epoch : OnErr result (log_epoch new.log ≡ log_epoch old.log)
    -- which refusals there are, and when
    pub refused : OnErr result (IsErrOf result Worn ⊎ IsErrOf result Failed)
    pub worn : IsErrOf result Worn ↔ IsTrue (would_wear old)
    pub unspent : IsErrOf result Worn → (new.log.disk ≡ old.log.disk) × (states_of new ≡ states_of old)
    pub failed : IsErrOf result Failed → Rose (disk_of old).faults (disk_of new).faults × (stopped new ≡ true)
    -- where nothing is due
    pub idle : due_of old ≡ 0 → new.log.disk ≡ old.log.disk
    pub idle_ok : due_of old ≡ 0 → old.worn ≡ false → IsOk result
    -- whether the tables are stopped then
    pub runs : OnOk result (stopped new ≡ false)
    pub still_runs : IsErrOf result Worn → stopped new ≡ false
    -- the disk's counts do not fall
    pub tells : (disk_of new).tells ≡ (disk_of old).tells
    pub moment : (disk_of old).moment ≤ (disk_of new).moment
    pub later : (disk_of old).faults ≤ (disk_of new).faults
