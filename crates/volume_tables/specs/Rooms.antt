-- What making room does.
use Rattle.std.specs.Prelude.{◌≡◌, ◌⊎◌, ◌≤◌, ◌<◌, ◌+◌, ℕ, IsTrue, false, true, None, Result, Err, IsOk, OnOk, OnErr, IfErr, IsErrOf}
use Rattle.vdisk.specs.Causes.{Rose}
use Rattle.vdisk.specs.Steps.{Keeps}
use Rattle.vdisk.specs.declared.disk.Disk.{Ghosts}
use Rattle.cluster_space.specs.States.{free_in, deferred_in}
use Rattle.plain_volume.specs.Volume.{Volume}
use Rattle.plain_volume.specs.declared.call.Fault.{Fault}
use Rattle.plain_volume.specs.declared.call.Fault.TheVariants.{Worn, Full, Failed}
use Rattle.volume_inside.specs.Layout.{half_bytes}
use Rattle.volume_inside.specs.Rules.{next_id_of}
use Rattle.volume_inside.specs.Typed.{Typed}
use Rattle.volume_inside.specs.Shows.{Kept, ShowsEither}
use Rattle.volume_tables.specs.Log.{log_epoch, IsSameLog}
use Rattle.volume_tables.specs.Pending.{pending_of, worn_out, after_commit, roomed_of, worn_of}
use Rattle.volume_tables.specs.Sound.{IsSound, Endures, Spares}
use Rattle.volume_tables.specs.Tables.{tables_now, inside_now, view_now, states_of, checkpoint_of, disk_of, area_of}
use Rattle.volume_tables.specs.Tables.{clusters_in, would_wear, stopped, IsTables, IsRoomFor, GoesOn, KeepsNamed}
use Rattle.volume_tables.specs.Wants.{Needs, last_id, wanting, IsWanting}
use Rattle.volume_tables.specs.declared.tables.Tables.{Tables}

module _ {D : Type 0} {d : Ghosts D} where
  -- WHAT ENSURING ROOM DOES for records of so many bytes and so many clusters: the tables are as they were, and are
  -- committed where there is no room at once.
  pub record IsRoomEnsured (bytes count : ℕ) (old new : Tables D d) (result : Result (Unit {0}) Fault) : Type 0 where
    pub room : OnOk result (IsRoomFor new bytes count)
    -- what a crash shows during it and then
    pub moments : (stored : Typed) (w : Volume) → IsTables old stored → Kept (area_of old) (disk_of old) w
        → Keeps (disk_of old) (disk_of new) (ShowsEither (area_of old) w (view_now old))
    pub goes_on : (stored : Typed) (w : Volume) → IsTables old stored → Kept (area_of old) (disk_of old) w
        → stopped new ≡ false → GoesOn old new stored w
    -- what stays
    pub now : tables_now new ≡ tables_now old
    pub inside : inside_now new ≡ inside_now old
    -- what any tables name apart from the journal has the bytes that it had
    pub frame : KeepsNamed old new
    pub clusters : new.clusters ≡ old.clusters
    pub checkpoint : checkpoint_of new ≡ checkpoint_of old
    pub same : IsSameLog old.log new.log
    pub counts : stopped new ≡ false → free_in (states_of new) + deferred_in (states_of new)
        ≡ free_in (states_of old) + deferred_in (states_of old)
    -- where there are too few clusters, and where not
    pub full : free_in (states_of old) + deferred_in (states_of old) < count
        → result ≡ Err (Full count (free_in (states_of old) + deferred_in (states_of old)))
    pub untouched : free_in (states_of old) + deferred_in (states_of old) < count → new ≡ old
    pub fits : count ≤ free_in (states_of old) + deferred_in (states_of old)
        → OnErr result (IsErrOf result Worn ⊎ IsErrOf result Failed)
    -- where there is room at once
    pub at_once : IsRoomFor old bytes count → IsOk result × (new ≡ old)
    -- when it is refused as worn
    pub worn : IsErrOf result Worn → IsTrue (would_wear old)
    pub wears : (IsRoomFor old bytes count → ⊥) → count ≤ free_in (states_of old) + deferred_in (states_of old)
        → IsTrue (would_wear old) → IsErrOf result Worn
    -- what waits then, exactly
    pub pending : (IsRoomFor old bytes count → ⊥) → OnOk result (pending_of new ≡ after_commit old)
    pub tired : IsErrOf result Worn → pending_of new ≡ worn_out (pending_of old)
    pub same_epoch : OnErr result (log_epoch new.log ≡ log_epoch old.log)
    -- what a refusal leaves
    pub unspent : OnErr result (IsErrOf result Failed
        ⊎ ((new.log.disk ≡ old.log.disk) × (states_of new ≡ states_of old)))
    pub still_stored : (stored : Typed) → IsTables old stored → OnErr result (IsErrOf result Failed ⊎ IsTables new stored)
    pub failed : IsErrOf result Failed → Rose (disk_of old).faults (disk_of new).faults × (stopped new ≡ true)
    -- whether the tables are stopped then
    pub runs : OnOk result (stopped new ≡ false)
    pub stops : stopped new ≡ true → IsErrOf result Failed
    -- the disk's counts do not fall
    pub tells : (disk_of new).tells ≡ (disk_of old).tells
    pub moment : (disk_of old).moment ≤ (disk_of new).moment
    pub later : (disk_of old).faults ≤ (disk_of new).faults

  -- WHAT MAKING ROOM DOES for a call with these needs: the tables are as they were, and are committed where there is no
  -- room at once.
  pub record IsRoomMade (n : Needs) (old new : Tables D d) (result : Result (Unit {0}) Fault) : Type 0 where
    -- the first resource that is wanting, or that none is
    pub refused : IfErr result (IsWanting old new n)
    pub none : OnOk result (wanting old n ≡ None)
    -- what the call finds after Ok
    pub room : OnOk result (IsRoomFor new n.records n.clusters)
    pub fits : OnOk result (checkpoint_of new + n.grows ≤ half_bytes (clusters_in new))
    pub id : OnOk result (n.draws ≡ true → next_id_of (tables_now new) ≡ last_id → ⊥)
    -- what stays
    pub now : tables_now new ≡ tables_now old
    pub inside : inside_now new ≡ inside_now old
    -- what any tables name apart from the journal has the bytes that it had
    pub frame : KeepsNamed old new
    pub checkpoint : checkpoint_of new ≡ checkpoint_of old
    pub tells : (disk_of new).tells ≡ (disk_of old).tells
    pub sound : IsSound new
    -- what a crash shows during it and then
    pub endures : Endures old new
    -- whether the tables are stopped then: just where it failed
    pub runs : OnOk result (stopped new ≡ false)
    pub stops : stopped new ≡ true → IsErrOf result Failed
    pub halts : IsErrOf result Failed → stopped new ≡ true
    -- what a refusal leaves
    pub spares : Spares old new result
    -- what waits then, exactly
    pub pending : OnOk result (pending_of new ≡ roomed_of old n)
    pub worn : IsErrOf result Worn → pending_of new ≡ worn_of old n
