-- What calls on data clusters do, each kind in one record.
use Rattle.std.specs.Prelude.{◌≡◌, false, true, List, Result, OnOk, OnErr, IsErrOf}
use Rattle.vdisk.specs.Causes.{Rose}
use Rattle.vdisk.specs.declared.disk.Disk.{Ghosts}
use Rattle.cluster_space.specs.declared.state.State.{State}
use Rattle.plain_volume.specs.declared.call.Fault.{Fault}
use Rattle.plain_volume.specs.declared.call.Fault.TheVariants.{Failed}
use Rattle.volume_tables.specs.Tables.{tables_now, disk_of, states_of, staged_of, checkpoint_of, stopped, Leaves}
use Rattle.volume_tables.specs.declared.tables.Tables.{Tables}

module _ {D : Type 0} {d : Ghosts D} where
  -- The clusters have these states. The tables, the journal, its disk and what waits are as before.
  pub record MovesStatesTo (left : List State) (old new : Tables D d) : Type 0 where
    pub states : states_of new ≡ left
    -- what stays
    pub log : new.log ≡ old.log
    pub tables : tables_now new ≡ tables_now old
    pub clusters : new.clusters ≡ old.clusters
    pub ends : new.ends ≡ old.ends
    pub worn : new.worn ≡ old.worn

  -- WHAT WRITING BYTES INTO FREE CLUSTERS LEAVES, but for the bytes: the tables and the states are as before, and a
  -- failed device stops the tables.
  pub record WritesData {A : Type 0} (old new : Tables D d) (result : Result A Fault) : Type 0 where
    -- what stays
    pub now : tables_now new ≡ tables_now old
    pub states : states_of new ≡ states_of old
    pub leaves : Leaves old new
    pub numbers : (staged_of new ≡ staged_of old) × (checkpoint_of new ≡ checkpoint_of old)
    -- whether it failed
    pub runs : OnOk result (stopped new ≡ false)
    pub stops : OnErr result (stopped new ≡ true)
    pub failed : OnErr result (IsErrOf result Failed × Rose (disk_of old).faults (disk_of new).faults)
