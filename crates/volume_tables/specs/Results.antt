-- What setting how a job ended does.
use Rattle.std.specs.Prelude.{◌≡◌}
use Rattle.vdisk.specs.declared.disk.Disk.{Ghosts}
use Rattle.table_records.specs.declared.jobs.JobKind.{JobKind}
use Rattle.table_records.specs.declared.records.ResultRecord.{ResultRecord}
use Rattle.volume_inside.specs.Changes.{with_result}
use Rattle.volume_tables.specs.Ends.{with_last}
use Rattle.volume_tables.specs.Tables.{tables_now, states_of, clusters_in}
use Rattle.volume_tables.specs.declared.tables.Tables.{Tables}

module _ {D : Type 0} {d : Ghosts D} where
  -- The last job of a kind ended so. The journal, its disk and the clusters are as before.
  pub record IsResultSet (kind : JobKind) (end : ResultRecord) (old new : Tables D d) : Type 0 where
    pub now : tables_now new ≡ with_result kind end (tables_now old)
    pub ends : new.ends ≡ with_last kind end old.ends
    pub log : new.log ≡ old.log
    pub states : states_of new ≡ states_of old
    pub clusters : clusters_in new ≡ clusters_in old
    pub worn : new.worn ≡ old.worn
