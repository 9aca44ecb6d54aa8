-- What a setter or a dropper of a table does, each in one record. A new table needs no other.
use Rattle.std.specs.Prelude.{◌≡◌, ◌≤◌, ◌+◌, ℕ, List, Option, Result, OnOk, OnErr}
use Rattle.std.specs.FinMap.{find}
use Rattle.vdisk.specs.declared.disk.Disk.{Ghosts}
use Rattle.cluster_space.specs.declared.state.State.{State}
use Rattle.plain_volume.specs.declared.call.Fault.{Fault}
use Rattle.table_records.specs.Keys.{pair_cmp}
use Rattle.table_records.specs.declared.records.Extent.{Extent}
use Rattle.table_records.specs.declared.settings.Settings.{Settings}
use Rattle.volume_inside.specs.Changes.{with_extent, with_cluster, with_settings}
use Rattle.volume_inside.specs.ChunkTables.{PageKey}
use Rattle.volume_inside.specs.Typed.{Typed, FileBlock}
use Rattle.volume_tables.specs.Clusters.{used_at, cluster_at, with_other, with_spare}
use Rattle.volume_tables.specs.Sizes.{settings_size, settings_size_of}
use Rattle.volume_tables.specs.Tables.{tables_now, disk_of, states_of, staged_of, checkpoint_of, stopped, clusters_in, Leaves, IsSet}
use Rattle.volume_tables.specs.Tables.{IsResized}
use Rattle.volume_tables.specs.declared.tables.Tables.{Tables}

module _ {D : Type 0} {d : Ghosts D} where
  -- WHAT A SETTER DOES of an entry of so many bytes, where `was` stood at the key: after Ok the tables are changed so,
  -- after a refusal they are as before.
  pub record IsSetIn {V : Type 0} (change : Typed → Typed) (was : Option V) (size : ℕ) (old new : Tables D d)
      (result : Result (Unit {0}) Fault) : Type 0 where
    pub ok : OnOk result (tables_now new ≡ change (tables_now old))
    pub err : OnErr result (tables_now new ≡ tables_now old)
    pub set : IsSet was size old new result
    pub leaves : Leaves old new
    pub states : states_of new ≡ states_of old

  -- WHAT NAMING A CLUSTER AT A KEY DOES, which also moves clusters: `was` stood at the key, over the cluster `stood`,
  -- and the states are these once the new one is used. After Ok another one that stood at the key is deferred; one that
  -- was refused the key is deferred, unless the key names it.
  pub record IsClusterSet {V : Type 0} (change : Typed → Typed) (was : Option V) (stood : Option ℕ) (size cluster : ℕ)
      (taken : List State) (old new : Tables D d) (result : Result (Unit {0}) Fault) : Type 0 where
    pub ok : OnOk result (tables_now new ≡ change (tables_now old))
    pub err : OnErr result (tables_now new ≡ tables_now old)
    pub set : IsSet was size old new result
    pub leaves : Leaves old new
    pub replaced : OnOk result (states_of new ≡ with_other (clusters_in old) stood cluster taken)
    pub refused : OnErr result (states_of new ≡ with_spare (clusters_in old) stood cluster taken)

  -- WHAT SETTING AN EXTENT DOES: its cluster is used, and may have been deferred before
  abbrev pub IsExtentSet : FileBlock → Extent → Tables D d → Tables D d → Result (Unit {0}) Fault → Type 0
  IsExtentSet key extent old new result =
      IsClusterSet (with_extent key extent) (find pair_cmp key (tables_now old).extents)
      (cluster_at (find pair_cmp key (tables_now old).extents)) 24 extent.cluster
      (used_at (clusters_in old) extent.cluster (states_of old)) old new result

  -- WHAT SETTING A NEW PAGE OF A CONTAINER DOES: after Ok its cluster, which was free, is used
  pub record IsPageSet (key : PageKey) (cluster : ℕ) (old new : Tables D d) (result : Result (Unit {0}) Fault)
      : Type 0 where
    pub ok : OnOk result (tables_now new ≡ with_cluster key cluster (tables_now old))
    pub err : OnErr result (tables_now new ≡ tables_now old)
    pub set : IsSet (find pair_cmp key (tables_now old).chunks.clusters) 22 old new result
    pub leaves : Leaves old new
    pub used : OnOk result (states_of new ≡ used_at (clusters_in old) cluster (states_of old))
    pub unused : OnErr result (states_of new ≡ states_of old)

  -- WHAT SETTING THE SETTINGS DOES, whose value need not be as long as that before.
  pub record AreSettingsSet (settings : Settings) (old new : Tables D d) (result : Result (Unit {0}) Fault)
      : Type 0 where
    pub ok : OnOk result (tables_now new ≡ with_settings settings (tables_now old))
    pub err : OnErr result (tables_now new ≡ tables_now old)
    pub set : IsResized (settings_size_of (tables_now old)) (settings_size settings) old.clusters old.log new.log result
    pub leaves : Leaves old new
    pub states : states_of new ≡ states_of old

  -- WHAT A DROPPER DOES, which takes no memory: the tables are changed so, a record of so many bytes is staged, and
  -- the clusters have these states.
  pub record IsDroppedIn (change : Typed → Typed) (bytes : ℕ) (left : List State) (old new : Tables D d)
      : Type 0 where
    pub tables : tables_now new ≡ change (tables_now old)
    pub checkpoint : checkpoint_of new ≤ checkpoint_of old
    pub staged : staged_of new ≡ staged_of old + bytes
    pub leaves : Leaves old new
    pub states : states_of new ≡ left
    pub image : (disk_of new).image ≡ (disk_of old).image
    pub running : stopped new ≡ stopped old
