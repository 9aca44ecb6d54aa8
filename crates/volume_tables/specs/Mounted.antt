-- What tables are once they were made or mounted.
use Rattle.std.specs.Prelude.{◌≡◌, false, ℕ, List, Ok}
use Rattle.vdisk.specs.Disk.{DiskState}
use Rattle.vdisk.specs.declared.disk.Disk.{Ghosts}
use Rattle.byte_map.specs.Words.{Map}
use Rattle.meta_log.specs.Log.{IsLog}
use Rattle.meta_log.specs.Ready.{GoesOnFrom}
use Rattle.volume_inside.specs.Layout.{journal_at, half_bytes}
use Rattle.table_rules.specs.Marks.{IsFilled}
use Rattle.volume_inside.specs.Named.{clusters_of}
use Rattle.volume_inside.specs.Rules.{IsVolume, RulesHold}
use Rattle.volume_inside.specs.Typed.{Typed, typed_of}
use Rattle.volume_tables.specs.Log.{log_now, log_place, log_epoch}
use Rattle.volume_tables.specs.Mount.{read_meta}
use Rattle.volume_tables.specs.Tables.{tables_now, states_of, staged_of, due_of, stopped}
use Rattle.volume_tables.specs.declared.tables.Tables.{Tables}

-- these are all the tables of an image of n clusters: those that its journal spells
pub record AreTablesOf (n : ℕ) (image : List ℕ) (t : Typed) : Type 0 where
  pub stored : Map
  pub spells : read_meta n image ≡ Ok stored
  pub is : typed_of stored ≡ t

module _ {D : Type 0} {d : Ghosts D} where
  -- the journal of the disk as it read spells a volume's tables, and each crash image now spells them too
  pub record IsMountedFrom (n : ℕ) (old : DiskState) (t : Tables D d) : Type 0 where
    pub log : IsLog t.log (log_now t.log)
    pub spells : read_meta n old.image ≡ Ok (log_now t.log)
    pub volume : IsVolume n (log_now t.log)
    pub now : tables_now t ≡ typed_of (log_now t.log)
    pub goes_on : GoesOnFrom journal_at (half_bytes n) (log_place t.log) (log_epoch t.log) old.image

  -- WHAT TABLES ARE THAT WERE JUST MADE OR MOUNTED: nothing waits for a commit, nothing has failed, the states are those
  -- that the tables tell, and the rules hold.
  pub record IsOpened (t : Tables D d) : Type 0 where
    pub staged : staged_of t ≡ 0
    pub due : due_of t ≡ 0
    pub runs : stopped t ≡ false
    pub fresh : t.worn ≡ false
    pub space : IsFilled t.clusters (clusters_of (tables_now t)) (states_of t)
    pub rules : RulesHold t.clusters (tables_now t)
