-- What a call that only reads leaves.
use Rattle.std.specs.Prelude.{◌≡◌}
use Rattle.vdisk.specs.declared.disk.Disk.{Ghosts}
use Rattle.meta_log.specs.Opened.{IsOnlyRead}
use Rattle.volume_inside.specs.Typed.{Typed}
use Rattle.volume_tables.specs.Tables.{tables_now, disk_of, states_of, staged_of, checkpoint_of, stopped, IsTables, Leaves}
use Rattle.volume_tables.specs.declared.tables.Tables.{Tables}

module _ {D : Type 0} {d : Ghosts D} where
  -- The tables, the clusters, the ends of jobs and all bytes are as before. A crash shows what was kept, and leaves what
  -- it might have left before.
  pub record ReadsOnly (old new : Tables D d) : Type 0 where
    pub now : tables_now new ≡ tables_now old
    pub states : states_of new ≡ states_of old
    pub image : (disk_of new).image ≡ (disk_of old).image
    pub ends : new.ends ≡ old.ends
    pub leaves : Leaves old new
    pub staged : staged_of new ≡ staged_of old
    pub checkpoint : checkpoint_of new ≡ checkpoint_of old
    pub running : stopped new ≡ stopped old
    pub only : IsOnlyRead (disk_of old) (disk_of new)

  -- what is stored is known, as over a disk that tells what it holds
  abbrev pub IsTold : Tables D d → Type 0
  IsTold t = (stored : Typed) × IsTables t stored
