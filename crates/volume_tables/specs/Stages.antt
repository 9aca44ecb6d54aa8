-- What a call leaves that stages records over entries that are there, or drops some.
use Rattle.std.specs.Prelude.{◌≡◌, ◌+◌, ℕ, length, Result, Ok, Err}
use Rattle.vdisk.specs.declared.disk.Disk.{Ghosts}
use Rattle.cluster_space.specs.States.{free_in, deferred_in}
use Rattle.volume_inside.specs.Named.{clusters_of}
use Rattle.volume_tables.specs.Tables.{tables_now, disk_of, states_of, staged_of, stopped, Leaves}
use Rattle.volume_tables.specs.declared.tables.Tables.{Tables}

-- so many bytes where a call is answered Ok, and none where it is refused
abbrev pub if_ok : {A E : Type 0} → Result A E → ℕ → ℕ
if_ok (Ok a) bytes = bytes
if_ok (Err e) bytes = 0

module _ {D : Type 0} {d : Ghosts D} where
  -- the clusters that are free, deferred or named
  abbrev pub accounted : Tables D d → ℕ
  accounted t = free_in (states_of t) + deferred_in (states_of t) + length (clusters_of (tables_now t))

  -- Records of exactly so many bytes are staged. No byte of a cluster is written, no cluster is taken, none is lost from
  -- sight, and a crash shows what was kept.
  pub record Stages (bytes : ℕ) (old new : Tables D d) : Type 0 where
    pub leaves : Leaves old new
    pub image : (disk_of new).image ≡ (disk_of old).image
    pub running : stopped new ≡ stopped old
    pub staged : staged_of new ≡ staged_of old + bytes
    pub free : free_in (states_of new) ≡ free_in (states_of old)
    pub counts : accounted new ≡ accounted old
