-- What waits for a commit of tables, and what a call makes of it.
use Rattle.std.specs.Prelude.{◌≡◌, ◌+◌, ◌-◌, ◌&&◌, nat_eq, if◌then◌else◌, ℕ, length, Result, OnOk, IsErrOf}
use Rattle.vdisk.specs.declared.disk.Disk.{Ghosts}
use Rattle.cluster_space.specs.States.{free_in, deferred_in}
use Rattle.plain_volume.specs.declared.call.Fault.{Fault}
use Rattle.plain_volume.specs.declared.call.Fault.TheVariants.{Worn}
use Rattle.volume_inside.specs.Layout.{data_clusters, half_bytes}
use Rattle.volume_inside.specs.Named.{clusters_of}
use Rattle.volume_inside.specs.Rules.{next_id_of}
use Rattle.volume_tables.specs.Tables.{tables_now, states_of, checkpoint_of, clusters_in}
use Rattle.volume_tables.specs.declared.tables.Tables.{Tables}
pub use Rattle.volume_tables.specs.Waits.{Needs, last_id, Pending, due_in, wears_in, finds_room, place_after}
pub use Rattle.volume_tables.specs.Waits.{settled, committed, worn_out, spent}
pub use Rattle.volume_tables.specs.Tables.{pending_of}

module _ {D : Type 0} {d : Ghosts D} where
  -- the clusters that the tables now do not name
  abbrev pub free_of : Tables D d → ℕ
  free_of t = data_clusters (clusters_in t) - length (clusters_of (tables_now t))

  -- what waits after a commit, which makes free what was deferred
  abbrev pub after_commit : Tables D d → Pending
  after_commit t = committed (half_bytes (clusters_in t)) (checkpoint_of t)
      (free_in (states_of t) + deferred_in (states_of t)) (pending_of t)

  -- the same where each cluster that the tables do not name is free or deferred
  abbrev pub committed_of : Tables D d → Pending
  committed_of t = committed (half_bytes (clusters_in t)) (checkpoint_of t) (free_of t) (pending_of t)

  -- what waits once there is room for a call: all as it was, or nothing, where a commit had to come first
  abbrev pub roomed_of : Tables D d → Needs → Pending
  roomed_of t n = if finds_room (pending_of t) n then pending_of t else committed_of t

  -- what waits once a call was refused as worn: all as it was, where no id was left
  abbrev pub worn_of : Tables D d → Needs → Pending
  worn_of t n =
      if n.draws && nat_eq (next_id_of (tables_now t)) last_id then pending_of t else worn_out (pending_of t)

  -- WHAT A CALL DOES TO WHAT WAITS, that has these needs and, where it is answered Ok, stages records of so many bytes:
  -- exactly this. Where it is refused otherwise than as worn and than for want of memory or because the device failed,
  -- all tables are as they were.
  pub record IsPending (n : Needs) (bytes : ℕ) (old new : Tables D d) (result : Result (Unit {0}) Fault) : Type 0 where
    pub done : OnOk result (pending_of new ≡ spent bytes n.clusters (roomed_of old n))
    pub worn : IsErrOf result Worn → pending_of new ≡ worn_of old n
