-- What the tables stand for.
use Rattle.std.specs.Prelude.{◌≡◌, ◌⊎◌, ◌↔◌, ◌≤◌, ◌<◌, ◌+◌, ◌*◌, ℕ, Bool, List, Option, None, Some, IsSome, IsTrue, Result, IsOk, IsErrOf, OnOk, OnErr}
use Rattle.std.specs.declared.cmp.Ordering.{Ordering}
use Rattle.vdisk.specs.Disk.{DiskState}
use Rattle.vdisk.specs.Steps.{Keeps}
use Rattle.byte_map.specs.Words.{Map, first_of, next_in}
use Rattle.plain_volume.specs.Volume.{Volume}
use Rattle.plain_volume.specs.declared.call.Fault.{Fault}
use Rattle.plain_volume.specs.declared.call.Fault.TheVariants.{TableFull, Memory}
use Rattle.cluster_space.specs.declared.state.State.{State}
use Rattle.cluster_space.specs.declared.state.State.TheVariants.{Free}
use Rattle.cluster_space.specs.States.{IsIn, free_in}
use Rattle.volume_inside.specs.Layout.{half_bytes, journal_at, first_data_cluster}
use Rattle.volume_inside.specs.Typed.{Typed, typed_of}
use Rattle.volume_inside.specs.Inside.{Inside, inside_at}
use Rattle.volume_inside.specs.ChunkRules.{MapsHold}
use Rattle.volume_inside.specs.View.{view}
use Rattle.volume_inside.specs.Ranges.{IsApart}
use Rattle.volume_inside.specs.Named.{named, clusters_of}
use Rattle.volume_inside.specs.Lists.{IsOut}
use Rattle.volume_inside.specs.Shows.{Area, Shows, Kept}
use Rattle.volume_inside.specs.Tails.{AreTailsFree}
use Rattle.meta_log.specs.Log.{checkpoint_length}
use Rattle.meta_log.specs.Meta.{meta_of}
use Rattle.meta_log.specs.Ready.{GoesOnFrom}
use Rattle.meta_log.specs.declared.log.MetaLog.{MetaLog}
use Rattle.volume_tables.specs.Log.{log_state, log_now, log_staged, log_stopped, log_place, log_epoch, IsLogOf, IsSameLog}
use Rattle.volume_tables.specs.Ends.{results_now, unstaged_in}
use Rattle.volume_tables.specs.Waits.{Pending, due_in, wears_in}
use Rattle.volume_tables.specs.declared.ends.JobEnds.{JobEnds}
use Rattle.vdisk.specs.declared.disk.Disk.{Ghosts}
use Rattle.volume_tables.specs.declared.room.TheConstants.{MOST_RECORDS}
use Rattle.volume_tables.specs.declared.tables.Tables.{Tables}

-- the entry with the least key above one, or with the least of all
abbrev pub next_after : {K X : Type 0} → (K → K → Ordering) → Option K → List (K × X) → Option (K × X)
next_after cmp None es = first_of es
next_after cmp (Some k) es = next_in cmp k es

-- the bytes by which an entry of so many makes a checkpoint longer: none, where one of its length stood at the key
abbrev pub new_bytes : {V : Type 0} → Option V → ℕ → ℕ
new_bytes None size = size
new_bytes (Some v) size = 0

-- tables with these ends of jobs
abbrev pub with_ends : JobEnds → Typed → Typed
with_ends ends t = record t { results = results_now ends }

module _ {D : Type 0} {d : Ghosts D} where
  abbrev pub disk_of : Tables D d → DiskState
  disk_of t = log_state t.log

  -- how many clusters the image has
  abbrev pub clusters_in : Tables D d → ℕ
  clusters_in t = t.clusters

  -- how an image is read
  abbrev pub area_of : Tables D d → Area
  area_of t = record { clusters = t.clusters; meta = meta_of journal_at (half_bytes t.clusters) }

  -- the tables now
  abbrev pub tables_now : Tables D d → Typed
  tables_now t = with_ends t.ends (typed_of (log_now t.log))

  -- the tables now with the bytes that they name as the disk reads, and the volume that these spell
  abbrev pub inside_now : Tables D d → Inside
  inside_now t = inside_at (tables_now t) (disk_of t).image

  abbrev pub view_now : Tables D d → Volume
  view_now t = view (inside_now t)

  -- the states of the data clusters, from the first on
  abbrev pub states_of : Tables D d → List State
  states_of t = t.space

  -- the bytes of records that are staged
  abbrev pub staged_of : Tables D d → ℕ
  staged_of t = log_staged t.log

  -- the bytes of a checkpoint of the tables now
  abbrev pub checkpoint_of : Tables D d → ℕ
  checkpoint_of t = checkpoint_length (log_now t.log)

  -- a write or a sync has failed
  abbrev pub stopped : Tables D d → Bool
  stopped t = log_stopped t.log

  -- what waits for a commit of these tables
  abbrev pub pending_of : Tables D d → Pending
  pending_of t = record {
    epoch = log_epoch t.log;
    place = log_place t.log;
    staged = staged_of t;
    unstaged = unstaged_in t.ends;
    free = free_in (states_of t);
    worn = t.worn;
  }

  -- the bytes of the records that a commit now makes durable
  abbrev pub due_of : Tables D d → ℕ
  due_of t = due_in (pending_of t)

  -- a commit now would be refused as worn
  abbrev pub would_wear : Tables D d → Bool
  would_wear t = wears_in (half_bytes t.clusters) (pending_of t)

  -- an image tells where the journal of these tables goes on: its live half's groups end where the next one goes, and
  -- it has this epoch
  abbrev pub IsToldBy : Tables D d → List ℕ → Type 0
  IsToldBy t image = GoesOnFrom journal_at (half_bytes t.clusters) (log_place t.log) (log_epoch t.log) image

  -- Each crash image spells the stored tables, which name no byte of the journal, no free cluster, and none behind what
  -- the tables now use of a container.
  pub record IsTables (t : Tables D d) (stored : Typed) : Type 0 where
    pub map : Map
    pub log : IsLogOf t.log map
    pub is : typed_of map ≡ stored
    pub stored_apart : IsApart journal_at (2 * half_bytes t.clusters) (named stored)
    pub free : (k : ℕ) → IsIn (states_of t) k Free → IsOut (first_data_cluster t.clusters + k) (clusters_of stored)
    pub tails : AreTailsFree stored (tables_now t).chunks

  -- what any tables name apart from the journal has the bytes that it had
  abbrev pub KeepsNamed : Tables D d → Tables D d → Type 0
  KeepsNamed old new = (u : Typed) → IsApart journal_at (2 * half_bytes old.clusters) (named u)
      → inside_at u (disk_of new).image ≡ inside_at u (disk_of old).image

  -- where the disk tells what it holds, the maps of the bases of the tables now are as they should be
  abbrev pub HasMaps : Tables D d → Type 0
  HasMaps t = IsTrue (disk_of t).tells → MapsHold (inside_now t)

  -- What a call that makes nothing durable leaves: at any moment of it a crash shows what was kept.
  pub record Leaves (old new : Tables D d) : Type 0 where
    pub clusters : clusters_in new ≡ clusters_in old
    pub tables : (stored : Typed) → IsTables old stored → IsTables new stored
    pub moments : (stored : Typed) (w : Volume) → IsTables old stored → Kept (area_of old) (disk_of old) w
        → Keeps (disk_of old) (disk_of new) (Shows (area_of old) w)
    pub same : IsSameLog old.log new.log
    pub later : (disk_of old).faults ≤ (disk_of new).faults
    pub tells : (disk_of new).tells ≡ (disk_of old).tells
    -- where the next group goes, the epoch, the ends of jobs, and whether a commit was worn
    pub place : log_place new.log ≡ log_place old.log
    pub epoch : log_epoch new.log ≡ log_epoch old.log
    pub ends : new.ends ≡ old.ends
    pub worn : new.worn ≡ old.worn

  -- What a setter of an entry of so many bytes does to the journal of an image of n clusters: `was` stood at the key.
  pub record IsLogSet {V : Type 0} (was : Option V) (size n : ℕ) (old new : MetaLog D d)
      (result : Result (Unit {0}) Fault) : Type 0 where
    pub full : IsErrOf result TableFull ↔ (half_bytes n < checkpoint_length (log_now old) + new_bytes was size)
    pub in_place : IsSome was → IsOk result
    pub refused : OnErr result (IsErrOf result TableFull ⊎ IsErrOf result Memory)
    pub checkpoint : OnOk result
        (checkpoint_length (log_now new) ≡ checkpoint_length (log_now old) + new_bytes was size)
    pub no_checkpoint : OnErr result (checkpoint_length (log_now new) ≡ checkpoint_length (log_now old))
    pub staged : OnOk result (log_staged new ≡ log_staged old + size)
    pub none_staged : OnErr result (log_staged new ≡ log_staged old)
    pub running : log_stopped new ≡ log_stopped old
    pub image : (log_state new).image ≡ (log_state old).image

  -- What a setter of an entry of so many bytes does but for the tables.
  abbrev pub IsSet : {V : Type 0} → Option V → ℕ → Tables D d → Tables D d → Result (Unit {0}) Fault → Type 0
  IsSet was size old new result = IsLogSet was size old.clusters old.log new.log result

  -- What setting the settings of an image of n clusters does to its journal: the bytes of their value before, and now.
  pub record IsResized (was size n : ℕ) (old new : MetaLog D d) (result : Result (Unit {0}) Fault) : Type 0 where
    pub full : IsErrOf result TableFull ↔ (half_bytes n + was < checkpoint_length (log_now old) + size)
    pub refused : OnErr result (IsErrOf result TableFull ⊎ IsErrOf result Memory)
    pub checkpoint : OnOk result (checkpoint_length (log_now new) + was ≡ checkpoint_length (log_now old) + size)
    pub no_checkpoint : OnErr result (checkpoint_length (log_now new) ≡ checkpoint_length (log_now old))
    pub staged : OnOk result (log_staged new ≡ log_staged old + (6 + size))
    pub none_staged : OnErr result (log_staged new ≡ log_staged old)
    pub running : log_stopped new ≡ log_stopped old
    pub image : (log_state new).image ≡ (log_state old).image

  -- records of so many bytes find room without a commit, and so many clusters are free
  pub record IsRoomFor (t : Tables D d) (records clusters : ℕ) : Type 0 where
    pub records_fit : staged_of t + records ≤ MOST_RECORDS
    pub clusters_fit : clusters ≤ free_in (states_of t)

  -- What is stored and kept is so as before, or it is the tables now.
  abbrev pub GoesOn : Tables D d → Tables D d → Typed → Volume → Type 0
  GoesOn old new stored w =
      (IsTables new stored × Kept (area_of old) (disk_of new) w)
      ⊎ (IsTables new (tables_now old) × Kept (area_of old) (disk_of new) (view_now old))
