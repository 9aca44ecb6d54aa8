-- Pages of a container that bytes were written into, and named.
use Rattle.std.specs.Prelude.{◌≡◌, ◌≤◌, ◌<◌, ◌+◌, ◌*◌, ◌-◌, ℕ, false, List, length, get_or, Some, IsSome}
use Rattle.std.specs.FinMap.{find, put}
use Rattle.std.specs.Ordering.{nat_cmp}
use Rattle.vdisk.specs.Ranges.{part}
use Rattle.vdisk.specs.declared.disk.Disk.{Ghosts}
use Rattle.cluster_space.specs.declared.run.Run.{Run}
use Rattle.cluster_space.specs.declared.state.State.{State}
use Rattle.cluster_space.specs.declared.state.State.TheVariants.{Free}
use Rattle.cluster_space.specs.States.{IsIn}
use Rattle.table_records.specs.Keys.{pair_cmp}
use Rattle.table_records.specs.declared.chunk_records.Container.{Container}
use Rattle.volume_inside.specs.declared.layout.TheConstants.{CLUSTER_BYTES}
use Rattle.volume_inside.specs.ChunkTables.{PageKey}
use Rattle.volume_inside.specs.Inside.{cluster_bytes}
use Rattle.volume_inside.specs.Typed.{Typed}
use Rattle.volume_tables.specs.Stages.{accounted}
use Rattle.volume_tables.specs.Tables.{stopped}
use Rattle.volume_tables.specs.declared.tables.Tables.{Tables}

-- ---- bytes

-- each cluster of a run, which was written ahead, has its part of the bytes
abbrev pub AreAhead : List ℕ → Run → List ℕ → Type 0
AreAhead bytes run image =
    (k : ℕ) → k < run.count → cluster_bytes (run.first + k) image ≡ part (CLUSTER_BYTES * k) CLUSTER_BYTES bytes

-- a cluster has the bytes in front, as many as it holds
abbrev pub HasFront : List ℕ → ℕ → List ℕ → Type 0
HasFront bytes cluster image =
    (o : ℕ) → o < CLUSTER_BYTES → o < length bytes → get_or (cluster_bytes cluster image) o 0 ≡ get_or bytes o 0

-- a run without its first cluster
abbrev pub without_first : Run → Run
without_first run = record { first = run.first + 1; count = run.count - 1 }

-- the pages of a container from one on have the bytes
abbrev pub HavePages : PageKey → List ℕ → List (PageKey × ℕ) → List ℕ → Type 0
HavePages key bytes clusters image =
    (k o cluster : ℕ) → find pair_cmp (key.0, key.1 + k) clusters ≡ Some cluster → o < CLUSTER_BYTES
    → CLUSTER_BYTES * k + o < length bytes
    → get_or (cluster_bytes cluster image) o 0 ≡ get_or bytes (CLUSTER_BYTES * k + o) 0

-- ---- tables

-- a page of a container is one of so many from another one on
pub record IsAmong (key : PageKey) (count : ℕ) (k : PageKey) : Type 0 where
  pub container : k.0 ≡ key.0
  pub least : key.1 ≤ k.1
  pub most : k.1 < key.1 + count

-- THE PAGES PUT: so many of a container from one on have clusters now, and its record is this one. All else is as it was.
pub record ArePagesPut (key : PageKey) (count : ℕ) (container : Container) (old new : Typed) : Type 0 where
  pub rest : new ≡ record old {
    chunks = record old.chunks {
      containers = put nat_cmp key.0 container old.chunks.containers;
      clusters = new.chunks.clusters;
    };
  }
  pub others : (k : PageKey) → (IsAmong key count k → ⊥)
      → find pair_cmp k new.chunks.clusters ≡ find pair_cmp k old.chunks.clusters
  pub there : (k : PageKey) → IsAmong key count k → IsSome (find pair_cmp k new.chunks.clusters)

-- ---- clusters

-- no cluster becomes free
abbrev pub IsNoFreer : List State → List State → Type 0
IsNoFreer old new = (k : ℕ) → IsIn new k Free → IsIn old k Free

module _ {D : Type 0} {d : Ghosts D} where
  -- no cluster is lost, unless the tables are stopped
  abbrev pub LosesNone : Tables D d → Tables D d → Type 0
  LosesNone old new = stopped new ≡ false → accounted new ≡ accounted old
