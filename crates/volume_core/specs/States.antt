-- The state of a volume: what it holds and what waits for a commit, with no place of a cluster; and what is wanting for
-- a call in it.
use Rattle.std.specs.Prelude.{◌≡◌, ◌+◌, ◌-◌, ◌*◌, ◌&&◌, if◌then◌else◌, ℕ, Bool, not, cond, nat_eq, nat_lt, List}
use Rattle.std.specs.Prelude.{[], ◌∷◌, length, Option, Some, None, Ok}
use Rattle.std.specs.FinMap.{find}
use Rattle.vdisk.specs.declared.disk.Disk.{Ghosts}
use Rattle.byte_map.specs.Words.{bytes_cmp}
use Rattle.meta_log.specs.Meta.{epoch_in, place_in}
use Rattle.plain_volume.specs.Volume.{Volume}
use Rattle.plain_volume.specs.declared.call.Call.{Call}
use Rattle.plain_volume.specs.declared.call.Call.TheVariants.{Create, Write, SetLength, Rename, Delete, Read, Digest}
use Rattle.plain_volume.specs.declared.call.Call.TheVariants.{Stat, Next, Flush}
use Rattle.plain_volume.specs.declared.call.Fault.{Fault}
use Rattle.plain_volume.specs.declared.call.Fault.TheVariants.{Worn, TableFull, Full}
use Rattle.table_records.specs.declared.records.Extent.{Extent}
use Rattle.volume_inside.specs.declared.layout.TheConstants.{CLUSTER_BYTES}
use Rattle.volume_inside.specs.Fresh.{fresh_tables}
use Rattle.volume_inside.specs.Inside.{Inside, inside_at, chunks_told}
use Rattle.volume_inside.specs.InsideOf.{InsideOf}
use Rattle.volume_inside.specs.Layout.{journal_at, half_bytes, data_clusters}
use Rattle.volume_inside.specs.Rules.{next_id_of}
use Rattle.volume_inside.specs.Typed.{Typed, FileBlock}
use Rattle.volume_inside.specs.View.{view}
use Rattle.volume_tables.specs.Mount.{read_meta}
use Rattle.volume_tables.specs.Pending.{Needs, Pending, last_id, wears_in, finds_room, settled, committed, worn_out}
use Rattle.volume_tables.specs.Pending.{spent, pending_of}
use Rattle.volume_tables.specs.Sizes.{tables_bytes}
use Rattle.volume_tables.specs.Tables as tables
use Rattle.volume_tables.specs.Tables.{inside_now}
use Rattle.volume_tables.specs.declared.tables.Tables.{Tables}
use Rattle.volume_files.specs.Lengths.{for_file, length_of}
use Rattle.volume_files.specs.Needs.{create_needs, rename_needs, delete_needs, write_needs, length_needs}
use Rattle.volume_core.specs.Volumes.{tables_of}
use Rattle.volume_core.specs.declared.volume.Volume.{Volume as Mounted}

-- ---- states

-- THE STATE OF A VOLUME: how many clusters its image has, its inside, and what waits for a commit
pub record VolumeState : Type 0 where
  pub clusters : ℕ
  pub inside : Inside
  pub pending : Pending

-- the plain volume in a state
abbrev pub plain_in : VolumeState → Volume
plain_in s = view s.inside

-- ---- what is wanting in a state

abbrev pub extents_told : List (FileBlock × List ℕ) → List (FileBlock × Extent)
extents_told [] = []
extents_told (e ∷ blocks) = (e.0, record { cluster = 0; valid = length e.1 }) ∷ extents_told blocks

-- the tables that an inside tells: each block is an extent of its bytes, whose cluster is not told, and no place of a
-- copy or a page is
abbrev pub tables_told : Inside → Typed
tables_told i = record {
  volume = i.volume;
  names = i.names;
  files = i.files;
  extents = extents_told i.blocks;
  chunks = chunks_told i;
  settings = i.settings;
  results = i.results;
}

-- the data clusters that no block and no page of a container takes
abbrev pub left_in : VolumeState → ℕ
left_in s = data_clusters s.clusters - (length s.inside.blocks + length s.inside.pages)

-- a commit in a state is refused as worn
abbrev pub wears_at : VolumeState → Bool
wears_at s = wears_in (half_bytes s.clusters) s.pending

-- THE RESOURCE THAT IS WANTING in a state, the first one in this order: ids, room in a checkpoint, clusters, and
-- epochs, where a commit must come first
abbrev pub wanting_in : VolumeState → Needs → Option Fault
wanting_in s n =
    cond (n.draws && nat_eq (next_id_of (tables_told s.inside)) last_id) (Some Worn)
    (cond (nat_lt (half_bytes s.clusters) (tables_bytes (tables_told s.inside) + n.grows)) (Some TableFull)
    (cond (nat_lt (left_in s) n.clusters) (Some (Full n.clusters (left_in s)))
    (cond (not (finds_room s.pending n) && wears_at s) (Some Worn) None)))

-- the file that a name has
abbrev pub id_of_name : VolumeState → List ℕ → Option ℕ
id_of_name s name = find bytes_cmp name s.inside.names

abbrev pub write_wants_in : VolumeState → ℕ → ℕ → List ℕ → Option Fault
write_wants_in s file at [] = None
write_wants_in s file at (b ∷ bytes) =
    wanting_in s (write_needs (tables_told s.inside) file at (length (b ∷ bytes)))

abbrev pub length_wants_in : VolumeState → ℕ → ℕ → Option Fault
length_wants_in s file len =
    wanting_in s (length_needs (tables_told s.inside) file (length_of (tables_told s.inside) file) len)

-- WHAT EACH CALL WANTS in a state: an id, room in the tables, clusters, or an epoch, where one is at its end
abbrev pub wants_in : VolumeState → Call → Option Fault
wants_in s (Create name) = wanting_in s (create_needs name)
wants_in s (Write name at bytes) = for_file (id_of_name s name) (λ file. write_wants_in s file at bytes)
wants_in s (SetLength name len) = for_file (id_of_name s name) (λ file. length_wants_in s file len)
wants_in s (Rename from to) = wanting_in s (rename_needs from to)
wants_in s (Delete name) = wanting_in s (delete_needs name)
wants_in s Flush = cond (wears_at s) (Some Worn) None
wants_in s (Read name at count) = None
wants_in s (Digest name) = None
wants_in s (Stat name) = None
wants_in s (Next after) = None

-- what each call wants where no epoch is wanting: the inside and the number of clusters tell it
abbrev pub wants_but_epochs : ℕ → Inside → Call → Option Fault
wants_but_epochs n inside call =
    wants_in (record { clusters = n; inside = inside; pending = settled 0 0 0 }) call

-- ---- what becomes of what waits for a commit

-- after a commit in a state
abbrev pub committed_in : VolumeState → Pending
committed_in s =
    committed (half_bytes s.clusters) (tables_bytes (tables_told s.inside)) (left_in s) s.pending

-- once there is room for a call: all as it was, or nothing, where a commit had to come first
abbrev pub roomed_in : VolumeState → Needs → Pending
roomed_in s n = if finds_room s.pending n then s.pending else committed_in s

-- once a call with these needs staged records of so many bytes
abbrev pub done_in : VolumeState → Needs → ℕ → Pending
done_in s n bytes = spent bytes n.clusters (roomed_in s n)

-- once a call was refused as worn: all as it was, where no id was left
abbrev pub worn_in : VolumeState → Needs → Pending
worn_in s n =
    if n.draws && nat_eq (next_id_of (tables_told s.inside)) last_id then s.pending else worn_out s.pending

-- ---- which states there are

module _ {D : Type 0} {d : Ghosts D} where
  -- the state of the tables of a volume, and of a mounted volume
  abbrev pub state_at : Tables D d → VolumeState
  state_at t = record {
    clusters = tables.clusters_in t;
    inside = inside_now t;
    pending = pending_of t;
  }

  abbrev pub state_of : Mounted D d → VolumeState
  state_of v = state_at (tables_of v)

-- THE STATE OF AN IMAGE, which fixes it: its number of clusters and its inside; its journal's epoch and where the groups
-- of the live half end; and nothing that waits for a commit, where all clusters that no block or page takes are free
pub record IsStateOf (image : List ℕ) (s : VolumeState) : Type 0 where
  pub clusters : length image ≡ CLUSTER_BYTES * s.clusters
  pub inside : InsideOf read_meta image (Ok s.inside)
  pub pending : s.pending ≡ settled (epoch_in journal_at (half_bytes s.clusters) image)
      (place_in journal_at (half_bytes s.clusters) image) (left_in s)

-- the inside of a volume that has just been formatted
abbrev pub fresh_inside : Inside
fresh_inside = inside_at fresh_tables []

-- THE STATE OF A FRESH VOLUME of n clusters: no id was drawn, the epoch is the first, the next group goes behind the one
-- that made the tables, and nothing waits for a commit
pub record IsFreshState (n : ℕ) (s : VolumeState) : Type 0 where
  pub clusters : s.clusters ≡ n
  pub inside : s.inside ≡ fresh_inside
  pub pending : s.pending ≡ settled 1 (tables_bytes fresh_tables + 37) (data_clusters n)
