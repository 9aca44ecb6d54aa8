-- Bytes that are appended to a container.
use Rattle.std.specs.Prelude.{◌≡◌, ◌⊎◌, ◌≤◌, ◌<◌, ◌+◌, ◌-◌, ◌*◌, ◌/◌, ◌%◌, ℕ, Bool, true, false, min, if◌then◌else◌, List, length, drop, get_or, None, Some}
use Rattle.std.specs.Prelude.{IsSome, IsSomeAnd, Result, Ok, Err, OnOk, OnErr, IfErr, IsErrOf}
use Rattle.std.specs.Ordering.{nat_cmp}
use Rattle.std.specs.FinMap.{find, put}
use Rattle.vdisk.specs.declared.disk.Disk.{Ghosts}
use Rattle.plain_volume.specs.declared.call.Fault.{Fault}
use Rattle.plain_volume.specs.declared.call.Fault.TheVariants.{Failed, Memory}
use Rattle.table_records.specs.Keys.{pair_cmp}
use Rattle.table_records.specs.declared.chunk_records.Container.{Container}
use Rattle.table_records.specs.declared.chunk_records.Place.{Place}
use Rattle.volume_inside.specs.declared.chunk_rules.TheConstants.{MOST_CONTAINER_BYTES}
use Rattle.volume_inside.specs.declared.layout.TheConstants.{CLUSTER_BYTES}
use Rattle.volume_inside.specs.Changes.{with_volume}
use Rattle.volume_inside.specs.ChunkTables.{PageKey}
use Rattle.volume_inside.specs.Pages.{used_of, pages_of}
use Rattle.volume_inside.specs.Rules.{next_id_of}
use Rattle.volume_inside.specs.Typed.{Typed}
use Rattle.volume_tables.specs.Pending.{IsPending}
use Rattle.volume_tables.specs.Sound.{IsSound, Endures, Spares}
use Rattle.volume_tables.specs.Tables.{tables_now, inside_now, view_now, stopped}
use Rattle.volume_tables.specs.Wants.{Needs, wanting, IsWanting}
use Rattle.volume_tables.specs.declared.tables.Tables.{Tables}
use Rattle.chunk_container.specs.declared.containers.Target.{Target}
use Rattle.chunk_container.specs.Bases.{bases_now}
use Rattle.chunk_container.specs.Pages.{IsAmong, HavePages}

-- ---- how many pages and bytes

-- the pages that so many bytes at an offset need beyond those that the container has
abbrev pub more_pages : ℕ → ℕ → ℕ
more_pages offset count = pages_of (offset + count) - pages_of offset

-- of so many bytes, how many go into the page that the bytes before an offset have begun
abbrev pub head_bytes : ℕ → ℕ → ℕ
head_bytes offset count = min count ((CLUSTER_BYTES - offset % CLUSTER_BYTES) % CLUSTER_BYTES)

abbrev pub if_made : Bool → ℕ → ℕ
if_made made bytes = if made then bytes else 0

-- an id, where the container is new; its record, which takes room then; and the pages, each of which may be taken back
abbrev pub append_needs : Target → ℕ → Needs
append_needs target count = record {
  draws = target.made;
  grows = 22 * more_pages target.offset count + if_made target.made 19;
  records = 53 * more_pages target.offset count + 37;
  clusters = more_pages target.offset count;
}

-- the records of the pages and the container, and that of the volume, where its next id has risen
abbrev pub append_bytes : Target → ℕ → ℕ
append_bytes target count = 22 * more_pages target.offset count + (19 + if_made target.made 18)

-- the place of bytes that went there
abbrev pub place_at : Target → Place
place_at target = record { container = target.container; offset = target.offset }

-- a result without its place
abbrev pub without_place : {E : Type 0} → Result Place E → Result (Unit {0}) E
without_place (Ok place) = Ok tt
without_place (Err fault) = Err fault

-- ---- tables

-- a place behind what is used of a container of the kind, or at the front of a new one, where so many bytes fit
pub record IsTargetIn (kind count : ℕ) (target : Target) (t : Typed) : Type 0 where
  pub used : used_of t.chunks.containers target.container ≡ target.offset
  pub fits : target.offset + count ≤ MOST_CONTAINER_BYTES
  pub next : target.made ≡ true → target.container ≡ next_id_of t
  pub new : target.made ≡ true → find nat_cmp target.container t.chunks.containers ≡ None
  pub there : target.made ≡ false → IsSomeAnd (find nat_cmp target.container t.chunks.containers) (λ c. c.kind ≡ kind)

-- the next id is drawn, or not
abbrev pub with_id_if : Bool → Typed → Typed
with_id_if made t = if made then with_volume (record { version = 1; next_id = next_id_of t + 1 }) t else t

-- the record of a container to which so many bytes were appended
abbrev pub longer : Target → ℕ → ℕ → Container
longer target kind count = record { kind = kind; used = target.offset + count }

-- the tables with the longer container, these clusters of containers, and the id of a new container drawn
abbrev pub with_longer : Target → ℕ → ℕ → List (PageKey × ℕ) → Typed → Typed
with_longer target kind count clusters t = with_id_if target.made (record t {
  chunks = record t.chunks {
    containers = put nat_cmp target.container (longer target kind count) t.chunks.containers;
    clusters = clusters;
  };
})

-- WHAT AN APPEND CHANGES IN THE TABLES: the container, which is longer or new, and its new pages, which are there, and
-- no more behind them. All pages that were there stay.
pub record IsAppended (target : Target) (kind count : ℕ) (old new : Typed) : Type 0 where
  pub rest : new ≡ with_longer target kind count new.chunks.clusters old
  pub others : (k : PageKey) → (IsAmong (target.container, pages_of target.offset) (more_pages target.offset count) k → ⊥)
      → find pair_cmp k new.chunks.clusters ≡ find pair_cmp k old.chunks.clusters
  pub there : (k : PageKey) → IsAmong (target.container, pages_of target.offset) (more_pages target.offset count) k
      → IsSome (find pair_cmp k new.chunks.clusters)
  pub none : (index : ℕ) → pages_of (target.offset + count) ≤ index
      → find pair_cmp (target.container, index) new.chunks.clusters ≡ None

-- ---- bytes

-- an image has so many bytes behind an offset of a container, in the page that the bytes before it have begun
abbrev pub HasHead : ℕ → ℕ → ℕ → List ℕ → List (PageKey × ℕ) → List ℕ → Type 0
HasHead container offset n bytes clusters image =
    (cluster o : ℕ) → find pair_cmp (container, offset / CLUSTER_BYTES) clusters ≡ Some cluster → o < n
    → get_or image (CLUSTER_BYTES * cluster + offset % CLUSTER_BYTES + o) 0 ≡ get_or bytes o 0

-- the bytes that were appended: those in the page that was begun, and those in the pages behind it
pub record AreBytesThere (target : Target) (bytes : List ℕ) (clusters : List (PageKey × ℕ)) (image : List ℕ) : Type 0 where
  pub head : HasHead target.container target.offset (head_bytes target.offset (length bytes)) bytes clusters image
  pub pages : HavePages (target.container, pages_of target.offset)
      (drop (head_bytes target.offset (length bytes)) bytes) clusters image

-- ---- the call

module _ {D : Type 0} {d : Ghosts D} where
  -- WHAT AN APPEND DOES but for the bytes: it is refused for what is wanting, because the device failed, or for want of
  -- memory; then the tables are as before. Each copy of a row stays, and all files are seen as they were.
  pub record IsAppendCall (target : Target) (kind count : ℕ) (old new : Tables D d) (result : Result (Unit {0}) Fault)
      : Type 0 where
    pub appended : OnOk result (IsAppended target kind count (tables_now old) (tables_now new))
    pub err : OnErr result (tables_now new ≡ tables_now old)
    pub unchanged : OnErr result (inside_now new ≡ inside_now old)
    pub none : OnOk result (wanting old (append_needs target count) ≡ None)
    pub refused : IfErr result (λ fault. IsWanting old new (append_needs target count) fault
        ⊎ ((fault ≡ Memory) × (wanting old (append_needs target count) ≡ None)))
    pub bases : bases_now new ≡ bases_now old
    pub view : view_now new ≡ view_now old
    pub sound : IsSound new
    pub endures : Endures old new
    -- whether the tables are stopped then: just where it failed
    pub stops : stopped new ≡ true → IsErrOf result Failed
    pub halts : IsErrOf result Failed → stopped new ≡ true
    -- what a refusal leaves, and what waits for a commit then
    pub spares : Spares old new result
    pub pending : IsPending (append_needs target count) (append_bytes target count) old new result
