-- Rows, their copies and redirects: what each call does to the tables, and what it asks for.
use Rattle.std.specs.Prelude.{◌≡◌, ◌≤◌, ◌+◌, ◌==◌, ℕ, true, false, not, nat_eq, if◌then◌else◌, List, Option, Some, None}
use Rattle.std.specs.Prelude.{IsSomeAnd, Result, Ok, Err}
use Rattle.std.specs.Ordering.{nat_cmp, eq_by_cmp}
use Rattle.std.specs.FinMap.{find}
use Rattle.table_records.specs.Keys.{pair_cmp}
use Rattle.table_records.specs.declared.records.FileRecord.{FileRecord}
use Rattle.table_records.specs.declared.chunk_records.Row.{Row}
use Rattle.table_records.specs.declared.chunk_records.Place.{Place}
use Rattle.table_records.specs.declared.chunk_records.Container.{Container}
use Rattle.volume_inside.specs.declared.chunk_rules.TheConstants.{DATA_ROW, HOT_CONTAINER, MAP_ROW}
use Rattle.volume_inside.specs.Changes.{with_volume, with_row, with_place, keep_rows, keep_places}
use Rattle.volume_inside.specs.ChunkRules.{IsDataRow, IsMapRecord, IsTarget}
use Rattle.volume_inside.specs.ChunkTables.{CopyKey}
use Rattle.volume_inside.specs.Entries.{Each}
use Rattle.volume_inside.specs.Rules.{next_id_of}
use Rattle.volume_inside.specs.Typed.{Typed}
use Rattle.volume_tables.specs.Tables.{new_bytes}
use Rattle.volume_tables.specs.Wants.{Needs}

-- ---- a new row

-- a row that may be added: it has its own bytes, and meets the rule of rows but for its id
pub record IsNewRow (row : Row) : Type 0 where
  pub own : row.redirect ≡ 0
  pub some_seen : 1 ≤ row.seen
  pub some_kind : 1 ≤ row.kind
  pub kind : row.kind ≤ MAP_ROW
  pub if_data : row.kind ≡ DATA_ROW → IsDataRow row
  pub if_map : row.kind ≡ MAP_ROW → IsMapRecord row

-- the tables with a row of this id and its first copy
abbrev pub with_own_row : ℕ → Row → Place → Typed → Typed
with_own_row id row place t = with_place (id, 0) place (with_row id row t)

-- the tables with a new row and its first copy, whose id is drawn
abbrev pub with_new_row : Row → Place → Typed → Typed
with_new_row row place t =
    with_volume (record { version = 1; next_id = next_id_of t + 1 }) (with_own_row (next_id_of t) row place t)

-- an id, a row and its first copy; the row may be taken back
abbrev pub row_needs : Needs
row_needs = record { draws = true; grows = 91; records = 132; clusters = 0 }

-- the records of a row, of a copy, and of the volume, whose next id has risen
abbrev pub row_bytes : ℕ
row_bytes = 109

-- ---- copies

abbrev pub copy_of_kind : Option Container → ℕ
copy_of_kind None = 0
copy_of_kind (Some c) = if nat_eq c.kind HOT_CONTAINER then 1 else 0

-- the number of the copy that lies at a place: 1 in a container of second copies, and else 0
abbrev pub copy_at : List (ℕ × Container) → Place → ℕ
copy_at containers place = copy_of_kind (find nat_cmp place.container containers)

-- a copy: its record, which takes no room where one stood there
abbrev pub copy_needs : CopyKey → Typed → Needs
copy_needs key t = record {
  draws = false;
  grows = new_bytes (find pair_cmp key t.chunks.places) 27;
  records = 27;
  clusters = 0;
}

-- without one copy
abbrev pub without_copy : CopyKey → Typed → Typed
without_copy key t = keep_places (λ k. not (eq_by_cmp pair_cmp key k)) t

-- without the copies of a row
abbrev pub without_copies : ℕ → Typed → Typed
without_copies id t = keep_places (λ k. not (k.0 == id)) t

-- without a row, whose copies stay
abbrev pub without_row : ℕ → Typed → Typed
without_row id t = keep_rows (λ x. not (x == id)) t

-- no file has a row as its map
abbrev pub IsUnmapped : List (ℕ × FileRecord) → ℕ → Type 0
IsUnmapped files id = Each (λ x file. file.map_row ≡ id → ⊥) files

-- no place of a row is left but, maybe, that of one copy
abbrev pub AreOthersGone : List (CopyKey × Place) → CopyKey → Type 0
AreOthersGone places k = (copy : ℕ) → (copy ≡ k.1 → ⊥) → find pair_cmp (k.0, copy) places ≡ None

-- ---- redirects

-- no redirect names a row
abbrev pub IsUntargeted : List (ℕ × Row) → ℕ → Type 0
IsUntargeted rows id = Each (λ x row. row.redirect ≡ id → ⊥) rows

-- a row of a chunk may be redirected to another one, which has the same digest and length, and a lower id
pub record IsRedirectable (rows : List (ℕ × Row)) (id to : ℕ) (row : Row) : Type 0 where
  pub there : find nat_cmp id rows ≡ Some row
  pub own : row.redirect ≡ 0
  pub kind : row.kind ≡ DATA_ROW
  pub target : IsSomeAnd (find nat_cmp to rows) (IsTarget id (record row { redirect = to }))
  pub untargeted : IsUntargeted rows id

-- the tables with a row redirected, which has no copies then
abbrev pub redirected : ℕ → ℕ → Row → Typed → Typed
redirected id to row t = without_copies id (with_row id (record row { redirect = to }) t)

-- the row is set over the one that stood there, and its copies are dropped, which takes no room
abbrev pub redirect_needs : Needs
redirect_needs = record { draws = false; grows = 0; records = 89; clusters = 0 }

abbrev pub redirect_bytes : ℕ
redirect_bytes = 89

-- a result without its id
abbrev pub without_id : {E : Type 0} → Result ℕ E → Result (Unit {0}) E
without_id (Ok id) = Ok tt
without_id (Err fault) = Err fault
