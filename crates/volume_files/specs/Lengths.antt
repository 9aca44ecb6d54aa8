-- The tables once a file has another length, and what is wanting for it.
use Rattle.std.specs.Prelude.{◌/◌, ◌%◌, ◌*◌, ◌&&◌, ◌==◌, ℕ, Bool, true, false, cond, not, min, nat_eq, nat_le, nat_lt, if◌then◌else◌, List, Option, Some, None}
use Rattle.std.specs.Ordering.{nat_cmp}
use Rattle.std.specs.FinMap.{find}
use Rattle.vdisk.specs.declared.disk.Disk.{Ghosts}
use Rattle.byte_map.specs.Words.{bytes_cmp}
use Rattle.plain_volume.specs.declared.call.Fault.{Fault}
use Rattle.table_records.specs.Keys.{pair_cmp}
use Rattle.table_records.specs.declared.records.FileRecord.{FileRecord}
use Rattle.table_records.specs.declared.records.Extent.{Extent}
use Rattle.volume_inside.specs.declared.layout.TheConstants.{CLUSTER_BYTES}
use Rattle.volume_inside.specs.Typed.{Typed, FileBlock}
use Rattle.volume_inside.specs.Changes.{with_file, with_extent, keep_extents}
use Rattle.volume_tables.specs.Tables.{tables_now}
use Rattle.volume_tables.specs.declared.tables.Tables.{Tables}
use Rattle.volume_tables.specs.Wants.{wanting}
use Rattle.volume_files.specs.Needs.{length_needs}

-- the extent of a block of which so many bytes are left, where these are fewer than it has, and some
abbrev pub cut_extent : ℕ → Option Extent → Option Extent
cut_extent rest None = None
cut_extent rest (Some e) =
    cond (nat_lt 0 rest && nat_lt rest e.valid) (Some (record { cluster = e.cluster; valid = rest })) None

abbrev pub with_extent_if : FileBlock → Option Extent → Typed → Typed
with_extent_if k None t = t
with_extent_if k (Some e) t = with_extent k e t

-- the tables with the block in which a file ends cut to its end
abbrev pub end_cut : ℕ → ℕ → Typed → Typed
end_cut id len t =
    with_extent_if (id, len / CLUSTER_BYTES) (cut_extent (len % CLUSTER_BYTES) (find pair_cmp (id, len / CLUSTER_BYTES) t.extents)) t

-- a block of a file of this length that lies behind its end
abbrev pub lies_behind : ℕ → ℕ → FileBlock → Bool
lies_behind id len k = (k.0 == id) && nat_le len (CLUSTER_BYTES * k.1)

-- the tables with the blocks of a file cut to its end
abbrev pub cut_at : ℕ → ℕ → Typed → Typed
cut_at id len t = keep_extents (λ k. not (lies_behind id len k)) (end_cut id len t)

abbrev pub cut_if : Bool → ℕ → ℕ → Typed → Typed
cut_if true id len t = cut_at id len t
cut_if false id len t = t

-- the record of a file with another length: its base covers no more than that, and goes where it covers nothing
abbrev pub record_resized : ℕ → FileRecord → FileRecord
record_resized len file = record {
  length = len;
  map_row = if nat_eq (min file.covers len) 0 then 0 else file.map_row;
  covers = min file.covers len;
}

-- the tables once a file has another length: its record, and where it is shorter its blocks are cut
abbrev pub resized_in : ℕ → FileRecord → ℕ → Typed → Typed
resized_in id file len t = with_file id (record_resized len file) (cut_if (nat_lt len file.length) id len t)

-- what is wanting for the file of a name, if there is one
abbrev pub for_file : Option ℕ → (ℕ → Option Fault) → Option Fault
for_file None want = None
for_file (Some id) want = want id

abbrev pub length_in : Option FileRecord → ℕ
length_in None = 0
length_in (Some file) = file.length

-- the length of the file of an id
abbrev pub length_of : Typed → ℕ → ℕ
length_of t id = length_in (find nat_cmp id t.files)

module _ {D : Type 0} {d : Ghosts D} where
  -- what is wanting for another length of the file of a name
  abbrev pub length_wants : Tables D d → List ℕ → ℕ → Option Fault
  length_wants t name len =
      for_file (find bytes_cmp name (tables_now t).names)
      (λ id. wanting t (length_needs (tables_now t) id (length_of (tables_now t) id) len))
