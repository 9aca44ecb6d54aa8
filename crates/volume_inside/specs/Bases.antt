-- Bases of files, from which the cells come that no extent holds. What bases are made of, and which ranges and
-- clusters that names, is said here alone.
use Rattle.std.specs.Prelude.{◌≡◌, ◌≤◌, ◌<◌, ◌*◌, ℕ, Bool, true, false, nat_lt, List, if◌then◌else◌, refl}
use Rattle.std.proofs.Common.{◌∙◌, ap, arith, ltb-true}
use Rattle.plain_volume.specs.Volume.{Cell, Byte}
use Rattle.table_records.specs.declared.records.FileRecord.{FileRecord}
use Rattle.volume_inside.specs.declared.layout.TheConstants.{CLUSTER_BYTES}
use Rattle.volume_inside.specs.Typed.{Typed}
use Rattle.volume_inside.specs.Layout.{journal_at, half_bytes, AreData}
use Rattle.volume_inside.specs.Lists.{IsOut}
use Rattle.volume_inside.specs.Ranges.{IsApart, AgreesIn}
use Rattle.volume_inside.specs.Pages.{page_ranges, page_clusters}
pub use Rattle.volume_inside.specs.Chunks.{Bases}
use Rattle.volume_inside.specs.Chunks.{chunk, chunks_at}
use Rattle.volume_inside.specs.BaseCells.{map_cell}
use Rattle.volume_inside.specs.PageFrame.{chunks_agree, pages_unnamed, pages_apart}

-- what the bases are made of: rows, and the bytes of their copies
abbrev pub bases_of : Typed → List ℕ → Bases
bases_of t image = chunks_at t.chunks image

-- the ranges whose bytes bases are made of, each a place and a length: of each container, what is used
abbrev pub base_ranges : Typed → List (ℕ × ℕ)
base_ranges t = page_ranges t.chunks.containers t.chunks.clusters

-- the clusters that hold these bytes
abbrev pub base_clusters : Typed → List ℕ
base_clusters t = page_clusters t.chunks.clusters

-- the cell that the base of a file gives at an offset, and zero behind what it covers
unfoldable pub base_cell : Bases → FileRecord → ℕ → Cell
base_cell b file p = if nat_lt p file.covers then map_cell b (chunk b file.map_row) p else Byte 0

-- bases are the same over images that agree in their ranges
pub bases_agree : (t : Typed) (old new : List ℕ) → AgreesIn (base_ranges t) old new → bases_of t new ≡ bases_of t old
bases_agree t old new agrees = chunks_agree t.chunks old new agrees

-- a cluster that no base names has no byte in their ranges
pub bases_unnamed : (c : ℕ) (t : Typed) → IsOut c (base_clusters t) → IsApart (CLUSTER_BYTES * c) CLUSTER_BYTES (base_ranges t)
bases_unnamed c t out = pages_unnamed c t.chunks.containers t.chunks.clusters out

-- bases whose clusters are data clusters have no byte in the journal
pub bases_apart : (n : ℕ) (t : Typed) → AreData n (base_clusters t)
    → IsApart journal_at (2 * half_bytes n) (base_ranges t)
bases_apart n t data_clusters = pages_apart n t.chunks.containers t.chunks.clusters data_clusters

-- behind what it covers, a base gives zeros
pub cell_behind : (b : Bases) (file : FileRecord) (p : ℕ) → file.covers ≤ p → base_cell b file p ≡ Byte 0
unfolding base_cell
cell_behind b file p behind = by (nat_lt p file.covers) (λ is. omega (arith, ltb-true p file.covers is, behind))
  where
    by : (t : Bool) → (t ≡ true → ⊥) → (if t then map_cell b (chunk b file.map_row) p else Byte 0) ≡ Byte 0
    by true never = absurd (never refl)
    by false never = refl

-- where it covers nothing, it gives zeros
pub uncovered_cell : (b : Bases) (file : FileRecord) (p : ℕ) → file.covers ≡ 0 → base_cell b file p ≡ Byte 0
uncovered_cell b file p none = cell_behind b file p (omega (arith, none))

-- the cell of another record that covers the same place with the same map, or that does not cover it either
pub cell_of_record : (b : Bases) (old new : FileRecord) (p : ℕ) → nat_lt p new.covers ≡ nat_lt p old.covers
    → (p < old.covers → new.map_row ≡ old.map_row) → base_cell b new p ≡ base_cell b old p
unfolding base_cell
cell_of_record b old new p covered map =
    ap (λ (t : Bool). if t then map_cell b (chunk b new.map_row) p else Byte 0) covered
    ∙ by (nat_lt p old.covers) (λ is. map (ltb-true p old.covers is))
  where
    by : (t : Bool) → (t ≡ true → new.map_row ≡ old.map_row)
        → (if t then map_cell b (chunk b new.map_row) p else Byte 0)
        ≡ (if t then map_cell b (chunk b old.map_row) p else Byte 0)
    by true same = ap (λ (row : ℕ). map_cell b (chunk b row) p) (same refl)
    by false same = refl
