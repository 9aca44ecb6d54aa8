-- Damage of copies loses cells and changes none.
use Rattle.std.specs.Prelude.{◌/◌, ◌%◌, ◌+◌, ℕ, zero, suc, List, [], ◌∷◌, map, Option, Some, None, refl}
use Rattle.std.proofs.Common.{inl}
use Rattle.std.specs.List.{range_with_len}
use Rattle.std.specs.Ordering.{nat_cmp}
use Rattle.std.specs.FinMap.{find}
use Rattle.table_records.specs.Keys.{pair_cmp}
use Rattle.table_records.specs.declared.records.FileRecord.{FileRecord}
use Rattle.volume_inside.specs.Chunks.{Bases}
use Rattle.volume_inside.specs.BaseCells.{IsCellFrom}
use Rattle.volume_inside.specs.Bases.{base_cell}
use Rattle.volume_inside.specs.Damage.{AreCellsFrom, IsVolumeFrom}
use Rattle.volume_inside.specs.ChunkChanges.{IsDamaged, HasOneText}
use Rattle.volume_inside.specs.Inside.{Inside}
use Rattle.volume_inside.specs.View.{cell, cell_in, cells_or_none, named_cells, view}
use Rattle.volume_inside.proofs.BaseDamaged.{chunk_from, base_from}

module _ (i : Inside) (c : Bases) (alike : HasOneText i.bases) (d : IsDamaged i.bases c) where
  abbrev j : Inside
  j = record i { bases = c }

  cell_from : (id : ℕ) (file : FileRecord) (p : ℕ) → IsCellFrom (cell i id file p) (cell j id file p)
  cell_from id file p = by (find pair_cmp (id, p / 4096) i.blocks)
    where
      by : (o : Option (List ℕ)) → IsCellFrom (cell_in o (p % 4096) (base_cell i.bases file p))
          (cell_in o (p % 4096) (base_cell c file p))
      by None = base_from i.bases c (chunk_from i.bases c alike d) file p
      by (Some block) = inl refl

  map_from : (id : ℕ) (file : FileRecord) (a n : ℕ)
      → AreCellsFrom (map (cell i id file) (range_with_len a n)) (map (cell j id file) (range_with_len a n))
  map_from id file a zero = tt
  map_from id file a (suc n) = (cell_from id file a, map_from id file (a + 1) n)

  file_from : (id : ℕ) (o : Option FileRecord) → AreCellsFrom (cells_or_none i id o) (cells_or_none j id o)
  file_from id None = tt
  file_from id (Some file) = map_from id file 0 file.length

  -- THE DAMAGE: each cell of the volume stays or is lost
  pub view_damaged : IsVolumeFrom (view i) (view j)
  unfolding view
  view_damaged = all i.names
    where
      all : (names : List (List ℕ × ℕ)) → IsVolumeFrom (named_cells i names) (named_cells j names)
      all [] = tt
      all (e ∷ names) = (refl, file_from e.1 (find nat_cmp e.1 i.files), all names)
