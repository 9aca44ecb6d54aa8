-- The maps of bases where the tables of chunks change, over an image that stays: each row of a map keeps its copies.
use Rattle.std.specs.Prelude.{◌≡◌, ℕ, List, Option, Some, None, IsSomeAnd, refl}
use Rattle.std.proofs.Common.{◌∙◌, sym, subst, inl}
use Rattle.std.specs.Ordering.{nat_cmp}
use Rattle.std.specs.FinMap.{find}
use Rattle.std.proofs.lemmas.Map.Lookups.{exact_unsigned}
use Rattle.table_records.specs.Keys.{pair_cmp}
use Rattle.table_records.specs.declared.records.FileRecord.{FileRecord}
use Rattle.table_records.specs.declared.chunk_records.Row.{Row}
use Rattle.volume_inside.specs.Bases.{bases_of}
use Rattle.volume_inside.specs.ChunkRules.{BaseHolds, IsMapRow, MapsHold, RowHolds}
use Rattle.volume_inside.specs.Chunks.{chunk}
use Rattle.volume_inside.specs.Entries.{Each, each_found, each_weaker}
use Rattle.volume_inside.specs.Inside.{inside_at}
use Rattle.volume_inside.specs.Joins.{HasCover}
use Rattle.volume_inside.specs.Mapping.{IsLike, HasEntries}
use Rattle.volume_inside.specs.Rules.{FileHolds, next_id_of, RulesHold}
use Rattle.volume_inside.specs.Typed.{Typed}
use Rattle.volume_inside.proofs.MapsKept.{chunk_of_own, entry_like, maps_left, maps_stay}
use Rattle.chunk_container.proofs.RowViews.{copy_same}

-- a row and its copies in other tables
pub record IsKeptRow (t u : Typed) (m : ℕ) : Type 0 where
  pub row : find nat_cmp m u.chunks.rows ≡ find nat_cmp m t.chunks.rows
  pub copies : (copy : ℕ) → find pair_cmp (m, copy) u.chunks.places ≡ find pair_cmp (m, copy) t.chunks.places

-- the row of a map is there
abbrev pub IsMap : Typed → ℕ → Type 0
IsMap t m = IsSomeAnd (find nat_cmp m t.chunks.rows) IsMapRow

-- the row of an id in other tables has the same kind and length
abbrev pub IsLikeIn : Typed → Typed → ℕ → Type 0
IsLikeIn t u id = (row : Row) → find nat_cmp id t.chunks.rows ≡ Some row
    → IsSomeAnd (find nat_cmp id u.chunks.rows) (IsLike row)

-- a row that is the same is alike
pub same_like : (t u : Typed) (id : ℕ) → find nat_cmp id u.chunks.rows ≡ find nat_cmp id t.chunks.rows → IsLikeIn t u id
same_like t u id same row is = subst (λ (o : Option Row). IsSomeAnd o (IsLike row)) (sym (same ∙ is)) (refl, refl)

module _ (n : ℕ) (t u : Typed) (image : List ℕ) (rules : RulesHold n t) (files : u.files ≡ t.files)
    (containers : u.chunks.containers ≡ t.chunks.containers) (clusters : u.chunks.clusters ≡ t.chunks.clusters) where
  chunk_kept : (m : ℕ) → IsMap t m → IsKeptRow t u m → chunk (bases_of u image) m ≡ chunk (bases_of t image) m
  chunk_kept m is kept = by (find nat_cmp m t.chunks.rows) refl is
    where
      by : (o : Option Row) → find nat_cmp m t.chunks.rows ≡ o → IsSomeAnd o IsMapRow
          → chunk (bases_of u image) m ≡ chunk (bases_of t image) m
      by None at none = absurd none
      by (Some row) at kind =
          let holds = each_found nat_cmp exact_unsigned (RowHolds (next_id_of t)) m row t.chunks.rows at rules.chunks.rows in
          chunk_of_own (bases_of t image) (bases_of u image) m row at (kept.row ∙ at)
          (let map = holds.if_map kind in map.own)
          (λ copy. copy_same t.chunks u.chunks image containers clusters m copy kept.row (kept.copies copy))

  covers : Each HasCover t.files
  covers =
      each_weaker (FileHolds (next_id_of t)) HasCover t.files (λ id file holds. holds.cover.no_cover) rules.files

  in_files : Each (BaseHolds (bases_of u image)) t.files → MapsHold (inside_at u image)
  in_files each = subst (λ (fs : List (ℕ × FileRecord)). Each (BaseHolds (bases_of u image)) fs) (sym files) each

  -- where each row is alike, and each row of a map keeps its copies
  pub maps_stayed : ((id : ℕ) → IsLikeIn t u id) → ((m : ℕ) → IsMap t m → IsKeptRow t u m)
      → MapsHold (inside_at t image) → MapsHold (inside_at u image)
  maps_stayed likes kept maps =
      in_files (maps_stay (bases_of t image) (bases_of u image) t.files likes (λ m is. inl (chunk_kept m is (kept m is)))
      rules.map_rows covers maps)

  -- where so it is of the rows that the maps name, and of these that files have
  pub maps_kept : (P : ℕ → Type 0) → ((id : ℕ) → P id → IsLikeIn t u id) → ((m : ℕ) → P m → IsMap t m → IsKeptRow t u m)
      → Each (λ id file. P file.map_row × HasEntries (bases_of t image) (λ e. P e.id) id file) t.files
      → MapsHold (inside_at t image) → MapsHold (inside_at u image)
  maps_kept P likes kept have maps =
      in_files (maps_left (bases_of t image) (bases_of u image) (λ e. P e.id) P
      (λ e has. entry_like (bases_of t image) (bases_of u image) e (likes e.id has))
      (λ m has is. inl (chunk_kept m is (kept m has is))) t.files have rules.map_rows covers maps)
