-- What rows and copies are read as once the tables of chunks have changed, and that no file sees it.
use Rattle.std.specs.Prelude.{◌≡◌, ◌⊎◌, ◌<◌, ◌/◌, ◌%◌, ℕ, zero, suc, cond, List, [], ◌∷◌, ◌++◌, map, Option, Some, None, IsSome, refl}
use Rattle.std.proofs.Common.{◌∙◌, ap, sym, subst, inl, inr, arith}
use Rattle.std.specs.declared.cmp.Ordering.TheVariants.{Less, Equal, Greater}
use Rattle.std.specs.Ordering.{nat_cmp, is_eq}
use Rattle.std.specs.Cmp.{nat_cmp_total}
use Rattle.std.specs.List.{range_with_len}
use Rattle.std.specs.FinMap.{find}
use Rattle.std.proofs.lemmas.Bool.{cases_eq}
use Rattle.std.proofs.lemmas.Map.Lookups.{exact_unsigned}
use Rattle.vdisk.specs.Ranges.{part}
use Rattle.table_records.specs.Keys.{pair_cmp}
use Rattle.table_records.specs.Orders.{pair_total}
use Rattle.table_records.specs.declared.records.FileRecord.{FileRecord}
use Rattle.table_records.specs.declared.chunk_records.Row.{Row}
use Rattle.table_records.specs.declared.chunk_records.Place.{Place}
use Rattle.volume_inside.specs.declared.layout.TheConstants.{CLUSTER_BYTES}
use Rattle.volume_inside.specs.Bases.{bases_of, base_cell}
use Rattle.volume_inside.specs.ChunkChanges.{Extends}
use Rattle.volume_inside.specs.ChunkRules.{IsTarget, RedirectHolds, RedirectsHold, MapsHold, PlaceOfHolds}
use Rattle.volume_inside.specs.Chunks.{chunk, copies_of, copy_of, length_or_none}
use Rattle.volume_inside.specs.ChunkTables.{ChunkTables, CopyKey}
use Rattle.volume_inside.specs.Entries.{each_found, each_weaker}
use Rattle.volume_inside.specs.Inside.{Inside, inside_at, blocks_of}
use Rattle.volume_inside.specs.Joins.{HasCover}
use Rattle.volume_inside.specs.Pages.{page_bytes, page_length, pages_from, pages_of, used_of, content}
use Rattle.volume_inside.specs.Rules.{FileHolds, next_id_of, RulesHold}
use Rattle.volume_inside.specs.Typed.{Typed}
use Rattle.volume_inside.specs.View.{cell_in, cells_or_none, view}
use Rattle.volume_inside.proofs.BaseGrown.{chunk_stays}
use Rattle.volume_inside.proofs.Joined.{view_by_cells, view_by_chunks}
use Rattle.chunk_container.specs.Rows.{IsNewRow, with_new_row}
use Rattle.chunk_container.proofs.Finds.{some_and, found_put, found_other}
use Rattle.chunk_container.proofs.RowRules.{exact_keys, low_row, row_same, next_bounds}

-- ---- the same chunks, the same view

pub view_rows : (n : ℕ) (t u : Typed) (image : List ℕ) → RulesHold n t → MapsHold (inside_at t image) → u.names ≡ t.names → u.files ≡ t.files
    → u.extents ≡ t.extents
    → ((id : ℕ) → IsSome (find nat_cmp id t.chunks.rows)
    → chunk (bases_of u image) id ≡ chunk (bases_of t image) id)
    → view (inside_at u image) ≡ view (inside_at t image)
view_rows n t u image rules maps names files extents chunks =
    view_by_chunks (inside_at t image) (inside_at u image) names files (λ i. blocks_of (extents i) image) chunks
    rules.map_rows
    (each_weaker (FileHolds (next_id_of t)) HasCover t.files (λ id file holds. holds.cover.no_cover) rules.files)
    maps

-- the same names, files, blocks and bases
pub view_by_bases : (i j : Inside) → j.names ≡ i.names → j.files ≡ i.files → j.blocks ≡ i.blocks → j.bases ≡ i.bases
    → view j ≡ view i
view_by_bases i j names files blocks bases = view_by_cells i j names (λ id.
    ap (λ (fs : List (ℕ × FileRecord)). cells_or_none j id (find nat_cmp id fs)) files
    ∙ of_file id (find nat_cmp id i.files))
  where
    of_file : (id : ℕ) (o : Option FileRecord) → cells_or_none j id o ≡ cells_or_none i id o
    of_file id None = refl
    of_file id (Some file) = λ k. map (λ p. cell_in (find pair_cmp (id, p / CLUSTER_BYTES) (blocks k)) (p % CLUSTER_BYTES)
        (base_cell (bases k) file p)) (range_with_len 0 file.length)

-- ---- the bytes of copies

-- the copy of a key, where it has a place
abbrev pub copy_or_none : ChunkTables → CopyKey → Option Place → List ℕ → Option (List ℕ)
copy_or_none t k None image = None
copy_or_none t k (Some p) image = Some (copy_of t k p image)

pub found_copy : (t : ChunkTables) (k : CopyKey) (image : List ℕ) (ps : List (CopyKey × Place))
    → find pair_cmp k (copies_of t ps image) ≡ copy_or_none t k (find pair_cmp k ps) image
found_copy t k image [] = refl
found_copy t k image (p ∷ ps) =
    let rest = found_copy t k image ps in
    elim (pair_cmp k p.0) as (λ r. pair_cmp k p.0 ≡ r
    → cond (is_eq r) (Some (copy_of t p.0 p.1 image)) (find pair_cmp k (copies_of t ps image))
    ≡ copy_or_none t k (cond (is_eq r) (Some p.1) (find pair_cmp k ps)) image) [
      | Less ↦ λ is. rest
      | Equal ↦ λ is. ap (λ (x : CopyKey). Some (copy_of t x p.1 image)) (sym (exact_keys k p.0 is))
      | Greater ↦ λ is. rest
    ] refl

module _ (t u : ChunkTables) (image : List ℕ) (containers : u.containers ≡ t.containers) (clusters : u.clusters ≡ t.clusters) where
  pages_same : (c n index : ℕ) → pages_from u c image index n ≡ pages_from t c image index n
  pages_same c zero index = refl
  pages_same c (suc n) index =
      λ i. page_bytes (find pair_cmp (c, index) (clusters i)) (page_length (containers i) (c, index)) image
      ++ pages_same c n (suc index) i

  pub content_same : (c : ℕ) → content u c image ≡ content t c image
  content_same c =
      pages_same c (pages_of (used_of u.containers c)) 0
      ∙ ap (λ cs. pages_from t c image 0 (pages_of (used_of cs c))) containers

  -- the copy of a row and a place that stay is the same
  pub copy_same : (id copy : ℕ) → find nat_cmp id u.rows ≡ find nat_cmp id t.rows
      → find pair_cmp (id, copy) u.places ≡ find pair_cmp (id, copy) t.places
      → find pair_cmp (id, copy) (copies_of u u.places image) ≡ find pair_cmp (id, copy) (copies_of t t.places image)
  copy_same id copy rows places =
      found_copy u (id, copy) image u.places
      ∙ ap (λ (o : Option Place). copy_or_none u (id, copy) o image) places
      ∙ by (find pair_cmp (id, copy) t.places)
      ∙ sym (found_copy t (id, copy) image t.places)
    where
      by : (o : Option Place) → copy_or_none u (id, copy) o image ≡ copy_or_none t (id, copy) o image
      by None = refl
      by (Some p) = λ i. Some (part p.offset (length_or_none (rows i)) (content_same p.container i))

-- ---- a new row

redirect_there : (t : ChunkTables) → RedirectsHold t → (id : ℕ) (row : Row) → find nat_cmp id t.rows ≡ Some row
    → (row.redirect ≡ 0) ⊎ IsSome (find nat_cmp row.redirect t.rows)
redirect_there t hold id row is = elim (cases_eq row.redirect 0) [
  | inl none ↦ inl none
  | inr some ↦ inr (some_and (IsTarget id row) (find nat_cmp row.redirect t.rows)
      (each_found nat_cmp exact_unsigned (RedirectHolds t.rows) id row t.rows is hold some))
]

module _ (n : ℕ) (t : Typed) (rules : RulesHold n t) (row : Row) (p : Place) (new : IsNewRow row)
    (fits : PlaceOfHolds t.chunks.containers 0 p row) (image : List ℕ) where
  pub row_stays : (id : ℕ) → IsSome (find nat_cmp id t.chunks.rows)
      → find nat_cmp id (with_new_row row p t).chunks.rows ≡ find nat_cmp id t.chunks.rows
  row_stays id there =
      row_same n (next_id_of t) t.chunks rules.chunks row p new fits (next_bounds n t rules).0 id there

  pub place_stays : (id copy : ℕ) → IsSome (find nat_cmp id t.chunks.rows)
      → find pair_cmp (id, copy) (with_new_row row p t).chunks.places
      ≡ find pair_cmp (id, copy) t.chunks.places
  place_stays id copy there =
      let low : id < next_id_of t = low_row (next_id_of t) t.chunks rules.chunks.rows id there in
      found_other pair_cmp pair_total (id, copy) (next_id_of t, 0) p t.chunks.places
      (λ tie. let same = ap (λ (k : CopyKey). k.0) (exact_keys (id, copy) (next_id_of t, 0) tie) in omega (arith, low, same))

  -- the rows that were there have the copies that they had
  pub extends_new : Extends (bases_of t image) (bases_of (with_new_row row p t) image)
  extends_new = record {
    rows = λ id r is. row_stays id (subst IsSome (sym is) refl) ∙ is;
    copies = λ id copy there.
        copy_same t.chunks (with_new_row row p t).chunks image refl refl id copy (row_stays id there)
        (place_stays id copy there);
    targets = redirect_there t.chunks rules.chunks.redirects;
  }

  -- and no file sees the new one
  pub view_new : MapsHold (inside_at t image) → view (inside_at (with_new_row row p t) image) ≡ view (inside_at t image)
  view_new maps = view_rows n t (with_new_row row p t) image rules maps refl refl refl
      (λ id there. chunk_stays (bases_of t image) (bases_of (with_new_row row p t) image) extends_new id there)

-- the first copy of a new row
pub copy_new : (t : Typed) (row : Row) (p : Place) (image : List ℕ)
    → find pair_cmp (next_id_of t, 0) (let b = bases_of (with_new_row row p t) image in b.copies)
    ≡ Some (part p.offset row.length (content (with_new_row row p t).chunks p.container image))
copy_new t row p image =
    let u = (with_new_row row p t).chunks in
    found_copy u (next_id_of t, 0) image u.places
    ∙ ap (λ (o : Option Place). copy_or_none u (next_id_of t, 0) o image)
    (found_put pair_cmp pair_total (next_id_of t, 0) p t.chunks.places)
    ∙ ap (λ (o : Option Row). Some (part p.offset (length_or_none o) (content u p.container image)))
    (found_put nat_cmp nat_cmp_total (next_id_of t) row t.chunks.rows)
