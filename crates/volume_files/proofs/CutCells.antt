-- The cells of files once one of them has another length.
use Rattle.std.specs.Prelude.{◌≡◌, ◌≤◌, ◌<◌, ◌+◌, ◌-◌, ◌*◌, ◌/◌, ◌%◌, ℕ, Bool, true, false, cond, nat_lt, T, List, length, take, replicate, get_or, Option, Some, None, refl}
use Rattle.std.proofs.Common.{sym, ◌∙◌, ap, subst, inl, inr, arith, eq-eqb, length-take, length-append}
use Rattle.std.specs.Option.{option_map}
use Rattle.std.specs.Ordering.{nat_cmp, eq_by_cmp}
use Rattle.std.specs.Cmp.{nat_cmp_total, Equal-is, unsigned_tied}
use Rattle.std.specs.FinMap.{find, is_sorted, nat_cmp-IsAntisymmetric}
use Rattle.std.specs.FinMap.Entries.{find-put}
use Rattle.std.proofs.lemmas.Bool.{cases_lt, ne_eqb}
use Rattle.std.proofs.lemmas.List.{get_or-take, get_or_past, get_or_append_left, get_or-append_right, get_or-replicate, length-replicate, ext_get_or}
use Rattle.std.proofs.lemmas.List.FromFn.{get_or-map-range_with_len}
use Rattle.plain_volume.specs.Volume.{Cell, Cells, Byte, name_cmp, resized, with_file as with_cells}
use Rattle.table_records.specs.Keys.{pair_cmp}
use Rattle.table_records.specs.Orders.{pair_total}
use Rattle.table_records.specs.declared.records.FileRecord.{FileRecord}
use Rattle.table_records.specs.declared.records.Extent.{Extent}
use Rattle.volume_inside.specs.Bases.{Bases, bases_of, base_cell, cell_behind}
use Rattle.volume_inside.specs.Changes.{with_file}
use Rattle.volume_inside.specs.Entries.{each_found}
use Rattle.volume_inside.specs.Inside.{Inside, inside_at, cluster_bytes, block_of}
use Rattle.volume_inside.specs.Rules.{next_id_of, FileHolds, LiesIn, ExtentHolds, RulesHold}
use Rattle.volume_inside.specs.Typed.{Typed, FileBlock}
use Rattle.volume_inside.specs.View.{cell, cell_in, cells, cells_or_none, file_cells, view}
use Rattle.volume_inside.proofs.Cells.{map_same, length-cells}
use Rattle.volume_inside.proofs.Names.{view_of_one_file}
use Rattle.volume_files.specs.Lengths.{cut_extent, with_extent_if, cut_if, record_resized, resized_in}
use Rattle.volume_files.specs.Reads.{byte_in, byte_at}
use Rattle.volume_files.proofs.CutExtents.{base_resized, exact_blocks, cut_means, cut_to, found_kept, passes}
use Rattle.volume_files.proofs.Owned.{find-blocks}
use Rattle.volume_files.proofs.ReadBytes.{no_block, of_block}

-- blocks give the same cells up to a place of one file, and everywhere in all others
abbrev AreSame : Inside → Inside → ℕ → ℕ → Type 0
AreSame i j id len = (x p : ℕ) (base : Cell) → (x ≡ id → p < len)
    → cell_in (find pair_cmp (x, p / 4096) j.blocks) (p % 4096) base
    ≡ cell_in (find pair_cmp (x, p / 4096) i.blocks) (p % 4096) base

-- ---- blocks before the end

module _ (t : Typed) (image : List ℕ) (id len : ℕ) (c : Option Extent)
    (is : cut_extent (len % 4096) (find pair_cmp (id, len / 4096) t.extents) ≡ c) where
  -- the cell of the block of an extent, or else what the base gives
  abbrev cell_of : Cell → Option Extent → ℕ → Cell
  cell_of base o p = cell_in (option_map (λ e. block_of e image) o) p base

  end_cell : (k : FileBlock) (p : ℕ) (base : Cell) → (k.0 ≡ id → 4096 * k.1 + p < len)
      → cell_of base (find pair_cmp k (with_extent_if (id, len / 4096) c t).extents) p ≡ cell_of base
      (find pair_cmp k t.extents) p
  end_cell k p base low = by c is
    where
      by : (c : Option Extent) → cut_extent (len % 4096) (find pair_cmp (id, len / 4096) t.extents) ≡ c
          → cell_of base (find pair_cmp k (with_extent_if (id, len / 4096) c t).extents) p ≡ cell_of base
          (find pair_cmp k t.extents) p
      by None none = refl
      by (Some x) cut =
          ap (λ (o : Option Extent). cell_of base o p)
          (find-put pair_cmp pair_total k (id, len / 4096) x t.extents)
          ∙ over (eq_by_cmp pair_cmp k (id, len / 4096)) refl
        where
          over : (b : Bool) → eq_by_cmp pair_cmp k (id, len / 4096) ≡ b
              → cell_of base (cond b (Some x) (find pair_cmp k t.extents)) p ≡ cell_of base
              (find pair_cmp k t.extents) p
          over false other = refl
          over true tie =
              let mine : k ≡ (id, len / 4096) =
              exact_blocks k (id, len / 4096) ((Equal-is (pair_cmp k (id, len / 4096))).0 tie) in
              let h = cut_means (len % 4096) (find pair_cmp (id, len / 4096) t.extents) x cut in
              let there : find pair_cmp k t.extents ≡ Some h.old =
              ap (λ (y : FileBlock). find pair_cmp y t.extents) mine ∙ h.there in
              let file : k.0 ≡ id = ap (λ (y : FileBlock). y.0) mine in
              let block : k.1 ≡ len / 4096 = ap (λ (y : FileBlock). y.1) mine in
              let lower : p < len % 4096 = omega (arith, low file, block) in
              ap Byte ((λ i. get_or (take (h.valid i) (cluster_bytes (h.cluster i) image)) p 0)
              ∙ get_or-take (len % 4096) (cluster_bytes h.old.cluster image) p 0 lower
              ∙ sym (get_or-take h.old.valid (cluster_bytes h.old.cluster image) p 0 (omega (arith, lower, h.fewer))))
              ∙ sym (ap (λ (o : Option Extent). cell_of base o p) there)

  kept_cell : (k : FileBlock) (p : ℕ) (base : Cell) → (k.0 ≡ id → 4096 * k.1 + p < len)
      → cell_of base (find pair_cmp k (cut_to id len t c).extents) p ≡ cell_of base (find pair_cmp k t.extents) p
  kept_cell k p base low =
      let es = (with_extent_if (id, len / 4096) c t).extents in
      ap (λ (o : Option Extent). cell_of base o p)
      (found_kept id len t k es ∙ ap (λ (b : Bool). cond b (find pair_cmp k es) None)
      (passes id len t k (λ same. let l = low same in omega (arith, l))))
      ∙ end_cell k p base low

  -- the cell of a block of another file, or before the end, is as before, whatever the base gives
  pub blocks_same : AreSame (inside_at t image) (inside_at (cut_to id len t c) image) id len
  blocks_same x p base low =
      ap (λ (b : Option (List ℕ)). cell_in b (p % 4096) base)
      (find-blocks (x, p / 4096) (cut_to id len t c).extents image)
      ∙ kept_cell (x, p / 4096) (p % 4096) base (λ same. let l = low same in omega (arith, l))
      ∙ sym (ap (λ (b : Option (List ℕ)). cell_in b (p % 4096) base) (find-blocks (x, p / 4096) t.extents image))

-- ---- cells

module _ (n : ℕ) (t : Typed) (image : List ℕ) (rules : RulesHold n t) (id len : ℕ) (file : FileRecord)
    (found : find nat_cmp id t.files ≡ Some file) where
  holds : FileHolds (next_id_of t) id file
  holds = each_found nat_cmp nat_cmp-IsAntisymmetric (FileHolds (next_id_of t)) id file t.files found rules.files

  -- behind the end of a file all bytes of its blocks are 0
  beyond : (p : ℕ) → file.length ≤ p → byte_at (inside_at t image) id p ≡ 0
  beyond p past = by (find pair_cmp (id, p / 4096) t.extents) refl
    where
      by : (o : Option Extent) → find pair_cmp (id, p / 4096) t.extents ≡ o → byte_at (inside_at t image) id p ≡ 0
      by None none = no_block (id, p / 4096) t image (p % 4096) none
      by (Some e) at =
          let one = each_found pair_cmp exact_blocks (ExtentHolds n t.files) (id, p / 4096) e t.extents at rules.extents in
          let lies : 4096 * (p / 4096) + e.valid ≤ file.length = subst (LiesIn (id, p / 4096) e) found one.in_file in
          of_block (id, p / 4096) t image e (p % 4096) at
          ∙ get_or_past (block_of e image) (p % 4096) 0
          (omega (arith, lies, past, length-take e.valid (cluster_bytes e.cluster image)))

  -- nothing is there behind its end
  zero_beyond : (p : ℕ) → file.length ≤ p
      → cell_in (find pair_cmp (id, p / 4096) (inside_at t image).blocks) (p % 4096) (Byte 0) ≡ Byte 0
  zero_beyond p past = by (find pair_cmp (id, p / 4096) (inside_at t image).blocks) ∙ ap Byte (beyond p past)
    where
      by : (o : Option (List ℕ)) → cell_in o (p % 4096) (Byte 0) ≡ Byte (byte_in o (p % 4096))
      by None = refl
      by (Some block) = refl

  module _ (q : Typed) (files : q.files ≡ t.files) (bases : bases_of q image ≡ bases_of t image)
      (same : AreSame (inside_at t image) (inside_at q image) id len) where
    abbrev now : FileRecord
    now = record_resized len file

    abbrev j : Inside
    j = inside_at (with_file id now q) image

    abbrev i : Inside
    i = inside_at t image

    -- which file is found
    found_now : (x : ℕ) → find nat_cmp x j.files ≡ cond (eq_by_cmp nat_cmp x id) (Some now) (find nat_cmp x t.files)
    found_now x =
        find-put nat_cmp nat_cmp_total x id now q.files
        ∙ ap (λ (fs : List (ℕ × FileRecord)). cond (eq_by_cmp nat_cmp x id) (Some now) (find nat_cmp x fs)) files

    mine : file_cells j id ≡ cells j id now
    mine = ap (cells_or_none j id)
        (found_now id ∙ ap (λ (b : Bool). cond b (Some now) (find nat_cmp id t.files))
        (unsigned_tied id id ∙ eq-eqb id id refl))

    old_length : length (cells i id file) ≡ file.length
    old_length = length-cells i id file

    -- a cell before both ends
    cell_before : (p : ℕ) → p < len → cell i id file p ≡ cell j id now p
    cell_before p low =
        sym (same id p (base_cell j.bases now p) (λ e. low)
        ∙ ap (λ (c : Cell). cell_in (find pair_cmp (id, p / 4096) i.blocks) (p % 4096) c)
        (ap (λ (b : Bases). base_cell b now p) bases ∙ base_resized len file i.bases p low))

    -- a cell behind the old end
    cell_after : (p : ℕ) → p < len → file.length ≤ p → Byte 0 ≡ cell j id now p
    cell_after p low past =
        sym (same id p (base_cell j.bases now p) (λ e. low)
        ∙ ap (λ (c : Cell). cell_in (find pair_cmp (id, p / 4096) i.blocks) (p % 4096) c)
        (cell_behind j.bases now p (omega (arith, past, holds.cover.within)))
        ∙ zero_beyond p past)

    one_cell : (p : ℕ) → p < len → get_or (resized len (cells i id file)) p (Byte 0) ≡ cell j id now p
    one_cell p low = elim (cases_lt p file.length) [
      | inl before ↦
          let there : p < length (take len (cells i id file)) =
          omega (arith, low, before, old_length, length-take len (cells i id file)) in
          get_or_append_left (take len (cells i id file)) (replicate (len - length (cells i id file)) (Byte 0))
          (Byte 0) p there
          ∙ get_or-take len (cells i id file) p (Byte 0) low
          ∙ get_or-map-range_with_len (cell i id file) 0 file.length p p (Byte 0) before (omega arith)
          ∙ cell_before p low
      | inr past ↦
          let front : length (take len (cells i id file)) ≡ file.length =
          omega (arith, low, past, old_length, length-take len (cells i id file)) in
          get_or-append_right (take len (cells i id file))
          (replicate (len - length (cells i id file)) (Byte 0)) file.length p (Byte 0) front past
          ∙ get_or-replicate (len - length (cells i id file)) (p - file.length) (Byte 0) (Byte 0)
          (omega (arith, low, past, old_length))
          ∙ cell_after p low past
    ]

    cells_resized : file_cells j id ≡ resized len (file_cells i id)
    cells_resized =
        let size : length (resized len (cells i id file)) ≡ len =
        omega (
          arith,
          length-append (take len (cells i id file))
              (replicate (len - length (cells i id file)) (Byte 0)),
          length-take len
              (cells i id file),
          length-replicate (len - length (cells i id file)) (Byte 0),
          old_length,
        ) in
        mine
        ∙ sym (ext_get_or (Byte 0) (resized len (cells i id file)) (cells j id now) (size ∙ sym (length-cells j id now))
        (λ p low. let within : p < len = omega (arith, low, size) in
        one_cell p within ∙ sym (get_or-map-range_with_len (cell j id now) 0 len p p (Byte 0) within (omega arith))))
        ∙ ap (λ (o : Option FileRecord). resized len (cells_or_none i id o)) (sym found)

    others : (x : ℕ) → (x ≡ id → ⊥) → file_cells j x ≡ file_cells i x
    others x differ =
        ap (cells_or_none j x) (found_now x
        ∙ ap (λ (b : Bool). cond b (Some now) (find nat_cmp x t.files)) (unsigned_tied x id ∙ ne_eqb x id differ))
        ∙ by (find nat_cmp x t.files) refl
      where
        by : (o : Option FileRecord) → find nat_cmp x t.files ≡ o → cells_or_none j x o ≡ cells_or_none i x o
        by None is = refl
        by (Some f) is =
            map_same (cell j x f) (cell i x f) 0 f.length
            (λ p low high. same x p (base_cell j.bases f p) (λ e. absurd (differ e))
            ∙ ap (λ (b : Bases). cell_in (find pair_cmp (x, p / 4096) i.blocks) (p % 4096) (base_cell b f p)) bases)

    view_resized_in : (name : List ℕ) → q.names ≡ t.names → T (is_sorted name_cmp t.names)
        → find name_cmp name t.names ≡ Some id
        → view j ≡ with_cells name (resized len (file_cells i id)) (view i)
    view_resized_in name names sorted named =
        view_of_one_file n t image name id rules sorted named j names others
        ∙ ap (λ (cs : Cells). with_cells name cs (view i)) cells_resized

  -- THE VIEW once a file has another length
  pub view_resized : (name : List ℕ) → T (is_sorted name_cmp t.names) → find name_cmp name t.names ≡ Some id
      → view (inside_at (resized_in id file len t) image) ≡ with_cells name
      (resized len (file_cells (inside_at t image) id)) (view (inside_at t image))
  view_resized name sorted named = by (nat_lt len file.length)
    where
      cut_by : (c : Option Extent) → cut_extent (len % 4096) (find pair_cmp (id, len / 4096) t.extents) ≡ c
          → view (inside_at (with_file id (record_resized len file) (cut_to id len t c)) image)
          ≡ with_cells name (resized len (file_cells (inside_at t image) id)) (view (inside_at t image))
      cut_by None is = view_resized_in (cut_to id len t None) refl refl
          (blocks_same t image id len None is) name refl sorted named
      cut_by (Some x) is = view_resized_in (cut_to id len t (Some x)) refl refl
          (blocks_same t image id len (Some x) is) name refl sorted named

      by : (b : Bool) → view (inside_at (with_file id (record_resized len file) (cut_if b id len t)) image)
          ≡ with_cells name (resized len (file_cells (inside_at t image) id)) (view (inside_at t image))
      by false = view_resized_in t refl refl (λ x p base low. refl) name refl sorted named
      by true = cut_by (cut_extent (len % 4096) (find pair_cmp (id, len / 4096) t.extents)) refl
