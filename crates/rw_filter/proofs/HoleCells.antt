-- Holes, and what cells of files are as whole.
use Rattle.std.specs.Prelude.{◌≡◌, ◌≤◌, ◌<◌, ◌+◌, ◌-◌, ◌/◌, ◌%◌, ℕ, Bool, true, false, is_some, min, List, ◌++◌, map, length, take, drop, slice_index, Option, Some, None, refl}
use Rattle.std.proofs.Common.{sym, ◌∙◌, ap, inl, inr, arith}
use Rattle.std.specs.List.{range_with_len}
use Rattle.std.specs.Option.{option_map}
use Rattle.std.specs.Ordering.{nat_cmp}
use Rattle.std.specs.FinMap.{find}
use Rattle.std.proofs.lemmas.List.{get_or_append_left}
use Rattle.std.proofs.lemmas.Bool.{cases_lt}
use Rattle.std.proofs.lemmas.Bool.Decides.{nat_tests}
use Rattle.plain_volume.specs.Volume.{Cell, Cells, Byte, Lost, lost_where, is_within, bytes_of}
use Rattle.table_records.specs.Keys.{pair_cmp}
use Rattle.table_records.specs.declared.records.Extent.{Extent}
use Rattle.table_records.specs.declared.records.FileRecord.{FileRecord}
use Rattle.volume_inside.specs.Bases.{bases_of, base_cell}
use Rattle.volume_inside.specs.Inside.{Inside, inside_at, block_of}
use Rattle.volume_inside.specs.Typed.{Typed}
use Rattle.volume_inside.specs.View.{cell, cell_in, cells_or_none, file_cells}
use Rattle.row_reading.specs.BaseReads.{AreReadFrom, IsFirstLost}
use Rattle.volume_files.specs.Own.{covered_in}
use Rattle.volume_files.specs.Reads.{byte_at}
use Rattle.volume_files.proofs.Owned.{cell_byte, find-blocks, own_at}
use Rattle.rw_filter.specs.Holes.{IsHole}
use Rattle.rw_filter.specs.Cells.{HasCells, IsFirstLoss}
use Rattle.rw_filter.specs.Own.{is_own, HasBase, HasOwn, KeepsOthers, IsFirstHole}
use Rattle.rw_filter.proofs.Alike.{covered_own, behind_own}
use Rattle.rw_filter.proofs.Losses.{none_lost, first_lost, all_bytes}
use Rattle.rw_filter.proofs.OwnRead.{own_of}

none_of : {A : Type 0} (o : Option A) → is_some o ≡ false → o ≡ None
none_of None is = refl
none_of (Some a) is = absurd (cc)

module _ (t : Typed) (id covers : ℕ) (is : covers ≡ covered_in (find nat_cmp id t.files)) where
  pub hole_of : (p : ℕ) → is_own t id p ≡ false → IsHole t id covers p
  hole_of p other = elim (cases_lt p covers) [
    | inl low ↦
        (low, none_of (find pair_cmp (id, p / 4096) t.extents) (sym (covered_own t id covers is p low) ∙ other))
    | inr behind ↦ absurd (let clash : true ≡ false = sym (behind_own t id covers is p behind) ∙ other in cc)
  ]

  pub own_hole : (p : ℕ) → IsHole t id covers p → is_own t id p ≡ false
  own_hole p hole =
      covered_own t id covers is p hole.0
      ∙ ap (λ (o : Option Extent). is_some o) hole.1

-- what no extent names comes from the base
pub hole_cell : (t : Typed) (image : List ℕ) (id p : ℕ) (file : FileRecord)
    → find pair_cmp (id, p / 4096) t.extents ≡ None
    → cell (inside_at t image) id file p ≡ base_cell (bases_of t image) file p
hole_cell t image id p file none =
    ap (λ (o : Option (List ℕ)). cell_in o (p % 4096) (base_cell (bases_of t image) file p))
    (find-blocks (id, p / 4096) t.extents image ∙ ap (option_map (λ e. block_of e image)) none)

within_from : (at n p : ℕ) → is_within at n p ≡ true → at ≤ p
within_from at n p is = elim (cases_lt p at) [
  | inl low ↦ absurd (let other : is_within at n p ≡ false = grind (arith, nat_tests) in let clash : true ≡ false = sym is ∙ other in cc)
  | inr high ↦ high
]

within_to : (at n p : ℕ) → is_within at n p ≡ true → p < at + n
within_to at n p is = elim (cases_lt p (at + n)) [
  | inl low ↦ low
  | inr high ↦ absurd (let other : is_within at n p ≡ false = grind (arith, nat_tests) in let clash : true ≡ false = sym is ∙ other in cc)
]

is_within_at : (at n p : ℕ) → at ≤ p → p < at + n → is_within at n p ≡ true
is_within_at at n p from to = grind (arith, nat_tests)

pub not_both : (f : Cell) (b : ℕ) → f ≡ Byte b → f ≡ Lost → ⊥
not_both f b byte lost = let clash : Byte b ≡ Lost = sym byte ∙ lost in cc

module _ (t : Typed) (image : List ℕ) (id at n : ℕ) (file : FileRecord) (is : find nat_cmp id t.files ≡ Some file)
    (fits : at + n ≤ file.length) where
  abbrev here : Inside
  here = inside_at t image

  whole_file : file_cells here id ≡ map (cell here id file) (range_with_len 0 file.length)
  whole_file = ap (cells_or_none here id) is

  module _ (first second : List ℕ) (base : HasBase t here id file at n first)
      (own : HasOwn t here id file at n second) (kept : KeepsOthers t id at n first second) where
    pub each_read : (k : ℕ) → k < n → cell here id file (at + k) ≡ Byte (slice_index second k)
    each_read k low = by (is_own t id (at + k)) refl
      where
        by : (b : Bool) → is_own t id (at + k) ≡ b → cell here id file (at + k) ≡ Byte (slice_index second k)
        by true mine = own k low mine
        by false other = base k low other ∙ ap Byte (sym (kept k low other))

  -- the first lost cell that the base has to give is the first of all: no other is lost
  pub first_loss : (q : ℕ) → IsFirstHole t here id file at n q → IsFirstLoss here id file at (at + n) q
  first_loss q found = record {
    behind = found.behind;
    within = found.within;
    lost = found.lost;
    before = λ p low high lost. by p low high lost (is_own t id p) refl;
  }
    where
      by : (p : ℕ) → at ≤ p → p < q → cell here id file p ≡ Lost → (b : Bool) → is_own t id p ≡ b → ⊥
      by p low high lost true mine =
          not_both (cell here id file p) (byte_at here id p)
          (cell_byte here id p file (own_at t image id file is p (own_of t id p mine))) lost
      by p low high lost false other = found.before p low high other lost

  module _ (out : List ℕ) (read : HasCells here id file at n out) where
    pub bytes_read : length out ≡ n → out ≡ bytes_of (take n (drop at (file_cells here id)))
    bytes_read long =
        all_bytes (cell here id file) file.length at n fits out long read
        ∙ ap (λ (cs : Cells). bytes_of (take n (drop at cs))) (sym whole_file)

    pub none_lost_there : lost_where (is_within at n) 0 (file_cells here id) ≡ None
    none_lost_there =
        ap (lost_where (is_within at n) 0) whole_file
        ∙ none_lost (is_within at n) (cell here id file) file.length 0
        (λ p low high test lost.
        let from = within_from at n p test in
        let to = within_to at n p test in
        let place : at + (p - at) ≡ p = omega (arith, from) in
        not_both (cell here id file p) (slice_index out (p - at))
        (ap (cell here id file) (sym place) ∙ read (p - at) (omega (arith, from, to))) lost)

  pub first_lost_there : (q : ℕ) → IsFirstLoss here id file at (at + n) q
      → lost_where (is_within at n) 0 (file_cells here id) ≡ Some q
  first_lost_there q found =
      ap (lost_where (is_within at n) 0) whole_file
      ∙ first_lost (is_within at n) (cell here id file) file.length 0 q (omega arith)
      (let to = found.within in omega (arith, to, fits))
      (is_within_at at n q found.behind found.within)
      found.lost
      (λ p low high test lost. found.before p (within_from at n p test) high lost)

-- ---- what the reading of a base tells

module _ (t : Typed) (image : List ℕ) (id at n m : ℕ) (file : FileRecord) (is : find nat_cmp id t.files ≡ Some file)
    (count : m ≡ min (file.covers - at) n) (covered : at < file.covers) where
  covers_is : file.covers ≡ covered_in (find nat_cmp id t.files)
  covers_is = sym (ap covered_in is)

  pub base_read : (piece rest : List ℕ) → length piece ≡ m
      → AreReadFrom (base_cell (bases_of t image) file) (IsHole t id file.covers) at piece
      → HasBase t (inside_at t image) id file at n (piece ++ rest)
  base_read piece rest long read k low other =
      let hole = hole_of t id file.covers covers_is (at + k) other in
      let within : at + k < file.covers = hole.0 in
      let less : k < m = omega (arith, within, low, count) in
      hole_cell t image id (at + k) file hole.1
      ∙ read k (omega (arith, less, long)) hole
      ∙ ap Byte (sym (get_or_append_left piece rest 0 k (omega (arith, less, long))))

  pub base_lost : (q : ℕ)
      → IsFirstLost (base_cell (bases_of t image) file) (IsHole t id file.covers) at (at + m) q
      → IsFirstHole t (inside_at t image) id file at n q
  base_lost q found = record {
    behind = found.behind;
    within = let to = found.within in omega (arith, to, count);
    lost = hole_cell t image id q file found.wanted.1 ∙ found.lost;
    before = λ p from low other lost.
        let hole = hole_of t id file.covers covers_is p other in
        found.before p from low hole (sym (hole_cell t image id p file hole.1) ∙ lost);
  }
