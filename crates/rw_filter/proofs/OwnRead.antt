-- Own cells are read a run at a time.
use Rattle.std.specs.Prelude.{◌≡◌, ◌≤◌, ◌<◌, ◌+◌, ◌-◌, ℕ, suc, zero, Bool, true, false, List, [], ◌∷◌, length, take, drop, get_or, slice_index, Some, refl}
use Rattle.std.proofs.Common.{sym, ◌∙◌, ap, inl, inr, arith}
use Rattle.std.specs.Ordering.{nat_cmp}
use Rattle.std.specs.FinMap.{find}
use Rattle.std.proofs.lemmas.Bool.{cases_lt}
use Rattle.std.proofs.lemmas.Map.Lookups.{exact_unsigned}
use Rattle.std.proofs.lemmas.List.{get_or-take, get_or-drop}
use Rattle.std.proofs.lemmas.List.FromFn.{get_or-map-range_with_len, length-map-range_with_len}
use borrow.Rule.Slice.PartMut.{put_mid}
use Rattle.plain_volume.specs.Volume.{Cell, Byte, Lost, bytes_of}
use Rattle.table_records.specs.declared.records.FileRecord.{FileRecord}
use Rattle.volume_inside.specs.Entries.{each_found}
use Rattle.volume_inside.specs.Inside.{Inside, inside_at}
use Rattle.volume_inside.specs.Rules.{next_id_of, FileHolds, RulesHold}
use Rattle.volume_inside.specs.Typed.{Typed}
use Rattle.volume_inside.specs.View.{cell, cells, cells_or_none, file_cells}
use Rattle.volume_files.specs.Own.{covered_in, IsOwn}
use Rattle.volume_files.specs.Reads.{byte_at}
use Rattle.volume_files.proofs.Owned.{cell_byte, own_at}
use Rattle.rw_filter.specs.Own.{is_own, HasOwn}
use Rattle.rw_filter.proofs.Alike.{covered_own}
use Rattle.rw_filter.proofs.Placed.{placed_before, placed_in, placed_behind}

abbrev pub byte_of : Cell → ℕ
byte_of (Byte b) = b
byte_of Lost = 0

pub get_or-bytes_of : (cs : List Cell) (k : ℕ) → get_or (bytes_of cs) k 0 ≡ byte_of (get_or cs k (Byte 0))
get_or-bytes_of [] k = refl
get_or-bytes_of (Byte b ∷ cs) zero = refl
get_or-bytes_of (Lost ∷ cs) zero = refl
get_or-bytes_of (Byte b ∷ cs) (suc k) = get_or-bytes_of cs k
get_or-bytes_of (Lost ∷ cs) (suc k) = get_or-bytes_of cs k

-- a cell that the test calls own comes from no base
pub own_of : (t : Typed) (id p : ℕ) → is_own t id p ≡ true → IsOwn t id p
own_of t id p own low = sym (covered_own t id (covered_in (find nat_cmp id t.files)) refl p low) ∙ own

module _ (t : Typed) (image : List ℕ) (id : ℕ) (file : FileRecord) (is : find nat_cmp id t.files ≡ Some file) where
  pub cells_length : length (file_cells (inside_at t image) id) ≡ file.length
  cells_length =
      ap (λ o. length (cells_or_none (inside_at t image) id o)) is
      ∙ length-map-range_with_len (cell (inside_at t image) id file) 0 file.length

  -- a byte that was read at an own place is the cell
  pub cell_read : (at n : ℕ) (out : List ℕ) → at + n ≤ file.length
      → out ≡ bytes_of (take n (drop at (file_cells (inside_at t image) id)))
      → (k : ℕ) → k < n → is_own t id (at + k) ≡ true
      → cell (inside_at t image) id file (at + k) ≡ Byte (get_or out k 0)
  cell_read at n out fits read k low own =
      let i = inside_at t image in
      let byte : cell i id file (at + k) ≡ Byte (byte_at i id (at + k)) =
      cell_byte i id (at + k) file (own_at t image id file is (at + k) (own_of t id (at + k) own)) in
      let there : get_or out k 0 ≡ byte_at i id (at + k) =
      ap (λ (bs : List ℕ). get_or bs k 0) (read ∙ ap (λ o. bytes_of (take n (drop at (cells_or_none i id o)))) is)
      ∙ get_or-bytes_of (take n (drop at (cells i id file))) k
      ∙ ap byte_of (get_or-take n (drop at (cells i id file)) k (Byte 0) low
      ∙ get_or-drop at (cells i id file) k (Byte 0)
      ∙ get_or-map-range_with_len (cell i id file) 0 file.length (at + k) (at + k) (Byte 0)
      (omega (arith, low, fits)) (omega arith)
      ∙ byte) in
      byte ∙ ap Byte (sym there)

pub file_short : (n : ℕ) (t : Typed) (id : ℕ) (file : FileRecord) → RulesHold n t → find nat_cmp id t.files ≡ Some file
    → file.length ≤ 1073741824
file_short n t id file rules is =
    let holds = each_found nat_cmp exact_unsigned (FileHolds (next_id_of t)) id file t.files is rules.files in
    holds.short

-- ---- one run more

module _ (t : Typed) (i : Inside) (id at done count : ℕ) (file : FileRecord) (own : Bool)
    (alike : (k : ℕ) → k < count → is_own t id (at + done + k) ≡ own) where
  at_place : (k : ℕ) → done ≤ k → k < done + count → is_own t id (at + k) ≡ own
  at_place k from to =
      let here : at + done + (k - done) ≡ at + k = omega (arith, from) in
      ap (is_own t id) (sym here) ∙ alike (k - done) (omega (arith, from, to))

  -- cells of the base are passed over
  module _ (base : own ≡ false) (out : List ℕ) where
    pub passed_bytes : HasOwn t i id file at done out → HasOwn t i id file at (done + count) out
    passed_bytes before k low is = elim (cases_lt k done) [
      | inl less ↦ before k less is
      | inr more ↦ absurd (let clash : true ≡ false = sym is ∙ at_place k more low ∙ base in cc)
    ]

  -- own cells are read
  module _ (reads : own ≡ true) (out first piece : List ℕ) (n : ℕ) (is_n : n ≡ count) (long : length piece ≡ n)
      (fits : done + n ≤ length out) where
    pub read_bytes : HasOwn t i id file at done out
        → ((k : ℕ) → k < count → is_own t id (at + done + k) ≡ true
        → cell i id file (at + done + k) ≡ Byte (get_or piece k 0))
        → HasOwn t i id file at (done + count) (put_mid done n out piece)
    read_bytes before here k low is = elim (cases_lt k done) [
      | inl less ↦ before k less is ∙ ap Byte (sym (placed_before done n out piece long fits k less))
      | inr more ↦
          let j = k - done in
          let low_j : j < count = omega (arith, low, more) in
          let place : at + done + j ≡ at + k = omega (arith, more) in
          let same : done + j ≡ k = omega (arith, more) in
          ap (cell i id file) (sym place)
          ∙ here j low_j (ap (is_own t id) place ∙ is)
          ∙ ap Byte (sym (placed_in done n out piece long fits j (omega (arith, low_j, is_n)))
          ∙ ap (λ (m : ℕ). get_or (put_mid done n out piece) m 0) same)
    ]

    pub read_kept : ((k : ℕ) → (k < done → is_own t id (at + k) ≡ false) → slice_index out k ≡ slice_index first k)
        → (k : ℕ) → (k < done + count → is_own t id (at + k) ≡ false)
        → slice_index (put_mid done n out piece) k ≡ slice_index first k
    read_kept before k others = elim (cases_lt k done) [
      | inl less ↦
          placed_before done n out piece long fits k less
          ∙ before k (λ low. others (omega (arith, less)))
      | inr more ↦ elim (cases_lt k (done + count)) [
        | inl low ↦ absurd (let clash : true ≡ false = sym reads ∙ sym (at_place k more low) ∙ others low in cc)
        | inr behind ↦
            placed_behind done n out piece long fits k (omega (arith, behind, is_n))
            ∙ before k (λ low. absurd (omega (arith, more, low)))
      ]
    ]
