-- A part of a block of a file that neither an extent nor the base gives: zeros, which are not read.
use Rattle.std.specs.Prelude.{◌≡◌, ◌⊎◌, ◌≤◌, ◌<◌, ◌+◌, ◌*◌, ◌/◌, ◌%◌, ℕ, List, replicate, Option, Some, None, IsSome, refl}
use Rattle.std.proofs.Common.{sym, ◌∙◌, ap, inl, inr, arith}
use Rattle.std.specs.Option.{option_map}
use Rattle.std.specs.FinMap.{find}
use Rattle.std.proofs.lemmas.Bool.{cases_lt}
use Rattle.plain_volume.specs.Volume.{Byte}
use Rattle.table_records.specs.Keys.{pair_cmp}
use Rattle.table_records.specs.declared.records.Extent.{Extent}
use Rattle.table_records.specs.declared.records.FileRecord.{FileRecord}
use Rattle.volume_inside.specs.Inside.{inside_at, block_of}
use Rattle.volume_inside.specs.Typed.{Typed}
use Rattle.volume_files.specs.Reads.{byte_in}
use Rattle.volume_files.proofs.Overwritten.{zeros_are_zero}
use Rattle.volume_files.proofs.Owned.{cell_byte, find-blocks}
use Rattle.rw_filter.specs.Cells.{HasCells}

-- behind what the base covers, and where no extent is, each cell is zero
pub hole_read : (t : Typed) (image : List ℕ) (id index from n : ℕ) (file : FileRecord) → file.covers ≤ 4096 * index + from
    → find pair_cmp (id, index) t.extents ≡ None → from + n ≤ 4096
    → HasCells (inside_at t image) id file (4096 * index + from) n (replicate {A = ℕ} n 0)
hole_read t image id index from n file uncovered none within k low =
    let p : ℕ = 4096 * index + from + k in
    let here : p / 4096 ≡ index = omega (arith, within, low) in
    cell_byte (inside_at t image) id p file (λ covered. absurd (omega (arith, covered, uncovered)))
    ∙ ap (λ (b : ℕ). Byte b)
    (ap (λ (q : ℕ). byte_in (find pair_cmp (id, q) (inside_at t image).blocks) (p % 4096)) here
    ∙ ap (λ (o : Option (List ℕ)). byte_in o (p % 4096))
    (find-blocks (id, index) t.extents image ∙ ap (option_map (λ e. block_of e image)) none)
    ∙ sym (zeros_are_zero n k))

-- where it is not so, an extent is there, or the base covers the place
pub not_hole : (o : Option Extent) (covers place : ℕ) → ((covers ≤ place) × (o ≡ None) → ⊥)
    → IsSome o ⊎ (place < covers)
not_hole None covers place never = elim (cases_lt place covers) [
  | inl low ↦ inr low
  | inr high ↦ absurd (never (high, refl))
]
not_hole (Some e) covers place never = inl refl
