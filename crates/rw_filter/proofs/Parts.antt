-- A part of a block into which cells of a file were read.
use Rattle.std.specs.Prelude.{◌≡◌, ◌≤◌, ◌<◌, ◌+◌, ◌-◌, ◌*◌, ℕ, List, length, get_or}
use Rattle.std.proofs.Common.{sym, ◌∙◌, ap, inl, inr, arith}
use Rattle.std.proofs.lemmas.Bool.{cases_lt}
use borrow.Rule.Slice.PartMut.{put_mid}
use Rattle.plain_volume.specs.Volume.{Byte}
use Rattle.table_records.specs.declared.records.FileRecord.{FileRecord}
use Rattle.volume_inside.specs.Inside.{Inside}
use Rattle.volume_inside.specs.View.{cell}
use Rattle.rw_filter.specs.Beside.{HasPart, KeepsRest}
use Rattle.rw_filter.specs.Cells.{HasCells, IsFirstLoss}
use Rattle.rw_filter.proofs.Placed.{placed_before, placed_in, placed_behind}

module _ (i : Inside) (id index from to n : ℕ) (file : FileRecord) (old piece : List ℕ) (long : length piece ≡ n)
    (fits : from + n ≤ length old) where
  pub part_read : ((o : ℕ) → from ≤ o → o < to → 4096 * index + o < file.length → o < from + n)
      → HasCells i id file (4096 * index + from) n piece → HasPart i id file index from to (put_mid from n old piece)
  part_read inner read o low high reach =
      let k : ℕ = o - from in
      let here : from + k ≡ o = omega (arith, low) in
      let place : 4096 * index + from + k ≡ 4096 * index + o = omega (arith, low) in
      let less : k < n = let under = inner o low high reach in omega (arith, under, low) in
      ap (cell i id file) (sym place) ∙ read k less
      ∙ ap Byte (sym (placed_in from n old piece long fits k less)
      ∙ ap (λ (j : ℕ). get_or (put_mid from n old piece) j 0) here)

  pub part_kept : ((o : ℕ) → o < from + n → (o < to) × (4096 * index + o < file.length))
      → KeepsRest file index from to old (put_mid from n old piece)
  part_kept inner o out = elim (cases_lt o from) [
    | inl before ↦ placed_before from n old piece long fits o before
    | inr low ↦ elim (cases_lt o (from + n)) [
      | inl high ↦ absurd (out low (inner o high).0 (inner o high).1)
      | inr behind ↦ placed_behind from n old piece long fits o behind
    ]
  ]

-- the first lost cell up to a place is the first one up to a later place
pub loss_before : (i : Inside) (id : ℕ) (file : FileRecord) (from to more q : ℕ) → to ≤ more
    → IsFirstLoss i id file from to q → IsFirstLoss i id file from more q
loss_before i id file from to more q later first = record {
  behind = first.behind;
  within = let high = first.within in omega (arith, high, later);
  lost = first.lost;
  before = first.before;
}
