-- When the base of a file gives the same cells.
use Rattle.std.specs.Prelude.{◌≡◌, ◌-◌, ℕ, true, false, List, [], ◌∷◌, Option, Some, None, IsSome, IsSomeAnd, nat_lt}
use Rattle.std.specs.Prelude.{if◌then◌else◌, refl}
use Rattle.std.proofs.Common.{◌∙◌, ap, sym, inl, inr}
use Rattle.std.specs.Ordering.{nat_cmp}
use Rattle.std.specs.FinMap.{find}
use Rattle.std.proofs.lemmas.Bool.{cases_eq}
use Rattle.plain_volume.specs.Volume.{Cell, Byte}
use Rattle.table_records.specs.declared.records.FileRecord.{FileRecord}
use Rattle.stream_map.specs.declared.entry.Entry.{Entry}
use Rattle.stream_map.specs.Pieces.{entries_in, place_at}
use Rattle.volume_inside.specs.Chunks.{Bases, chunk}
use Rattle.volume_inside.specs.BaseCells.{piece_cell, entry_cell, map_cell}
use Rattle.volume_inside.specs.Bases.{base_cell, uncovered_cell}
use Rattle.volume_inside.specs.ChunkRules.{MapRowHolds, IsMapRow, AllEntries, EntryHolds, MapHolds, BaseHolds}

some_and : {A : Type 0} (P : A → Type 0) (o : Option A) → IsSomeAnd o P → IsSome o
some_and P None none = absurd none
some_and P (Some x) holds = refl

-- c has each chunk that b has
module _ (b c : Bases) (same : (id : ℕ) → IsSome (find nat_cmp id b.rows) → chunk c id ≡ chunk b id) where
  entries_same : (es : List Entry) (p : ℕ) → AllEntries (EntryHolds b.rows) es
      → entry_cell c (place_at es p) ≡ entry_cell b (place_at es p)
  entries_same [] p all = refl
  entries_same (e ∷ es) p all =
      elim (nat_lt p e.length) as (λ t. entry_cell c (if t then Some (e, p) else place_at es (p - e.length))
      ≡ entry_cell b (if t then Some (e, p) else place_at es (p - e.length))) [
        | true ↦ ap (λ (o : Option (List ℕ)). piece_cell o p) (same e.id (some_and _ _ all.0.names_row))
        | false ↦ entries_same es (p - e.length) all.1
      ]

  -- SAME CHUNKS, SAME CELLS: the base of a file that meets the rules gives what it gave
  pub base_same : (id : ℕ) (file : FileRecord) (p : ℕ) → MapRowHolds b.rows id file → (file.map_row ≡ 0 → file.covers ≡ 0)
      → BaseHolds b id file → base_cell c file p ≡ base_cell b file p
  unfolding base_cell
  base_same id file p rule no_map holds = elim (cases_eq file.covers 0) [
    | inl none ↦ uncovered_cell c file p none ∙ sym (uncovered_cell b file p none)
    | inr some ↦
        let there : IsSome (find nat_cmp file.map_row b.rows) = some_and IsMapRow _ (rule (λ none. some (no_map none))) in
        let map : chunk c file.map_row ≡ chunk b file.map_row = same file.map_row there in
        ap (λ (o : Option (List ℕ)). if nat_lt p file.covers then map_cell c o p else Byte 0) map
        ∙ ap (λ (x : Cell). if nat_lt p file.covers then x else Byte 0) (by (chunk b file.map_row) (holds some))
  ]
    where
      by : (o : Option (List ℕ)) → MapHolds b.rows file.covers o → map_cell c o p ≡ map_cell b o p
      by None holds = refl
      by (Some bytes) holds = entries_same (entries_in bytes) p holds.0
