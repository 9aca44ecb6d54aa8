-- The blocks of a file that bytes were laid over, and its cells.
use Rattle.std.specs.Prelude.{◌≡◌, ◌≤◌, ◌<◌, ◌+◌, ◌-◌, ◌*◌, ◌/◌, ◌%◌, ◌&&◌, ℕ, zero, suc, Bool, true, false, nat_le}
use Rattle.std.specs.Prelude.{List, ◌∷◌, length, map, min, get_or, if◌then◌else◌, refl}
use Rattle.std.proofs.Common.{sym, ◌∙◌, ap, inl, inr, arith}
use Rattle.std.proofs.lemmas.Bool.{cases_lt, cases_eq}
use Rattle.std.proofs.lemmas.Bool.Decides.{nat_tests}
use Rattle.std.proofs.lemmas.List.FromFn.{get_or-map-range_with_len}
use Rattle.std.specs.List.{range_with_len}
use Rattle.std.specs.FinMap.{put}
use Rattle.plain_volume.specs.Volume.{Cell, Byte, is_within, is_beside}
use Rattle.table_records.specs.Keys.{pair_cmp}
use Rattle.table_records.specs.declared.records.FileRecord.{FileRecord}
use Rattle.volume_inside.specs.Changes.{with_block}
use Rattle.volume_inside.specs.Inside.{Inside}
use Rattle.volume_inside.specs.View.{cell}
use Rattle.volume_inside.proofs.Blocks.{cell_of_block, cell_of_another_block}
use Rattle.volume_files.specs.Insides.{Blocks, block_written, blocks_written, with_blocks}
use Rattle.volume_files.specs.Writing.{laid, laid_from, blocks_up_to}
use Rattle.volume_files.proofs.Overwritten.{laid_alike}
use Rattle.volume_files.proofs.Owned.{beside_of}

-- a byte of a block that was written
pub byte_laid : (len at : ℕ) (bytes : List ℕ) (stood : ℕ → ℕ) (index o : ℕ) → o < 4096 → 4096 * index + o < len
    → get_or (block_written len at bytes stood index) o 0 ≡ laid at bytes (4096 * index + o) (stood (4096 * index + o))
byte_laid len at bytes stood index o low reach =
    get_or-map-range_with_len (λ k. laid at bytes (4096 * index + k) (stood (4096 * index + k))) 0
    (min 4096 (len - 4096 * index)) o o 0 (omega (arith, low, reach)) (omega arith)

-- ---- blocks that differ in what stood under the bytes alone

same_bytes : (f g : ℕ → ℕ) (a n : ℕ) → ((o : ℕ) → a ≤ o → o < a + n → f o ≡ g o)
    → map f (range_with_len a n) ≡ map g (range_with_len a n)
same_bytes f g a zero same = refl
same_bytes f g a (suc n) same = λ i. same a (omega arith) (omega arith) i
    ∷ same_bytes f g (a + 1) n (λ o low high. same o (omega (arith, low)) (omega (arith, high))) i

module _ (id len at : ℕ) (bytes : List ℕ) (f g : ℕ → ℕ)
    (alike : (p : ℕ) → is_beside at (length bytes) p ≡ true → f p ≡ g p) where
  block_alike : (index : ℕ) → at < 4096 * index + 4096 → 4096 * index < at + length bytes
      → block_written len at bytes f index ≡ block_written len at bytes g index
  block_alike index early late =
      same_bytes (λ o. laid at bytes (4096 * index + o) (f (4096 * index + o)))
      (λ o. laid at bytes (4096 * index + o) (g (4096 * index + o))) 0 (min 4096 (len - 4096 * index))
      (λ o low high.
      let p : ℕ = 4096 * index + o in
      let here : p / 4096 ≡ index = omega (arith, high) in
      laid_alike at bytes p (f p) (g p)
      (λ out. alike p (beside_of at (length bytes) index p early late here out)))

  pub blocks_alike : (n index : ℕ) (blocks : Blocks) → at < 4096 * index + 4096
      → index + n ≤ (at + length bytes + 4095) / 4096
      → blocks_written id len at bytes f index n blocks ≡ blocks_written id len at bytes g index n blocks
  blocks_alike zero index blocks early late = refl
  blocks_alike (suc n) index blocks early late =
      blocks_alike n (index + 1) (put pair_cmp (id, index) (block_written len at bytes f index) blocks)
      (omega (arith, early)) (omega (arith, late))
      ∙ ap (λ (b : List ℕ). blocks_written id len at bytes g (index + 1) n (put pair_cmp (id, index) b blocks))
      (block_alike index early (omega (arith, late)))

-- ---- cells

module _ (id len at : ℕ) (bytes : List ℕ) (stood : ℕ → ℕ) (file : FileRecord) where
  abbrev block : ℕ → List ℕ
  block index = block_written len at bytes stood index

  -- once so many blocks from one on were written
  abbrev after : ℕ → ℕ → Inside → Inside
  after index n i = with_blocks (blocks_written id len at bytes stood index n i.blocks) i

  cell_away : (n index : ℕ) (i : Inside) (p : ℕ) → (index ≤ p / 4096 → p / 4096 < index + n → ⊥)
      → cell (after index n i) id file p ≡ cell i id file p
  cell_away zero index i p out = refl
  cell_away (suc n) index i p out =
      cell_away n (index + 1) (with_block (id, index) (block index) i) p
      (λ low high. out (omega (arith, low)) (omega (arith, high)))
      ∙ cell_of_another_block i id index (block index) p file
      (λ same. out (omega (arith, same)) (omega (arith, same)))

  cell_here : (n index : ℕ) (i : Inside) (p : ℕ) → index ≤ p / 4096 → p / 4096 < index + n → p < len
      → cell (after index n i) id file p ≡ Byte (laid at bytes p (stood p))
  cell_here zero index i p low high reach = absurd (omega (arith, low, high))
  cell_here (suc n) index i p low high reach = elim (cases_eq (p / 4096) index) [
    | inl here ↦
        let place : 4096 * index + p % 4096 ≡ p = omega (arith, here) in
        let j = with_block (id, index) (block index) i in
        cell_away n (index + 1) j p (λ low high. omega (arith, here, low))
        ∙ ap (λ (q : ℕ). cell j id file q) (sym place)
        ∙ cell_of_block i id index (block index) (p % 4096) file (omega arith)
        ∙ ap Byte (byte_laid len at bytes stood index (p % 4096) (omega arith) (omega (arith, place, reach))
        ∙ ap (λ (q : ℕ). laid at bytes q (stood q)) place)
    | inr away ↦
        cell_here n (index + 1) (with_block (id, index) (block index) i) p (omega (arith, low, away))
        (omega (arith, high)) reach
  ]

  abbrev count : ℕ
  count = blocks_up_to (at + length bytes) (at / 4096)

  -- THE CELLS OF A FILE whose blocks from the first touched one on were written, where its cells stood beside the bytes
  pub cells_laid : (i : Inside)
      → ((p : ℕ) → is_beside at (length bytes) p ≡ true → Byte (stood p) ≡ cell i id file p) → (p : ℕ) → p < len
      → cell (after (at / 4096) count i) id file p ≡ laid_from (4096 * (at / 4096)) at bytes p (cell i id file p)
  cells_laid i beside p reach = by (is_within at (length bytes) p) refl
    where
      old : Bool → Cell
      old u = if u then Byte (get_or bytes (p - at) 0) else cell i id file p

      out_of : (u : Bool) → old (u && false) ≡ cell i id file p
      out_of true = refl
      out_of false = refl

      inner : is_within at (length bytes) p ≡ false → at / 4096 ≤ p / 4096 → p / 4096 < at / 4096 + count
          → cell (after (at / 4096) count i) id file p ≡ cell i id file p
      inner out low high =
          cell_here count (at / 4096) i p low high reach
          ∙ ap (λ (u : Bool). Byte (if u then get_or bytes (p - at) 0 else stood p)) out
          ∙ beside p (beside_of at (length bytes) (p / 4096) p (omega (arith, low)) (omega (arith, low, high)) refl out)

      by : (t : Bool) → is_within at (length bytes) p ≡ t
          → cell (after (at / 4096) count i) id file p ≡ old (nat_le (4096 * (at / 4096)) p && is_within at (length bytes) p)
      by true is =
          let low : at ≤ p = grind (arith, nat_tests) in
          let high : p < at + length bytes = grind (arith, nat_tests) in
          let both : (nat_le (4096 * (at / 4096)) p && is_within at (length bytes) p) ≡ true = grind
          (arith, nat_tests) in
          cell_here count (at / 4096) i p (omega (arith, low)) (omega (arith, high, low)) reach
          ∙ ap (λ (u : Bool). Byte (if u then get_or bytes (p - at) 0 else stood p)) is
          ∙ sym (ap old both)
      by false is =
          (elim (cases_lt (p / 4096) (at / 4096)) [
            | inl before ↦ cell_away count (at / 4096) i p (λ low high. omega (arith, before, low))
            | inr low ↦ elim (cases_lt (p / 4096) (at / 4096 + count)) [
              | inl high ↦ inner is low high
              | inr past ↦ cell_away count (at / 4096) i p (λ low high. omega (arith, past, high))
            ]
          ])
          ∙ sym (ap (λ (u : Bool). old (nat_le (4096 * (at / 4096)) p && u)) is ∙ out_of (nat_le (4096 * (at / 4096)) p))
