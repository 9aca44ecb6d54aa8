-- Cells of bases, read piece by piece.
use Rattle.std.specs.Prelude.{◌≡◌, ◌≤◌, ◌<◌, ◌+◌, ◌-◌, min, ℕ, Bool, true, List, length, get_or}
use Rattle.std.specs.Prelude.{Option, Some, None, if◌then◌else◌}
use Rattle.std.proofs.Common.{◌∙◌, ap, sym, subst, arith, inl, inr, lt-ltb}
use Rattle.std.proofs.lemmas.Bool.{cases_lt}
use Rattle.std.proofs.lemmas.List.{get_or_past}
use Rattle.plain_volume.specs.Volume.{Cell, Byte, Lost}
use Rattle.table_records.specs.declared.records.FileRecord.{FileRecord}
use Rattle.volume_inside.specs.Bases.{base_cell}
use Rattle.volume_inside.specs.BaseCells.{map_cell}
use Rattle.volume_inside.specs.Chunks.{Bases, chunk, chunks_at}
use Rattle.volume_inside.specs.ChunkTables.{ChunkTables}
use Rattle.row_reading.specs.declared.chunk_disk.ChunkDisk.{Ghosts}
use Rattle.row_reading.specs.BaseReads.{ReadsAlone, AreRead, AreReadFrom, IsFirstIn, IsKeptBefore, IsFirstLost, IsIn, AreCellsOf, bytes_of_text}
use Rattle.row_reading.specs.declared.copies.Text.{Text}
use Rattle.row_reading.specs.Reading.{IsRangeOf, IsReadable}
use Rattle.row_reading.proofs.Runs.{get_or-part}
use Rattle.row_reading.proofs.Texts.{IsShort}

-- ---- one chunk

-- the bytes of a chunk from an offset in it on, as far as it goes, and zeros behind them
pub cells_of_chunk : (o : Option (List ℕ)) (n from start count : ℕ) (piece out : List ℕ) → IsShort n o → start ≡ min from n
    → count ≡ min (n - start) (length out) → IsRangeOf o start count piece
    → ((k : ℕ) → k < count → get_or out k 0 ≡ get_or piece k 0) → ((k : ℕ) → count ≤ k → get_or out k 0 ≡ 0)
    → AreCellsOf o from true out
cells_of_chunk None n from start count piece out short begins counts read front zeros = absurd read
cells_of_chunk (Some bytes) n from start count piece out short begins counts read front zeros = λ k low.
    elim (cases_lt k count) [
      | inl here ↦
          let place : start + k ≡ from + k = omega (arith, begins, counts, here) in
          let byte : get_or out k 0 ≡ get_or bytes (from + k) 0 =
          front k here ∙ ap (λ (x : List ℕ). get_or x k 0) read ∙ get_or-part start count bytes k here
          ∙ ap (λ (p : ℕ). get_or bytes p 0) place in
          ap Byte (sym byte)
      | inr behind ↦
          let past : length bytes ≤ from + k = omega (arith, short, begins, counts, behind, low) in
          ap Byte (get_or_past bytes (from + k) 0 past ∙ sym (zeros k behind))
    ]

-- ---- ranges of cells, one after the other

module _ (cells : ℕ → Cell) (W : ℕ → Type 0) (at : ℕ) where
  pub read_then : (a b c : ℕ) (old new : List ℕ) → length new ≡ length old → AreRead cells W a b at old → IsKeptBefore b at old new
      → AreRead cells W b c at new → AreRead cells W a c at new
  read_then a b c old new size before kept after k low from to wanted =
      elim (cases_lt (at + k) b) [
        | inl here ↦ before k (omega (arith, low, size)) from here wanted ∙ sym (ap Byte (kept k here))
        | inr behind ↦ after k low behind to wanted
      ]

  pub read_held : (a b p : ℕ) (out : List ℕ) → AreRead cells W a b at out → a ≤ p → p < b → at ≤ p → p < at + length out → W p
      → cells p ≡ Lost → ⊥
  read_held a b p out read from to low high wanted lost =
      let place : at + (p - at) ≡ p = omega (arith, low) in
      let inside : p - at < length out = omega (arith, low, high) in
      let above : a ≤ at + (p - at) = omega (arith, place, from) in
      let below : at + (p - at) < b = omega (arith, place, to) in
      let byte : cells (at + (p - at)) ≡ Byte (get_or out (p - at) 0) =
      read (p - at) inside above below (subst (λ (x : ℕ). W x) (sym place) wanted) in
      let clash : Byte (get_or out (p - at) 0) ≡ Lost = sym byte ∙ ap (λ (x : ℕ). cells x) place ∙ lost in
      cc

  pub lost_then : (a b c n q : ℕ) (out : List ℕ) → length out ≡ n → a ≤ b → AreRead cells W a b at out
      → IsFirstLost cells (IsIn W at n) b c q → IsFirstLost cells (IsIn W at n) a c q
  lost_then a b c n q out size order read first = record {
    behind = omega (arith, order, first.behind);
    within = first.within;
    wanted = first.wanted;
    lost = first.lost;
    before = λ p from to wanted lost. elim (cases_lt p b) [
      | inl here ↦ read_held a b p out read from here wanted.0 (omega (arith, wanted.1, size)) wanted.2 lost
      | inr behind ↦ first.before p behind to wanted lost
    ];
  }

-- the same of other words for the same cells and the same places
module _ (cells other : ℕ → Cell) (V W : ℕ → Type 0) (a b : ℕ) (same : (p : ℕ) → a ≤ p → p < b → other p ≡ cells p)
    (there : (p : ℕ) → W p → V p) where
  pub read_as : (at : ℕ) (out : List ℕ) → AreRead cells V a b at out → AreRead other W a b at out
  read_as at out read k low from to wanted = same (at + k) from to ∙ read k low from to (there (at + k) wanted)

  pub lost_same : (q : ℕ) → ((p : ℕ) → V p → W p) → IsFirstLost cells V a b q → IsFirstLost other W a b q
  lost_same q back first = record {
    behind = first.behind;
    within = first.within;
    wanted = back q first.wanted;
    lost = same q first.behind first.within ∙ first.lost;
    before = λ p from to wanted lost. first.before p from to (there p wanted)
        (sym (same p from (omega (arith, to, first.within))) ∙ lost);
  }

-- the same of places that bytes stand for
pub lost_as : (cells other : ℕ → Cell) (V W : ℕ → Type 0) (a b : ℕ) → ((p : ℕ) → a ≤ p → p < b → other p ≡ cells p)
    → ((p : ℕ) → W p → V p) → (at n q : ℕ) → ((p : ℕ) → V p → W p) → IsFirstLost cells (IsIn V at n) a b q
    → IsFirstLost other (IsIn W at n) a b q
lost_as cells other V W a b same there at n q back =
    lost_same cells other (IsIn V at n) (IsIn W at n) a b same (λ p in_range. (in_range.0, in_range.1, there p in_range.2)) q
    (λ p in_range. (in_range.0, in_range.1, back p in_range.2))

-- the first one of fewer places is the first one of more
pub lost_within : (cells : ℕ → Cell) (W : ℕ → Type 0) (a b c q : ℕ) → b ≤ c → IsFirstLost cells W a b q → IsFirstLost cells W a c q
lost_within cells W a b c q order first = record {
  behind = first.behind;
  within = omega (arith, order, first.within);
  wanted = first.wanted;
  lost = first.lost;
  before = first.before;
}

-- ---- reads, one after the other

module _ {S : Type 0} (d : Ghosts S) where
  pub reads_then : ((a b c : S) → d.is_from a b → d.is_from b c → d.is_from a c) → (a b c : S) → ReadsAlone d a b → ReadsAlone d b c
      → ReadsAlone d a c
  reads_then next a b c one two = record {
    chunks = two.chunks ∙ one.chunks;
    image = two.image ∙ one.image;
    tells = λ tells. two.tells (one.tells tells);
    from = next a b c one.from two.from;
    later = omega (arith, one.later, two.later);
  }

  pub same_bases : (a b : S) → ReadsAlone d a b → chunks_at (d.chunks b) (d.image b) ≡ chunks_at (d.chunks a) (d.image a)
  same_bases a b reads = λ i. chunks_at (reads.chunks i) (reads.image i)

  pub same_readable : (a b : S) → ReadsAlone d a b → IsReadable (d.chunks a) (d.image a) → IsReadable (d.chunks b) (d.image b)
  same_readable a b reads readable =
      subst (λ (t : ChunkTables). IsReadable t (d.image b)) (sym reads.chunks)
      (subst (λ (x : List ℕ). IsReadable (d.chunks a) x) (sym reads.image) readable)

-- all are read where none is wanted behind those that were
pub read_to_end : (cells : ℕ → Cell) (V W : ℕ → Type 0) (at begin from end : ℕ) (out : List ℕ) → at + length out ≡ end
    → ((p : ℕ) → begin ≤ p → at ≤ p → p < end → from ≤ p) → ((p : ℕ) → W p → V p) → AreRead cells W 0 begin at out
    → IsFirstIn V from end None → AreReadFrom cells W at out
read_to_end cells V W at begin from end out ends behind there read none k low wanted =
    elim (cases_lt (at + k) begin) [
      | inl here ↦ read k low (omega arith) here wanted
      | inr past ↦ absurd (none (at + k) (behind (at + k) past (omega arith) (omega (arith, low, ends))) (omega (arith, low, ends)) (there (at + k) wanted))
    ]

-- of the places that bytes stand for, those behind the first
pub lost_in_range : (cells : ℕ → Cell) (W : ℕ → Type 0) (at n b q : ℕ) → IsFirstLost cells (IsIn W at n) 0 b q
    → IsFirstLost cells W at (at + n) q
lost_in_range cells W at n b q first = record {
  behind = first.wanted.0;
  within = first.wanted.1;
  wanted = first.wanted.2;
  lost = first.lost;
  before = λ p from to wanted lost.
      first.before p (omega arith) to (from, omega (arith, to, first.wanted.1), wanted) lost;
}

-- ---- the base of a file

pub covered_cell : (b : Bases) (file : FileRecord) (p : ℕ) → p < file.covers → base_cell b file p ≡ map_cell b (chunk b file.map_row) p
unfolding base_cell
covered_cell b file p low =
    ap (λ (t : Bool). if t then map_cell b (chunk b file.map_row) p else Byte 0) (lt-ltb p file.covers low)

-- where its map lies in a container, it gives the cells of the map, which later reads see as well
pub base_of_map : {S : Type 0} (d : Ghosts S) (a b : S) → ReadsAlone d a b → (file : FileRecord) (text : Option Text)
    → chunk (chunks_at (d.chunks a) (d.image a)) file.map_row ≡ bytes_of_text (d.chunks a) (d.image a) text → (p : ℕ)
    → p < file.covers → base_cell (chunks_at (d.chunks a) (d.image a)) file p
    ≡ map_cell (chunks_at (d.chunks b) (d.image b)) (bytes_of_text (d.chunks b) (d.image b) text) p
base_of_map d a b reads file text spelled p low =
    covered_cell (chunks_at (d.chunks a) (d.image a)) file p low
    ∙ ap (λ (o : Option (List ℕ)). map_cell (chunks_at (d.chunks a) (d.image a)) o p) spelled
    ∙ sym (λ i. map_cell (chunks_at (reads.chunks i) (reads.image i)) (bytes_of_text (reads.chunks i) (reads.image i) text) p)
