-- The cells of entries, and the entries of a map, part by part.
use Rattle.std.specs.Prelude.{◌≡◌, ◌≤◌, ◌<◌, ◌+◌, ◌*◌, ◌-◌, ◌/◌, ℕ, List, ◌∷◌, ◌++◌, length, take, drop, Option, Some, None}
use Rattle.std.proofs.Common.{◌∙◌, ap, sym, subst, arith}
use Rattle.std.proofs.lemmas.List.{take-append-drop, length-take-le}
use Rattle.std.proofs.Math.Seq.{take-add}
use Rattle.plain_volume.specs.Volume.{Lost}
use Rattle.vdisk.specs.Ranges.{part, length-part, part_more}
use Rattle.stream_map.specs.declared.entry.Entry.{Entry}
use Rattle.stream_map.specs.Entries.{entry_of}
use Rattle.stream_map.specs.Pieces.{entries_in, total_length, place_at, Covers}
use Rattle.volume_inside.specs.BaseCells.{piece_cell, entry_cell, map_cell}
use Rattle.volume_inside.specs.Chunks.{Bases, chunk}
use Rattle.row_reading.specs.BaseReads.{cell_from}
use Rattle.row_reading.proofs.Sums.{AreJoined, total_joined, one_entry, none_left}

-- what stream maps promise of the places of pieces
abbrev pub IsPlaced : Type 0
IsPlaced = (entries : List Entry) (offset : ℕ) (entry : Entry) (inside : ℕ) → Covers entries offset entry inside
    → place_at entries offset ≡ Some (entry, inside)

abbrev pub IsOutside : Type 0
IsOutside = (entries : List Entry) (offset : ℕ) → total_length entries ≤ offset → place_at entries offset ≡ None

abbrev pub IsFront : Type 0
IsFront = (front back : List Entry) (offset : ℕ) → offset < total_length front
    → place_at (front ++ back) offset ≡ place_at front offset

abbrev pub IsBack : Type 0
IsBack = (front back : List Entry) (offset : ℕ)
    → place_at (front ++ back) (total_length front + offset) ≡ place_at back offset

-- ---- one entry of those that bytes spell

module _ (joined : AreJoined) (bytes : List ℕ) (i : ℕ) (room : 12 * i + 12 ≤ length bytes) where
  abbrev one : List ℕ
  one = part (12 * i) 12 bytes

  one_long : length one ≡ 12
  one_long = length-part (12 * i) 12 bytes room

  front_long : length (take (12 * i) bytes) ≡ 12 * i
  front_long = length-take-le (12 * i) bytes (omega (arith, room))

  pub split_at : entries_in bytes ≡ entries_in (take (12 * i) bytes) ++ entry_of one ∷ entries_in (drop 12 (drop (12 * i) bytes))
  split_at =
      let rest = drop (12 * i) bytes in
      let back : entries_in rest ≡ entry_of one ∷ entries_in (drop 12 rest) =
      ap (λ (x : List ℕ). entries_in x) (sym (take-append-drop 12 rest)) ∙ joined 1 one (drop 12 rest) one_long
      ∙ ap (λ (es : List Entry). es ++ entries_in (drop 12 rest)) (one_entry one one_long) in
      ap (λ (x : List ℕ). entries_in x) (sym (take-append-drop (12 * i) bytes)) ∙ joined i (take (12 * i) bytes) rest front_long
      ∙ ap (λ (es : List Entry). entries_in (take (12 * i) bytes) ++ es) back

  -- the pieces of one entry more
  pub total_more : total_length (entries_in (take (12 * (i + 1)) bytes))
      ≡ total_length (entries_in (take (12 * i) bytes)) + (entry_of one).length
  total_more =
      let more : 12 * (i + 1) ≡ 12 * i + 12 = omega arith in
      let none : (entry_of one).length + 0 ≡ (entry_of one).length = omega arith in
      ap (λ (n : ℕ). total_length (entries_in (take n bytes))) more
      ∙ ap (λ (x : List ℕ). total_length (entries_in x)) (take-add (12 * i) 12 bytes)
      ∙ ap (λ (es : List Entry). total_length es) (joined i (take (12 * i) bytes) one front_long)
      ∙ total_joined (entries_in (take (12 * i) bytes)) (entries_in one)
      ∙ ap (λ (es : List Entry). total_length (entries_in (take (12 * i) bytes)) + total_length es) (one_entry one one_long)
      ∙ ap (λ (n : ℕ). total_length (entries_in (take (12 * i) bytes)) + n) none

  -- they are no more than all
  pub total_within : total_length (entries_in (take (12 * i) bytes)) + (entry_of one).length ≤ total_length (entries_in bytes)
  total_within =
      let back = entries_in (drop 12 (drop (12 * i) bytes)) in
      let whole = ap (λ (es : List Entry). total_length es) split_at
      ∙ total_joined (entries_in (take (12 * i) bytes)) (entry_of one ∷ back) in
      omega (arith, whole)

  -- the cells of its piece
  pub cells_of_entry : IsPlaced → (b : Bases) (begin next p : ℕ) → next ≡ begin + total_length (entries_in (take (12 * i) bytes))
      → next ≤ p → p < next + (entry_of one).length
      → cell_from b (entries_in bytes) begin p ≡ piece_cell (chunk b (entry_of one).id) (p - next)
  cells_of_entry placed b begin next p is low high =
      let offset : p - begin ≡ total_length (entries_in (take (12 * i) bytes)) + (p - next) = omega (arith, is, low) in
      let inside : p - next < (entry_of one).length = omega (arith, low, high) in
      ap (λ (o : Option (Entry × ℕ)). entry_cell b o)
      (placed (entries_in bytes) (p - begin) (entry_of one) (p - next)
      (entries_in (take (12 * i) bytes), entries_in (drop 12 (drop (12 * i) bytes)), split_at, offset, inside))

-- ---- entries of a map that stands in a container, as many as are read at once

module _ (joined : AreJoined) (bytes : List ℕ) (at size done count : ℕ) (fits : at + size ≤ length bytes)
    (within : 12 * (done + count) ≤ size) where
  abbrev before : List ℕ
  before = part at (12 * done) bytes

  abbrev here : List ℕ
  here = part (at + 12 * done) (12 * count) bytes

  abbrev after : List ℕ
  after = part (at + 12 * done + 12 * count) (size - 12 * done - 12 * count) bytes

  before_long : length before ≡ 12 * done
  before_long = length-part at (12 * done) bytes (omega (arith, fits, within))

  here_long : length here ≡ 12 * count
  here_long = length-part (at + 12 * done) (12 * count) bytes (omega (arith, fits, within))

  map_split : entries_in (part at size bytes) ≡ entries_in before ++ (entries_in here ++ entries_in after)
  map_split =
      let behind : size ≡ 12 * done + (size - 12 * done) = omega (arith, within) in
      let further : size - 12 * done ≡ 12 * count + (size - 12 * done - 12 * count) = omega (arith, within) in
      let whole : part at size bytes ≡ before ++ (here ++ after) =
      ap (λ (n : ℕ). part at n bytes) behind ∙ part_more at (12 * done) (size - 12 * done) bytes
      ∙ ap (λ (x : List ℕ). before ++ x) (ap (λ (n : ℕ). part (at + 12 * done) n bytes) further
      ∙ part_more (at + 12 * done) (12 * count) (size - 12 * done - 12 * count) bytes) in
      ap (λ (x : List ℕ). entries_in x) whole ∙ joined done before (here ++ after) before_long
      ∙ ap (λ (es : List Entry). entries_in before ++ es) (joined count here after here_long)

  pub total_further : total_length (entries_in (part at (12 * (done + count)) bytes))
      ≡ total_length (entries_in before) + total_length (entries_in here)
  total_further =
      let more : 12 * (done + count) ≡ 12 * done + 12 * count = omega arith in
      ap (λ (n : ℕ). total_length (entries_in (part at n bytes))) more
      ∙ ap (λ (x : List ℕ). total_length (entries_in x)) (part_more at (12 * done) (12 * count) bytes)
      ∙ ap (λ (es : List Entry). total_length es) (joined done before here before_long)
      ∙ total_joined (entries_in before) (entries_in here)

  -- the cells of their pieces
  pub cells_of_some : IsFront → IsBack → (b : Bases) (begin p : ℕ) → begin ≡ total_length (entries_in before)
      → begin ≤ p → p < begin + total_length (entries_in here)
      → map_cell b (Some (part at size bytes)) p ≡ cell_from b (entries_in here) begin p
  cells_of_some front back b begin p is low high =
      let offset : p ≡ total_length (entries_in before) + (p - begin) = omega (arith, is, low) in
      let inside : p - begin < total_length (entries_in here) = omega (arith, low, high) in
      ap (λ (o : Option (Entry × ℕ)). entry_cell b o)
      ((λ i. place_at (map_split i) (offset i)) ∙ back (entries_in before) (entries_in here ++ entries_in after) (p - begin)
      ∙ front (entries_in here) (entries_in after) (p - begin) inside)

-- behind the last whole entry no cell is there
pub lost_behind : (joined : AreJoined) (bytes : List ℕ) (at size done : ℕ) → at + size ≤ length bytes → done ≡ size / 12
    → IsOutside → (b : Bases) (p : ℕ) → total_length (entries_in (part at (12 * done) bytes)) ≤ p
    → map_cell b (Some (part at size bytes)) p ≡ Lost
lost_behind joined bytes at size done fits all outside b p high =
    let behind : size ≡ 12 * done + (size - 12 * done) = omega (arith, all) in
    let rest = part (at + 12 * done) (size - 12 * done) bytes in
    let long = length-part (at + 12 * done) (size - 12 * done) bytes (omega (arith, fits, all)) in
    let whole = ap (λ (n : ℕ). part at n bytes) behind ∙ part_more at (12 * done) (size - 12 * done) bytes in
    let total = ap (λ (x : List ℕ). total_length (entries_in x)) whole
    ∙ ap (λ (es : List Entry). total_length es) (joined done (part at (12 * done) bytes) rest
    (length-part at (12 * done) bytes (omega (arith, fits, all))))
    ∙ total_joined (entries_in (part at (12 * done) bytes)) (entries_in rest)
    ∙ ap (λ (es : List Entry). total_length (entries_in (part at (12 * done) bytes)) + total_length es)
    (none_left rest (omega (arith, long, all))) in
    ap (λ (o : Option (Entry × ℕ)). entry_cell b o) (outside (entries_in (part at size bytes)) p (omega (arith, total, high)))

-- the cells of the piece of an entry that was decoded
pub cells_of : (joined : AreJoined) (bytes : List ℕ) (i : ℕ) (room : 12 * i + 12 ≤ length bytes) → IsPlaced → (e : Entry)
    → e ≡ entry_of (part (12 * i) 12 bytes) → (b : Bases) (begin next p : ℕ)
    → next ≡ begin + total_length (entries_in (take (12 * i) bytes)) → next ≤ p → p < next + e.length
    → cell_from b (entries_in bytes) begin p ≡ piece_cell (chunk b e.id) (p - next)
cells_of joined bytes i room placed e decoded b begin next p is =
    subst (λ (x : Entry). next ≤ p → p < next + x.length → cell_from b (entries_in bytes) begin p ≡ piece_cell (chunk b x.id) (p - next))
    (sym decoded) (cells_of_entry joined bytes i room placed b begin next p is)

-- the cells of the pieces of entries that were read
pub cells_of_read : (joined : AreJoined) → IsFront → IsBack → (bytes : List ℕ) (at size done count : ℕ) → at + size ≤ length bytes
    → 12 * (done + count) ≤ size → (piece : List ℕ) → piece ≡ part (at + 12 * done) (12 * count) bytes → (b c : Bases) → c ≡ b
    → (begin end p : ℕ) → begin ≡ total_length (entries_in (part at (12 * done) bytes))
    → end ≡ begin + total_length (entries_in piece) → begin ≤ p → p < end
    → map_cell b (Some (part at size bytes)) p ≡ cell_from c (entries_in piece) begin p
cells_of_read joined front back bytes at size done count fits within piece is b c same begin end p begins ends low high =
    let total = ap (λ (x : List ℕ). total_length (entries_in x)) is in
    cells_of_some joined bytes at size done count fits within front back b begin p begins low (omega (arith, high, ends, total))
    ∙ sym (λ i. cell_from (same i) (entries_in (is i)) begin p)
