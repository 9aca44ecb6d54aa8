-- Entries of maps, piece by piece.
use Rattle.std.specs.Prelude.{◌≡◌, ◌≤◌, ◌<◌, ◌+◌, ◌*◌, ◌-◌, ◌/◌, ℕ, List, [], ◌∷◌, ◌++◌, length, take, Some, None}
use Rattle.std.proofs.Common.{◌∙◌, ap, sym, subst, arith}
use Rattle.std.specs.Prelude.{false, IsTrue, ◌↔◌}
use Rattle.std.proofs.lemmas.Bool.{false≢true}
use Rattle.std.proofs.Math.Seq.{take-length}
use Rattle.vdisk.specs.Ranges.{part, length-part, part_more}
use Rattle.table_records.specs.declared.chunk_records.Row.{Row}
use Rattle.stream_map.specs.declared.entry.Entry.{Entry}
use Rattle.stream_map.specs.Entries.{entry_of}
use Rattle.stream_map.specs.Pieces.{entries_in, first_entries, total_length}
use Rattle.volume_inside.specs.ChunkRules.{AllEntries, EntryHolds, MapHolds}
use Rattle.row_reading.specs.Reading.{IsSum}

module _ (P : Entry → Type 0) where
  all_joined : (front back : List Entry) → AllEntries P front → AllEntries P back → AllEntries P (front ++ back)
  all_joined [] back one two = two
  all_joined (e ∷ front) back one two = (one.0, all_joined front back one.1 two)

  all_behind : (front back : List Entry) → AllEntries P (front ++ back) → AllEntries P back
  all_behind [] back all = all
  all_behind (e ∷ front) back all = all_behind front back all.1

  all_before : (front back : List Entry) → AllEntries P (front ++ back) → AllEntries P front
  all_before [] back all = tt
  all_before (e ∷ front) back all = (all.0, all_before front back all.1)

pub total_joined : (front back : List Entry) → total_length (front ++ back) ≡ total_length front + total_length back
total_joined [] back = omega arith
total_joined (e ∷ front) back = let rest = total_joined front back in omega (arith, rest)

-- what stream maps promise of joined bytes
abbrev pub AreJoined : Type 0
AreJoined = (n : ℕ) (front back : List ℕ) → length front ≡ 12 * n → entries_in (front ++ back) ≡ entries_in front ++ entries_in back

module _ (rows : List (ℕ × Row)) (law : AreJoined) (n : ℕ) (front back : List ℕ) (size : length front ≡ 12 * n) where
  -- sums of entries that stand one after the other
  pub sums_joined : (a b : ℕ) → IsSum rows (entries_in front) (Some a) → IsSum rows (entries_in back) (Some b)
      → IsSum rows (entries_in (front ++ back)) (Some (a + b))
  sums_joined a b one two =
      let joined = law n front back size in
      let P = EntryHolds rows in (
        subst (λ (es : List Entry). AllEntries P es) (sym joined) (all_joined P (entries_in front) (entries_in back) one.0 two.0),
        (λ i. one.1 i + two.1 i) ∙ sym (total_joined (entries_in front) (entries_in back))
            ∙ sym (ap (λ (es : List Entry). total_length es) joined),
      )

  pub back_broken : IsSum rows (entries_in back) None → IsSum rows (entries_in (front ++ back)) None
  back_broken never all =
      never (all_behind (EntryHolds rows) (entries_in front) (entries_in back)
      (subst (λ (es : List Entry). AllEntries (EntryHolds rows) es) (law n front back size) all))

  pub front_broken : IsSum rows (entries_in front) None → IsSum rows (entries_in (front ++ back)) None
  front_broken never all =
      never (all_before (EntryHolds rows) (entries_in front) (entries_in back)
      (subst (λ (es : List Entry). AllEntries (EntryHolds rows) es) (law n front back size) all))

-- one entry
pub one_entry : (bytes : List ℕ) → length bytes ≡ 12 → entries_in bytes ≡ entry_of bytes ∷ []
one_entry bytes size =
    let count : length bytes / 12 ≡ 1 = omega (arith, size) in
    ap (λ (n : ℕ). first_entries n bytes) count

pub entry_sum : (rows : List (ℕ × Row)) (bytes : List ℕ) → length bytes ≡ 12 → EntryHolds rows (entry_of bytes)
    → IsSum rows (entries_in bytes) (Some (entry_of bytes).length)
entry_sum rows bytes size holds =
    let one = one_entry bytes size in
    let whole : (entry_of bytes).length ≡ (entry_of bytes).length + 0 = omega arith in
    (subst (λ (es : List Entry). AllEntries (EntryHolds rows) es) (sym one) (holds, tt), whole ∙ sym (ap (λ (es : List Entry). total_length es) one))

pub entry_broken : (rows : List (ℕ × Row)) (bytes : List ℕ) → length bytes ≡ 12 → (EntryHolds rows (entry_of bytes) → ⊥)
    → IsSum rows (entries_in bytes) None
entry_broken rows bytes size never all =
    let here = subst (λ (es : List Entry). AllEntries (EntryHolds rows) es) (one_entry bytes size) all in
    never here.0

-- no entry
pub none_left : (bytes : List ℕ) → length bytes < 12 → entries_in bytes ≡ []
none_left bytes size =
    let count : length bytes / 12 ≡ 0 = omega (arith, size) in
    ap (λ (n : ℕ). first_entries n bytes) count

pub empty_sum : (rows : List (ℕ × Row)) (bytes : List ℕ) → length bytes < 12 → IsSum rows (entries_in bytes) (Some 0)
empty_sum rows bytes size =
    let none = none_left bytes size in
    (subst (λ (es : List Entry). AllEntries (EntryHolds rows) es) (sym none) tt, sym (ap (λ (es : List Entry). total_length es) none))

-- a map with an entry that breaks the rule
pub map_broken : (rows : List (ℕ × Row)) (covers : ℕ) (bytes : List ℕ) → IsSum rows (entries_in bytes) None
    → IsTrue false ↔ MapHolds rows covers (Some bytes)
map_broken rows covers bytes never = (λ e. absurd (false≢true e), λ holds. absurd (never holds.0))

-- a map whose entries have this sum
pub map_covers : (rows : List (ℕ × Row)) (covers sum : ℕ) (bytes : List ℕ) → IsSum rows (entries_in bytes) (Some sum)
    → covers ≤ sum → MapHolds rows covers (Some bytes)
map_covers rows covers sum bytes is fits = let total = is.1 in (is.0, omega (arith, total, fits))

pub map_short : (rows : List (ℕ × Row)) (covers sum : ℕ) (bytes : List ℕ) → IsSum rows (entries_in bytes) (Some sum)
    → MapHolds rows covers (Some bytes) → covers ≤ sum
map_short rows covers sum bytes is holds = let total = is.1 in let fits = holds.1 in omega (arith, total, fits)

-- ---- pieces of a map that stands in a container

module _ (rows : List (ℕ × Row)) (law : AreJoined) (bytes : List ℕ) (at done count : ℕ) (piece : List ℕ)
    (is : piece ≡ part (at + 12 * done) (12 * count) bytes) where
  pub piece_added : (a b : ℕ) → at + 12 * (done + count) ≤ length bytes
      → IsSum rows (entries_in (part at (12 * done) bytes)) (Some a) → IsSum rows (entries_in piece) (Some b)
      → IsSum rows (entries_in (part at (12 * (done + count)) bytes)) (Some (a + b))
  piece_added a b fits one two =
      let split : 12 * (done + count) ≡ 12 * done + 12 * count = omega arith in
      let whole = ap (λ (n : ℕ). part at n bytes) split ∙ part_more at (12 * done) (12 * count) bytes in
      subst (λ (x : List ℕ). IsSum rows (entries_in x) (Some (a + b))) (sym whole)
      (sums_joined rows law done (part at (12 * done) bytes) (part (at + 12 * done) (12 * count) bytes)
      (length-part at (12 * done) bytes (omega (arith, fits))) a b one
      (subst (λ (x : List ℕ). IsSum rows (entries_in x) (Some b)) is two))

  pub piece_broken : (size : ℕ) → at + size ≤ length bytes → 12 * (done + count) ≤ size
      → IsSum rows (entries_in piece) None → IsSum rows (entries_in (part at size bytes)) None
  piece_broken size fits within never =
      let front = part at (12 * done) bytes in
      let here = part (at + 12 * done) (12 * count) bytes in
      let rest = part (at + 12 * done + 12 * count) (size - 12 * done - 12 * count) bytes in
      let behind : size ≡ 12 * done + (size - 12 * done) = omega (arith, within) in
      let further : size - 12 * done ≡ 12 * count + (size - 12 * done - 12 * count) = omega (arith, within) in
      let whole : part at size bytes ≡ front ++ (here ++ rest) =
      ap (λ (n : ℕ). part at n bytes) behind ∙ part_more at (12 * done) (size - 12 * done) bytes
      ∙ ap (λ (x : List ℕ). front ++ x) (ap (λ (n : ℕ). part (at + 12 * done) n bytes) further
      ∙ part_more (at + 12 * done) (12 * count) (size - 12 * done - 12 * count) bytes) in
      subst (λ (x : List ℕ). IsSum rows (entries_in x) None) (sym whole)
      (back_broken rows law done front (here ++ rest) (length-part at (12 * done) bytes (omega (arith, fits, within)))
      (front_broken rows law count here rest (length-part (at + 12 * done) (12 * count) bytes (omega (arith, fits, within)))
      (subst (λ (x : List ℕ). IsSum rows (entries_in x) None) is never)))

-- what is left behind the last entry counts for nothing
pub whole_sum : (rows : List (ℕ × Row)) (law : AreJoined) (bytes : List ℕ) (at size done sum : ℕ) → at + size ≤ length bytes
    → done ≡ size / 12 → IsSum rows (entries_in (part at (12 * done) bytes)) (Some sum)
    → IsSum rows (entries_in (part at size bytes)) (Some sum)
whole_sum rows law bytes at size done sum fits all one =
    let behind : size ≡ 12 * done + (size - 12 * done) = omega (arith, all) in
    let whole = ap (λ (n : ℕ). part at n bytes) behind ∙ part_more at (12 * done) (size - 12 * done) bytes in
    let rest = length-part (at + 12 * done) (size - 12 * done) bytes (omega (arith, fits, all)) in
    let none : sum + 0 ≡ sum = omega arith in
    subst (λ (n : ℕ). IsSum rows (entries_in (part at size bytes)) (Some n)) none
    (subst (λ (x : List ℕ). IsSum rows (entries_in x) (Some (sum + 0))) (sym whole)
    (sums_joined rows law done (part at (12 * done) bytes) (part (at + 12 * done) (size - 12 * done) bytes)
    (length-part at (12 * done) bytes (omega (arith, fits, all))) sum 0 one
    (empty_sum rows (part (at + 12 * done) (size - 12 * done) bytes) (omega (arith, rest, all)))))

-- ---- one entry behind those before it

module _ (rows : List (ℕ × Row)) (law : AreJoined) (bytes : List ℕ) (i : ℕ) (room : 12 * i + 12 ≤ length bytes) where
  abbrev one : List ℕ
  one = part (12 * i) 12 bytes

  one_long : length one ≡ 12
  one_long = length-part (12 * i) 12 bytes room

  one_part : one ≡ part (0 + 12 * i) (12 * 1) bytes
  one_part = let at : 12 * i ≡ 0 + 12 * i = omega arith in ap (λ (k : ℕ). part k 12 bytes) at

  pub entry_added : (sum : ℕ) → IsSum rows (entries_in (take (12 * i) bytes)) (Some sum) → EntryHolds rows (entry_of one)
      → IsSum rows (entries_in (take (12 * (i + 1)) bytes)) (Some (sum + (entry_of one).length))
  entry_added sum before holds =
      piece_added rows law bytes 0 i 1 one one_part sum (entry_of one).length (omega (arith, room)) before
      (entry_sum rows one one_long holds)

  pub entry_breaks : (EntryHolds rows (entry_of one) → ⊥) → IsSum rows (entries_in bytes) None
  entry_breaks never =
      let all = take-length bytes in
      subst (λ (x : List ℕ). IsSum rows (entries_in x) None) all
      (piece_broken rows law bytes 0 i 1 one one_part (length bytes) (omega arith) (omega (arith, room))
      (entry_broken rows one one_long never))
