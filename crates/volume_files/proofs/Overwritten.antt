-- The bytes of a block, and the cells of a file, once bytes are written into them.
use Rattle.std.proofs.Common.{◌≡◌, ◌∙◌, ℕ, ◌+◌, ◌-◌, ◌*◌, ◌/◌, ◌<◌, ◌≤◌, inl, inr, Bool, true, false, ◌&&◌, nat_le}
use Rattle.std.proofs.Common.{List, ◌∷◌, ◌++◌, length, get_or, take, drop, map, max, min, replicate}
use Rattle.std.proofs.Common.{if◌then◌else◌, sym, ap, refl, arith, length-append, length-drop}
use Rattle.std.proofs.lemmas.Bool.{cases_lt}
use Rattle.std.proofs.lemmas.Bool.Decides.{nat_tests}
use Rattle.std.proofs.lemmas.List.{get_or_append_left, get_or-append_right, get_or-take, get_or-drop, get_or-replicate}
use Rattle.std.proofs.lemmas.List.{get_or_past, get_or-map, length-take, length-take-le, length-replicate, length-map}
use Rattle.std.proofs.lemmas.List.FromFn.{fill_by_all, length-map-range_with_len, get_or-map-range_with_len}
use Rattle.std.specs.List.{range_with_len}
use Rattle.plain_volume.specs.Volume.{Cell, Byte, is_within, resized, overwritten}
use Rattle.volume_files.specs.Writing.{laid, laid_from}

-- ---- the test of a range

pub within : (at n p : ℕ) → at ≤ p → p < at + n → is_within at n p ≡ true
within at n p low high = grind (arith, nat_tests)

pub before : (at n p : ℕ) → p < at → is_within at n p ≡ false
before at n p low = grind (arith, nat_tests)

pub behind : (at n p : ℕ) → at + n ≤ p → is_within at n p ≡ false
behind at n p high = grind (arith, nat_tests)

-- ---- a block

module _ (old bytes : List ℕ) (start at from skipped count : ℕ) (whole : length old ≡ 4096)
    (is_from : from ≡ at - start) (is_skipped : skipped ≡ start - at)
    (is_count : count ≡ min (length bytes - skipped) (4096 - from))
    (early : at < start + 4096) (late : start < at + length bytes) where
  new : List ℕ
  new = take from old ++ take count (drop skipped bytes) ++ drop (from + count) old

  front_length : length (take from old) ≡ from
  front_length = length-take-le from old (omega arith)

  part_length : length (take count (drop skipped bytes)) ≡ count
  part_length = length-take-le count (drop skipped bytes) (omega (arith, length-drop skipped bytes))

  both_length : length (take from old ++ take count (drop skipped bytes)) ≡ from + count
  both_length = length-append (take from old) (take count (drop skipped bytes)) ∙ (λ i. front_length i + part_length i)

  pub laid_over : (o : ℕ) → o < 4096 → get_or (take from old ++ take count (drop skipped bytes) ++ drop
      (from + count) old) o 0 ≡ laid at bytes (start + o) (get_or old o 0)
  laid_over o low = elim (cases_lt o from) [
    | inl first ↦
        get_or_append_left (take from old ++ take count (drop skipped bytes)) (drop (from + count) old) 0 o
        (omega (arith, both_length))
        ∙ get_or_append_left (take from old) (take count (drop skipped bytes)) 0 o (omega (arith, front_length))
        ∙ get_or-take from old o 0 first
        ∙ sym (ap (λ (b : Bool). if b then get_or bytes (start + o - at) 0 else get_or old o 0)
        (before at (length bytes) (start + o) (omega arith)))
    | inr later ↦ elim (cases_lt o (from + count)) [
      | inl inner ↦
          let place : skipped + (o - from) ≡ start + o - at = omega arith in
          get_or_append_left (take from old ++ take count (drop skipped bytes)) (drop (from + count) old) 0 o
          (omega (arith, both_length))
          ∙ get_or-append_right (take from old) (take count (drop skipped bytes)) from o 0 front_length later
          ∙ get_or-take count (drop skipped bytes) (o - from) 0 (omega arith)
          ∙ get_or-drop skipped bytes (o - from) 0
          ∙ ap (λ (k : ℕ). get_or bytes k 0) place
          ∙ sym (ap (λ (b : Bool). if b then get_or bytes (start + o - at) 0 else get_or old o 0)
          (within at (length bytes) (start + o) (omega arith) (omega arith)))
      | inr outer ↦
          let place : from + count + (o - (from + count)) ≡ o = omega arith in
          get_or-append_right (take from old ++ take count (drop skipped bytes)) (drop (from + count) old)
          (from + count) o 0 both_length outer
          ∙ get_or-drop (from + count) old (o - (from + count)) 0
          ∙ ap (λ (k : ℕ). get_or old k 0) place
          ∙ sym (ap (λ (b : Bool). if b then get_or bytes (start + o - at) 0 else get_or old o 0)
          (behind at (length bytes) (start + o) (omega arith)))
    ]
  ]

  -- the same as code writes it
  pub laid_over_part : (now : List ℕ)
      → now ≡ take from old ++ take (skipped + count - skipped) (drop skipped bytes) ++ drop
      (from + length (take (skipped + count - skipped) (drop skipped bytes))) old
      → (o : ℕ) → o < 4096 → get_or now o 0 ≡ laid at bytes (start + o) (get_or old o 0)
  laid_over_part now is o low =
      let n : skipped + count - skipped ≡ count = omega arith in
      let size : length (take (skipped + count - skipped) (drop skipped bytes)) ≡ count =
      ap (λ (m : ℕ). length (take m (drop skipped bytes))) n ∙ part_length in
      ap (λ (xs : List ℕ). get_or xs o 0) (is ∙ (λ i. take from old ++ take (n i) (drop skipped bytes) ++ drop
      (from + size i) old)) ∙ laid_over o low

-- bytes with zeros behind them
pub padded : (xs ys : List ℕ) → ((j : ℕ) → get_or ys j 0 ≡ 0) → (o : ℕ) → get_or (xs ++ ys) o 0 ≡ get_or xs o 0
padded xs ys zeros o = elim (cases_lt o (length xs)) [
  | inl low ↦ get_or_append_left xs ys 0 o low
  | inr high ↦ get_or-append_right xs ys (length xs) o 0 refl high ∙ zeros (o - length xs)
      ∙ sym (get_or_past xs o 0 high)
]

pub zeros_are_zero : (n o : ℕ) → get_or (replicate {A = ℕ} n 0) o 0 ≡ 0
zeros_are_zero n o = elim (cases_lt o n) [
  | inl low ↦ get_or-replicate {A = ℕ} n o 0 0 low
  | inr high ↦ get_or_past (replicate {A = ℕ} n 0) o 0 (omega (arith, high, length-replicate {A = ℕ} n 0))
]

-- where the bytes lie it does not matter what stood there
pub laid_alike : (at : ℕ) (bytes : List ℕ) (p a b : ℕ) → (is_within at (length bytes) p ≡ false → a ≡ b)
    → laid at bytes p a ≡ laid at bytes p b
laid_alike at bytes p a b same = by (is_within at (length bytes) p) same
  where
    by : (t : Bool) → (t ≡ false → a ≡ b)
        → (if t then get_or bytes (p - at) 0 else a) ≡ (if t then get_or bytes (p - at) 0 else b)
    by true same = refl
    by false same = same refl

-- ---- cells

module _ (at b : ℕ) (bs : List ℕ) (cells : List Cell) where
  abbrev front_cells : List Cell
  front_cells = resized at cells

  abbrev new_cells : List Cell
  new_cells = map Byte (b ∷ bs)

  abbrev end : ℕ
  end = at + length (b ∷ bs)

  abbrev back_cells : List Cell
  back_cells = drop end cells

  front_cells_length : length front_cells ≡ at
  front_cells_length =
      let one = length-append (take at cells) (replicate (at - length cells) (Byte 0)) in
      let two = length-take at cells in
      let three = length-replicate (at - length cells) (Byte 0) in
      omega (arith, one, two, three)

  both_cells_length : length (front_cells ++ new_cells) ≡ end
  both_cells_length = length-append front_cells new_cells ∙ (λ i. front_cells_length i + length-map (b ∷ bs) Byte i)

  pub length-overwritten : length (overwritten at (b ∷ bs) cells) ≡ max (length cells) end
  length-overwritten =
      let one = length-append (front_cells ++ new_cells) back_cells in
      let two = length-drop end cells in
      omega (arith, one, two, both_cells_length)

  front_cell : (k : ℕ) → k < at → get_or front_cells k (Byte 0) ≡ get_or cells k (Byte 0)
  front_cell k first = elim (cases_lt k (length cells)) [
    | inl there ↦
        let n : length (take at cells) ≡ min at (length cells) = length-take at cells in
        get_or_append_left (take at cells) (replicate (at - length cells) (Byte 0)) (Byte 0) k (omega (arith, n))
        ∙ get_or-take at cells k (Byte 0) first
    | inr past ↦
        let n : length (take at cells) ≡ length cells = length-take at cells ∙ omega (arith, past, first) in
        get_or-append_right (take at cells) (replicate (at - length cells) (Byte 0)) (length cells) k (Byte 0) n past
        ∙ get_or-replicate (at - length cells) (k - length cells) (Byte 0) (Byte 0) (omega (arith, past, first))
        ∙ sym (get_or_past cells k (Byte 0) past)
  ]

  -- the cell at a place after a write
  pub cell_overwritten : (k : ℕ) → get_or (overwritten at (b ∷ bs) cells) k (Byte 0)
      ≡ (if is_within at (length (b ∷ bs)) k then Byte (get_or (b ∷ bs) (k - at) 0) else get_or cells k (Byte 0))
  cell_overwritten k =
      let pick = λ (t : Bool). if t then Byte (get_or (b ∷ bs) (k - at) 0) else get_or cells k (Byte 0) in
      elim (cases_lt k at) [
        | inl first ↦
            get_or_append_left (front_cells ++ new_cells) back_cells (Byte 0) k (omega (arith, both_cells_length))
            ∙ get_or_append_left front_cells new_cells (Byte 0) k (omega (arith, front_cells_length))
            ∙ front_cell k first
            ∙ sym (ap pick (before at (length (b ∷ bs)) k first))
        | inr later ↦ elim (cases_lt k end) [
          | inl inner ↦
              get_or_append_left (front_cells ++ new_cells) back_cells (Byte 0) k (omega (arith, both_cells_length))
              ∙ get_or-append_right front_cells new_cells at k (Byte 0) front_cells_length later
              ∙ get_or-map Byte (b ∷ bs) (k - at) 0 (Byte 0) (omega (arith, later, inner))
              ∙ sym (ap pick (within at (length (b ∷ bs)) k later inner))
          | inr outer ↦
              let place : end + (k - end) ≡ k = omega (arith, outer) in
              get_or-append_right (front_cells ++ new_cells) back_cells end k (Byte 0) both_cells_length outer
              ∙ get_or-drop end cells (k - end) (Byte 0)
              ∙ ap (λ (j : ℕ). get_or cells j (Byte 0)) place
              ∙ sym (ap pick (behind at (length (b ∷ bs)) k outer))
        ]
      ]

-- WHAT A WRITE LEAVES: the cells of a file whose blocks from the first touched one on were written
pub cells_overwritten : (old new : ℕ → Cell) (before_len len at b : ℕ) (bs : List ℕ)
    → len ≡ max before_len (at + length (b ∷ bs))
    → ((p : ℕ) → before_len ≤ p → old p ≡ Byte 0)
    → ((p : ℕ) → p < len → new p ≡ laid_from (4096 * (at / 4096)) at (b ∷ bs) p (old p))
    → map new (range_with_len 0 len) ≡ overwritten at (b ∷ bs) (map old (range_with_len 0 before_len))
cells_overwritten old new before_len len at b bs is_len past written =
    let cells = map old (range_with_len 0 before_len) in
    let size : length cells ≡ before_len = length-map-range_with_len old 0 before_len in
    sym (fill_by_all new (overwritten at (b ∷ bs) cells) len (Byte 0)
    (length-overwritten at b bs cells ∙ omega (arith, size, is_len))
    (λ p low. cell_overwritten at b bs cells p ∙ same p (is_within at (length (b ∷ bs)) p) refl ∙ sym (written p low)))
  where
    there : (p : ℕ) → get_or (map old (range_with_len 0 before_len)) p (Byte 0) ≡ old p
    there p = elim (cases_lt p before_len) [
      | inl low ↦ get_or-map-range_with_len old 0 before_len p p (Byte 0) low (omega arith)
      | inr high ↦ get_or_past (map old (range_with_len 0 before_len)) p (Byte 0)
          (omega (arith, high, length-map-range_with_len old 0 before_len)) ∙ sym (past p high)
    ]

    same : (p : ℕ) (t : Bool) → is_within at (length (b ∷ bs)) p ≡ t
        → (if is_within at (length (b ∷ bs)) p then Byte (get_or (b ∷ bs) (p - at) 0) else get_or
        (map old (range_with_len 0 before_len)) p (Byte 0))
        ≡ laid_from (4096 * (at / 4096)) at (b ∷ bs) p (old p)
    same p true is =
        let low : at ≤ p = grind (arith, nat_tests) in
        let both : (nat_le (4096 * (at / 4096)) p && is_within at (length (b ∷ bs)) p) ≡ true = grind
        (arith, nat_tests) in
        ap (λ (u : Bool). if u then Byte (get_or (b ∷ bs) (p - at) 0) else get_or
        (map old (range_with_len 0 before_len)) p (Byte 0)) is
        ∙ sym (ap (λ (u : Bool). if u then Byte (get_or (b ∷ bs) (p - at) 0) else old p) both)
    same p false is =
        ap (λ (u : Bool). if u then Byte (get_or (b ∷ bs) (p - at) 0) else get_or
        (map old (range_with_len 0 before_len)) p (Byte 0)) is
        ∙ there p
        ∙ sym (ap (λ (u : Bool). if (nat_le (4096 * (at / 4096)) p && u) then Byte (get_or (b ∷ bs) (p - at) 0) else
        old p) is ∙ never (nat_le (4096 * (at / 4096)) p))
      where
        never : (u : Bool) → (if (u && false) then Byte (get_or (b ∷ bs) (p - at) 0) else old p) ≡ old p
        never true = refl
        never false = refl
