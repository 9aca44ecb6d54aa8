-- The cells beside bytes, in the first and the last block that these touch.
use Rattle.std.specs.Prelude.{◌≡◌, ◌⊎◌, ◌≤◌, ◌<◌, ◌+◌, ◌-◌, ◌*◌, ◌/◌, ◌%◌, ℕ, true, List, get_or, Option, Some, None, IfSome, refl}
use Rattle.std.proofs.Common.{sym, ◌∙◌, ap, subst, inl, inr, ⊎_elim, arith}
use Rattle.std.proofs.lemmas.Bool.{cases_lt}
use Rattle.std.proofs.lemmas.Bool.Decides.{nat_tests}
use Rattle.std.specs.Ordering.{nat_cmp}
use Rattle.std.specs.FinMap.{find}
use Rattle.plain_volume.specs.Volume.{Byte, lost_where, is_beside}
use Rattle.table_records.specs.declared.records.FileRecord.{FileRecord}
use Rattle.volume_inside.specs.Inside.{Inside}
use Rattle.volume_inside.specs.Typed.{Typed}
use Rattle.volume_inside.specs.View.{cell, cells_or_none, file_cells}
use Rattle.volume_files.specs.Edges.{edge_byte, AreEdges, AreEdgesOf}
use Rattle.volume_files.specs.Lengths.{length_in}
use Rattle.volume_files.specs.declared.edges.Edges.{Edges}
use Rattle.volume_files.proofs.EdgeBytes.{edge_first, edge_last, edges_of}
use Rattle.volume_files.specs.Own.{covered_in}
use Rattle.rw_filter.specs.Beside.{HasPart, KeepsRest, IsRead, ReadsBeside}
use Rattle.rw_filter.specs.Cells.{IsFirstLoss}
use Rattle.rw_filter.proofs.HoleCells.{not_both}
use Rattle.rw_filter.proofs.Losses.{none_lost, first_lost}

-- ---- places

before_is_beside : (at n p : ℕ) → p / 4096 ≡ at / 4096 → p < at → is_beside at n p ≡ true
before_is_beside at n p here low = grind (arith, nat_tests)

behind_is_beside : (at n p : ℕ) → p / 4096 ≡ (at + n - 1) / 4096 → at + n ≤ p → is_beside at n p ≡ true
behind_is_beside at n p here high = grind (arith, nat_tests)

-- a place beside lies in the first block before the bytes, or in the last one behind them
beside_is : (at n p : ℕ) → 0 < n → is_beside at n p ≡ true
    → ((p / 4096 ≡ at / 4096) × (p < at)) ⊎ ((p / 4096 ≡ (at + n - 1) / 4096) × (at + n ≤ p))
beside_is at n p some beside = elim (cases_lt p at) [
  | inl low ↦ inl (grind (arith, nat_tests), low)
  | inr high ↦ inr (grind (arith, nat_tests), grind (arith, nat_tests))
]

-- ---- edges

module _ (i : Inside) (id at n : ℕ) (file : FileRecord) (some : 0 < n) where
  abbrev last : ℕ
  last = (at + n - 1) / 4096

  abbrev behind : ℕ
  behind = at + n - 4096 * last

  -- the edges have the file's byte at a place, or zero behind the file's end
  abbrev IsSide : Edges → ℕ → Type 0
  IsSide edges p = (p < file.length → cell i id file p ≡ Byte (edge_byte edges at p))
      × (file.length ≤ p → edge_byte edges at p ≡ 0)

  side_of : (edges : Edges) (block : List ℕ) (index from to o p : ℕ) → 4096 * index + o ≡ p
      → get_or block o 0 ≡ edge_byte edges at (4096 * index + o) → HasPart i id file index from to block
      → (file.length ≤ 4096 * index + o → get_or block o 0 ≡ 0) → from ≤ o → o < to → IsSide edges p
  side_of edges block index from to o p place edge has zero low high =
      let byte : get_or block o 0 ≡ edge_byte edges at p = edge ∙ ap (edge_byte edges at) place in (
        λ reach. ap (cell i id file) (sym place) ∙ has o low high (omega (arith, place, reach)) ∙ ap Byte byte,
        λ past. sym byte ∙ zero (omega (arith, place, past)),
      )

  sides : (edges : Edges) → ((p : ℕ) → p / 4096 ≡ at / 4096 → p < at → IsSide edges p)
      → ((p : ℕ) → p / 4096 ≡ last → at + n ≤ p → IsSide edges p) → AreEdgesOf i id at n edges file
  sides edges front back p beside =
      ⊎_elim (λ before. front p before.0 before.1) (λ after. back p after.0 after.1) (beside_is at n p some beside)

  module _ (zeros first : List ℕ) (zero : (o : ℕ) → get_or zeros o 0 ≡ 0)
      (has_first : HasPart i id file (at / 4096) 0 (at % 4096) first)
      (kept_first : KeepsRest file (at / 4096) 0 (at % 4096) zeros first) where
    first_zero : (o : ℕ) → file.length ≤ 4096 * (at / 4096) + o → get_or first o 0 ≡ 0
    first_zero o past = kept_first o (λ low high reach. omega (arith, reach, past)) ∙ zero o

    -- the bytes touch two blocks
    pub two_edges : (block : List ℕ) → (at / 4096 ≡ last → ⊥) → HasPart i id file last behind 4096 block
        → KeepsRest file last behind 4096 zeros block
        → AreEdgesOf i id at n (record { first = first; last = block }) file
    two_edges block differ has kept = sides edges
        (λ p here low. side_of edges first (at / 4096) 0 (at % 4096) (p % 4096) p (omega (arith, here))
        (edge_first edges at (at / 4096) (p % 4096) (omega arith) refl) has_first
        (first_zero (p % 4096)) (omega arith) (omega (arith, here, low)))
        (λ p here high. side_of edges block last behind 4096 (p % 4096) p (omega (arith, here))
        (edge_last edges at last (p % 4096) (omega arith) (λ same. differ (sym same))) has
        (λ past. kept (p % 4096) (λ low under reach. omega (arith, reach, past)) ∙ zero (p % 4096))
        (omega (arith, here, high)) (omega arith))
      where
        edges : Edges
        edges = record { first = first; last = block }

    -- they touch one block, which was read in two parts
    pub one_edge : (block : List ℕ) → at / 4096 ≡ last → HasPart i id file last behind 4096 block
        → KeepsRest file last behind 4096 first block
        → AreEdgesOf i id at n (record { first = block; last = block }) file
    one_edge block same has kept = sides edges
        (λ p here low. side_of edges block (at / 4096) 0 (at % 4096) (p % 4096) p (omega (arith, here))
        (edge_first edges at (at / 4096) (p % 4096) (omega arith) refl)
        (λ o from to reach. has_first o from to reach
        ∙ ap Byte (sym (kept o (λ more under far. omega (arith, more, to, same, some)))))
        (λ past. kept (p % 4096) (λ more under far. omega (arith, far, past, same)) ∙ first_zero (p % 4096) past)
        (omega arith) (omega (arith, here, low)))
        (λ p here high. side_of edges block last behind 4096 (p % 4096) p (omega (arith, here))
        (edge_first edges at last (p % 4096) (omega arith) (sym same)) has
        (λ past. kept (p % 4096) (λ more under far. omega (arith, far, past))
        ∙ first_zero (p % 4096) (omega (arith, past, same)))
        (omega (arith, here, high)) (omega arith))
      where
        edges : Edges
        edges = record { first = block; last = block }

  -- ---- lost cells

  module _ (is : find nat_cmp id i.files ≡ Some file) where
    pub edges_are : (edges : Edges) → AreEdgesOf i id at n edges file → AreEdges i id at n edges
    edges_are edges are = subst (λ (o : Option FileRecord). IfSome o (AreEdgesOf i id at n edges)) (sym is) are

    -- a lost cell before the bytes is the first one beside them
    pub lost_before : (q : ℕ) → IsFirstLoss i id file (4096 * (at / 4096) + 0) (4096 * (at / 4096) + at % 4096) q
        → q < file.length → lost_where (is_beside at n) 0 (file_cells i id) ≡ Some q
    lost_before q first reach =
        let from = first.behind in
        let to = first.within in
        ap (λ o. lost_where (is_beside at n) 0 (cells_or_none i id o)) is
        ∙ first_lost (is_beside at n) (cell i id file) file.length 0 q (omega arith) (omega (arith, reach))
        (before_is_beside at n q (omega (arith, from, to)) (omega (arith, to))) first.lost
        (λ p low high beside lost. ⊎_elim
        (λ before. let here = before.0 in first.before p (omega (arith, here)) high lost)
        (λ after. let past = after.1 in omega (arith, past, high, to)) (beside_is at n p some beside))

    -- one behind them is, where none before them is lost
    pub lost_behind : (first : List ℕ) → HasPart i id file (at / 4096) 0 (at % 4096) first → (q : ℕ)
        → IsFirstLoss i id file (4096 * last + behind) (4096 * last + 4096) q
        → q < file.length → lost_where (is_beside at n) 0 (file_cells i id) ≡ Some q
    lost_behind block has q first reach =
        let from = first.behind in
        let to = first.within in
        ap (λ o. lost_where (is_beside at n) 0 (cells_or_none i id o)) is
        ∙ first_lost (is_beside at n) (cell i id file) file.length 0 q (omega arith) (omega (arith, reach))
        (behind_is_beside at n q (omega (arith, from, to)) (omega (arith, from))) first.lost
        (λ p low high beside lost. ⊎_elim
        (λ before.
        let here = before.0 in
        let under = before.1 in
        let place : 4096 * (at / 4096) + p % 4096 ≡ p = omega (arith, here) in
        not_both (cell i id file p) (get_or block (p % 4096) 0)
        (ap (cell i id file) (sym place) ∙ has (p % 4096) (omega arith) (omega (arith, here, under))
        (omega (arith, place, high, reach))) lost)
        (λ after. let past = after.1 in first.before p (omega (arith, past)) high lost)
        (beside_is at n p some beside))

-- no cell beside edges is lost
pub edges_are_whole : (i : Inside) (id at n : ℕ) (edges : Edges) → AreEdges i id at n edges
    → lost_where (is_beside at n) 0 (file_cells i id) ≡ None
edges_are_whole i id at n edges are = by (find nat_cmp id i.files) refl
  where
    by : (o : Option FileRecord) → find nat_cmp id i.files ≡ o → lost_where (is_beside at n) 0 (cells_or_none i id o) ≡ None
    by None is = refl
    by (Some file) is = none_lost (is_beside at n) (cell i id file) file.length 0
        (λ p low high beside lost. not_both (cell i id file p) (edge_byte edges at p)
        ((edges_of i id at n edges file is are p beside).0 (omega (arith, high))) lost)

-- ---- what is read

module _ (t : Typed) (id at n : ℕ) (file : FileRecord) (is : find nat_cmp id t.files ≡ Some file) where
  long : length_in (find nat_cmp id t.files) ≡ file.length
  long = ap length_in is

  covered : covered_in (find nat_cmp id t.files) ≡ file.covers
  covered = ap covered_in is

  -- what is read of a block at its place is read at the place of the file
  read_there : (index place : ℕ) → place / 4096 ≡ index → IsRead t id index file.covers place
      → IsRead t id (place / 4096) (covered_in (find nat_cmp id t.files)) place
  read_there index place here read =
      subst (λ (x : ℕ × ℕ). IsRead t id x.0 x.1 place) (λ i. (sym here i, sym covered i)) read

  pub reads_front : (0 < at % 4096) × (4096 * (at / 4096) + 0 < file.length)
      × IsRead t id (at / 4096) file.covers (4096 * (at / 4096) + 0) → ReadsBeside t id at n
  reads_front some =
      let front = some.0 in
      let below = some.1 in
      let place : 4096 * (at / 4096) + 0 ≡ 4096 * (at / 4096) = omega arith in
      record {
        place = 4096 * (at / 4096);
        beside = before_is_beside at n (4096 * (at / 4096)) (omega arith) (omega (arith, front));
        below = omega (arith, below, long);
        there = read_there (at / 4096) (4096 * (at / 4096)) (omega arith)
            (subst (λ (p : ℕ). IsRead t id (at / 4096) file.covers p) place some.2);
      }

  pub reads_back : (at + n - 4096 * ((at + n - 1) / 4096) < 4096)
      × (4096 * ((at + n - 1) / 4096) + (at + n - 4096 * ((at + n - 1) / 4096)) < file.length)
      × IsRead t id ((at + n - 1) / 4096) file.covers
      (4096 * ((at + n - 1) / 4096) + (at + n - 4096 * ((at + n - 1) / 4096))) → ReadsBeside t id at n
  reads_back some =
      let back = some.0 in
      let below = some.1 in
      let place : 4096 * ((at + n - 1) / 4096) + (at + n - 4096 * ((at + n - 1) / 4096)) ≡ at + n = omega arith in
      record {
        place = at + n;
        beside = behind_is_beside at n (at + n) (omega (arith, back)) (omega arith);
        below = omega (arith, below, long);
        there = read_there ((at + n - 1) / 4096) (at + n) (omega (arith, back))
            (subst (λ (p : ℕ). IsRead t id ((at + n - 1) / 4096) file.covers p) place some.2);
      }
