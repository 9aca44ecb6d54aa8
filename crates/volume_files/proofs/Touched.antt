-- The blocks of a file that bytes touch, one after another.
use Rattle.std.specs.Prelude.{◌≡◌, ◌≤◌, ◌<◌, ◌+◌, ◌-◌, ◌*◌, ◌/◌, ◌%◌, ℕ, zero, suc}
use Rattle.std.specs.Prelude.{List, [], get_or, Option, Some, None, IsSome}
use Rattle.std.specs.Prelude.{refl}
use Rattle.std.proofs.Common.{sym, ◌∙◌, ap, subst, inl, inr, arith}
use Rattle.std.proofs.lemmas.Bool.{cases_eq}
use Rattle.std.proofs.lemmas.List.{get_or_past}
use Rattle.std.specs.Option.{option_map}
use Rattle.std.specs.FinMap.{find, put}
use Rattle.plain_volume.specs.Volume.{Byte}
use Rattle.table_records.specs.Keys.{pair_cmp}
use Rattle.table_records.specs.declared.records.Extent.{Extent}
use Rattle.table_records.specs.declared.records.FileRecord.{FileRecord}
use Rattle.volume_inside.specs.Bases.{base_cell, cell_behind}
use Rattle.volume_inside.specs.Inside.{Inside, inside_at, block_of}
use Rattle.volume_inside.specs.Typed.{Typed, FileBlock}
use Rattle.volume_inside.specs.Changes.{with_extent, with_block}
use Rattle.volume_inside.specs.View.{cell, cell_in}
use Rattle.volume_inside.proofs.Blocks.{cell_of_another_file}
use Rattle.volume_tables.specs.Tables.{new_bytes}
use Rattle.volume_files.specs.Needs.{missing, one_if_none}
use Rattle.volume_files.specs.Writing.{named_bytes, blocks_up_to, AreExtentsSet}
use Rattle.volume_files.proofs.Extents.{found_put, found_beside}
use Rattle.volume_files.proofs.Owned.{find-blocks, not_covered}

-- ---- extents that are missing

pub missing_later : (t : Typed) (file index first n : ℕ) (e : Extent) → index < first
    → missing (with_extent (file, index) e t) file first n ≡ missing t file first n
missing_later t file index first zero e low = refl
missing_later t file index first (suc n) e low =
    let key : FileBlock = (file, index) in
    let next : FileBlock = (file, first) in
    let differ : next ≡ key → ⊥ = λ same. (let one : first ≡ index = ap (λ (k : FileBlock). k.1) same in omega
    (arith, one, low)) in
    let here = found_beside next key e t.extents differ in
    let rest = missing_later t file index (first + 1) n e (omega (arith, low)) in
    λ i. one_if_none (here i) + rest i

pub missing_first : (t : Typed) (file index n : ℕ) → 0 < n
    → missing t file index n ≡ one_if_none (find pair_cmp (file, index) t.extents) + missing t file (index + 1) (n - 1)
missing_first t file index zero some = absurd (omega (arith, some))
missing_first t file index (suc n) some =
    let less : n ≡ suc n - 1 = omega arith in
    ap (λ (m : ℕ). one_if_none (find pair_cmp (file, index) t.extents) + missing t file (index + 1) m) less

pub added : (was : Option Extent) → new_bytes was 24 ≡ 24 * one_if_none was
added None = refl
added (Some e) = refl

-- what is left to fit once a block was set
pub fits_next : (t u : Typed) (file index to checkpoint more half : ℕ) (e : Extent) → 4096 * index < to
    → u ≡ with_extent (file, index) e t
    → checkpoint + 24 * missing t file index (blocks_up_to to index) ≤ half
    → more ≡ checkpoint + new_bytes (find pair_cmp (file, index) t.extents) 24
    → more + 24 * missing u file (index + 1) (blocks_up_to to (index + 1)) ≤ half
fits_next t u file index to checkpoint more half e low set fits is =
    let n : blocks_up_to to (index + 1) ≡ blocks_up_to to index - 1 = omega arith in
    let first = missing_first t file index (blocks_up_to to index) (omega (arith, low)) in
    let later : missing u file (index + 1) (blocks_up_to to (index + 1)) ≡ missing t file (index + 1)
    (blocks_up_to to index - 1) =
    ap (λ (q : Typed). missing q file (index + 1) (blocks_up_to to (index + 1))) set
    ∙ missing_later t file index (index + 1) (blocks_up_to to (index + 1)) e (omega arith)
    ∙ ap (λ (m : ℕ). missing t file (index + 1) m) n in
    let size = added (find pair_cmp (file, index) t.extents) in
    omega (arith, first, later, size, fits, is)

-- ---- extents that are set

pub extents_then : (file index to : ℕ) (a b c : Typed) (e : Extent) → 4096 * index < to
    → b ≡ with_extent (file, index) e a
    → AreExtentsSet file (4096 * (index + 1)) to b c → AreExtentsSet file (4096 * index) to a c
extents_then file index to a b c e low set more = record {
  rest = more.rest ∙ ap (λ (q : Typed). record q { extents = c.extents }) set;
  others = λ k out.
      let key : FileBlock = (file, index) in
      let differ : k ≡ key → ⊥ = λ same. out (
        ap (λ (x : FileBlock). x.0) same,
        (let one : k.1 ≡ index = ap (λ (x : FileBlock). x.1) same in omega (arith, one)),
        (let one : k.1 ≡ index = ap (λ (x : FileBlock). x.1) same in omega (arith, one, low)),
      ) in
      more.others k (λ touched. out (touched.0, omega (arith, touched.1), touched.2)) ∙ found k
      ∙ found_beside k key e a.extents differ;
  touched = λ k is. elim (cases_eq k.1 index) [
    | inl same ↦
        let key : FileBlock = (file, index) in
        let one : k ≡ key = λ i. (is.0 i, same i) in
        let mine = more.others key (λ touched. omega (arith, touched.1)) ∙ found key ∙ found_put key e a.extents in
        subst (λ (x : FileBlock). IsSome (find pair_cmp x c.extents)) (sym one)
        (subst (λ (o : Option Extent). IsSome o) (sym mine) refl)
    | inr other ↦ more.touched k (is.0, omega (arith, is.1, other), is.2)
  ];
}
  where
    found : (k : FileBlock) → find pair_cmp k b.extents ≡ find pair_cmp k (put pair_cmp (file, index) e a.extents)
    found k = ap (λ (q : Typed). find pair_cmp k q.extents) set

-- ---- cells

-- a cell that comes from no base is a byte that an extent names, or 0
pub cell_named : (t : Typed) (image : List ℕ) (id : ℕ) (file : FileRecord) (p : ℕ) (was : Option Extent)
    → (p < file.covers → IsSome was)
    → find pair_cmp (id, p / 4096) t.extents ≡ was
    → cell (inside_at t image) id file p ≡ Byte (get_or (named_bytes was image) (p % 4096) 0)
cell_named t image id file p was own found =
    let i = inside_at t image in
    ap (λ (o : Option (List ℕ)). cell_in o (p % 4096) (base_cell i.bases file p))
    (find-blocks (id, p / 4096) t.extents image ∙ ap (λ (o : Option Extent). option_map (λ e. block_of e image) o)
    found)
    ∙ by was own
  where
    by : (o : Option Extent) → (p < file.covers → IsSome o)
        → cell_in (option_map (λ e. block_of e image) o) (p % 4096) (base_cell (inside_at t image).bases file p)
        ≡ Byte (get_or (named_bytes o image) (p % 4096) 0)
    by None own = cell_behind (inside_at t image).bases file p (not_covered p file.covers own)
        ∙ ap Byte (sym (get_or_past [] (p % 4096) 0 (omega arith)))
    by (Some e) own = refl

-- the cells of another file
pub cell_apart : (i j : Inside) (id n : ℕ) (bytes : List ℕ) (other p : ℕ) (file : FileRecord) → (other ≡ id → ⊥)
    → j ≡ with_block (id, n) bytes i
    → cell j other file p ≡ cell i other file p
cell_apart i j id n bytes other p file differ set =
    ap (λ (k : Inside). cell k other file p) set ∙ cell_of_another_file i id n bytes other p file differ
