-- Cells that come from no base.
use Rattle.std.specs.Prelude.{◌≡◌, ◌≤◌, ◌<◌, ◌+◌, ◌-◌, ◌*◌, ◌/◌, ◌%◌, ℕ, true, false, cond}
use Rattle.std.specs.Prelude.{List, [], ◌∷◌, length, Option, Some, None, IsSome, refl}
use Rattle.std.proofs.Common.{sym, ◌∙◌, ap, subst, inl, inr, arith}
use Rattle.std.proofs.lemmas.Bool.{cases_lt}
use Rattle.std.proofs.lemmas.Bool.Decides.{nat_tests}
use Rattle.std.specs.Option.{option_map}
use Rattle.std.specs.Ordering.{nat_cmp, eq_by_cmp}
use Rattle.std.specs.FinMap.{find}
use Rattle.plain_volume.specs.Volume.{Byte, is_beside, is_within}
use Rattle.table_records.specs.Keys.{pair_cmp}
use Rattle.table_records.specs.declared.records.Extent.{Extent}
use Rattle.table_records.specs.declared.records.FileRecord.{FileRecord}
use Rattle.volume_inside.specs.Bases.{base_cell, cell_behind}
use Rattle.volume_inside.specs.Inside.{Inside, inside_at, block_of, blocks_of}
use Rattle.volume_inside.specs.Typed.{Typed, FileBlock}
use Rattle.volume_inside.specs.View.{cell, cell_in}
use Rattle.volume_files.specs.Own.{covered_in, IsOwn, AreOwnAround, AreOwnBeside}
use Rattle.volume_files.specs.Reads.{byte_in, byte_at}

-- the block of a key is that of its extent
pub find-blocks : (k : FileBlock) (es : List (FileBlock × Extent)) (image : List ℕ)
    → find pair_cmp k (blocks_of es image) ≡ option_map (λ e. block_of e image) (find pair_cmp k es)
find-blocks k [] image = refl
find-blocks k (x ∷ es) image =
    elim (eq_by_cmp pair_cmp k x.0) as (λ b. cond b (Some (block_of x.1 image)) (find pair_cmp k (blocks_of es image))
    ≡ option_map (λ e. block_of e image) (cond b (Some x.1) (find pair_cmp k es))) [
      | true ↦ refl
      | false ↦ find-blocks k es image
    ]

-- what has neither an extent nor a block is not covered
pub not_covered : (p covers : ℕ) → (p < covers → false ≡ true) → covers ≤ p
not_covered p covers own = elim (cases_lt p covers) [
  | inl low ↦ absurd (let clash : false ≡ true = own low in cc)
  | inr behind ↦ behind
]

-- ---- the cells of an inside

-- the condition at a place, where the file has this record
abbrev pub IsOwnAt : Inside → ℕ → FileRecord → ℕ → Type 0
IsOwnAt i id file p = p < file.covers → IsSome (find pair_cmp (id, p / 4096) i.blocks)

-- a cell that comes from no base is the byte of its block
pub cell_byte : (i : Inside) (id p : ℕ) (file : FileRecord) → IsOwnAt i id file p
    → cell i id file p ≡ Byte (byte_at i id p)
cell_byte i id p file own = by (find pair_cmp (id, p / 4096) i.blocks) own
  where
    by : (o : Option (List ℕ)) → (p < file.covers → IsSome o)
        → cell_in o (p % 4096) (base_cell i.bases file p) ≡ Byte (byte_in o (p % 4096))
    by None own = cell_behind i.bases file p (not_covered p file.covers own)
    by (Some block) own = refl

-- ---- the cells of tables

module _ (t : Typed) (image : List ℕ) (id : ℕ) (file : FileRecord) (is : find nat_cmp id t.files ≡ Some file) where
  covered : covered_in (find nat_cmp id t.files) ≡ file.covers
  covered = ap covered_in is

  pub own_extent : (p : ℕ) → IsOwn t id p → p < file.covers → IsSome (find pair_cmp (id, p / 4096) t.extents)
  own_extent p own low = own (omega (arith, low, covered))

  pub own_at : (p : ℕ) → IsOwn t id p → IsOwnAt (inside_at t image) id file p
  own_at p own low =
      subst IsSome (sym (find-blocks (id, p / 4096) t.extents image))
      (by (find pair_cmp (id, p / 4096) t.extents) (own_extent p own low))
    where
      by : (o : Option Extent) → IsSome o → IsSome (option_map (λ e. block_of e image) o)
      by None there = there
      by (Some e) there = refl

-- ---- cells beside bytes

-- the condition of a write of some bytes, once the tables are these
pub own_some : (t u : Typed) (id at : ℕ) (bytes : List ℕ) → u ≡ t → 0 < length bytes → AreOwnAround t id at bytes
    → AreOwnBeside u id at (length bytes)
own_some t u id at [] same some own = absurd (omega (arith, some))
own_some t u id at (b ∷ bytes) same some own =
    subst (λ (q : Typed). AreOwnBeside q id at (length (b ∷ bytes))) (sym same) own

-- a place of a block that the bytes touch, where they do not lie, is beside them
pub beside_of : (at n index p : ℕ) → at < 4096 * index + 4096 → 4096 * index < at + n → p / 4096 ≡ index
    → is_within at n p ≡ false → is_beside at n p ≡ true
beside_of at n index p early late here out = elim (cases_lt p at) [
  | inl low ↦ (let one : p / 4096 ≡ at / 4096 = omega (arith, low, early, here) in grind (arith, nat_tests))
  | inr high ↦
      let behind : at + n ≤ p = elim (cases_lt p (at + n)) [
        | inl low ↦ absurd (let yes : is_within at n p ≡ true = grind (arith, nat_tests) in let clash : true ≡ false = sym yes ∙ out in cc)
        | inr past ↦ past
      ] in
      let one : p / 4096 ≡ (at + n - 1) / 4096 = omega (arith, behind, late, here) in
      grind (arith, nat_tests)
]
