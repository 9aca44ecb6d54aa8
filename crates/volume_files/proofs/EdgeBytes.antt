-- The blocks at the edges of bytes.
use Rattle.std.specs.Prelude.{◌≡◌, ◌≤◌, ◌<◌, ◌+◌, ◌-◌, ◌*◌, ◌/◌, ◌%◌, ◌==◌, ℕ, Bool, true, false, nat_lt, if◌then◌else◌, List, [], get_or, Option, Some, None, IfSome, refl, cond}
use Rattle.std.proofs.Common.{sym, ◌∙◌, ap, subst, inl, inr, arith, eq-eqb, ltb-true}
use Rattle.std.proofs.lemmas.Bool.{cases_lt}
use Rattle.std.proofs.lemmas.Bool.Decides.{nat_tests}
use Rattle.std.specs.Ordering.{nat_cmp}
use Rattle.std.specs.Option.{option_map}
use Rattle.std.specs.FinMap.{find}
use Rattle.std.proofs.lemmas.List.{get_or_past}
use Rattle.table_records.specs.Keys.{pair_cmp}
use Rattle.table_records.specs.declared.records.Extent.{Extent}
use Rattle.plain_volume.specs.Volume.{Byte, is_beside}
use Rattle.table_records.specs.declared.records.FileRecord.{FileRecord}
use Rattle.volume_inside.specs.Rules.{RulesHold}
use Rattle.volume_inside.specs.Inside.{Inside, inside_at, block_of, blocks_of}
use Rattle.volume_inside.specs.Typed.{Typed}
use Rattle.volume_inside.specs.View.{cell}
use Rattle.volume_files.specs.Insides.{byte_of, stood_at}
use Rattle.volume_files.specs.Reads.{byte_in, byte_at}
use Rattle.volume_files.specs.Writing.{named_bytes, reaching}
use Rattle.volume_files.specs.Edges.{edge_byte, AreEdges, AreEdgesOf}
use Rattle.volume_files.specs.Own.{AreOwnBeside}
use Rattle.volume_files.specs.declared.edges.Edges.{Edges}
use Rattle.volume_files.proofs.Owned.{find-blocks, cell_byte, own_at}
use Rattle.volume_files.proofs.Written.{zero_behind, same_cell}

-- a byte that an extent names is that of the file
pub named_byte : (t : Typed) (image : List ℕ) (id index o : ℕ) (was : Option Extent)
    → was ≡ find pair_cmp (id, index) t.extents → o < 4096
    → get_or (named_bytes was image) o 0 ≡ byte_at (inside_at t image) id (4096 * index + o)
named_byte t image id index o was is low =
    let place : (4096 * index + o) / 4096 ≡ index = omega (arith, low) in
    let rest : (4096 * index + o) % 4096 ≡ o = omega (arith, low) in
    by was
    ∙ ap (λ (x : Option Extent). byte_in (option_map (λ e. block_of e image) x) o) is
    ∙ ap (λ (x : Option (List ℕ)). byte_in x o) (sym (find-blocks (id, index) t.extents image))
    ∙ (λ i. byte_in (find pair_cmp (id, sym place i) (blocks_of t.extents image)) (sym rest i))
  where
    by : (x : Option Extent) → get_or (named_bytes x image) o 0 ≡ byte_in (option_map (λ e. block_of e image) x) o
    by None = get_or_past [] o 0 (omega arith)
    by (Some e) = refl

-- a block that n bytes at a place do not fill is this one
abbrev pub HasEdge : Typed → List ℕ → ℕ → ℕ → ℕ → ℕ → List ℕ → Type 0
HasEdge t image id at n index block =
    ((at ≤ 4096 * index) × (4096 * index + 4096 ≤ at + n) → ⊥) → (o : ℕ) → o < 4096
    → get_or block o 0 ≡ byte_at (inside_at t image) id (4096 * index + o)

module _ (t : Typed) (image : List ℕ) (id at n : ℕ) (edges : Edges)
    (first : HasEdge t image id at n (at / 4096) edges.first)
    (last : HasEdge t image id at n ((at + n - 1) / 4096) edges.last) where
  -- a place beside the bytes lies in a block that they do not fill
  not_filled : (p index : ℕ) → is_beside at n p ≡ true → p / 4096 ≡ index
      → (at ≤ 4096 * index) × (4096 * index + 4096 ≤ at + n) → ⊥
  not_filled p index beside here filled =
      let low : at ≤ p = omega (arith, here, filled.0) in
      let high : p < at + n = omega (arith, here, filled.1) in
      grind (arith, nat_tests)

  -- so the edges have the file's byte there
  edge_is : (p : ℕ) → is_beside at n p ≡ true → edge_byte edges at p ≡ byte_at (inside_at t image) id p
  edge_is p beside = by (p / 4096 == at / 4096) refl
    where
      at_place : (index : ℕ) (block : List ℕ) → p / 4096 ≡ index → HasEdge t image id at n index block
          → get_or block (p % 4096) 0 ≡ byte_at (inside_at t image) id p
      at_place index block here has =
          let place : 4096 * index + p % 4096 ≡ p = omega (arith, here) in
          has (not_filled p index beside here) (p % 4096) (omega arith)
          ∙ ap (λ (x : ℕ). byte_at (inside_at t image) id x) place

      by : (b : Bool) → (p / 4096 == at / 4096) ≡ b
          → cond b (get_or edges.first (p % 4096) 0) (get_or edges.last (p % 4096) 0) ≡ byte_at (inside_at t image) id p
      by true is = at_place (at / 4096) edges.first (grind (arith, nat_tests)) first
      by false is = at_place ((at + n - 1) / 4096) edges.last (grind (arith, nat_tests)) last

  pub edges_read : (m : ℕ) → RulesHold m t → AreOwnBeside t id at n → AreEdges (inside_at t image) id at n edges
  edges_read m rules own = by (find nat_cmp id t.files) refl
    where
      by : (o : Option FileRecord) → find nat_cmp id t.files ≡ o
          → IfSome o (AreEdgesOf (inside_at t image) id at n edges)
      by None is = tt
      by (Some was) found = λ p beside.
          let is = cell_byte (inside_at t image) id p was (own_at t image id was found p (own p beside)) in (
            λ low. is ∙ ap Byte (sym (edge_is p beside)),
            λ past. edge_is p beside ∙ ap byte_of (sym is ∙ zero_behind m t rules id 0 was found image p past),
          )

-- an edge that was read once the tables were read before
pub edge_then : (t u : Typed) (image later : List ℕ) (id at n index : ℕ) (block : List ℕ) → u ≡ t → later ≡ image
    → HasEdge u later id at n index block → HasEdge t image id at n index block
edge_then t u image later id at n index block tables bytes has =
    subst (λ (p : Typed × List ℕ). HasEdge p.0 p.1 id at n index block) (λ i. (tables i, bytes i)) has

-- ---- the byte of the edges

-- a byte of the first block that bytes touch is one of the edges, and so is one of the last
module _ (edges : Edges) (at index o : ℕ) (low : o < 4096) where
  rest : (4096 * index + o) % 4096 ≡ o
  rest = omega (arith, low)

  pub edge_first : index ≡ at / 4096 → get_or edges.first o 0 ≡ edge_byte edges at (4096 * index + o)
  edge_first is =
      let same : (4096 * index + o) / 4096 ≡ at / 4096 = omega (arith, low, is) in
      let test : ((4096 * index + o) / 4096 == at / 4096) ≡ true = eq-eqb _ _ same in
      sym (λ i. if test i then get_or edges.first (rest i) 0 else get_or edges.last (rest i) 0)

  pub edge_last : (index ≡ at / 4096 → ⊥) → get_or edges.last o 0 ≡ edge_byte edges at (4096 * index + o)
  edge_last differ =
      let place : (4096 * index + o) / 4096 ≡ index = omega (arith, low) in
      let test : ((4096 * index + o) / 4096 == at / 4096) ≡ false = grind (arith, nat_tests) in
      sym (λ i. if test i then get_or edges.first (rest i) 0 else get_or edges.last (rest i) 0)

-- it is the byte that stood in the file
pub edge_stood : (i : Inside) (id at n : ℕ) (edges : Edges) (file : FileRecord) → AreEdgesOf i id at n edges file
    → (p : ℕ) → is_beside at n p ≡ true → edge_byte edges at p ≡ stood_at i id file p
edge_stood i id at n edges file are p beside = by (nat_lt p file.length) refl
  where
    by : (b : Bool) → nat_lt p file.length ≡ b
        → edge_byte edges at p ≡ (if b then byte_of (cell i id file p) else 0)
    by true is = ap byte_of (sym ((are p beside).0 (ltb-true p file.length is)))
    by false is = (are p beside).1 (grind (arith, nat_tests))

-- and its cell, also of the longer file
pub edge_cell : (m : ℕ) (t : Typed) → RulesHold m t → (id to : ℕ) (was : FileRecord)
    → find nat_cmp id t.files ≡ Some was → (image : List ℕ) (at n : ℕ) (edges : Edges)
    → AreEdgesOf (inside_at t image) id at n edges was → (p : ℕ) → is_beside at n p ≡ true
    → Byte (edge_byte edges at p) ≡ cell (inside_at t image) id (reaching to was) p
edge_cell m t rules id to was found image at n edges are p beside =
    elim (cases_lt p was.length) [
      | inl low ↦ sym ((are p beside).0 low)
      | inr past ↦ ap Byte ((are p beside).1 past) ∙ sym (zero_behind m t rules id 0 was found image p past)
    ]
    ∙ sym (same_cell m t rules id to was found image p)

-- the edges of a file that is there
pub edges_of : (i : Inside) (id at n : ℕ) (edges : Edges) (was : FileRecord) → find nat_cmp id i.files ≡ Some was
    → AreEdges i id at n edges → AreEdgesOf i id at n edges was
edges_of i id at n edges was found are =
    subst (λ (o : Option FileRecord). IfSome o (AreEdgesOf i id at n edges)) found are
