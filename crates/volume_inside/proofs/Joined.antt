-- What keeps the view: the same chunks, a block that is recalled, and a base whose pieces spell the cells of its file.
use Rattle.std.specs.Prelude.{◌≡◌, ◌<◌, ◌/◌, ◌%◌, ℕ, Bool, true, false, List, [], ◌∷◌, map, get_or, Option, Some, None}
use Rattle.std.specs.Prelude.{IsSome, ◌==◌, ◌&&◌, if◌then◌else◌, refl}
use Rattle.std.proofs.Common.{◌∙◌, ap, sym, subst, inl, inr, arith, eqb-true}
use Rattle.std.specs.List.{range_with_len}
use Rattle.std.specs.Ordering.{nat_cmp}
use Rattle.std.specs.FinMap.{find, nat_cmp-IsAntisymmetric}
use Rattle.std.proofs.lemmas.Bool.{cases_eq}
use Rattle.plain_volume.specs.Volume.{Byte}
use Rattle.table_records.specs.Keys.{pair_cmp}
use Rattle.table_records.specs.declared.records.FileRecord.{FileRecord}
use Rattle.volume_inside.specs.Entries.{Each, each_found}
use Rattle.volume_inside.specs.Chunks.{chunk}
use Rattle.volume_inside.specs.Bases.{base_cell}
use Rattle.volume_inside.specs.Inside.{Inside}
use Rattle.volume_inside.specs.Changes.{with_block}
use Rattle.volume_inside.specs.View.{cell, cell_in, cells_or_none, file_cells, named_cells, view}
use Rattle.volume_inside.specs.ChunkRules.{MapRowHolds, BaseHolds, MapsHold}
use Rattle.volume_inside.specs.Joins.{HasCover, IsJoined}
use Rattle.volume_inside.proofs.Cells.{map_same}
use Rattle.volume_inside.proofs.Blocks.{cell-with_block}
use Rattle.volume_inside.proofs.BaseCovered.{base_same}

-- with the same names and the same cells under each id the view is the same
pub view_by_cells : (i j : Inside) → j.names ≡ i.names → ((id : ℕ) → file_cells j id ≡ file_cells i id) → view j ≡ view i
unfolding view
view_by_cells i j names same = ap (λ (ns : List (List ℕ × ℕ)). named_cells j ns) names ∙ all i.names
  where
    all : (ns : List (List ℕ × ℕ)) → named_cells j ns ≡ named_cells i ns
    all [] = refl
    all (e ∷ ns) = λ k. (e.0, same e.1 k) ∷ all ns k

-- THE SAME CHUNKS: where each row that is there reads as it did, so does the volume
pub view_by_chunks : (i j : Inside) → j.names ≡ i.names → j.files ≡ i.files → j.blocks ≡ i.blocks
    → ((id : ℕ) → IsSome (find nat_cmp id i.bases.rows) → chunk j.bases id ≡ chunk i.bases id)
    → Each (MapRowHolds i.bases.rows) i.files → Each HasCover i.files → MapsHold i → view j ≡ view i
view_by_chunks i j names files blocks chunks map_rows covers maps = view_by_cells i j names one
  where
    of_file : (id : ℕ) (o : Option FileRecord) → find nat_cmp id i.files ≡ o → cells_or_none j id o ≡ cells_or_none i id o
    of_file id None is = refl
    of_file id (Some file) is =
        let rule = each_found nat_cmp nat_cmp-IsAntisymmetric (MapRowHolds i.bases.rows) id file i.files is map_rows in
        let cover = each_found nat_cmp nat_cmp-IsAntisymmetric HasCover id file i.files is covers in
        let base = each_found nat_cmp nat_cmp-IsAntisymmetric (BaseHolds i.bases) id file i.files is maps in
        map_same (cell j id file) (cell i id file) 0 file.length
        (λ p low high. λ k. cell_in (find pair_cmp (id, p / 4096) (blocks k)) (p % 4096)
        (base_same i.bases j.bases chunks id file p rule cover base k))

    one : (id : ℕ) → file_cells j id ≡ file_cells i id
    one id =
        ap (λ (fs : List (ℕ × FileRecord)). cells_or_none j id (find nat_cmp id fs)) files
        ∙ of_file id (find nat_cmp id i.files) refl

-- A RECALL: a block that holds the cells that stood there keeps the view
pub view_recalled : (i : Inside) (id n : ℕ) (bytes : List ℕ)
    → ((file : FileRecord) (p : ℕ) → find nat_cmp id i.files ≡ Some file → p < file.length → p / 4096 ≡ n
    → cell i id file p ≡ Byte (get_or bytes (p % 4096) 0))
    → view (with_block (id, n) bytes i) ≡ view i
view_recalled i id n bytes same = view_by_cells i (with_block (id, n) bytes i) refl (λ x. of_file x (find nat_cmp x i.files) refl)
  where
    both : (a b : Bool) → (a && b) ≡ true → (a ≡ true) × (b ≡ true)
    both true b is = (refl, is)
    both false b is = absurd (cc)

    one : (x p : ℕ) (file : FileRecord) → find nat_cmp x i.files ≡ Some file → p < file.length
        → (t : Bool) → ((x == id) && (p / 4096 == n)) ≡ t
        → (if t then Byte (get_or bytes (p % 4096) 0) else cell i x file p) ≡ cell i x file p
    one x p file there low true is =
        let parts = both (x == id) (p / 4096 == n) is in
        let mine : x ≡ id = eqb-true x id parts.0 in
        let there_too = subst (λ (y : ℕ). find nat_cmp y i.files ≡ Some file) mine there in
        let here = same file p there_too low (eqb-true (p / 4096) n parts.1) in
        sym here ∙ ap (λ (y : ℕ). cell i y file p) (sym mine)
    one x p file there low false is = refl

    of_file : (x : ℕ) (o : Option FileRecord) → find nat_cmp x i.files ≡ o
        → cells_or_none (with_block (id, n) bytes i) x o ≡ cells_or_none i x o
    of_file x None is = refl
    of_file x (Some file) is =
        map_same (cell (with_block (id, n) bytes i) x file) (cell i x file) 0 file.length
        (λ p low high. cell-with_block i id n bytes x p file
        ∙ one x p file is (omega (arith, high)) ((x == id) && (p / 4096 == n)) refl)

-- A BASE: where its pieces spell the cells of the file, the view is the same
pub view_joined : (i j : Inside) (id : ℕ) (was file : FileRecord) → IsJoined i j id was file → view j ≡ view i
view_joined i j id was file joined =
    view_by_cells i j joined.names (λ x. elim (cases_eq x id) [
      | inl same ↦ ap (λ (y : ℕ). file_cells j y) same ∙ mine ∙ ap (λ (y : ℕ). file_cells i y) (sym same)
      | inr differ ↦ joined.others x differ
    ])
  where
    mine : file_cells j id ≡ file_cells i id
    mine =
        ap (λ (o : Option FileRecord). cells_or_none j id o) joined.now
        ∙ ap (λ (n : ℕ). map (cell j id file) (range_with_len 0 n)) joined.length
        ∙ map_same (cell j id file) (cell i id was) 0 was.length
        (λ p low high. ap (λ (o : Option (List ℕ)). cell_in o (p % 4096) (base_cell j.bases file p)) (joined.no_blocks (p / 4096))
        ∙ joined.spells p (omega (arith, high)))
        ∙ ap (λ (o : Option FileRecord). cells_or_none i id o) (sym joined.there)
