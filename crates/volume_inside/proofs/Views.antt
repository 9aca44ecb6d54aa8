-- How the view follows the names, and that the view of tables that meet the rules is a lawful volume with no lost cell.
use Rattle.std.specs.Prelude.{◌≡◌, ◌≤◌, ◌+◌, ◌/◌, ◌%◌, ℕ, zero, suc, Bool, true, false, cond, ◌&&◌, T, All, List, [], ◌∷◌, map, length, Option, Some, None, refl}
use Rattle.std.proofs.Common.{◌∙◌, ap, sym, subst, arith}
use Rattle.std.specs.declared.cmp.Ordering.TheVariants.{Less, Equal, Greater}
use Rattle.std.specs.Ordering.{nat_cmp, is_lt, eq_by_cmp}
use Rattle.std.specs.Option.{option_map}
use Rattle.std.specs.List.{range_with_len}
use Rattle.std.specs.FinMap.{find, put, is_sorted, nat_cmp-IsAntisymmetric}
use Rattle.std.specs.FinMap.Entries.{by_order, below_all, where_key}
use Rattle.std.proofs.lemmas.List.Elements.{All-nil, All-cons}
use Rattle.plain_volume.specs.Volume.{Cell, Byte, Lost, name_cmp, is_lawful, lost_where, IsLawfulVolume}
use Rattle.plain_volume.specs.declared.limits.TheConstants.{MOST_BYTES_OF_A_FILE}
use Rattle.table_records.specs.Keys.{pair_cmp}
use Rattle.table_records.specs.declared.records.FileRecord.{FileRecord}
use Rattle.volume_inside.specs.Typed.{Typed}
use Rattle.volume_inside.specs.Bases.{uncovered_cell}
use Rattle.volume_inside.specs.Inside.{Inside, inside_at}
use Rattle.volume_inside.specs.View.{cell, cell_in, cells, cells_or_none, file_cells, named_cells, view}
use Rattle.volume_inside.specs.Entries.{Each, each_found}
use Rattle.volume_inside.specs.ChunkRules.{HasNoBase}
use Rattle.volume_inside.specs.Rules.{next_id_of, RulesHold, NameHolds, FileHolds, FilesHold, AreBare}
use Rattle.volume_inside.specs.Laws.{IsWhole}
use Rattle.volume_inside.proofs.Cells.{length-cells}

-- ---- names

module _ (i : Inside) where
  pub find-named : (name : List ℕ) (names : List (List ℕ × ℕ))
      → find name_cmp name (named_cells i names) ≡ option_map (file_cells i) (find name_cmp name names)
  find-named name [] = refl
  find-named name (e ∷ names) =
      elim (eq_by_cmp name_cmp name e.0) as (λ b. cond b (Some (file_cells i e.1)) (find name_cmp name (named_cells i names))
      ≡ option_map (file_cells i) (cond b (Some e.1) (find name_cmp name names))) [
        | true ↦ refl
        | false ↦ find-named name names
      ]

  pub put-named : (name : List ℕ) (id : ℕ) (names : List (List ℕ × ℕ))
      → named_cells i (put name_cmp name id names) ≡ put name_cmp name (file_cells i id) (named_cells i names)
  put-named name id [] = refl
  put-named name id (e ∷ names) =
      elim (name_cmp name e.0) as (λ r. named_cells i (by_order r ((name, id) ∷ e ∷ names) ((e.0, id) ∷ names) (e ∷ put name_cmp name id names))
      ≡ by_order r ((name, file_cells i id) ∷ named_cells i (e ∷ names)) ((e.0, file_cells i id) ∷ named_cells i names)
      ((e.0, file_cells i e.1) ∷ put name_cmp name (file_cells i id) (named_cells i names))) [
        | Less ↦ refl
        | Equal ↦ refl
        | Greater ↦ λ j. (e.0, file_cells i e.1) ∷ put-named name id names j
      ]

  pub where_key-named : (test : List ℕ → Bool) (names : List (List ℕ × ℕ))
      → named_cells i (where_key name_cmp test names) ≡ where_key name_cmp test (named_cells i names)
  where_key-named test [] = refl
  where_key-named test (e ∷ names) =
      elim (test e.0) as (λ b. named_cells i (cond b (e ∷ where_key name_cmp test names) (where_key name_cmp test names))
      ≡ cond b ((e.0, file_cells i e.1) ∷ where_key name_cmp test (named_cells i names)) (where_key name_cmp test (named_cells i names))) [
        | true ↦ λ j. (e.0, file_cells i e.1) ∷ where_key-named test names j
        | false ↦ where_key-named test names
      ]

  below-named : (x : List ℕ) (names : List (List ℕ × ℕ)) → below_all name_cmp x (named_cells i names) ≡ below_all name_cmp x names
  below-named x [] = refl
  below-named x (e ∷ names) = ap (λ (b : Bool). is_lt (name_cmp x e.0) && b) (below-named x names)

  pub sorted-named : (names : List (List ℕ × ℕ)) → is_sorted name_cmp (named_cells i names) ≡ is_sorted name_cmp names
  sorted-named [] = refl
  sorted-named (e ∷ names) = λ j. below-named e.0 names j && sorted-named names j

  pub length-named : (names : List (List ℕ × ℕ)) → length (named_cells i names) ≡ length names
  length-named [] = refl
  length-named (e ∷ names) = ap suc (length-named names)

-- an inside whose files of these names have the same cells
pub named_same : (i j : Inside) (names : List (List ℕ × ℕ)) → Each (λ name id. file_cells j id ≡ file_cells i id) names
    → named_cells j names ≡ named_cells i names
named_same i j [] same = refl
named_same i j (e ∷ names) same = λ k. (e.0, same.0 k) ∷ named_same i j names same.1 k

-- ---- the file of a name

-- what holds of the cells of each file that meets the rules, and of no cells, holds of the cells of any id
of_file : (t : Typed) (image : List ℕ) (P : List Cell → Type 0) → P [] → ((id : ℕ) (file : FileRecord) → FileHolds (next_id_of t) id file
    → P (cells (inside_at t image) id file)) → FilesHold (next_id_of t) t.files → (id : ℕ) → P (file_cells (inside_at t image) id)
of_file t image P none some files id = by (find nat_cmp id t.files) refl
  where
    by : (o : Option FileRecord) → find nat_cmp id t.files ≡ o → P (cells_or_none (inside_at t image) id o)
    by None is = none
    by (Some file) is = some id file (each_found nat_cmp nat_cmp-IsAntisymmetric (FileHolds (next_id_of t)) id file t.files is files)

All-named : (i : Inside) (P : List ℕ × List Cell → Type 0) (names : List (List ℕ × ℕ))
    → Each (λ name id. P (name, file_cells i id)) names → All P (named_cells i names)
All-named i P [] each = All-nil P
All-named i P (e ∷ names) each = All-cons P (e.0, file_cells i e.1) (named_cells i names) each.0 (All-named i P names each.1)

each_of_ids : (i : Inside) (P : List Cell → Type 0) (names : List (List ℕ × ℕ)) → ((id : ℕ) → P (file_cells i id))
    → Each (λ name id. P (file_cells i id)) names
each_of_ids i P [] all = tt
each_of_ids i P (e ∷ names) all = (all e.1, each_of_ids i P names all)

-- the view of tables that meet the rules is a lawful volume
pub view_lawful : (n : ℕ) (t : Typed) (image : List ℕ) → T (is_sorted name_cmp t.names) → RulesHold n t
    → IsLawfulVolume (view (inside_at t image))
unfolding view
view_lawful n t image sorted rules =
    let i = inside_at t image in
    let short : List Cell → Type 0 = λ cs. length cs ≤ MOST_BYTES_OF_A_FILE in
    record {
      rising = subst T (sym (sorted-named i t.names)) sorted;
      lawful = All-named i (λ file. is_lawful file.0 ≡ true) t.names (lawful t.names rules.names.names);
      short = All-named i (λ file. short file.1) t.names
          (each_of_ids i short t.names (of_file t image short (omega arith) (λ id file holds. omega (arith, length-cells i id file, holds.short)) rules.files));
      few = omega (arith, length-named i t.names, rules.names.few);
    }
  where
    lawful : (names : List (List ℕ × ℕ)) → Each (NameHolds t.files) names → Each (λ name id. is_lawful name ≡ true) names
    lawful [] each = tt
    lawful (e ∷ names) each = (each.0.lawful, lawful names each.1)

-- ---- lost cells

is_byte : Cell → Bool
is_byte (Byte b) = true
is_byte Lost = false

none_lost : (f : ℕ → Cell) (a n k : ℕ) (test : ℕ → Bool) → ((p : ℕ) → is_byte (f p) ≡ true)
    → lost_where test k (map f (range_with_len a n)) ≡ None
unfolding is_byte
none_lost f a zero k test bytes = refl
none_lost f a (suc n) k test bytes =
    elim (f a) as (λ c. is_byte c ≡ true → lost_where test k (c ∷ map f (range_with_len (a + 1) n)) ≡ None) [
      | Byte b ↦ λ is. none_lost f (a + 1) n (k + 1) test bytes
      | Lost ↦ λ is. absurd (cc)
    ] (bytes a)

cell_is_byte : (i : Inside) (id : ℕ) (file : FileRecord) (p : ℕ) → file.covers ≡ 0 → is_byte (cell i id file p) ≡ true
unfolding is_byte
cell_is_byte i id file p none =
    ap (λ (c : Cell). is_byte (cell_in (find pair_cmp (id, p / 4096) i.blocks) (p % 4096) c)) (uncovered_cell i.bases file p none)
    ∙ by (find pair_cmp (id, p / 4096) i.blocks)
  where
    by : (o : Option (List ℕ)) → is_byte (cell_in o (p % 4096) (Byte 0)) ≡ true
    by None = refl
    by (Some block) = refl

-- a file without a base has no lost cell
file_whole : (i : Inside) (id : ℕ) (file : FileRecord) → file.covers ≡ 0 → IsWhole (cells i id file)
file_whole i id file none test k = none_lost (cell i id file) 0 file.length k test (λ p. cell_is_byte i id file p none)

-- where no file has a base, no cell is lost
pub view_whole : (t : Typed) (image : List ℕ) → AreBare t.files → All (λ file. IsWhole file.1) (view (inside_at t image))
unfolding view
view_whole t image bare =
    let i = inside_at t image in
    All-named i (λ file. IsWhole file.1) t.names (each_of_ids i IsWhole t.names (λ id. by id (find nat_cmp id t.files) refl))
  where
    by : (id : ℕ) (o : Option FileRecord) → find nat_cmp id t.files ≡ o → IsWhole (cells_or_none (inside_at t image) id o)
    by id None is = λ test k. refl
    by id (Some file) is =
        file_whole (inside_at t image) id file (each_found nat_cmp nat_cmp-IsAntisymmetric HasNoBase id file t.files is bare)
