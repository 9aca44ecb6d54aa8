-- A file that is deleted.
use Rattle.std.specs.Prelude.{◌≡◌, ◌<◌, ◌+◌, ◌*◌, ◌/◌, ◌%◌, ℕ, Bool, true, false, cond, not, ◌&&◌, ◌==◌, T, List}
use Rattle.std.specs.Prelude.{map, Option, Some, None, Ok, refl}
use Rattle.std.proofs.Common.{◌∙◌, ap, sym, subst, arith, eq-eqb, ne_eqb, le-leb}
use Rattle.std.specs.declared.cmp.Ordering.{Ordering}
use Rattle.std.specs.declared.cmp.Ordering.TheVariants.{Less, Equal, Greater}
use Rattle.std.specs.Ordering.{nat_cmp, is_le, is_lt, MatchOrdering}
use Rattle.std.specs.Cmp.{ranks, nat_cmp_is}
use Rattle.std.specs.List.{range_with_len}
use Rattle.std.specs.FinMap.{find, is_sorted, nat_cmp-IsAntisymmetric}
use Rattle.std.specs.FinMap.Entries.{where_key, find-where_key}
use Rattle.std.proofs.lemmas.Map.Lookups.{exact_pairs, exact_unsigned}
use Rattle.vdisk.specs.declared.disk.Disk.{Ghosts}
use Rattle.byte_map.specs.Words.{bytes_cmp}
use Rattle.plain_volume.specs.Step.{Outcome, plain, after, left_by, delete}
use Rattle.plain_volume.specs.Volume.{without_file}
use Rattle.plain_volume.specs.declared.call.Call.TheVariants.{Delete}
use Rattle.plain_volume.specs.declared.call.Reply.TheVariants as reply
use Rattle.plain_volume.proofs.Own.{file_found}
use Rattle.table_records.specs.Changes.{is_in_range}
use Rattle.table_records.specs.Keys.{pair_cmp}
use Rattle.table_records.specs.declared.records.FileRecord.{FileRecord}
use Rattle.volume_inside.specs.Bases.{base_cell}
use Rattle.volume_inside.specs.Changes.{DropsOnly}
use Rattle.volume_inside.specs.Entries.{each_weaker}
use Rattle.volume_inside.specs.Inside.{Inside, inside_at}
use Rattle.volume_inside.specs.Layout.{data_clusters}
use Rattle.volume_inside.specs.Rules.{RulesHold}
use Rattle.volume_inside.specs.Typed.{Typed, FileBlock}
use Rattle.volume_inside.specs.View.{cell_in, cells_or_none, file_cells, view}
use Rattle.volume_inside.proofs.Blocks.{blocks-where_key}
use Rattle.volume_inside.proofs.Changed.{view_keeps}
use Rattle.volume_inside.proofs.Names.{other_names}
use Rattle.volume_inside.proofs.Removed.{rules_deleted}
use Rattle.volume_tables.specs.Tables.{tables_now, inside_now, view_now, disk_of, clusters_in}
use Rattle.volume_tables.specs.declared.tables.Tables.{Tables}
use Rattle.volume_tables.specs.Sound.{IsSound}
use Rattle.volume_tables.specs.Stages.{Stages}
use Rattle.volume_files.specs.Found.{IsFileOf}
use Rattle.volume_files.specs.Names.{is_other, without_name}
use Rattle.volume_files.proofs.CutExtents.{range_is_behind}
use Rattle.volume_files.proofs.Found.{names_in_order}
use Rattle.volume_files.proofs.OneName.{only_name}
use Rattle.volume_tables.proofs.Mapped.{maps_changed}
use Rattle.volume_files.proofs.FileMaps.{maps_gone}

-- ---- tests

pub only_file : (id : ℕ) → DropsOnly (λ x. x ≡ id) (λ x. not (x == id))
only_file id = record {
  drops = λ x same. ap not (eq-eqb x id same);
  keeps = λ x differ. ap not (ne_eqb x id differ);
}

pub only_blocks : (id : ℕ) → DropsOnly (λ (k : FileBlock). k.0 ≡ id) (λ k. not (k.0 == id))
only_blocks id = record {
  drops = λ k same. ap not (eq-eqb k.0 id same);
  keeps = λ k differ. ap not (ne_eqb k.0 id differ);
}

-- the range of one id
pub file_range : (id x : ℕ) → is_in_range nat_cmp id (Some (id + 1)) x ≡ (x == id)
file_range id x = by (nat_cmp id x) (ranks id x)
  where
    by : (r : Ordering) → MatchOrdering r (id < x) (id ≡ x) (x < id)
        → (is_le r && is_lt (nat_cmp x (id + 1))) ≡ (x == id)
    by Less h = not_under (nat_cmp x (id + 1)) (ranks x (id + 1)) ∙ sym (ne_eqb x id (λ same. omega (arith, h, same)))
      where
        not_under : (s : Ordering) → MatchOrdering s (x < id + 1) (x ≡ id + 1) (id + 1 < x) → is_lt s ≡ false
        not_under Less under = absurd (omega (arith, h, under))
        not_under Equal under = refl
        not_under Greater under = refl
    by Equal h = ap is_lt (sym (nat_cmp_is x (id + 1) Less (omega (arith, h)))) ∙ sym (eq-eqb x id (sym h))
    by Greater h = sym (ne_eqb x id (λ same. omega (arith, h, same)))

and_true : (b : Bool) → (b && true) ≡ b
and_true true = refl
and_true false = refl

-- the range of the blocks of a file
pub block_range : (id : ℕ) (k : FileBlock) → is_in_range pair_cmp (id, 0) (Some (id + 1, 0)) k ≡ (k.0 == id)
block_range id k =
    range_is_behind id 0 k ∙ ap (λ (b : Bool). (k.0 == id) && b) (le-leb 0 (4096 * k.1) (omega arith))
    ∙ and_true (k.0 == id)

-- ---- the view

module _ (n : ℕ) (t : Typed) (rules : RulesHold n t) (image name : List ℕ) (id : ℕ)
    (sorted : T (is_sorted bytes_cmp t.names))
    (found : find bytes_cmp name t.names ≡ Some id) where
  -- the other files are there
  other_there : (x : ℕ) → (x ≡ id → ⊥)
      → find nat_cmp x (where_key nat_cmp (λ y. not (y == id)) t.files) ≡ find nat_cmp x t.files
  other_there x differ =
      find-where_key nat_cmp (λ y. not (y == id)) x
      (λ y tied. ap (λ (z : ℕ). not (z == id)) (sym (nat_cmp-IsAntisymmetric x y tied))) t.files
      ∙ ap (λ (b : Bool). cond b (find nat_cmp x t.files) None) ((only_file id).keeps x differ)

  -- and so are their blocks
  other_blocks : (x : ℕ) → (x ≡ id → ⊥) → (q : ℕ)
      → find pair_cmp (x, q) (inside_at (without_name name id t) image).blocks ≡ find pair_cmp (x, q)
      (inside_at t image).blocks
  other_blocks x differ q =
      ap (λ (es : List (FileBlock × List ℕ)). find pair_cmp (x, q) es)
      (blocks-where_key (λ k. not (k.0 == id)) t.extents image)
      ∙ find-where_key pair_cmp (λ k. not (k.0 == id)) (x, q)
      (λ y tied. ap (λ (z : FileBlock). not (z.0 == id))
      (sym (exact_pairs nat_cmp nat_cmp exact_unsigned exact_unsigned (x, q) y tied))) (inside_at t image).blocks
      ∙ ap (λ (b : Bool). cond b (find pair_cmp (x, q) (inside_at t image).blocks) None)
      ((only_blocks id).keeps (x, q) differ)

  other_cells : (x : ℕ) → (x ≡ id → ⊥)
      → file_cells (inside_at (without_name name id t) image) x ≡ file_cells (inside_at t image) x
  other_cells x differ =
      ap (λ (o : Option FileRecord). cells_or_none (inside_at (without_name name id t) image) x o)
      (other_there x differ)
      ∙ same (find nat_cmp x t.files)
    where
      same : (o : Option FileRecord) → cells_or_none (inside_at (without_name name id t) image) x o ≡ cells_or_none
          (inside_at t image) x o
      same None = refl
      same (Some file) = λ i. map (λ p. cell_in (other_blocks x differ (p / 4096) i) (p % 4096)
          (base_cell (inside_at t image).bases file p))
          (range_with_len 0 file.length)

  -- THE FILE THAT GOES is seen no more, and the others have their cells
  pub view_gone : view (inside_at (without_name name id t) image) ≡ without_file name (view (inside_at t image))
  view_gone =
      view_keeps (inside_at t image) (inside_at (without_name name id t) image) (is_other name) refl
      (each_weaker (λ other x. (other ≡ name → ⊥) → x ≡ id → ⊥)
      (λ other x. is_other name other ≡ true
      → file_cells (inside_at (without_name name id t) image) x ≡ file_cells (inside_at t image) x)
      t.names (λ other x alone kept. other_cells x (alone (λ same. clash ((only_name name).drops other same) kept)))
      (other_names n t name id rules found))
    where
      clash : {b : Bool} → b ≡ false → b ≡ true → ⊥
      clash one two = let both : false ≡ true = sym one ∙ two in cc

-- ---- once room was made, and the file was dropped

module _ {D : Type 0} {d : Ghosts D} (t m s : Tables D d) (name : List ℕ) (id : ℕ) (file : FileRecord)
    (is : IsFileOf t name id file)
    (now : tables_now m ≡ tables_now t) (inside : inside_now m ≡ inside_now t) (sound : IsSound m) (bytes : ℕ)
    (staged : Stages bytes m s)
    (changed : tables_now s ≡ without_name name id (tables_now m)) where
  named : find bytes_cmp name (tables_now m).names ≡ Some id
  named = ap (λ (q : Typed). find bytes_cmp name q.names) now ∙ is.named

  pub answered_gone : plain (view_now t) (Delete name) ≡ Ok (reply.Done, without_file name (view_now t))
  answered_gone = file_found (view_now t) name (delete name (view_now t))
      (file_cells (inside_now t) id) is.lawful is.cells

  pub view_left_gone : view_now s ≡ after (view_now t) (Delete name) reply.Done
  view_left_gone =
      (λ i. view (inside_at (changed i) (staged.image i)))
      ∙ view_gone (clusters_in m) (tables_now m) sound.rules (disk_of m).image name id (names_in_order m) named
      ∙ ap (λ (i : Inside). without_file name (view i)) inside
      ∙ sym (ap (λ (o : Outcome). left_by o (view_now t) reply.Done) answered_gone)

  pub sound_gone : IsSound s
  sound_gone =
      let rules : RulesHold (clusters_in s) (tables_now s) =
      subst (λ (p : ℕ × Typed). RulesHold p.0 p.1) (λ i. (sym staged.leaves.clusters i, sym changed i))
      (rules_deleted (clusters_in m) (tables_now m) sound.rules name id (names_in_order m) named (is_other name)
      (λ x. not (x == id)) (λ k. not (k.0 == id))
      (only_name name) (only_file id) (only_blocks id)) in
      record {
        rules = rules;
        maps = maps_changed m s (without_name name id (tables_now m)) staged.leaves.tells changed staged.image
            (λ maps. maps_gone (tables_now m) (disk_of m).image maps name id) sound.maps;
        counted = λ run. staged.counts ∙ sound.counted (sym staged.running ∙ run)
            ∙ ap (λ (k : ℕ). data_clusters k) (sym staged.leaves.clusters);
      }
