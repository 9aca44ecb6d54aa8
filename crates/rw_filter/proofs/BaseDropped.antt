-- A base that no cell comes from is dropped.
use Rattle.std.specs.Prelude.{◌≡◌, ◌≤◌, ◌+◌, ◌*◌, ℕ, Bool, cond, List, map, Option, Some, refl}
use Rattle.std.proofs.Common.{sym, ◌∙◌, ap, subst, inl, inr, arith}
use Rattle.std.specs.List.{range_with_len}
use Rattle.std.specs.Ordering.{nat_cmp}
use Rattle.std.specs.Cmp.{nat_cmp_total, unsigned_tied}
use Rattle.std.specs.FinMap.{find}
use Rattle.std.specs.FinMap.Entries.{find-put}
use Rattle.std.proofs.lemmas.Bool.{cases_eq, ne_eqb}
use Rattle.std.proofs.lemmas.Map.Lookups.{exact_unsigned}
use Rattle.table_records.specs.declared.records.FileRecord.{FileRecord}
use Rattle.volume_inside.specs.Changes.{with_file}
use Rattle.volume_inside.specs.Entries.{each_found, each_weaker}
use Rattle.volume_inside.specs.Inside.{inside_at}
use Rattle.volume_inside.specs.Rules.{next_id_of, FileHolds, ExtentHolds, LiesIn, RulesHold}
use Rattle.volume_inside.specs.Typed.{Typed}
use Rattle.volume_inside.specs.View.{cell, cells_or_none, file_cells, view}
use Rattle.volume_inside.proofs.Joined.{view_by_cells}
use Rattle.volume_inside.proofs.Lawfuls.{rules_with_file}
use Rattle.volume_files.specs.Own.{IsOwn}
use Rattle.volume_files.proofs.BlockSet.{found_file}
use Rattle.volume_files.proofs.Owned.{cell_byte, own_at}
use Rattle.rw_filter.specs.Own.{without_base}

module _ (n : ℕ) (t : Typed) (image : List ℕ) (rules : RulesHold n t) (id : ℕ) (was : FileRecord)
    (found : find nat_cmp id t.files ≡ Some was) where
  abbrev dropped : Typed
  dropped = with_file id (without_base was) t

  pub rules_dropped : RulesHold n dropped
  rules_dropped =
      let holds = each_found nat_cmp exact_unsigned (FileHolds (next_id_of t)) id was t.files found rules.files in
      rules_with_file n t rules id was (without_base was) found
      (record {
        some_id = holds.some_id;
        drawn = holds.drawn;
        short = holds.short;
        cover = record { within = omega arith; no_map = λ none. refl; no_cover = λ none. refl };
      })
      (λ some. absurd (some refl))
      (each_weaker (ExtentHolds n t.files) (λ k e. k.0 ≡ id → 4096 * k.1 + e.valid ≤ was.length) t.extents
      (λ k e one same. subst (λ (o : Option FileRecord). LiesIn k e o)
      (ap (λ (x : ℕ). find nat_cmp x t.files) same ∙ found) one.in_file) rules.extents)

  module _ (own : (p : ℕ) → IsOwn t id p) where
    same_cell : (p : ℕ) → cell (inside_at dropped image) id (without_base was) p ≡ cell (inside_at t image) id was p
    same_cell p =
        cell_byte (inside_at dropped image) id p (without_base was) (λ low. absurd (omega (arith, low)))
        ∙ sym (cell_byte (inside_at t image) id p was (own_at t image id was found p (own p)))

    mine : file_cells (inside_at dropped image) id ≡ file_cells (inside_at t image) id
    mine =
        ap (λ (o : Option FileRecord). cells_or_none (inside_at dropped image) id o)
        (found_file id (without_base was) t.files)
        ∙ (λ k. map (λ (p : ℕ). same_cell p k) (range_with_len 0 was.length))
        ∙ sym (ap (λ (o : Option FileRecord). cells_or_none (inside_at t image) id o) found)

    pub view_dropped : view (inside_at dropped image) ≡ view (inside_at t image)
    view_dropped = view_by_cells (inside_at t image) (inside_at dropped image) refl
        (λ x. elim (cases_eq x id) [
          | inl same ↦
              ap (λ (y : ℕ). file_cells (inside_at dropped image) y) same ∙ mine
              ∙ ap (λ (y : ℕ). file_cells (inside_at t image) y) (sym same)
          | inr differ ↦ ap (λ (o : Option FileRecord). cells_or_none (inside_at t image) x o)
              (find-put nat_cmp nat_cmp_total x id (without_base was) t.files
              ∙ ap (λ (b : Bool). cond b (Some (without_base was)) (find nat_cmp x t.files))
              (unsigned_tied x id ∙ ne_eqb x id differ))
        ])
