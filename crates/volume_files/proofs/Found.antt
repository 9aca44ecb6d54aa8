-- The names of the tables, and their files in the view.
use Rattle.std.specs.Prelude.{◌≡◌, ◌≤◌, ℕ, Bool, true, false, T, ◌&&◌, List, length, nat_le, Option, Some, None, IsSome, refl}
use Rattle.std.proofs.Common.{◌∙◌, ap, sym, subst, leb-true}
use Rattle.std.specs.List.{list_all}
use Rattle.std.specs.Ordering.{nat_cmp}
use Rattle.std.specs.FinMap.Entries.{find, is_sorted}
use Rattle.std.proofs.lemmas.Map.Lookups.{exact_bytes}
use Rattle.vdisk.specs.declared.disk.Disk.{Ghosts}
use Rattle.byte_map.specs.Words.{bytes_cmp}
use Rattle.plain_volume.specs.Volume.{is_lawful, is_lawful_byte}
use Rattle.plain_volume.specs.Files.{RefusesFile}
use Rattle.plain_volume.specs.declared.call.Fault.TheVariants.{BadName, NoFile}
use Rattle.plain_volume.proofs.Own.{file_bad_name, file_missing}
use Rattle.table_records.specs.declared.records.FileRecord.{FileRecord}
use Rattle.table_records.specs.Next.{sorted_typed}
use Rattle.table_records.specs.Tables.{name_codec}
use Rattle.volume_inside.specs.Entries.{each_found}
use Rattle.volume_inside.specs.Rules.{NameHolds, RulesHold}
use Rattle.volume_inside.specs.View.{cells_or_none, view}
use Rattle.volume_inside.proofs.Cells.{length-cells}
use Rattle.volume_inside.proofs.Changed.{view_at_name, view_without_name}
use Rattle.groundwork.proofs.Bools.{first_true, second_true}
use Rattle.volume_inside.proofs.Views.{length-named}
use Rattle.volume_tables.proofs.Answers.{as_true}
use Rattle.volume_tables.specs.Log.{log_now}
use Rattle.volume_tables.specs.Tables.{tables_now, inside_now, view_now, clusters_in}
use Rattle.volume_tables.specs.declared.tables.Tables.{Tables}
use Rattle.volume_files.specs.Found.{IsFileOf}

-- a lawful name has at most 255 bytes
pub lawful_short : (name : List ℕ) → is_lawful name ≡ true → length name ≤ 255
lawful_short name lawful =
    let all : T (is_lawful name) = subst T (sym lawful) tt in
    leb-true (length name) 255 (is_true (nat_le (length name) 255)
    (second_true (nat_le 1 (length name)) (nat_le (length name) 255)
    (first_true (nat_le 1 (length name) && nat_le (length name) 255) (list_all is_lawful_byte name) all)))
  where
    is_true : (b : Bool) → T b → b ≡ true
    is_true true p = refl
    is_true false p = absurd p

module _ {D : Type 0} {d : Ghosts D} (t : Tables D d) where
  -- the names of the tables are in the order of their bytes
  pub names_in_order : T (is_sorted bytes_cmp (tables_now t).names)
  names_in_order = sorted_typed name_codec (log_now t.log) (as_true t.contents.sorted)

  -- the view has as many files as there are names
  pub length_of_view : length (view_now t) ≡ length (tables_now t).names
  unfolding view
  length_of_view = length-named (inside_now t) (tables_now t).names

  pub refuses_bad_name : (name : List ℕ) → is_lawful name ≡ false → RefusesFile (view_now t) name BadName
  refuses_bad_name name unlawful rest = file_bad_name (view_now t) name rest unlawful

  pub refuses_no_file : (name : List ℕ) → is_lawful name ≡ true → find bytes_cmp name (tables_now t).names ≡ None
      → RefusesFile (view_now t) name NoFile
  refuses_no_file name lawful none rest = file_missing (view_now t) name rest lawful (view_without_name (inside_now t) name none)

  module _ (rules : RulesHold (clusters_in t) (tables_now t)) (name : List ℕ) (id : ℕ)
      (found : find bytes_cmp name (tables_now t).names ≡ Some id) where
    -- the file of a name is there
    pub file_is_there : IsSome (find nat_cmp id (tables_now t).files)
    file_is_there = (each_found bytes_cmp exact_bytes (NameHolds (tables_now t).files) name id (tables_now t).names found rules.names.names).names_file

    pub is_file_of : (file : FileRecord) → is_lawful name ≡ true → find nat_cmp id (tables_now t).files ≡ Some file → IsFileOf t name id file
    is_file_of file lawful there = record {
      lawful = lawful;
      named = found;
      there = there;
      cells = view_at_name (inside_now t) name id found;
      long = ap (λ (o : Option FileRecord). length (cells_or_none (inside_now t) id o)) there ∙ length-cells (inside_now t) id file;
    }
