-- A file that is made, and one that is taken back.
use Rattle.std.specs.Prelude.{◌≡◌, ◌≤◌, ◌<◌, ◌+◌, ℕ, Bool, true, false, cond, not, ◌&&◌, T, List, [], ◌∷◌}
use Rattle.std.specs.Prelude.{length, Option, Some, None, IsSome, IsSomeAnd, Result, Ok, OnOk, OnErr, refl}
use Rattle.std.proofs.Common.{inl, inr, ◌∙◌, ap, sym, subst, arith}
use Rattle.std.proofs.lemmas.Result.{on_ok_weaker, on_err_weaker}
use Rattle.std.specs.declared.cmp.Ordering.{Ordering}
use Rattle.std.specs.declared.cmp.Ordering.TheVariants.{Less, Greater}
use Rattle.std.specs.Ordering.{nat_cmp, is_eq, is_le, is_lt}
use Rattle.std.specs.Cmp.{nat_cmp_total, tied_itself, nat_cmp_is}
use Rattle.std.specs.FinMap.{find, put, is_sorted}
use Rattle.std.specs.FinMap.Entries.{by_order, where_key, find-put}
use Rattle.groundwork.specs.declared.limits.TheConstants.{LAST_ID}
use Rattle.byte_map.specs.Words.{bytes_cmp}
use Rattle.vdisk.specs.declared.disk.Disk.{Ghosts}
use Rattle.cluster_space.specs.States.{free_in, deferred_in}
use Rattle.plain_volume.specs.Step.{plain}
use Rattle.plain_volume.specs.Volume.{Cell, with_file, is_lawful}
use Rattle.plain_volume.specs.declared.call.Call.TheVariants.{Create}
use Rattle.plain_volume.specs.declared.call.Reply.TheVariants as reply
use Rattle.plain_volume.specs.declared.call.Fault.{Fault}
use Rattle.plain_volume.specs.declared.call.Fault.TheVariants.{Exists, TooLarge}
use Rattle.plain_volume.specs.declared.limits.TheConstants.{MOST_FILES}
use Rattle.plain_volume.proofs.Own.{create_exists, create_too_many, create_done}
use Rattle.table_records.specs.Keys.{single_cmp}
use Rattle.table_records.specs.declared.records.VolumeRecord.{VolumeRecord}
use Rattle.table_records.specs.Changes.{is_in_range}
use Rattle.table_records.specs.declared.records.FileRecord.{FileRecord}
use Rattle.volume_inside.specs.ChunkRules.{MapsHold}
use Rattle.volume_inside.specs.Changes.{with_file as file_put, keep_files}
use Rattle.volume_inside.specs.Entries.{Each, each_weaker}
use Rattle.volume_inside.specs.Inside.{Inside, inside_at}
use Rattle.volume_inside.specs.Layout.{data_clusters}
use Rattle.volume_inside.specs.Named.{clusters_of}
use Rattle.volume_inside.specs.Rules.{IsVolumeRecord, NameHolds, FileHolds, id_after, next_id_of, RulesHold}
use Rattle.volume_inside.specs.Typed.{Typed}
use Rattle.volume_inside.specs.View.{cells_or_none, file_cells, view}
use Rattle.volume_inside.proofs.Changed.{OthersSame, view_puts, view_at_name, view_without_name}
use Rattle.volume_inside.proofs.Created.{drawn_id, rules_created}
use Rattle.volume_tables.proofs.Answers.{ok_or_err}
use Rattle.volume_tables.specs.Tables.{tables_now, inside_now, view_now, states_of, disk_of, clusters_in, stopped}
use Rattle.volume_tables.specs.Tables.{Leaves}
use Rattle.volume_tables.specs.declared.tables.Tables.{Tables}
use Rattle.volume_tables.specs.Sound.{IsSound}
use Rattle.volume_tables.specs.Wants.{last_id}
use Rattle.volume_files.specs.Names.{empty_file, with_new, IsNewName, IsRefused}
use Rattle.volume_files.proofs.Found.{names_in_order, length_of_view}
use Rattle.volume_tables.proofs.Mapped.{maps_changed}
use Rattle.volume_files.proofs.FileMaps.{maps_new}

-- ---- the record of a file that was just put, above all others, is dropped

module _ (id : ℕ) (file : FileRecord) where
  lower_kept : (x : ℕ) → x < id → not (is_in_range nat_cmp id (Some (id + 1)) x) ≡ true
  lower_kept x low = ap (λ (r : Ordering). not (is_le r && is_lt (nat_cmp x (id + 1))))
      (sym (nat_cmp_is id x Greater low))

  itself_dropped : not (is_in_range nat_cmp id (Some (id + 1)) id) ≡ false
  itself_dropped =
      ap (λ (r : Ordering). not (is_le r && is_lt (nat_cmp id (id + 1)))) (tied_itself nat_cmp_total id)
      ∙ ap (λ (r : Ordering). not (is_lt r)) (sym (nat_cmp_is id (id + 1) Less (omega arith)))

  taken_back : (files : List (ℕ × FileRecord)) → Each (λ x f. x < id) files
      → where_key nat_cmp (λ x. not (is_in_range nat_cmp id (Some (id + 1)) x)) (put nat_cmp id file files) ≡ files
  taken_back [] low = ap (λ (b : Bool). cond b ((id, file) ∷ []) []) itself_dropped
  taken_back (e ∷ files) low =
      ap (λ (r : Ordering). where_key nat_cmp (λ x. not (is_in_range nat_cmp id (Some (id + 1)) x))
      (by_order r ((id, file) ∷ e ∷ files) ((e.0, file) ∷ files) (e ∷ put nat_cmp id file files)))
      (sym (nat_cmp_is id e.0 Greater low.0))
      ∙ ap (λ (b : Bool). cond b (e ∷ where_key nat_cmp (λ x. not (is_in_range nat_cmp id (Some (id + 1)) x))
      (put nat_cmp id file files))
      (where_key nat_cmp (λ x. not (is_in_range nat_cmp id (Some (id + 1)) x)) (put nat_cmp id file files)))
      (lower_kept e.0 low.0)
      ∙ ap (λ (es : List (ℕ × FileRecord)). e ∷ es) (taken_back files low.1)

module _ (n : ℕ) (t : Typed) (rules : RulesHold n t) where
  -- the tables as they were, once the new record is dropped
  pub file_taken_back : (id : ℕ) (file : FileRecord) → id ≡ next_id_of t
      → keep_files (λ x. not (is_in_range nat_cmp id (Some (id + 1)) x)) (file_put id file t) ≡ t
  file_taken_back id file next =
      ap (λ (files : List (ℕ × FileRecord)). record t { files = files })
      (taken_back id file t.files (subst (λ (k : ℕ). Each (λ x f. x < k) t.files) (sym next)
      (each_weaker (FileHolds (next_id_of t)) (λ x f. x < next_id_of t) t.files (λ x f h. h.drawn) rules.files)))

  -- ---- the view

  module _ (image name : List ℕ) where
    same_cells : (x : ℕ) → x < next_id_of t
        → file_cells (inside_at (with_new name t) image) x ≡ file_cells (inside_at t image) x
    same_cells x low =
        ap (λ (o : Option FileRecord). cells_or_none (inside_at t image) x o)
        (find-put nat_cmp nat_cmp_total x (next_id_of t) empty_file t.files
        ∙ ap (λ (r : Ordering). cond (is_eq r) (Some empty_file) (find nat_cmp x t.files))
        (sym (nat_cmp_is x (next_id_of t) Less low)))

    no_cells : file_cells (inside_at (with_new name t) image) (next_id_of t) ≡ []
    no_cells =
        ap (λ (o : Option FileRecord). cells_or_none (inside_at t image) (next_id_of t) o)
        (find-put nat_cmp nat_cmp_total (next_id_of t) (next_id_of t) empty_file t.files
        ∙ ap (λ (r : Ordering). cond (is_eq r) (Some empty_file) (find nat_cmp (next_id_of t) t.files))
        (tied_itself nat_cmp_total (next_id_of t)))

    others : (names : List (List ℕ × ℕ)) → Each (NameHolds t.files) names
        → OthersSame (inside_at t image) (inside_at (with_new name t) image) name names
    others [] each = tt
    others (e ∷ names) each = (
      λ differ.
          same_cells e.1 (drawn_id (next_id_of t) e.1 t.files rules.files each.0.names_file),
      others names each.1,
    )

    -- THE NEW FILE has no cells, and the others have theirs
    pub view_with_new : T (is_sorted bytes_cmp t.names)
        → view (inside_at (with_new name t) image) ≡ with_file name [] (view (inside_at t image))
    view_with_new sorted =
        view_puts (inside_at t image) (inside_at (with_new name t) image) name (next_id_of t) refl sorted
        (others t.names rules.names.names)
        ∙ ap (λ (cs : List Cell). with_file name cs (view (inside_at t image))) no_cells

-- ---- the rules

volume_there : (o : Option VolumeRecord) → IsSomeAnd o IsVolumeRecord
    → o ≡ Some (record { version = 1; next_id = id_after o })
volume_there None some = absurd some
volume_there (Some v) some = λ i. Some (record { version = some.version i; next_id = v.next_id })

last_below : (o : Option VolumeRecord) → IsSomeAnd o IsVolumeRecord → (id_after o ≡ last_id → ⊥)
    → id_after o < LAST_ID
last_below None some differ = absurd some
last_below (Some v) some differ = let last = some.last_id in omega (arith, last, differ)

pub rules_with_new : (n : ℕ) (t : Typed) (name : List ℕ) → RulesHold n t → T (is_sorted bytes_cmp t.names)
    → IsNewName t name
    → (next_id_of t ≡ last_id → ⊥) → RulesHold n (with_new name t)
rules_with_new n t name rules sorted new ids =
    rules_created n t rules (record { version = 1; next_id = next_id_of t })
    (volume_there (find single_cmp tt t.volume) rules.records.volume)
    name empty_file new.lawful new.free sorted new.few
    (last_below (find single_cmp tt t.volume) rules.records.volume ids) (omega arith) refl refl

-- ---- the plain machine

module _ {D : Type 0} {d : Ghosts D} (t : Tables D d) (name : List ℕ) where
  pub refused_taken : is_lawful name ≡ true → IsSome (find bytes_cmp name (tables_now t).names)
      → IsRefused (view_now t) (Create name) Exists
  refused_taken lawful there = by (find bytes_cmp name (tables_now t).names) refl there
    where
      by : (o : Option ℕ) → find bytes_cmp name (tables_now t).names ≡ o → IsSome o
          → IsRefused (view_now t) (Create name) Exists
      by None is some = absurd (cc)
      by (Some id) is some = record {
        plainly = create_exists (view_now t) name (file_cells (inside_now t) id) lawful
            (view_at_name (inside_now t) name id is);
        early = refl;
      }

  pub refused_many : is_lawful name ≡ true → find bytes_cmp name (tables_now t).names ≡ None
      → MOST_FILES ≤ length (tables_now t).names
      → IsRefused (view_now t) (Create name) (TooLarge MOST_FILES)
  refused_many lawful free many = record {
    plainly = create_too_many (view_now t) name lawful (view_without_name (inside_now t) name free)
        (subst (λ (n : ℕ). MOST_FILES ≤ n) (sym (length_of_view t)) many);
    early = refl;
  }

  pub answered_new : IsNewName (tables_now t) name
      → plain (view_now t) (Create name) ≡ Ok (reply.Done, with_file name [] (view_now t))
  answered_new new =
      create_done (view_now t) name new.lawful (view_without_name (inside_now t) name new.free)
      (subst (λ (n : ℕ). n < MOST_FILES) (sym (length_of_view t)) new.few)

-- ---- once room was made, and the file was put or not

module _ {D : Type 0} {d : Ghosts D} (t m p : Tables D d) (name : List ℕ) (new : IsNewName (tables_now t) name)
    (now : tables_now m ≡ tables_now t) (inside : inside_now m ≡ inside_now t) (sound : IsSound m)
    (ids : next_id_of (tables_now m) ≡ last_id → ⊥) (leaves : Leaves m p) (states : states_of p ≡ states_of m)
    (image : (disk_of p).image ≡ (disk_of m).image) (running : stopped p ≡ stopped m) (r : Result (Unit {0}) Fault)
    (ok : OnOk r (tables_now p ≡ with_new name (tables_now m))) (err : OnErr r (tables_now p ≡ tables_now m)) where
  pub view_made : OnOk r (view_now p ≡ with_file name [] (view_now t))
  view_made = on_ok_weaker r (λ is. (λ i. view (inside_at (is i) (image i)))
      ∙ view_with_new (clusters_in m) (tables_now m) sound.rules (disk_of m).image name (names_in_order m)
      ∙ ap (λ (j : Inside). with_file name [] (view j)) inside) ok

  pub view_unmade : OnErr r (view_now p ≡ view_now t)
  view_unmade = on_err_weaker r (λ is. (λ i. view (inside_at (is i) (image i))) ∙ ap (λ (j : Inside). view j) inside)
      err

  sound_as : (q : Typed) → tables_now p ≡ q → RulesHold (clusters_in m) q → clusters_of q ≡ clusters_of (tables_now m)
      → (MapsHold (inside_now m) → MapsHold (inside_at q (disk_of m).image)) → IsSound p
  sound_as q is held clusters stay =
      let rules : RulesHold (clusters_in p) (tables_now p) =
      subst (λ (x : ℕ × Typed). RulesHold x.0 x.1) (λ i. (sym leaves.clusters i, sym is i)) held in
      record {
        rules = rules;
        maps = maps_changed m p q leaves.tells is image stay sound.maps;
        counted = λ runs.
            let named : clusters_of (tables_now p) ≡ clusters_of (tables_now m) = ap (λ (x : Typed). clusters_of x) is
            ∙ clusters in
            (λ i. free_in (states i) + deferred_in (states i) + length (named i))
            ∙ sound.counted (sym running ∙ runs) ∙ ap (λ (k : ℕ). data_clusters k) (sym leaves.clusters);
      }

  pub sound_made : IsSound p
  sound_made = elim (ok_or_err r ok err) [
    | inl is ↦ sound_as (with_new name (tables_now m)) is
        (rules_with_new (clusters_in m) (tables_now m) name sound.rules (names_in_order m)
        (subst (λ (q : Typed). IsNewName q name) (sym now) new) ids) refl
        (λ maps. maps_new (tables_now m) (disk_of m).image maps name)
    | inr is ↦ sound_as (tables_now m) is sound.rules refl (λ maps. maps)
  ]
