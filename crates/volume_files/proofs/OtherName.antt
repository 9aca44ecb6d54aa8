-- A file that gets another name.
use Rattle.std.specs.Prelude.{◌≡◌, ℕ, Bool, true, false, cond, T, List, [], ◌∷◌, Option, Some, None, IsSome}
use Rattle.std.specs.Prelude.{Result, Ok, OnOk, OnErr, refl}
use Rattle.std.proofs.Common.{inl, inr, ◌∙◌, ap, sym, subst}
use Rattle.std.proofs.lemmas.Result.{on_ok_weaker, on_err_weaker}
use Rattle.std.specs.declared.cmp.Ordering.{Ordering}
use Rattle.std.specs.declared.cmp.Ordering.TheVariants.{Less, Equal, Greater}
use Rattle.std.specs.Ordering.{is_lt}
use Rattle.std.specs.Cmp.Lexicographic.{nat_list_cmp_total}
use Rattle.std.specs.FinMap.{find, put, is_sorted}
use Rattle.std.specs.FinMap.Entries.{by_order, where_key, below_all}
use Rattle.std.proofs.lemmas.Map.Lookups.{exact_bytes}
use Rattle.vdisk.specs.declared.disk.Disk.{Ghosts}
use Rattle.byte_map.specs.Words.{bytes_cmp}
use Rattle.plain_volume.specs.Step.{plain}
use Rattle.plain_volume.specs.Volume.{Volume, name_cmp, with_file, without_file, is_lawful}
use Rattle.plain_volume.specs.declared.call.Call.TheVariants.{Rename}
use Rattle.plain_volume.specs.declared.call.Reply.TheVariants as reply
use Rattle.plain_volume.specs.declared.call.Fault.{Fault}
use Rattle.plain_volume.specs.declared.call.Fault.TheVariants.{BadName, NoFile, Exists}
use Rattle.plain_volume.proofs.Own.{rename_bad_to, rename_missing, rename_exists, rename_done}
use Rattle.volume_inside.specs.ChunkRules.{MapsHold}
use Rattle.volume_inside.specs.Entries.{Each}
use Rattle.volume_inside.specs.Changes.{with_name}
use Rattle.volume_inside.specs.Inside.{Inside, inside_at}
use Rattle.volume_inside.specs.Layout.{data_clusters}
use Rattle.volume_inside.specs.Rules.{RulesHold}
use Rattle.volume_inside.specs.Typed.{Typed}
use Rattle.volume_inside.specs.View.{file_cells, view}
use Rattle.volume_inside.proofs.Changed.{OthersSame, view_keeps, view_puts, view_at_name}
use Rattle.groundwork.proofs.Bools.{first_true, second_true}
use Rattle.volume_inside.proofs.Changed.{view_without_name}
use Rattle.volume_inside.proofs.Removed.{rules_renamed}
use Rattle.volume_inside.proofs.Views.{sorted-named}
use Rattle.volume_tables.proofs.Answers.{ok_or_err}
use Rattle.volume_tables.specs.Tables.{tables_now, inside_now, view_now, disk_of, clusters_in}
use Rattle.volume_tables.specs.declared.tables.Tables.{Tables}
use Rattle.volume_tables.specs.Sound.{IsSound}
use Rattle.volume_tables.specs.Stages.{Stages}
use Rattle.volume_files.specs.Names.{is_other, with_renamed, IsRenaming, IsRefused}
use Rattle.volume_files.proofs.Found.{names_in_order}
use Rattle.volume_files.proofs.OneName.{only_name}
use Rattle.groundwork.proofs.Bools.{both_true}
use Rattle.groundwork.proofs.Orders.{is_less}
use Rattle.volume_tables.proofs.Mapped.{maps_changed}

-- ---- a name is put, and another one dropped, in any order

module _ {X : Type 0} (test : List ℕ → Bool) (to : List ℕ) (x : X) (kept : test to ≡ true) where
  put_below : (es : List (List ℕ × X)) → T (below_all bytes_cmp to es)
      → put bytes_cmp to x (where_key bytes_cmp test es) ≡ (to, x) ∷ where_key bytes_cmp test es
  put_below [] low = refl
  put_below (e ∷ es) low = by (test e.0) (put_below es (second_true (is_lt (bytes_cmp to e.0)) _ low))
    where
      by : (b : Bool) → put bytes_cmp to x (where_key bytes_cmp test es) ≡ (to, x) ∷ where_key bytes_cmp test es
          → put bytes_cmp to x (cond b (e ∷ where_key bytes_cmp test es) (where_key bytes_cmp test es))
          ≡ (to, x) ∷ cond b (e ∷ where_key bytes_cmp test es) (where_key bytes_cmp test es)
      by true later =
          ap (λ (r : Ordering). by_order r ((to, x) ∷ e ∷ where_key bytes_cmp test es)
          ((e.0, x) ∷ where_key bytes_cmp test es) (e ∷ put bytes_cmp to x (where_key bytes_cmp test es)))
          (is_less (bytes_cmp to e.0) (first_true _ _ low))
      by false later = later

  low_all : (e : List ℕ × X) (es : List (List ℕ × X)) → bytes_cmp to e.0 ≡ Less → T (below_all bytes_cmp e.0 es)
      → T (below_all bytes_cmp to es)
  low_all e [] less low = tt
  low_all e (f ∷ es) less low =
      let here = nat_list_cmp_total.trans to e.0 f.0 less (is_less (bytes_cmp e.0 f.0) (first_true _ _ low)) in
      both_true _ _ (subst (λ (r : Ordering). T (is_lt r)) (sym here) tt)
      (low_all e es less (second_true (is_lt (bytes_cmp e.0 f.0)) _ low))

  pub put_kept : (es : List (List ℕ × X)) → T (is_sorted bytes_cmp es)
      → where_key bytes_cmp test (put bytes_cmp to x es) ≡ put bytes_cmp to x (where_key bytes_cmp test es)
  put_kept [] sorted = ap (λ (b : Bool). cond b ((to, x) ∷ []) []) kept
  put_kept (e ∷ es) sorted =
      by (bytes_cmp to e.0) refl (put_kept es (second_true (below_all bytes_cmp e.0 es) _ sorted))
    where
      low : bytes_cmp to e.0 ≡ Less → T (below_all bytes_cmp to (e ∷ es))
      low less = both_true _ _ (subst (λ (r : Ordering). T (is_lt r)) (sym less) tt)
          (low_all e es less (first_true (below_all bytes_cmp e.0 es) _ sorted))

      by : (r : Ordering) → bytes_cmp to e.0 ≡ r
          → where_key bytes_cmp test (put bytes_cmp to x es) ≡ put bytes_cmp to x (where_key bytes_cmp test es)
          → where_key bytes_cmp test (by_order r ((to, x) ∷ e ∷ es) ((e.0, x) ∷ es) (e ∷ put bytes_cmp to x es))
          ≡ put bytes_cmp to x (where_key bytes_cmp test (e ∷ es))
      by Less is later =
          ap (λ (b : Bool). cond b ((to, x) ∷ where_key bytes_cmp test (e ∷ es)) (where_key bytes_cmp test (e ∷ es)))
          kept
          ∙ sym (put_below (e ∷ es) (low is))
      by Equal is later =
          let here : test e.0 ≡ true = ap test (sym (exact_bytes to e.0 is)) ∙ kept in
          ap (λ (b : Bool). cond b ((e.0, x) ∷ where_key bytes_cmp test es) (where_key bytes_cmp test es)) here
          ∙ sym (ap (λ (b : Bool). put bytes_cmp to x
          (cond b (e ∷ where_key bytes_cmp test es) (where_key bytes_cmp test es))) here
          ∙ ap (λ (r : Ordering). by_order r ((to, x) ∷ e ∷ where_key bytes_cmp test es)
          ((e.0, x) ∷ where_key bytes_cmp test es) (e ∷ put bytes_cmp to x (where_key bytes_cmp test es))) is)
      by Greater is later = one (test e.0)
        where
          one : (b : Bool) → cond b (e ∷ where_key bytes_cmp test (put bytes_cmp to x es))
              (where_key bytes_cmp test (put bytes_cmp to x es))
              ≡ put bytes_cmp to x (cond b (e ∷ where_key bytes_cmp test es) (where_key bytes_cmp test es))
          one true =
              ap (λ (l : List (List ℕ × X)). e ∷ l) later
              ∙ sym (ap (λ (r : Ordering). by_order r ((to, x) ∷ e ∷ where_key bytes_cmp test es)
              ((e.0, x) ∷ where_key bytes_cmp test es) (e ∷ put bytes_cmp to x (where_key bytes_cmp test es))) is)
          one false = later

-- ---- the view

-- another name than the one that is dropped
pub is_new : (t : Typed) (from to : List ℕ) (id : ℕ) → IsRenaming t from to id → to ≡ from → ⊥
is_new t from to id is same = let clash : None ≡ Some id = sym is.free
    ∙ ap (λ (x : List ℕ). find bytes_cmp x t.names) same ∙ is.named in cc

module _ (t : Typed) (image from to : List ℕ) (id : ℕ) (is : IsRenaming t from to id)
    (sorted : T (is_sorted bytes_cmp t.names)) where
  no_change : (names : List (List ℕ × ℕ))
      → OthersSame (inside_at t image) (inside_at (with_name to id t) image) to names
  no_change [] = tt
  no_change (e ∷ names) = (λ differ. refl, no_change names)

  still_there : (names : List (List ℕ × ℕ)) → Each (λ other x. is_other from other ≡ true
      → file_cells (inside_at (with_renamed from to id t) image) x ≡ file_cells (inside_at (with_name to id t) image) x)
      names
  still_there [] = tt
  still_there (e ∷ names) = (λ kept. refl, still_there names)

  view_sorted : T (is_sorted name_cmp (view (inside_at t image)))
  unfolding view
  view_sorted = subst T (sym (sorted-named (inside_at t image) t.names)) sorted

  -- THE OTHER NAME has the cells of the file, and the old one is gone
  pub view_renamed : view (inside_at (with_renamed from to id t) image)
      ≡ with_file to (file_cells (inside_at t image) id) (without_file from (view (inside_at t image)))
  view_renamed =
      view_keeps (inside_at (with_name to id t) image) (inside_at (with_renamed from to id t) image)
      (is_other from) refl (still_there (put bytes_cmp to id t.names))
      ∙ ap (λ (v : Volume). where_key name_cmp (is_other from) v)
      (view_puts (inside_at t image) (inside_at (with_name to id t) image) to id refl sorted (no_change t.names))
      ∙ put_kept (is_other from) to (file_cells (inside_at t image) id)
      ((only_name from).keeps to (is_new t from to id is)) (view (inside_at t image)) view_sorted

-- ---- the plain machine

module _ {D : Type 0} {d : Ghosts D} (t : Tables D d) (from to : List ℕ) where
  pub refused_to : is_lawful from ≡ true → is_lawful to ≡ false → IsRefused (view_now t) (Rename from to) BadName
  refused_to lawful bad = record { plainly = rename_bad_to (view_now t) from to lawful bad; early = refl }

  pub refused_missing : is_lawful from ≡ true → is_lawful to ≡ true → find bytes_cmp from (tables_now t).names ≡ None
      → IsRefused (view_now t) (Rename from to) NoFile
  refused_missing lawful lawful_to none = record {
    plainly = rename_missing (view_now t) from to lawful lawful_to (view_without_name (inside_now t) from none);
    early = refl;
  }

  pub refused_exists : (id : ℕ) → is_lawful from ≡ true → is_lawful to ≡ true
      → find bytes_cmp from (tables_now t).names ≡ Some id
      → IsSome (find bytes_cmp to (tables_now t).names) → IsRefused (view_now t) (Rename from to) Exists
  refused_exists id lawful lawful_to named there = by (find bytes_cmp to (tables_now t).names) refl there
    where
      by : (o : Option ℕ) → find bytes_cmp to (tables_now t).names ≡ o → IsSome o
          → IsRefused (view_now t) (Rename from to) Exists
      by None is some = absurd (cc)
      by (Some other) is some = record {
        plainly = rename_exists (view_now t) from to lawful lawful_to (file_cells (inside_now t) id)
            (view_at_name (inside_now t) from id named)
            (file_cells (inside_now t) other) (view_at_name (inside_now t) to other is);
        early = refl;
      }

  pub answered_renamed : (id : ℕ) → IsRenaming (tables_now t) from to id
      → plain (view_now t) (Rename from to) ≡ Ok
      (reply.Done, with_file to (file_cells (inside_now t) id) (without_file from (view_now t)))
  answered_renamed id is =
      rename_done (view_now t) from to is.lawful is.lawful_to (file_cells (inside_now t) id)
      (view_at_name (inside_now t) from id is.named)
      (view_without_name (inside_now t) to is.free)

-- ---- once room was made, and the name was put or not

module _ {D : Type 0} {d : Ghosts D} (t m p : Tables D d) (from to : List ℕ) (id : ℕ)
    (is : IsRenaming (tables_now t) from to id)
    (now : tables_now m ≡ tables_now t) (inside : inside_now m ≡ inside_now t) (sound : IsSound m) (bytes : ℕ)
    (staged : Stages bytes m p)
    (r : Result (Unit {0}) Fault) (ok : OnOk r (tables_now p ≡ with_renamed from to id (tables_now m)))
    (err : OnErr r (tables_now p ≡ tables_now m)) where
  is_still : IsRenaming (tables_now m) from to id
  is_still = subst (λ (q : Typed). IsRenaming q from to id) (sym now) is

  pub view_put : OnOk r (view_now p ≡ with_file to (file_cells (inside_now t) id) (without_file from (view_now t)))
  view_put = on_ok_weaker r (λ done. (λ i. view (inside_at (done i) (staged.image i)))
      ∙ view_renamed (tables_now m) (disk_of m).image from to id is_still (names_in_order m)
      ∙ ap (λ (j : Inside). with_file to (file_cells j id) (without_file from (view j))) inside) ok

  pub view_unput : OnErr r (view_now p ≡ view_now t)
  view_unput = on_err_weaker r (λ same. (λ i. view (inside_at (same i) (staged.image i)))
      ∙ ap (λ (j : Inside). view j) inside) err

  sound_as : (q : Typed) → tables_now p ≡ q → RulesHold (clusters_in m) q
      → (MapsHold (inside_now m) → MapsHold (inside_at q (disk_of m).image)) → IsSound p
  sound_as q same held stay =
      let rules : RulesHold (clusters_in p) (tables_now p) =
      subst (λ (x : ℕ × Typed). RulesHold x.0 x.1) (λ i. (sym staged.leaves.clusters i, sym same i)) held in
      record {
        rules = rules;
        maps = maps_changed m p q staged.leaves.tells same staged.image stay sound.maps;
        counted = λ run. staged.counts ∙ sound.counted (sym staged.running ∙ run)
            ∙ ap (λ (k : ℕ). data_clusters k) (sym staged.leaves.clusters);
      }

  pub sound_put : IsSound p
  sound_put = elim (ok_or_err r ok err) [
    | inl done ↦ sound_as (with_renamed from to id (tables_now m)) done
        (rules_renamed (clusters_in m) (tables_now m) sound.rules from to id
        (names_in_order m) is_still.named is_still.free is_still.lawful_to (is_other from) (only_name from)) (λ maps. maps)
    | inr same ↦ sound_as (tables_now m) same sound.rules (λ maps. maps)
  ]
