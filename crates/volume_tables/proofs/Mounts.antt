-- What a mount founds, over the disk before it, after the superblock was read, and after all.
use Rattle.std.specs.Prelude.{◌≡◌, ◌*◌, ℕ, List, IsTrue, Result, Ok, Err, IsOk, IfOk, IfErr, refl}
use Rattle.std.proofs.Common.{sym, ◌∙◌, ap, subst, arith, inl, inr}
use Rattle.vdisk.specs.Disk.{DiskState, Only}
use Rattle.vdisk.specs.Steps.{keeps_then, keeps_as}
use Rattle.vdisk.specs.declared.disk.Disk.{Ghosts}
use Rattle.byte_map.specs.Words.{Map}
use Rattle.cluster_space.specs.declared.state.State.TheVariants.{Free}
use Rattle.meta_log.specs.Meta.{meta_of}
use Rattle.meta_log.specs.Opened.{IsOnlyRead}
use Rattle.table_rules.specs.Causes.{IsRefusal}
use Rattle.table_rules.specs.Marks.{IsFilled}
use Rattle.volume_inside.specs.Inside.{Inside, inside_at}
use Rattle.volume_inside.specs.InsideOf.{IsImageOf, InsideOf, area_of as area_at}
use Rattle.volume_inside.specs.ChunkRules.{MapsHold}
use Rattle.volume_inside.specs.Rules.{RulesHold}
use Rattle.volume_inside.specs.View.{view}
use Rattle.volume_inside.proofs.Insides.{volume_known, least_of_tables, least_of_maps}
use Rattle.plain_volume.specs.Volume.{Volume}
use Rattle.cluster_space.specs.States.{free_in}
use Rattle.cluster_space.specs.declared.state.State.{State}
use Rattle.volume_tables.specs.After.{area_same}
use Rattle.volume_tables.specs.Ends.{unstaged_in}
use Rattle.volume_tables.specs.Reads.{ReadsOnly}
use Rattle.volume_tables.specs.Waits.{due_in}
use Rattle.volume_tables.proofs.Rereads.{same_inside}
use Rattle.volume_inside.specs.Layout.{journal_at, half_bytes, first_data_cluster, AreData}
use Rattle.volume_inside.proofs.TailsOn.{tails_stored}
use Rattle.volume_inside.specs.Named.{named, clusters_of}
use Rattle.volume_inside.specs.Ranges.{IsApart}
use Rattle.volume_inside.specs.Shows.{Area, HasInside, Shows, Kept}
use Rattle.volume_inside.specs.Typed.{Typed, typed_of}
use Rattle.volume_inside.specs.declared.mount_fault.MountFault.{MountFault}
use Rattle.volume_inside.specs.declared.mount_fault.MountFault.TheVariants.{NotVolume, VersionUnknown, SizeDiffers}
use Rattle.volume_inside.specs.declared.mount_fault.MountFault.TheVariants.{MetaDamaged, BadTable, Failed, Memory}
use Rattle.volume_inside.proofs.Journals.{journal_apart, rules_data}
use Rattle.meta_log.specs.Ready.{GoesOnFrom}
use Rattle.volume_tables.specs.Log.{log_now, log_place, log_epoch}
use Rattle.volume_tables.specs.Mount.{read_meta, IsFrontFault, IsInnerFault, IsMapsFault, IsMountFault}
use Rattle.volume_tables.specs.Mounted.{IsMountedFrom, IsOpened, AreTablesOf}
use Rattle.volume_tables.specs.Tables.{tables_now, inside_now, view_now, area_of, disk_of, states_of, IsTables, IsToldBy}
use Rattle.volume_tables.specs.declared.tables.Tables.{Tables}
use Rattle.volume_tables.proofs.Assembled.{out_unless_used, free_differs}

-- ---- refusals

pub table_refused : (n : ℕ) (m : Map) (old new : DiskState) (fault : MountFault) → IsRefusal n m fault
    → (IsTrue old.tells → read_meta n old.image ≡ Ok m)
    → IsInnerFault n old new fault
table_refused n m old new NotVolume why spells = why
table_refused n m old new (VersionUnknown found) why spells = λ told. (m, spells told, why)
table_refused n m old new (SizeDiffers said size) why spells = why
table_refused n m old new (MetaDamaged half) why spells = absurd why
table_refused n m old new (BadTable rule) why spells = λ told. (m, spells told, why.0, why.1)
table_refused n m old new Failed why spells = absurd why
table_refused n m old new Memory why spells = tt

pub front_refused : (old new : DiskState) (fault : MountFault) → IsFrontFault old new fault → IsMountFault old new fault
front_refused old new NotVolume why = why
front_refused old new (VersionUnknown found) why = absurd why
front_refused old new (SizeDiffers said size) why = why
front_refused old new (MetaDamaged half) why = absurd why
front_refused old new (BadTable rule) why = absurd why
front_refused old new Failed why = why
front_refused old new Memory why = tt

module _ (n : ℕ) (s₀ s₁ s₂ : DiskState) (first : IsOnlyRead s₀ s₁) where
  told_on : IsTrue s₀.tells → IsTrue s₁.tells
  told_on told = first.keeps.tells ∙ told

  pub inner_refused : (fault : MountFault) → (IsTrue s₀.tells → IsImageOf n s₀.image) → IsInnerFault n s₁ s₂ fault
      → IsMountFault s₀ s₂ fault
  inner_refused NotVolume image why = absurd why
  inner_refused (VersionUnknown found) image why =
      λ told. let r = why (told_on told) in (n, r.0, image told, ap (read_meta n) (sym first.image) ∙ r.1, r.2)
  inner_refused (SizeDiffers said size) image why = absurd why
  inner_refused (MetaDamaged half) image why = λ told.
      (n, image told, ap (read_meta n) (sym first.image) ∙ why (told_on told))
  inner_refused (BadTable rule) image why =
      λ told. let r = why (told_on told) in
      (n, r.0, image told, ap (read_meta n) (sym first.image) ∙ r.1, r.2, least_of_tables n r.0 s₀.image rule r.3)
  inner_refused Failed image why = omega (arith, why, first.later)
  inner_refused Memory image why = tt

  pub read_twice : IsOnlyRead s₁ s₂ → IsOnlyRead s₀ s₂
  read_twice second = record {
    keeps = keeps_then s₀ s₁ s₂ s₀.may_leave first.keeps
        (keeps_as s₁ s₂ s₁.may_leave s₀.may_leave (λ c left. first.keeps.now c left) second.keeps);
    image = second.image ∙ first.image;
    later = omega (arith, first.later, second.later);
  }

-- ---- what is mounted

module _ {D : Type 0} {d : Ghosts D} (t : Tables D d) (n : ℕ) (s₀ s₁ : DiskState) (first : IsOnlyRead s₀ s₁)
    (second : IsOnlyRead s₁ (disk_of t))
    (from : IsMountedFrom n s₁ t) where
  inside_there : inside_at (typed_of (log_now t.log)) s₀.image ≡ inside_now t
  inside_there =
      let last : (disk_of t).image ≡ s₀.image = second.image ∙ first.image in
      λ i. inside_at (sym from.now i) (sym last i)

  pub mounted_inside : MapsHold (inside_now t) → IsImageOf n s₀.image
      → HasInside (area_at read_meta n) (inside_now t) s₀.image
  mounted_inside maps image = record {
    superblock = image.superblock;
    size = image.size;
    stored = log_now t.log;
    spells = ap (read_meta n) (sym first.image) ∙ from.spells;
    volume = from.volume;
    is = inside_there;
    maps = subst MapsHold (sym inside_there) maps;
  }

  -- where the maps break their rule, that is the first one
  pub mounted_broken : (MapsHold (inside_now t) → ⊥) → IsImageOf n s₀.image
      → InsideOf read_meta s₀.image (Err (BadTable 12))
  mounted_broken fails image =
      let m = log_now t.log in (
        n,
        m,
        image,
        ap (read_meta n) (sym first.image) ∙ from.spells,
        (λ found has. volume_known n m found from.volume has),
        least_of_maps n m s₀.image from.volume (λ maps. fails (subst MapsHold inside_there maps)),
      )

  pub mounted_whole : t.clusters ≡ n → AreTablesOf t.clusters s₀.image (tables_now t)
  mounted_whole is = record {
    stored = log_now t.log;
    spells = (λ i. read_meta (is i) (sym first.image i)) ∙ from.spells;
    is = sym from.now;
  }

  pub mounted_goes_on : t.clusters ≡ n → IsToldBy t s₀.image
  mounted_goes_on is =
      subst (λ (k : ℕ). GoesOnFrom journal_at (half_bytes k) (log_place t.log) (log_epoch t.log) s₀.image) (sym is)
      (subst (λ (x : List ℕ). GoesOnFrom journal_at (half_bytes n) (log_place t.log) (log_epoch t.log) x) first.image
      from.goes_on)

  pub mounted_kept : MapsHold (inside_now t) → t.clusters ≡ n → IsImageOf n s₀.image → Only s₀.image s₁.may_leave
      → Kept (area_of t) (disk_of t) (view_now t)
  mounted_kept maps is image only = λ c left.
      let at : c ≡ s₀.image = only c (second.keeps.now c left) in
      let shows : Shows (area_of t) (view_now t) s₀.image = record {
        inside = inside_now t;
        has = subst (λ (k : ℕ). HasInside (record { clusters = k; meta = meta_of journal_at (half_bytes k) })
            (inside_now t) s₀.image) (sym is) (mounted_inside maps image);
        is = refl;
      } in
      subst (λ (q : List ℕ). Shows (area_of t) (view_now t) q) (sym at) shows

  pub mounted_tables : t.clusters ≡ n → IsFilled t.clusters (clusters_of (tables_now t)) (states_of t)
      → IsTables t (tables_now t)
  mounted_tables is filled =
      let cs = clusters_of (tables_now t) in
      let in_data : AreData n cs = subst (λ (q : Typed). AreData n (clusters_of q)) (sym from.now)
      (rules_data n (typed_of (log_now t.log)) from.volume.rules) in
      record {
        map = log_now t.log;
        log = from.log;
        is = sym from.now;
        stored_apart = subst (λ (k : ℕ). IsApart journal_at (2 * half_bytes k) (named (tables_now t))) (sym is)
            (journal_apart n (tables_now t) in_data);
        free = λ k free. out_unless_used (first_data_cluster t.clusters) (states_of t) cs k Free free_differs
            filled.used free;
        tails = tails_stored t.clusters (tables_now t) t.held.0 t.held.1.once;
      }

-- ---- what is mounted once the maps were checked

-- what stays, where nothing but the disk was read
module _ {D : Type 0} {d : Ghosts D} (t u : Tables D d) (reads : ReadsOnly t u) where
  pub read_on : IsTables t (tables_now t) → IsTables u (tables_now u)
  read_on is = subst (λ (q : Typed). IsTables u q) (sym reads.now) (reads.leaves.tables (tables_now t) is)

  pub whole_on : (image : List ℕ) → AreTablesOf t.clusters image (tables_now t) → AreTablesOf u.clusters image (tables_now u)
  whole_on image are =
      subst (λ (p : ℕ × Typed). AreTablesOf p.0 image p.1) (λ i. (sym reads.leaves.clusters i, sym reads.now i)) are

  pub goes_still_on : (image : List ℕ) → IsToldBy t image → IsToldBy u image
  goes_still_on image told =
      subst (λ (p : ℕ × ℕ × ℕ). GoesOnFrom journal_at (half_bytes p.0) p.1 p.2 image)
      (λ i. (sym reads.leaves.clusters i, sym reads.leaves.place i, sym reads.leaves.epoch i)) told

  pub kept_on : Kept (area_of t) (disk_of t) (view_now t) → Kept (area_of u) (disk_of u) (view_now u)
  kept_on kept = λ c left.
      let same : view_now u ≡ view_now t = ap view (same_inside t u reads) in
      let area : area_of u ≡ area_of t = area_same t u reads.leaves.clusters in
      subst (λ (p : Area × Volume). Shows p.0 p.1 c) (λ i. (sym area i, sym same i)) (kept c (reads.only.keeps.now c left))

  pub opened_on : IsOpened t → IsOpened u
  opened_on opened = record {
    staged = reads.staged ∙ opened.staged;
    due =
        (λ i. due_in (record {
          epoch = reads.leaves.epoch i;
          place = reads.leaves.place i;
          staged = reads.staged i;
          unstaged = unstaged_in (reads.ends i);
          free = free_in (reads.states i);
          worn = reads.leaves.worn i;
        })) ∙ opened.due;
    runs = reads.running ∙ opened.runs;
    fresh = reads.leaves.worn ∙ opened.fresh;
    space = subst (λ (p : ℕ × Typed × List State). IsFilled p.0 (clusters_of p.1) p.2)
        (λ i. (sym reads.leaves.clusters i, sym reads.now i, sym reads.states i)) opened.space;
    rules = subst (λ (p : ℕ × Typed). RulesHold p.0 p.1) (λ i. (sym reads.leaves.clusters i, sym reads.now i))
        opened.rules;
  }

-- the inside of the image, where the maps are as they should be
module _ {D : Type 0} {d : Ghosts D} (t : Tables D d) (n : ℕ) (s₀ s₁ : DiskState) (first : IsOnlyRead s₀ s₁)
    (second : IsOnlyRead s₁ (disk_of t)) where
  pub mounted_found : IsMountedFrom n s₁ t → (u : Tables D d) → ReadsOnly t u → MapsHold (inside_now t)
      → IsImageOf n s₀.image → InsideOf read_meta s₀.image (Ok (inside_now u))
  mounted_found from u reads maps image = (
    n,
    subst (λ (i : Inside). HasInside (area_at read_meta n) i s₀.image) (sym (same_inside t u reads))
        (mounted_inside t n s₀ s₁ first second from maps image),
  )

  -- and why the tables are not mounted, where they are not
  pub maps_refused : (new : DiskState) (fault : MountFault) → t.clusters ≡ n → IsOpened t
      → (IsTrue s₀.tells → IsMountedFrom n s₁ t) → (IsTrue s₀.tells → IsImageOf n s₀.image) → IsMapsFault t new fault
      → IsMountFault s₀ new fault
  maps_refused new fault is opened from image (inl (broken, fails)) =
      subst (λ (f : MountFault). IsMountFault s₀ new f) (sym broken)
      (λ told. let spelled = from told in
      mounted_broken t n s₀ s₁ first second spelled
      (fails (tables_now t, mounted_tables t n s₀ s₁ first second spelled is opened.space)) (image told))
  maps_refused new fault is opened from image (inr (failed, rose)) =
      subst (λ (f : MountFault). IsMountFault s₀ new f) (sym failed)
      (omega (arith, rose, first.later, second.later))

-- ---- what clauses of one answer say together

pub err_then : {T E : Type 0} (r : Result T E) (A B : E → Type 0) → ((e : E) → A e → B e) → IfErr r A → IfErr r B
err_then (Ok x) A B then a = tt
err_then (Err e) A B then a = then e a

pub ok_then : {T E : Type 0} (r : Result T E) (A B : T → Type 0) → ((x : T) → A x → B x) → IfOk r A → IfOk r B
ok_then (Ok x) A B then a = then x a
ok_then (Err e) A B then a = tt

pub ok_known : {T E : Type 0} (r : Result T E) (A B : T → Type 0) → ((x : T) → IsOk r → A x → B x) → IfOk r A → IfOk r B
ok_known (Ok x) A B then a = then x refl a
ok_known (Err e) A B then a = tt
