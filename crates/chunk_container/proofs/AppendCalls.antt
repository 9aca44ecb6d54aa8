-- An append: room is made, and then its bytes are written and its records are put.
use Rattle.std.specs.Prelude.{◌≡◌, ◌⊎◌, ◌≤◌, ◌+◌, ◌-◌, ◌*◌, ℕ, Bool, true, false, List, length, None, Result, Ok, Err, OnOk, OnErr, IfErr, IsErrOf, refl}
use Rattle.std.proofs.Common.{◌∙◌, ap, sym, subst, inl, inr, arith, ⊎_elim}
use Rattle.std.proofs.lemmas.Bool.{cases_eq}
use Rattle.std.proofs.lemmas.Result.{on_ok_weaker, on_err_weaker}
use Rattle.std.specs.Ordering.{nat_cmp}
use Rattle.std.specs.Cmp.{nat_cmp_total}
use Rattle.std.specs.FinMap.{put}
use Rattle.std.proofs.lemmas.Map.Lookups.{exact_unsigned}
use Rattle.vdisk.specs.Causes.{Rose}
use Rattle.vdisk.specs.Ranges.{part}
use Rattle.vdisk.specs.declared.disk.Disk.{Ghosts}
use Rattle.cluster_space.specs.States.{free_in}
use Rattle.plain_volume.specs.Volume.{Volume}
use Rattle.plain_volume.specs.declared.call.Fault.{Fault}
use Rattle.plain_volume.specs.declared.call.Fault.TheVariants.{Failed, Memory, Worn}
use Rattle.table_records.specs.declared.records.FileRecord.{FileRecord}
use Rattle.table_records.specs.declared.records.Extent.{Extent}
use Rattle.table_records.specs.declared.chunk_records.Row.{Row}
use Rattle.table_records.specs.declared.chunk_records.Place.{Place}
use Rattle.table_records.specs.declared.chunk_records.Container.{Container}
use Rattle.volume_inside.specs.Bases.{Bases, bases_of}
use Rattle.volume_inside.specs.ChunkChanges.{Grows}
use Rattle.volume_inside.specs.ChunkTables.{CopyKey}
use Rattle.volume_inside.specs.ChunkRules.{BaseHolds, MapsHold}
use Rattle.volume_inside.specs.Entries.{Each}
use Rattle.volume_inside.specs.Inside.{Inside, inside_at, blocks_of}
use Rattle.volume_inside.specs.Layout.{data_clusters, AreData}
use Rattle.volume_inside.specs.Named.{clusters_of}
use Rattle.volume_inside.specs.Pages.{used_of, used_or_none, content}
use Rattle.volume_inside.specs.Rules.{next_id_of, RulesHold}
use Rattle.volume_inside.specs.Typed.{Typed, FileBlock}
use Rattle.volume_inside.specs.View.{view}
use Rattle.volume_inside.proofs.BaseAppended.{bases_stay}
use Rattle.row_reading.proofs.Readable.{readable}
use Rattle.volume_tables.specs.Ends.{unstaged_in}
use Rattle.volume_tables.specs.Log.{log_epoch}
use Rattle.volume_tables.specs.Pending.{Pending, pending_of, roomed_of, spent}
use Rattle.volume_tables.specs.Rooms.{IsRoomMade}
use Rattle.volume_tables.specs.Sound.{IsSound, IsKept, IsSpared, Spares, Endures}
use Rattle.volume_tables.specs.Tables.{tables_now, inside_now, view_now, states_of, staged_of, disk_of, clusters_in, stopped, IsTables, Leaves}
use Rattle.volume_tables.specs.Wants.{Needs, wanting, IsWanting}
use Rattle.volume_tables.specs.declared.tables.Tables.{Tables}
use Rattle.volume_tables.proofs.Answers.{ok_or_err}
use Rattle.volume_tables.proofs.Endured.{endures_leaves}
use Rattle.volume_tables.proofs.Stagings.{on_ok_any}
use Rattle.volume_tables.proofs.Mapped.{maps_then}
use Rattle.chunk_container.specs.declared.containers.Target.{Target}
use Rattle.chunk_container.specs.Appending.{append_needs, append_bytes, more_pages, longer, with_longer, IsTargetIn, IsAppended, AreBytesThere, IsAppendCall}
use Rattle.chunk_container.specs.Bases.{bases_now}
use Rattle.chunk_container.specs.Pages.{LosesNone}
use Rattle.chunk_container.proofs.Appended.{rules_appended}
use Rattle.chunk_container.proofs.AppendBytes.{appended_bytes}
use Rattle.chunk_container.proofs.Finds.{found_put, found_other}
use Rattle.chunk_container.proofs.PageStates.{pages_sorted, held_now}
use Rattle.chunk_container.proofs.RowViews.{view_by_bases}

-- ---- what an append leaves of the tables

module _ (target : Target) (kind count : ℕ) (t u : Typed) (appended : IsAppended target kind count t u) where
  abbrev now_longer : Bool → Typed
  now_longer made = with_longer (record target { made = made }) kind count u.chunks.clusters t

  -- what an append leaves or makes longer, but for the pages
  abbrev told_of : Typed → (List (List ℕ × ℕ) × List (ℕ × FileRecord) × List (FileBlock × Extent))
      × (List (ℕ × Row) × List (CopyKey × Place) × List (ℕ × Container))
  told_of q = ((q.names, q.files, q.extents), (q.chunks.rows, q.chunks.places, q.chunks.containers))

  told_then : told_of u ≡ (
    (t.names, t.files, t.extents),
    (
      t.chunks.rows,
      t.chunks.places,
      put nat_cmp target.container (longer target kind count) t.chunks.containers,
    ),
  )
  told_then = ap told_of appended.rest ∙ by target.made
    where
      by : (made : Bool) → told_of (now_longer made) ≡ (
        (t.names, t.files, t.extents),
        (
          t.chunks.rows,
          t.chunks.places,
          put nat_cmp target.container (longer target kind count) t.chunks.containers,
        ),
      )
      by true = refl
      by false = refl

  same_names : u.names ≡ t.names
  same_names = λ i. (told_then i).0.0

  same_files : u.files ≡ t.files
  same_files = λ i. (told_then i).0.1

  same_extents : u.extents ≡ t.extents
  same_extents = λ i. (told_then i).0.2

  same_rows : u.chunks.rows ≡ t.chunks.rows
  same_rows = λ i. (told_then i).1.0

  same_places : u.chunks.places ≡ t.chunks.places
  same_places = λ i. (told_then i).1.1

  containers_then : u.chunks.containers ≡ put nat_cmp target.container (longer target kind count) t.chunks.containers
  containers_then = λ i. (told_then i).1.2

  used_then : used_of u.chunks.containers target.container ≡ target.offset + count
  used_then =
      ap (λ (cs : List (ℕ × Container)). used_of cs target.container) containers_then
      ∙ ap used_or_none (found_put nat_cmp nat_cmp_total target.container (longer target kind count) t.chunks.containers)

  -- each container grows behind what was used
  grows_then : IsTargetIn kind count target t → (c : ℕ) → Grows t.chunks u.chunks c
  grows_then is c = elim (cases_eq c target.container) [
    | inl same ↦ subst (λ (x : ℕ). Grows t.chunks u.chunks x) (sym same) (record {
      used = (let was = is.used in let now = used_then in omega (arith, was, now));
      clusters = λ index low.
          appended.others (target.container, index)
          (λ among. (let least = among.least in let was = is.used in omega (arith, least, was, low)));
    })
    | inr other ↦ record {
      used =
          let now = ap (λ (cs : List (ℕ × Container)). used_of cs c) containers_then
          ∙ ap used_or_none (found_other nat_cmp nat_cmp_total c target.container (longer target kind count)
          t.chunks.containers (λ tie. other (exact_unsigned c target.container tie))) in
          omega (arith, now);
      clusters = λ index low. appended.others (c, index) (λ among. other among.container);
    }
  ]

module _ {D : Type 0} {d : Ghosts D} (target : Target) (kind count : ℕ) (t m : Tables D d) where
  abbrev needs : Needs
  needs = append_needs target count

  module _ (next : (x y z : D) → d.is_same x y → d.is_same y z → d.is_same x z) (room : IsRoomMade needs t m (Ok tt))
      (least : 1 ≤ kind) (most : kind ≤ 3) (some : 1 ≤ count) (is : IsTargetIn kind count target (tables_now m))
      (p : Tables D d) (r : Result (Unit {0}) Fault)
      (ok : OnOk r (IsAppended target kind count (tables_now m) (tables_now p)))
      (err : OnErr r (tables_now p ≡ tables_now m))
      (frame : inside_at (tables_now m) (disk_of p).image ≡ inside_now m) (leaves : Leaves m p) where
    -- ---- the rules

    rules_by : (q : Typed) → tables_now p ≡ q → RulesHold (clusters_in m) q → RulesHold (clusters_in p) (tables_now p)
    rules_by q same rules = subst (λ (x : ℕ × Typed). RulesHold x.0 x.1) (λ i. (sym leaves.clusters i, sym same i)) rules

    pub rules_then : RulesHold (clusters_in p) (tables_now p)
    rules_then = elim (ok_or_err r ok err) [
      | inl appended ↦ rules_by (tables_now p) refl
          (rules_appended (clusters_in m) kind count target (tables_now m) room.sound.rules is least most some
          (tables_now p) appended room.id (pages_sorted p)
          (subst (λ (n : ℕ). AreData n (clusters_of (tables_now p))) leaves.clusters (held_now p).0)
          (held_now p).1.once)
      | inr same ↦ rules_by (tables_now m) same room.sound.rules
    ]

    -- ---- what is seen

    bases_appended : IsAppended target kind count (tables_now m) (tables_now p)
        → bases_of (tables_now p) (disk_of p).image ≡ bases_of (tables_now m) (disk_of p).image
    bases_appended appended =
        let size : length (disk_of p).image ≡ 4096 * clusters_in m = p.size ∙ ap (λ (n : ℕ). 4096 * n) leaves.clusters in
        let read = readable (clusters_in m) (next_id_of (tables_now m)) (tables_now m).chunks (disk_of p).image size
        room.sound.rules.chunks in
        bases_stay (tables_now m).chunks (tables_now p).chunks (disk_of p).image
        (grows_then target kind count (tables_now m) (tables_now p) appended is) (λ c. (read.content c).pages)
        (same_rows target kind count (tables_now m) (tables_now p) appended)
        (same_places target kind count (tables_now m) (tables_now p) appended) read.places

    maps_p : MapsHold (inside_now m) → MapsHold (inside_now p)
    maps_p maps = elim (ok_or_err r ok err) [
      | inl appended ↦
          subst (λ (x : List (ℕ × FileRecord) × Bases). Each (BaseHolds x.1) x.0)
          (λ i. (
            sym (same_files target kind count (tables_now m) (tables_now p) appended) i,
            sym (bases_appended appended ∙ ap (λ (j : Inside). j.bases) frame) i,
          )) maps
      | inr same ↦ subst MapsHold (sym (ap (λ (q : Typed). inside_at q (disk_of p).image) same ∙ frame)) maps
    ]

    sound_then : LosesNone m p → IsSound p
    sound_then loses = record {
      rules = rules_then;
      maps = maps_then m p leaves.tells maps_p room.sound.maps;
      counted = λ runs. loses runs ∙ room.sound.counted room.runs ∙ ap data_clusters (sym leaves.clusters);
    }

    bases_then : bases_now p ≡ bases_now t
    bases_then =
        elim (ok_or_err r ok err) as (λ w. bases_now p ≡ bases_of (tables_now m) (disk_of p).image) [
          | inl appended ↦ bases_appended appended
          | inr same ↦ ap (λ (q : Typed). bases_of q (disk_of p).image) same
        ]
        ∙ ap (λ (i : Inside). i.bases) (frame ∙ room.inside)

    view_then : view_now p ≡ view_now t
    view_then =
        elim (ok_or_err r ok err) as (λ w. view_now p ≡ view (inside_at (tables_now m) (disk_of p).image)) [
          | inl appended ↦
              view_by_bases (inside_at (tables_now m) (disk_of p).image) (inside_now p)
              (same_names target kind count (tables_now m) (tables_now p) appended)
              (same_files target kind count (tables_now m) (tables_now p) appended)
              (λ i. blocks_of (same_extents target kind count (tables_now m) (tables_now p) appended i) (disk_of p).image)
              (bases_appended appended)
          | inr same ↦ ap (λ (q : Typed). view (inside_at q (disk_of p).image)) same
        ]
        ∙ ap (λ (i : Inside). view i) (frame ∙ room.inside)

    unchanged_then : OnErr r (inside_now p ≡ inside_now t)
    unchanged_then = on_err_weaker r (λ same.
        ap (λ (q : Typed). inside_at q (disk_of p).image) same ∙ frame ∙ room.inside) err

    appended_then : OnOk r (IsAppended target kind count (tables_now t) (tables_now p))
    appended_then = on_ok_weaker r (λ appended.
        subst (λ (q : Typed). IsAppended target kind count q (tables_now p)) room.now appended) ok

    -- ---- refusals

    module _ (refused : OnErr r (IsErrOf r Failed ⊎ IsErrOf r Memory))
        (failed : IsErrOf r Failed → Rose (disk_of m).faults (disk_of p).faults) where
      Refusal : Result (Unit {0}) Fault → Type 0
      Refusal q = IfErr q (λ fault. IsWanting t p needs fault ⊎ ((fault ≡ Memory) × (wanting t needs ≡ None)))
          × (IsErrOf q Worn → ⊥) × Spares t p q

      is_fault : (fault other : Fault) → ◌≡◌ {A = Result (Unit {0}) Fault} (Err fault) (Err other) → fault ≡ other
      is_fault fault other same = cc

      refusal : Refusal r
      unfolding Refusal
      refusal = by r refused failed
        where
          by : (q : Result (Unit {0}) Fault) → OnErr q (IsErrOf q Failed ⊎ IsErrOf q Memory)
              → (IsErrOf q Failed → Rose (disk_of m).faults (disk_of p).faults) → Refusal q
          by (Ok done) why rose = (tt, (λ is. absurd (cc)), λ fault is. absurd (cc))
          by (Err fault) (inl is_failed) rose =
              let same : fault ≡ Failed = is_fault fault Failed is_failed in
              let one = room.endures.later in
              let two = rose is_failed in (
                inl (inr (same, omega (arith, one, two))),
                (λ is. absurd (let clash : Worn ≡ Failed = cc in cc)),
                λ other is.
                    let as_failed : Failed ≡ other = cc in
                    subst (λ (x : Fault). IsSpared (λ (q : Tables D d). log_epoch q.log) x t p) as_failed tt,
              )
          by (Err fault) (inr is_memory) rose =
              let same : fault ≡ Memory = is_fault fault Memory is_memory in (
                inr (same, room.none),
                (λ is. absurd (let clash : Worn ≡ Memory = cc in cc)),
                λ other is.
                    let as_memory : Memory ≡ other = cc in
                    subst (λ (x : Fault). IsSpared (λ (q : Tables D d). log_epoch q.log) x t p) as_memory tt,
              )

      pending_then : OnOk r (staged_of p ≡ staged_of m + append_bytes target count)
          → OnOk r (free_in (states_of p) + more_pages target.offset count ≡ free_in (states_of m))
          → OnOk r (pending_of p ≡ spent (append_bytes target count) (more_pages target.offset count) (roomed_of t needs))
      pending_then staged taken = by r staged taken
        where
          by : (q : Result (Unit {0}) Fault) → OnOk q (staged_of p ≡ staged_of m + append_bytes target count)
              → OnOk q (free_in (states_of p) + more_pages target.offset count ≡ free_in (states_of m))
              → OnOk q (pending_of p ≡ spent (append_bytes target count) (more_pages target.offset count) (roomed_of t needs))
          by (Err fault) staged taken = tt
          by (Ok done) staged taken =
              let left : free_in (states_of p) ≡ free_in (states_of m) - more_pages target.offset count =
              omega (arith, taken) in
              (λ i. record {
                epoch = leaves.epoch i;
                place = leaves.place i;
                staged = staged i;
                unstaged = unstaged_in (leaves.ends i);
                free = left i;
                worn = leaves.worn i;
              })
              ∙ ap (λ (w : Pending). spent (append_bytes target count) (more_pages target.offset count) w) room.pending

      -- THE CALL
      pub append_done : LosesNone m p → OnOk r (staged_of p ≡ staged_of m + append_bytes target count)
          → OnOk r (free_in (states_of p) + more_pages target.offset count ≡ free_in (states_of m))
          → (stopped p ≡ true → IsErrOf r Failed) → (IsErrOf r Failed → stopped p ≡ true)
          → IsAppendCall target kind count t p r
      unfolding Refusal
      append_done loses staged taken stops halts = record {
        appended = appended_then;
        err = on_err_weaker r (λ same. same ∙ room.now) err;
        unchanged = unchanged_then;
        none = on_ok_any r room.none;
        refused = refusal.0;
        bases = bases_then;
        view = view_then;
        sound = sound_then loses;
        endures = endures_leaves next t m p room.endures room.runs leaves;
        stops = stops;
        halts = halts;
        spares = refusal.2;
        pending = record { done = pending_then staged taken; worn = λ is. absurd (refusal.1 is) };
      }

    -- ---- the bytes

    pub written_then : (bytes : List ℕ) → length bytes ≡ count
        → OnOk r (AreBytesThere target bytes (tables_now p).chunks.clusters (disk_of p).image)
        → OnOk r (part target.offset (length bytes) (content (tables_now p).chunks target.container (disk_of p).image) ≡ bytes)
    written_then bytes long bytes_there = on_ok_both r ok bytes_there (λ appended there.
        let read = readable (clusters_in p) (next_id_of (tables_now p)) (tables_now p).chunks (disk_of p).image p.size
        rules_then.chunks in
        let used = used_then target kind count (tables_now m) (tables_now p) appended in
        appended_bytes target bytes (tables_now p).chunks (disk_of p).image (read.content target.container).pages
        (omega (arith, used, long)) there)
      where
        on_ok_both : {P Q R : Type 0} (q : Result (Unit {0}) Fault) → OnOk q P → OnOk q Q → (P → Q → R) → OnOk q R
        on_ok_both (Ok done) one two both = both one two
        on_ok_both (Err fault) one two both = tt

-- stored tables are there after what endures
pub still_kept : {D : Type 0} {d : Ghosts D} (a b : Tables D d) (w : Volume) → Endures a b → stopped b ≡ false
    → IsKept a w → (stored : Typed) × IsTables b stored
still_kept a b w endures runs kept = ⊎_elim (λ one. (one.stored, one.tables)) (λ two. (two.stored, two.tables))
    (endures.kept w kept runs)
