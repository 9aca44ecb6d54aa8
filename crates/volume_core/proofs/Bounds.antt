-- What is spent where a resource is wanting.
use Rattle.std.specs.Prelude.{◌≡◌, ◌≢◌, ◌≤◌, ◌<◌, ◌+◌, ◌-◌, ◌*◌, ◌^◌, ◌&&◌, ◌||◌, ◌==◌, ℕ, Bool, true}
use Rattle.std.specs.Prelude.{false, not, cond, nat_eq, nat_lt, T}
use Rattle.std.specs.Prelude.{List, [], ◌∷◌, length, Option, Some, None, refl}
use Rattle.std.specs.List.{filter}
use Rattle.std.specs.Ordering.{nat_cmp, is_lt, MatchOrdering}
use Rattle.std.specs.Cmp.{ranks}
use Rattle.std.specs.FinMap.{find}
use Rattle.std.specs.FinMap.Entries.{is_sorted, below_all}
use Rattle.std.specs.declared.cmp.Ordering.{Ordering}
use Rattle.std.specs.declared.cmp.Ordering.TheVariants.{Less, Equal, Greater}
use Rattle.std.proofs.Common.{zero, suc, sym, ap, ◌∙◌, subst, arith, length-append}
use Rattle.std.proofs.lemmas.Bool.{eqb-true, ltb-true}
use Rattle.std.proofs.lemmas.List.Filters.{length-filter_both}
use Rattle.vdisk.specs.declared.disk.Disk.{Ghosts}
use Rattle.meta_log.specs.Log.{passes_half}
use Rattle.meta_log.specs.Meta.{last_epoch}
use Rattle.plain_volume.specs.declared.call.Call.{Call}
use Rattle.plain_volume.specs.declared.call.Call.TheVariants.{Create, Write, SetLength, Rename, Delete, Read, Digest}
use Rattle.plain_volume.specs.declared.call.Call.TheVariants.{Stat, Next, Flush}
use Rattle.plain_volume.specs.declared.call.Fault.{Fault}
use Rattle.plain_volume.specs.declared.call.Fault.TheVariants.{Worn, TableFull, Full}
use Rattle.table_records.specs.Codecs.{typed}
use Rattle.table_records.specs.Keys.{pair_cmp}
use Rattle.groundwork.proofs.Orders.{is_less}
use Rattle.groundwork.proofs.Bools.{first_true, second_true}
use Rattle.table_records.specs.Next.{sorted_typed}
use Rattle.table_records.specs.Orders.{some_same}
use Rattle.table_records.specs.Tables.{volume_codec, name_codec, file_codec, settings_codec, result_codec}
use Rattle.table_records.specs.declared.jobs.JobKind.{JobKind}
use Rattle.table_records.specs.declared.records.Extent.{Extent}
use Rattle.table_records.specs.declared.records.FileRecord.{FileRecord}
use Rattle.table_records.specs.declared.records.ResultRecord.{ResultRecord}
use Rattle.table_records.specs.declared.records.VolumeRecord.{VolumeRecord}
use Rattle.volume_inside.specs.Entries.{Each}
use Rattle.volume_inside.specs.Inside.{Inside}
use Rattle.volume_inside.specs.Layout.{half_bytes}
use Rattle.volume_inside.specs.Bases.{base_clusters}
use Rattle.volume_inside.specs.Named.{extent_clusters, clusters_of}
use Rattle.volume_inside.specs.Rules.{next_id_of}
use Rattle.volume_inside.specs.Typed.{Typed, FileBlock}
use Rattle.volume_inside.specs.View.{named_cells, view}
use Rattle.volume_tables.specs.Log.{log_now, log_epoch, log_place}
use Rattle.volume_tables.specs.Sizes.{name_bytes, setting_bytes, chunk_bytes}
use Rattle.volume_tables.specs.Spending.{Aside}
use Rattle.volume_tables.specs.Tables.{tables_now, inside_now, checkpoint_of, would_wear, due_of}
use Rattle.volume_tables.proofs.Answers.{as_true}
use Rattle.volume_tables.proofs.Keyed.{second_is}
use Rattle.volume_tables.proofs.Measured.{measured}
use Rattle.volume_tables.specs.Wants.{Needs, wanting, has_room, free_of, last_id}
use Rattle.volume_files.specs.Needs.{create_needs, rename_needs, delete_needs, write_needs, length_needs, missing}
use Rattle.volume_files.specs.Needs.{one_if_none, touched, first_touched}
use Rattle.volume_files.specs.Lengths.{for_file, length_of}
use Rattle.volume_files.specs.Writing.{write_wants}
use Rattle.volume_core.specs.Bounds.{files_bytes, touched_by, named_by, HasSpent, IsSpent}
use Rattle.volume_core.specs.Volumes.{tables_of, clusters_in, view_now}
use Rattle.volume_core.specs.Wants.{wants_of}
use Rattle.volume_core.specs.declared.volume.Volume.{Volume as Mounted}
use Rattle.volume_core.proofs.Told.{file_of, tables_want, wants_told}

-- ---- there are no more files than names

abbrev Names : Type 0
Names = List (List ℕ × ℕ)

abbrev has_id : ℕ → List ℕ × ℕ → Bool
has_id id e = e.1 == id

abbrev has_other : ℕ → List ℕ × ℕ → Bool
has_other id e = not (e.1 == id)

-- without the names of a file another one has as many
still_named : (x id : ℕ) → x ≢ id → (names : Names)
    → length (filter (has_id x) (filter (has_other id) names)) ≡ length (filter (has_id x) names)
still_named x id differ [] = refl
still_named x id differ (e ∷ names) = by (still_named x id differ names) (e.1 == id) refl (e.1 == x) refl
  where
    by : length (filter (has_id x) (filter (has_other id) names)) ≡ length (filter (has_id x) names)
        → (p : Bool) → (e.1 == id) ≡ p → (q : Bool) → (e.1 == x) ≡ q
        → length (filter (has_id x) (cond (not p) (e ∷ filter (has_other id) names) (filter (has_other id) names)))
        ≡ length (cond q (e ∷ filter (has_id x) names) (filter (has_id x) names))
    by rest true p true q = absurd (differ (sym (eqb-true e.1 x q) ∙ eqb-true e.1 id p))
    by rest true p false q = rest
    by rest false p true q =
        let here = ap (λ (b : Bool). length (cond b (e ∷ filter (has_id x) (filter (has_other id) names))
        (filter (has_id x) (filter (has_other id) names)))) q in
        omega (arith, here, rest)
    by rest false p false q =
        ap (λ (b : Bool). length (cond b (e ∷ filter (has_id x) (filter (has_other id) names))
        (filter (has_id x) (filter (has_other id) names)))) q
        ∙ rest

less_means : (x y : ℕ) → nat_cmp x y ≡ Less → x < y
less_means x y is = by (nat_cmp x y) (ranks x y) is
  where
    by : (r : Ordering) → MatchOrdering r (x < y) (x ≡ y) (y < x) → r ≡ Less → x < y
    by Less h e = h
    by Equal h e = absurd (cc)
    by Greater h e = absurd (cc)

others_named : (id : ℕ) (files : List (ℕ × FileRecord)) (names : Names) → T (below_all nat_cmp id files)
    → Each (λ x file. length (filter (has_id x) names) ≡ 1) files
    → Each (λ x file. length (filter (has_id x) (filter (has_other id) names)) ≡ 1) files
others_named id [] names low each = tt
others_named id (f ∷ files) names low each =
    let above : id < f.0 = less_means id f.0 (is_less (nat_cmp id f.0) (first_true _ _ low)) in (
      still_named f.0 id (λ same. omega (arith, above, same)) names ∙ each.0,
      others_named id files names (second_true (is_lt (nat_cmp id f.0)) _ low) each.1,
    )

files_named : (files : List (ℕ × FileRecord)) (names : Names) → T (is_sorted nat_cmp files)
    → Each (λ x file. length (filter (has_id x) names) ≡ 1) files → length files ≤ length names
files_named [] names sorted each = omega arith
files_named (f ∷ files) names sorted each =
    let low = first_true (below_all nat_cmp f.0 files) _ sorted in
    let rest = files_named files (filter (has_other f.0) names) (second_true (below_all nat_cmp f.0 files) _ sorted)
    (others_named f.0 files names low each.1) in
    let split = length-filter_both (has_id f.0) (has_other f.0) (λ x. refl) names in
    omega (arith, rest, split, each.0)

-- ---- what the tables hold, told by the files

shown_bytes : (i : Inside) (names : Names) → files_bytes (named_cells i names) ≡ name_bytes names + 38 * length names
shown_bytes i [] = refl
shown_bytes i (e ∷ names) = let rest = shown_bytes i names in omega (arith, rest)

extents_count : (es : List (FileBlock × Extent)) → length (extent_clusters es) ≡ length es
extents_count [] = refl
extents_count (e ∷ es) = let rest = extents_count es in omega (arith, rest)

clusters_count : (t : Typed) → length t.extents ≤ length (clusters_of t)
clusters_count t =
    let extents = extents_count t.extents in
    omega (arith, extents, length-append (extent_clusters t.extents) (base_clusters t))

missing_most : (t : Typed) (file first n : ℕ) → missing t file first n ≤ n
missing_most t file first zero = omega arith
missing_most t file first (suc n) =
    let rest = missing_most t file (first + 1) n in omega (arith, rest, one (find pair_cmp (file, first) t.extents))
  where
    one : (o : Option Extent) → one_if_none o ≤ 1
    one None = omega arith
    one (Some e) = omega arith

-- ---- what is spent

module _ {D : Type 0} {d : Ghosts D} (v : Mounted D d) (b i : ℕ) (has : HasSpent v b i) where
  view_bytes : files_bytes (view_now v) ≡ name_bytes (tables_now (tables_of v)).names + 38 * length
      (tables_now (tables_of v)).names
  unfolding view
  view_bytes = shown_bytes (inside_now (tables_of v)) (tables_now (tables_of v)).names

  checkpoint_most : checkpoint_of (tables_of v) ≤ 151 + (files_bytes (view_now v) + 24 * b)
  checkpoint_most =
      let told = (measured (log_now (tables_of v).log) (tables_of v).contents.spelled).1 in
      let one : length (typed volume_codec (log_now (tables_of v).log)) ≡ 1 =
      ap (λ (es : List (Unit {0} × VolumeRecord)). length es) (tables_of v).contents.volume in
      let four : length (typed result_codec (log_now (tables_of v).log)) ≡ 4 =
      ap (λ (es : List (JobKind × ResultRecord)). length es) (tables_of v).contents.ends_there in
      let settings : setting_bytes (typed settings_codec (log_now (tables_of v).log)) ≡ 24 =
      ap (λ (p : Aside). setting_bytes p.0) has.same in
      let chunks : chunk_bytes (tables_now (tables_of v)).chunks ≡ 0 = ap (λ (p : Aside). chunk_bytes p.1) has.same in
      let files : length (typed file_codec (log_now (tables_of v).log)) ≤ length (typed name_codec (log_now (tables_of v).log)) =
      files_named (typed file_codec (log_now (tables_of v).log)) (typed name_codec (log_now (tables_of v).log))
      (sorted_typed file_codec (log_now (tables_of v).log) (as_true (tables_of v).contents.sorted)) v.sound.rules.names.once in
      let clusters = clusters_count (tables_now (tables_of v)) in
      omega (
        arith,
        told,
        one,
        four,
        settings,
        chunks,
        files,
        clusters,
        has.clusters,
        view_bytes,
      )

  -- a commit is refused as worn only where the last epoch is taken
  pub worn_late : would_wear (tables_of v) ≡ true → last_epoch ≤ i + 2
  worn_late wears =
      by (tables_of v).worn refl
      (passes_half (half_bytes (clusters_in v)) (log_place (tables_of v).log) (due_of (tables_of v)))
      (nat_eq (log_epoch (tables_of v).log) last_epoch) refl wears
    where
      by : (was : Bool) → (tables_of v).worn ≡ was → (turns last : Bool) → nat_eq (log_epoch (tables_of v).log) last_epoch ≡ last
          → (was || (turns && last)) ≡ true → last_epoch ≤ i + 2
      by true is turns last at wears = has.worn is
      by false is turns last at wears =
          let same = eqb-true (log_epoch (tables_of v).log) last_epoch (at ∙ second_is turns last wears) in
          omega (arith, same, has.epochs)

  used_up : would_wear (tables_of v) ≡ true → 2 ^ 48 - 2 ≤ i
  used_up wears = let late = worn_late wears in omega (arith, late)

  first_told : (P : Fault → Type 0) (ids full few wears : Bool) (need free : ℕ) (fault : Fault) → (ids ≡ true → P Worn)
      → (full ≡ true → P TableFull)
      → (few ≡ true → P (Full need free)) → (wears ≡ true → P Worn)
      → cond ids (Some Worn) (cond full (Some TableFull)
      (cond few (Some (Full need free)) (cond wears (Some Worn) None))) ≡ Some fault → P fault
  first_told P true full few wears need free fault one two three four is =
      subst P (some_same Worn fault is) (one refl)
  first_told P false true few wears need free fault one two three four is =
      subst P (some_same TableFull fault is) (two refl)
  first_told P false false true wears need free fault one two three four is =
      subst P (some_same (Full need free) fault is) (three refl)
  first_told P false false false true need free fault one two three four is =
      subst P (some_same Worn fault is) (four refl)
  first_told P false false false false need free fault one two three four is =
      absurd (let clash : None ≡ Some fault = is in cc)

  told : (call : Call) (n : Needs) → n.grows ≤ named_by call + 24 * touched_by call → n.clusters ≤ touched_by call
      → (fault : Fault) → wanting (tables_of v) n ≡ Some fault → IsSpent v b i call fault
  told call n grows clusters fault is =
      first_told (IsSpent v b i call) (n.draws && nat_eq (next_id_of (tables_now (tables_of v))) last_id)
      (nat_lt (half_bytes (clusters_in v)) (checkpoint_of (tables_of v) + n.grows)) (nat_lt (free_of (tables_of v)) n.clusters)
      (not (has_room (tables_of v) n) && would_wear (tables_of v)) n.clusters (free_of (tables_of v)) fault
      (λ ids. let last = eqb-true (next_id_of (tables_now (tables_of v))) last_id (second_is n.draws _ ids) in omega
      (arith, last, has.ids))
      (λ full. let past = ltb-true (half_bytes (clusters_in v)) (checkpoint_of (tables_of v) + n.grows) full in omega
      (arith, past, grows, checkpoint_most))
      (λ few. let less = ltb-true (free_of (tables_of v)) n.clusters few in omega (arith, less, clusters, has.clusters))
      (λ wears. used_up (second_is (not (has_room (tables_of v) n)) (would_wear (tables_of v)) wears))
      is

  of_file : (o : Option ℕ) (want : ℕ → Option Fault) (fault : Fault) (P : Type 0)
      → ((id : ℕ) → want id ≡ Some fault → P) → for_file o want ≡ Some fault → P
  of_file None want fault P use_it is = absurd (let clash : None ≡ Some fault = is in cc)
  of_file (Some id) want fault P use_it is = use_it id is

  of_write : (name : List ℕ) (at : ℕ) (bytes : List ℕ) (fault : Fault) (id : ℕ)
      → write_wants (tables_of v) id at bytes ≡ Some fault → IsSpent v b i (Write name at bytes) fault
  of_write name at [] fault id is = absurd (let clash : None ≡ Some fault = is in cc)
  of_write name at (x ∷ bytes) fault id is =
      let most = missing_most (tables_now (tables_of v)) id (first_touched at) (touched at (length (x ∷ bytes))) in
      told (Write name at (x ∷ bytes)) (write_needs (tables_now (tables_of v)) id at (length (x ∷ bytes)))
      (omega (arith, most)) (omega arith) fault is

  spent_by : (call : Call) (fault : Fault) → tables_want (tables_of v) call ≡ Some fault → IsSpent v b i call fault
  spent_by (Create name) fault is = told (Create name) (create_needs name) (omega arith) (omega arith) fault is
  spent_by (Write name at bytes) fault is =
      of_file (file_of (tables_of v) name) (λ id. write_wants (tables_of v) id at bytes) fault
      (IsSpent v b i (Write name at bytes) fault) (λ id. of_write name at bytes fault id) is
  spent_by (SetLength name len) fault is =
      of_file (file_of (tables_of v) name)
      (λ id. wanting (tables_of v) (length_needs (tables_now (tables_of v)) id (length_of (tables_now (tables_of v)) id) len))
      fault
      (IsSpent v b i (SetLength name len) fault)
      (λ id want. told (SetLength name len)
      (length_needs (tables_now (tables_of v)) id (length_of (tables_now (tables_of v)) id) len) (omega arith)
      (omega arith) fault want) is
  spent_by (Rename from to) fault is = told (Rename from to) (rename_needs from to) (omega arith) (omega arith) fault is
  spent_by (Delete name) fault is = told (Delete name) (delete_needs name) (omega arith) (omega arith) fault is
  spent_by Flush fault is = flushed (would_wear (tables_of v)) refl is
    where
      flushed : (w : Bool) → would_wear (tables_of v) ≡ w → cond w (Some Worn) None ≡ Some fault
          → IsSpent v b i Flush fault
      flushed true wears want =
          subst (IsSpent v b i Flush) (some_same Worn fault want) (used_up wears)
      flushed false wears want = absurd (let clash : None ≡ Some fault = want in cc)
  spent_by (Read name at count) fault is = absurd (let clash : None ≡ Some fault = is in cc)
  spent_by (Digest name) fault is = absurd (let clash : None ≡ Some fault = is in cc)
  spent_by (Stat name) fault is = absurd (let clash : None ≡ Some fault = is in cc)
  spent_by (Next after) fault is = absurd (let clash : None ≡ Some fault = is in cc)

  pub spent : (call : Call) (fault : Fault) → wants_of v call ≡ Some fault → IsSpent v b i call fault
  spent call fault is = spent_by call fault (sym (wants_told (tables_of v) v.sound call) ∙ is)
