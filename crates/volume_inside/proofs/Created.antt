-- A file that is made keeps the rules: it draws the next id, and has a name that no other file has.
use Rattle.std.specs.Prelude.{◌≡◌, ◌≤◌, ◌<◌, ◌+◌, ◌-◌, ◌^◌, ℕ, Bool, true, false, cond, T, List, [], ◌∷◌, length, is_some, Option, Some, None, IsSome, IsSomeAnd, ◌==◌, refl}
use Rattle.std.proofs.Common.{◌∙◌, ap, sym, subst, arith, eqb-true, eq-eqb}
use Rattle.std.specs.declared.cmp.Ordering.{Ordering}
use Rattle.std.specs.declared.cmp.Ordering.TheVariants.{Less, Equal, Greater}
use Rattle.std.specs.Ordering.{nat_cmp, is_eq}
use Rattle.std.specs.Cmp.{nat_cmp_total, tied_itself}
use Rattle.std.specs.Cmp.Lexicographic.{nat_list_cmp_total}
use Rattle.std.specs.List.{filter}
use Rattle.std.specs.FinMap.{find, put, is_sorted, nat_cmp-IsAntisymmetric}
use Rattle.std.specs.FinMap.Entries.{by_order, find-put, length-put}
use Rattle.std.proofs.lemmas.Map.Lookups.{exact_bytes}
use Rattle.byte_map.specs.Words.{bytes_cmp}
use Rattle.plain_volume.specs.Volume.{is_lawful}
use Rattle.plain_volume.specs.declared.limits.TheConstants.{MOST_FILES, MOST_BYTES_OF_A_FILE}
use Rattle.table_records.specs.Keys.{single_cmp}
use Rattle.table_records.specs.Orders.{single_total}
use Rattle.table_records.specs.declared.records.VolumeRecord.{VolumeRecord}
use Rattle.table_records.specs.declared.records.FileRecord.{FileRecord}
use Rattle.table_records.specs.declared.records.Extent.{Extent}
use Rattle.volume_inside.specs.Typed.{Typed, FileBlock}
use Rattle.volume_inside.specs.Changes.{created}
use Rattle.volume_inside.specs.Entries.{Each, each_put, each_found, each_weaker}
use Rattle.table_records.specs.declared.chunk_records.Container.{Container}
use Rattle.volume_inside.specs.ChunkTables.{ChunkTables}
use Rattle.volume_inside.specs.ChunkRules.{MapRowHolds, RowHolds, ContainerRecordHolds, ContainerHolds, ChunksHold}
use Rattle.volume_inside.specs.Rules.{IsVolumeRecord, id_after, NameHolds, IsNamedOnce, FileHolds, FilesHold, LiesIn, ExtentHolds, ExtentsHold, RulesHold}
use Rattle.volume_inside.proofs.Lawfuls.{there_after, lies_after}

abbrev Names : Type 0
Names = List (List ℕ × ℕ)

abbrev pub one_if : Bool → ℕ
one_if true = 1
one_if false = 0

-- how many names a file has once a new name is put
pub names_after_put : (x id : ℕ) (name : List ℕ) (names : List (List ℕ × ℕ)) → find bytes_cmp name names ≡ None
    → length (filter (λ e. e.1 == x) (put bytes_cmp name id names)) ≡ one_if (id == x) + length (filter (λ e. e.1 == x) names)
names_after_put x id name [] none =
    let one : Names = (name, id) ∷ [] in
    elim (id == x) as (λ b. length (cond b one []) ≡ one_if b + 0) [ true ↦ omega arith | false ↦ omega arith ]
names_after_put x id name (e ∷ names) none =
    by (bytes_cmp name e.0) none (λ later. names_after_put x id name names later)
  where
    by : (r : Ordering) → cond (is_eq r) (Some e.1) (find bytes_cmp name names) ≡ None
        → (find bytes_cmp name names ≡ None
        → length (filter (λ e. e.1 == x) (put bytes_cmp name id names)) ≡ one_if (id == x) + length (filter (λ e. e.1 == x) names))
        → length (filter (λ e. e.1 == x) (by_order r ((name, id) ∷ e ∷ names) ((e.0, id) ∷ names) (e ∷ put bytes_cmp name id names)))
        ≡ one_if (id == x) + length (cond (e.1 == x) (e ∷ filter (λ e. e.1 == x) names) (filter (λ e. e.1 == x) names))
    by Less at later =
        elim (id == x) as (λ (b : Bool). length (cond b ((name, id) ∷ filter (λ e. e.1 == x) (e ∷ names)) (filter (λ e. e.1 == x) (e ∷ names)))
        ≡ one_if b + length (filter (λ e. e.1 == x) (e ∷ names))) [ true ↦ omega arith | false ↦ omega arith ]
    by Equal at later = absurd (cc)
    by Greater at later =
        let more = later at in
        elim (e.1 == x) as (λ b. length (cond b (e ∷ filter (λ e. e.1 == x) (put bytes_cmp name id names)) (filter (λ e. e.1 == x) (put bytes_cmp name id names)))
        ≡ one_if (id == x) + length (cond b (e ∷ filter (λ e. e.1 == x) names) (filter (λ e. e.1 == x) names))) [
          | true ↦ omega (arith, more)
          | false ↦ more
        ]

-- a file that is there has an id below the next one
pub drawn_id : (next x : ℕ) (files : List (ℕ × FileRecord)) → FilesHold next files → IsSome (find nat_cmp x files) → x < next
drawn_id next x files hold there = by (find nat_cmp x files) refl there
  where
    by : (o : Option FileRecord) → find nat_cmp x files ≡ o → IsSome o → x < next
    by None is none = absurd (cc)
    by (Some file) is some = (each_found nat_cmp nat_cmp-IsAntisymmetric (FileHolds next) x file files is hold).drawn

lies_there : (k : FileBlock) (e : Extent) (o : Option FileRecord) → LiesIn k e o → IsSome o
lies_there k e None lies = absurd lies
lies_there k e (Some file) lies = refl

-- no name names an id that was not drawn
unnamed_id : (next : ℕ) (files : List (ℕ × FileRecord)) → FilesHold next files → (names : Names) → Each (NameHolds files) names
    → length (filter (λ e. e.1 == next) names) ≡ 0
unnamed_id next files hold [] each = refl
unnamed_id next files hold (e ∷ names) each =
    let low = drawn_id next e.1 files hold each.0.names_file in
    let rest = unnamed_id next files hold names each.1 in
    by (e.1 == next) (λ same. omega (arith, low, eqb-true e.1 next same)) rest
  where
    by : (b : Bool) → (b ≡ true → ⊥) → length (filter (λ e. e.1 == next) names) ≡ 0
        → length (cond b (e ∷ filter (λ e. e.1 == next) names) (filter (λ e. e.1 == next) names)) ≡ 0
    by true never rest = absurd (never refl)
    by false never rest = rest

not_same : (a b : ℕ) → a < b → (b == a) ≡ false
not_same a b less = by (b == a) (λ same. omega (arith, less, eqb-true b a same))
  where
    by : (t : Bool) → (t ≡ true → ⊥) → t ≡ false
    by true never = absurd (never refl)
    by false never = refl

-- once more ids are drawn, the tables of chunks meet their rules
chunks_drawn : (n low high : ℕ) (t : ChunkTables) → low ≤ high → ChunksHold n low t → ChunksHold n high t
chunks_drawn n low high t le h = record {
  rows = each_weaker (RowHolds low) (RowHolds high) t.rows
      (λ id row r. record {
        some_id = r.some_id;
        drawn = omega (arith, r.drawn, le);
        some_seen = r.some_seen;
        some_kind = r.some_kind;
        kind = r.kind;
        if_data = r.if_data;
        if_map = r.if_map;
      }) h.rows;
  redirects = h.redirects;
  places = h.places;
  containers = record {
    containers = each_weaker (ContainerHolds low t.clusters) (ContainerHolds high t.clusters) t.containers
        (λ id c r. record { own = drawn_container id c r.own; whole = r.whole }) h.containers.containers;
    clusters = h.containers.clusters;
    in_data = h.containers.in_data;
  };
}
  where
    drawn_container : (id : ℕ) (c : Container) → ContainerRecordHolds low id c → ContainerRecordHolds high id c
    drawn_container id c r = record {
      some_id = r.some_id;
      drawn = omega (arith, r.drawn, le);
      some_kind = r.some_kind;
      kind = r.kind;
      some_bytes = r.some_bytes;
      few = r.few;
    }

module _ (n : ℕ) (t : Typed) (rules : RulesHold n t) (v : VolumeRecord) (there : find single_cmp tt t.volume ≡ Some v)
    (name : List ℕ) (file : FileRecord) where
  files_before : FilesHold v.next_id t.files
  files_before = subst (λ (next : ℕ). FilesHold next t.files) (ap id_after there) rules.files

  volume_after : find single_cmp tt (created v name file t).volume ≡ Some (record { version = 1; next_id = v.next_id + 1 })
  volume_after = find-put single_cmp single_total tt tt (record { version = 1; next_id = v.next_id + 1 }) t.volume

  file_after : find nat_cmp v.next_id (created v name file t).files ≡ Some file
  file_after =
      find-put nat_cmp nat_cmp_total v.next_id v.next_id file t.files
      ∙ ap (λ (r : Ordering). cond (is_eq r) (Some file) (find nat_cmp v.next_id t.files)) (tied_itself nat_cmp_total v.next_id)

  one_volume : 1 ≤ v.next_id
  one_volume =
      let lawful : IsVolumeRecord v = subst (λ (o : Option VolumeRecord). IsSomeAnd o IsVolumeRecord) there rules.records.volume in
      lawful.some_id

  module _ (lawful : is_lawful name ≡ true) (new : find bytes_cmp name t.names ≡ None) (sorted : T (is_sorted bytes_cmp t.names))
      (few : length t.names < MOST_FILES) (ids : v.next_id < 2 ^ 48 - 1)
      (short : file.length ≤ MOST_BYTES_OF_A_FILE) (no_map : file.map_row ≡ 0) (no_cover : file.covers ≡ 0) where
    once_hold : (files : List (ℕ × FileRecord)) → FilesHold v.next_id files → Each (IsNamedOnce t.names) files
        → Each (IsNamedOnce (created v name file t).names) files
    once_hold [] each once = tt
    once_hold (e ∷ files) each once =
        let count = names_after_put e.0 v.next_id name t.names new
        ∙ ap (λ (b : Bool). one_if b + length (filter (λ x. x.1 == e.0) t.names)) (not_same e.0 v.next_id each.0.drawn) in
        (count ∙ zero_more (length (filter (λ x. x.1 == e.0) t.names)) ∙ once.0, once_hold files each.1 once.1)
      where
        zero_more : (a : ℕ) → one_if false + a ≡ a
        zero_more a = omega arith

    extents_hold : ExtentsHold n (created v name file t).files t.extents
    extents_hold =
        each_weaker (ExtentHolds n t.files) (ExtentHolds n (created v name file t).files) t.extents
        (λ k e h. let low = drawn_id v.next_id k.0 t.files files_before (lies_there k e (find nat_cmp k.0 t.files) h.in_file) in record {
          in_file = lies_after k e v.next_id file t.files h.in_file (λ same. absurd (omega (arith, low, same)));
          some_bytes = h.some_bytes;
          in_cluster = h.in_cluster;
          in_data = h.in_data;
        }) rules.extents

    named_once : IsNamedOnce (created v name file t).names v.next_id file
    named_once =
        names_after_put v.next_id v.next_id name t.names new
        ∙ (λ i. one_if (eq-eqb v.next_id v.next_id refl i) + unnamed_id v.next_id t.files files_before t.names rules.names.names i)

    files_after : FilesHold (v.next_id + 1) (created v name file t).files
    files_after =
        each_put nat_cmp nat_cmp-IsAntisymmetric (FileHolds (v.next_id + 1)) v.next_id file t.files
        (record {
          some_id = one_volume;
          drawn = omega arith;
          short = short;
          cover = record { within = omega (arith, no_cover); no_map = λ is. no_map; no_cover = λ is. no_cover };
        })
        (each_weaker (FileHolds v.next_id) (FileHolds (v.next_id + 1)) t.files
        (λ x f h. record { some_id = h.some_id; drawn = omega (arith, h.drawn); short = h.short; cover = h.cover })
        files_before)

    chunks_after : ChunksHold n (v.next_id + 1) t.chunks
    chunks_after =
        chunks_drawn n v.next_id (v.next_id + 1) t.chunks (omega arith)
        (subst (λ (next : ℕ). ChunksHold n next t.chunks) (ap id_after there) rules.chunks)

    -- THE NEW FILE: the tables with it meet the rules
    pub rules_created : RulesHold n (created v name file t)
    rules_created = record {
      records = record {
        volume = subst (λ (o : Option VolumeRecord). IsSomeAnd o IsVolumeRecord) (sym volume_after)
            (record { version = refl; some_id = omega arith; last_id = omega (arith, ids) });
        settings = rules.records.settings;
        results = rules.records.results;
      };
      names = record {
        names = each_put bytes_cmp exact_bytes (NameHolds (created v name file t).files) name v.next_id t.names
            (record { lawful = lawful; names_file = ap is_some file_after })
            (each_weaker (NameHolds t.files) (NameHolds (created v name file t).files) t.names
            (λ other x h. record { lawful = h.lawful; names_file = there_after v.next_id x file t.files h.names_file }) rules.names.names);
        once = each_put nat_cmp nat_cmp-IsAntisymmetric (IsNamedOnce (created v name file t).names) v.next_id file t.files named_once
            (once_hold t.files files_before rules.names.once);
        few =
            let long = length-put bytes_cmp nat_list_cmp_total name v.next_id t.names sorted
            ∙ ap (λ (o : Option ℕ). cond (is_some o) (length t.names) (length t.names + 1)) new in
            omega (arith, long, few);
      };
      files = subst (λ (next : ℕ). FilesHold next (created v name file t).files) (sym (ap id_after volume_after)) files_after;
      map_rows = each_put nat_cmp nat_cmp-IsAntisymmetric (MapRowHolds t.chunks.rows) v.next_id file t.files
          (λ some. absurd (some no_map)) rules.map_rows;
      extents = extents_hold;
      chunks = subst (λ (next : ℕ). ChunksHold n next t.chunks) (sym (ap id_after volume_after)) chunks_after;
      clusters = rules.clusters;
    }
