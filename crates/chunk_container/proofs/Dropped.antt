-- Rows and copies that are dropped: the rules without them.
use Rattle.std.specs.Prelude.{◌≡◌, ◌+◌, ◌==◌, ℕ, Bool, true, false, cond, not, List, [], ◌∷◌, length, Option, Some, None, IsSome, IsSomeAnd, IsTrue, refl}
use Rattle.std.proofs.Common.{◌∙◌, ap, sym, subst, arith, ne_eqb, eq-eqb}
use Rattle.std.specs.declared.cmp.Ordering.{Ordering}
use Rattle.std.specs.declared.cmp.Ordering.TheVariants.{Less, Equal, Greater}
use Rattle.std.specs.Ordering.{nat_cmp, is_eq, eq_by_cmp}
use Rattle.std.specs.Cmp.{tied_itself}
use Rattle.std.specs.FinMap.{find}
use Rattle.std.specs.FinMap.Entries.{where_key}
use Rattle.std.proofs.lemmas.Map.Lookups.{exact_unsigned}
use Rattle.vdisk.specs.declared.disk.Disk.{Ghosts}
use Rattle.cluster_space.specs.States.{free_in, deferred_in}
use Rattle.table_records.specs.Keys.{pair_cmp}
use Rattle.table_records.specs.Orders.{pair_total}
use Rattle.table_records.specs.declared.records.FileRecord.{FileRecord}
use Rattle.table_records.specs.declared.chunk_records.Row.{Row}
use Rattle.table_records.specs.declared.chunk_records.Place.{Place}
use Rattle.table_records.specs.Changes.{is_in_range}
use Rattle.volume_inside.specs.Changes.{keep_rows, keep_places}
use Rattle.volume_inside.specs.ChunkRules.{IsMapRow, MapRowHolds, MapsHold, RowHolds, IsTarget, RedirectHolds, PlaceOfHolds, PlaceHolds, FirstCopyHolds, ChunksHold}
use Rattle.volume_inside.specs.ChunkTables.{ChunkTables, CopyKey}
use Rattle.volume_inside.specs.Bases.{bases_of}
use Rattle.volume_inside.specs.Entries.{Each, each_found, each_weaker, each_where_key}
use Rattle.volume_inside.specs.Inside.{inside_at}
use Rattle.volume_inside.specs.Mapping.{HasEntries}
use Rattle.volume_inside.specs.Layout.{data_clusters}
use Rattle.volume_inside.specs.Named.{clusters_of}
use Rattle.volume_inside.specs.Rules.{next_id_of, RulesHold}
use Rattle.volume_inside.specs.Typed.{Typed}
use Rattle.volume_tables.specs.Setters.{IsDroppedIn}
use Rattle.volume_tables.specs.Sound.{IsSound}
use Rattle.volume_tables.specs.Tables.{tables_now, states_of, disk_of, clusters_in, stopped, HasMaps}
use Rattle.volume_tables.specs.declared.tables.Tables.{Tables}
use Rattle.chunk_container.specs.Calls.{IsSoundWithout}
use Rattle.chunk_container.specs.Bases.{IsOutOfMaps}
use Rattle.chunk_container.specs.Rows.{without_copy, without_copies, without_row, IsUntargeted, IsUnmapped, AreOthersGone}
use Rattle.chunk_container.proofs.Finds.{each_both, each_kept, found_kept, found_dropped}
use Rattle.chunk_container.proofs.Ranges.{id_range, copy_range}
use Rattle.chunk_container.proofs.MapsLeft.{IsMap, maps_stayed, maps_kept, same_like}
use Rattle.chunk_container.proofs.RowRules.{exact_keys}

-- ---- keys of other rows

other_test : (id x : ℕ) → (x ≡ id → ⊥) → not (x == id) ≡ true
other_test id x differ = ap not (ne_eqb x id differ)

test_other : (id x : ℕ) → not (x == id) ≡ true → x ≡ id → ⊥
test_other id x is same =
    let clash : false ≡ true = sym (ap not (eq-eqb x id same)) ∙ is in
    cc

tied_key : (k q : CopyKey) → eq_by_cmp pair_cmp k q ≡ true → k ≡ q
tied_key k q is = by (pair_cmp k q) refl is
  where
    by : (r : Ordering) → pair_cmp k q ≡ r → is_eq r ≡ true → k ≡ q
    by Less at tie = absurd (cc)
    by Equal at tie = exact_keys k q at
    by Greater at tie = absurd (cc)

-- ---- a second copy

-- WITHOUT A SECOND COPY the rules hold
pub rules_without_second : (n : ℕ) (t : Typed) (k : CopyKey) → RulesHold n t → (k.1 ≡ 0 → ⊥)
    → RulesHold n (without_copy k t)
rules_without_second n t k rules second = record {
  records = rules.records;
  names = rules.names;
  files = rules.files;
  map_rows = rules.map_rows;
  extents = rules.extents;
  chunks = record {
    rows = rules.chunks.rows;
    redirects = rules.chunks.redirects;
    places = record {
      places = each_where_key pair_cmp (PlaceHolds t.chunks.rows t.chunks.containers) test t.chunks.places
          rules.chunks.places.places;
      first_copies = each_weaker (FirstCopyHolds t.chunks.places)
          (FirstCopyHolds (where_key pair_cmp test t.chunks.places)) t.chunks.rows
          (λ x r holds own. subst IsSome (sym (found_kept pair_cmp exact_keys test (x, 0) t.chunks.places (first x)))
          (holds own)) rules.chunks.places.first_copies;
    };
    containers = record {
      containers = rules.chunks.containers.containers;
      clusters = rules.chunks.containers.clusters;
      in_data = rules.chunks.containers.in_data;
    };
  };
  clusters = rules.clusters;
}
  where
    test : CopyKey → Bool
    test q = not (eq_by_cmp pair_cmp k q)

    first : (x : ℕ) → not (eq_by_cmp pair_cmp k (x, 0)) ≡ true
    first x = by (eq_by_cmp pair_cmp k (x, 0)) refl
      where
        by : (b : Bool) → eq_by_cmp pair_cmp k (x, 0) ≡ b → not b ≡ true
        by true is = absurd (second (ap (λ (q : CopyKey). q.1) (tied_key k (x, 0) is)))
        by false is = refl

-- ---- a row with all its copies

module _ (n next : ℕ) (t : ChunkTables) (h : ChunksHold n next t) (id : ℕ) (untargeted : IsUntargeted t.rows id) where
  abbrev rows_left : List (ℕ × Row)
  rows_left = where_key nat_cmp (λ x. not (x == id)) t.rows

  abbrev places_left : List (CopyKey × Place)
  places_left = where_key pair_cmp (λ k. not (k.0 == id)) t.places

  pub row_left : (P : Row → Type 0) (x : ℕ) → (x ≡ id → ⊥) → IsSomeAnd (find nat_cmp x t.rows) P
      → IsSomeAnd (find nat_cmp x rows_left) P
  row_left P x differ holds = subst (λ (o : Option Row). IsSomeAnd o P)
      (sym (found_kept nat_cmp exact_unsigned (λ y. not (y == id)) x t.rows (other_test id x differ))) holds

  pub place_left : (x copy : ℕ) → (x ≡ id → ⊥) → find pair_cmp (x, copy) places_left ≡ find pair_cmp (x, copy) t.places
  place_left x copy differ =
      found_kept pair_cmp exact_keys (λ k. not (k.0 == id)) (x, copy) t.places (other_test id x differ)

  abbrev Redirects : ℕ → Row → Type 0
  Redirects x r = RedirectHolds t.rows x r × (r.redirect ≡ id → ⊥)

  pub chunks_without : ChunksHold n next (record t { rows = rows_left; places = places_left })
  chunks_without = record {
    rows = each_where_key nat_cmp (RowHolds next) (λ x. not (x == id)) t.rows h.rows;
    redirects = each_kept nat_cmp Redirects (RedirectHolds rows_left) (λ x. not (x == id)) t.rows
        (λ x r is holds some. row_left (IsTarget x r) r.redirect holds.1 (holds.0 some))
        (each_both (RedirectHolds t.rows) (λ x r. r.redirect ≡ id → ⊥) Redirects t.rows (λ x r one two. (one, two))
        h.redirects untargeted);
    places = record {
      places = each_kept pair_cmp (PlaceHolds t.rows t.containers) (PlaceHolds rows_left t.containers)
          (λ k. not (k.0 == id)) t.places
          (λ k p is holds. row_left (PlaceOfHolds t.containers k.1 p) k.0 (test_other id k.0 is) holds)
          h.places.places;
      first_copies = each_kept nat_cmp (FirstCopyHolds t.places) (FirstCopyHolds places_left) (λ x. not (x == id)) t.rows
          (λ x r is holds own. subst IsSome (sym (place_left x 0 (test_other id x is))) (holds own))
          h.places.first_copies;
    };
    containers = record {
      containers = h.containers.containers;
      clusters = h.containers.clusters;
      in_data = h.containers.in_data;
    };
  }

-- a file meets the rule on its map, which another row is
abbrev HasOtherMap : Typed → ℕ → ℕ → FileRecord → Type 0
HasOtherMap t id x f = MapRowHolds t.chunks.rows x f × (f.map_row ≡ id → ⊥)

-- WITHOUT A ROW that no redirect and no file names, and without its copies, the rules hold
pub rules_without_row : (n : ℕ) (t : Typed) (id : ℕ) → RulesHold n t → IsUntargeted t.chunks.rows id
    → IsUnmapped t.files id → RulesHold n (without_copies id (without_row id t))
rules_without_row n t id rules untargeted unmapped = record {
  records = rules.records;
  names = rules.names;
  files = rules.files;
  map_rows = each_weaker (HasOtherMap t id) (MapRowHolds (without_row id t).chunks.rows) t.files
      (λ x f both some. row_left n (next_id_of t) t.chunks rules.chunks id untargeted IsMapRow f.map_row both.1
      (both.0 some))
      (each_both (MapRowHolds t.chunks.rows) (λ x f. f.map_row ≡ id → ⊥) (HasOtherMap t id) t.files (λ x f one two. (one, two))
      rules.map_rows unmapped);
  extents = rules.extents;
  chunks = chunks_without n (next_id_of t) t.chunks rules.chunks id untargeted;
  clusters = rules.clusters;
}

-- ---- the maps

-- a row of a map has no second copy, so that it keeps its copies without one
pub maps_without_second : (n : ℕ) (t : Typed) (k : CopyKey) (image : List ℕ) → RulesHold n t → k.1 ≡ 1
    → MapsHold (inside_at t image) → MapsHold (inside_at (without_copy k t) image)
maps_without_second n t k image rules second =
    maps_stayed n t (without_copy k t) image rules refl refl refl (λ id. same_like t (without_copy k t) id refl)
    (λ m is. record { row = refl; copies = λ copy. by m copy is (eq_by_cmp pair_cmp k (m, copy)) refl })
  where
    test : CopyKey → Bool
    test q = not (eq_by_cmp pair_cmp k q)

    none : (m : ℕ) → IsMap t m → (o : Option Place) → find pair_cmp (m, 1) t.chunks.places ≡ o
        → find pair_cmp (m, 1) t.chunks.places ≡ None
    none m is None at = at
    none m is (Some p) at =
        let holds = each_found pair_cmp exact_keys (PlaceHolds t.chunks.rows t.chunks.containers) (m, 1) p t.chunks.places
        at rules.chunks.places.places in
        absurd (kinds (find nat_cmp m t.chunks.rows) is holds)
      where
        kinds : (o : Option Row) → IsSomeAnd o IsMapRow → IsSomeAnd o (PlaceOfHolds t.chunks.containers 1 p) → ⊥
        kinds None map place = map
        kinds (Some row) map place = (let other = place.if_second refl in omega (arith, map, other))

    by : (m copy : ℕ) → IsMap t m → (b : Bool) → eq_by_cmp pair_cmp k (m, copy) ≡ b
        → find pair_cmp (m, copy) (where_key pair_cmp test t.chunks.places) ≡ find pair_cmp (m, copy) t.chunks.places
    by m copy is true tie =
        let same : k ≡ (m, copy) = tied_key k (m, copy) tie in
        let one : copy ≡ 1 = sym (ap (λ (q : CopyKey). q.1) same) ∙ second in
        found_dropped pair_cmp exact_keys test (m, copy) t.chunks.places (ap not tie)
        ∙ sym (ap (λ (c : ℕ). find pair_cmp (m, c) t.chunks.places) one
        ∙ none m is (find pair_cmp (m, 1) t.chunks.places) refl)
    by m copy is false tie = found_kept pair_cmp exact_keys test (m, copy) t.chunks.places (ap not tie)

-- without a row that no file and no map names
pub maps_without_row : (n : ℕ) (t : Typed) (id : ℕ) (image : List ℕ) (rules : RulesHold n t)
    → IsUntargeted t.chunks.rows id → IsUnmapped t.files id
    → Each (HasEntries (bases_of t image) (λ e. e.id ≡ id → ⊥)) t.files
    → MapsHold (inside_at t image) → MapsHold (inside_at (without_copies id (without_row id t)) image)
maps_without_row n t id image rules untargeted unmapped out =
    let u : Typed = without_copies id (without_row id t) in
    let same : (x : ℕ) → (x ≡ id → ⊥) → find nat_cmp x u.chunks.rows ≡ find nat_cmp x t.chunks.rows = λ x differ.
    found_kept nat_cmp exact_unsigned (λ y. not (y == id)) x t.chunks.rows (other_test id x differ) in
    maps_kept n t u image rules refl refl refl (λ x. x ≡ id → ⊥) (λ x differ. same_like t u x (same x differ))
    (λ m differ is. record {
      row = same m differ;
      copies = λ copy. place_left n (next_id_of t) t.chunks rules.chunks id untargeted m copy differ;
    })
    (each_both (λ x f. f.map_row ≡ id → ⊥) (HasEntries (bases_of t image) (λ e. e.id ≡ id → ⊥))
    (λ x f. (f.map_row ≡ id → ⊥) × HasEntries (bases_of t image) (λ e. e.id ≡ id → ⊥) x f) t.files
    (λ x f one two. (one, two)) unmapped out)

-- ---- copies that are gone

-- no place of a row is left
none_left : (id : ℕ) (ps : List (CopyKey × Place)) → ((copy : ℕ) → find pair_cmp (id, copy) ps ≡ None)
    → where_key pair_cmp (λ k. not (k.0 == id)) ps ≡ ps
none_left id [] none = refl
none_left id (p ∷ ps) none =
    ap (λ (b : Bool). cond b (p ∷ where_key pair_cmp (λ k. not (k.0 == id)) ps)
    (where_key pair_cmp (λ k. not (k.0 == id)) ps)) (other_test id p.0.0 other)
    ∙ ap (λ (rest : List (CopyKey × Place)). p ∷ rest) (none_left id ps (λ copy. behind copy (none copy)))
  where
    other : p.0.0 ≡ id → ⊥
    other same =
        let tie : pair_cmp (id, p.0.1) p.0 ≡ Equal = ap (λ (x : ℕ). pair_cmp (x, p.0.1) p.0) (sym same)
        ∙ tied_itself pair_total p.0 in
        let found : find pair_cmp (id, p.0.1) (p ∷ ps) ≡ Some p.1 =
        ap (λ (r : Ordering). cond (is_eq r) (Some p.1) (find pair_cmp (id, p.0.1) ps)) tie in
        let clash : Some p.1 ≡ None = sym found ∙ none p.0.1 in
        cc

    behind : (copy : ℕ) → find pair_cmp (id, copy) (p ∷ ps) ≡ None → find pair_cmp (id, copy) ps ≡ None
    behind copy is = by (pair_cmp (id, copy) p.0) is
      where
        by : (r : Ordering) → cond (is_eq r) (Some p.1) (find pair_cmp (id, copy) ps) ≡ None
            → find pair_cmp (id, copy) ps ≡ None
        by Less at = at
        by Equal at = absurd (cc)
        by Greater at = at

-- without one copy and then without the others, as without all
all_gone : (k : CopyKey) (ps : List (CopyKey × Place))
    → where_key pair_cmp (λ q. not (q.0 == k.0)) (where_key pair_cmp (λ q. not (eq_by_cmp pair_cmp k q)) ps)
    ≡ where_key pair_cmp (λ q. not (q.0 == k.0)) ps
all_gone k [] = refl
all_gone k (p ∷ ps) = by (eq_by_cmp pair_cmp k p.0) refl (all_gone k ps)
  where
    by : (b : Bool) → eq_by_cmp pair_cmp k p.0 ≡ b
        → where_key pair_cmp (λ q. not (q.0 == k.0)) (where_key pair_cmp (λ q. not (eq_by_cmp pair_cmp k q)) ps)
        ≡ where_key pair_cmp (λ q. not (q.0 == k.0)) ps
        → where_key pair_cmp (λ q. not (q.0 == k.0))
        (cond (not b) (p ∷ where_key pair_cmp (λ q. not (eq_by_cmp pair_cmp k q)) ps)
        (where_key pair_cmp (λ q. not (eq_by_cmp pair_cmp k q)) ps))
        ≡ cond (not (p.0.0 == k.0)) (p ∷ where_key pair_cmp (λ q. not (q.0 == k.0)) ps)
        (where_key pair_cmp (λ q. not (q.0 == k.0)) ps)
    by true is rest =
        rest ∙ sym (ap (λ (b : Bool). cond (not b) (p ∷ where_key pair_cmp (λ q. not (q.0 == k.0)) ps)
        (where_key pair_cmp (λ q. not (q.0 == k.0)) ps))
        (eq-eqb p.0.0 k.0 (sym (ap (λ (q : CopyKey). q.0) (tied_key k p.0 is)))))
    by false is rest =
        ap (λ (left : List (CopyKey × Place)). cond (not (p.0.0 == k.0)) (p ∷ left) left) rest

-- of the copies of a row, without one
gone_copy : (k : CopyKey) (ps : List (CopyKey × Place)) → AreOthersGone ps k
    → (copy : ℕ) → find pair_cmp (k.0, copy) (where_key pair_cmp (λ q. not (eq_by_cmp pair_cmp k q)) ps) ≡ None
gone_copy k ps others copy = by (eq_by_cmp pair_cmp k (k.0, copy)) refl
  where
    by : (b : Bool) → eq_by_cmp pair_cmp k (k.0, copy) ≡ b
        → find pair_cmp (k.0, copy) (where_key pair_cmp (λ q. not (eq_by_cmp pair_cmp k q)) ps) ≡ None
    by true is = found_dropped pair_cmp exact_keys (λ q. not (eq_by_cmp pair_cmp k q)) (k.0, copy) ps (ap not is)
    by false is =
        found_kept pair_cmp exact_keys (λ q. not (eq_by_cmp pair_cmp k q)) (k.0, copy) ps (ap not is)
        ∙ others copy (λ same.
        let tie : eq_by_cmp pair_cmp k (k.0, copy) ≡ true =
        ap (λ (x : ℕ). eq_by_cmp pair_cmp k (k.0, x)) same ∙ ap is_eq (tied_itself pair_total k) in
        let clash : true ≡ false = sym tie ∙ is in
        cc)

-- ---- the tables

-- the range of one copy, and of one row
pub copy_drop : {D : Type 0} {d : Ghosts D} (k : CopyKey) (bytes : ℕ) (old new : Tables D d)
    → IsDroppedIn (keep_places (λ q. not (is_in_range pair_cmp k (Some (k.0, k.1 + 1)) q))) bytes (states_of old) old new
    → IsDroppedIn (without_copy k) bytes (states_of old) old new
copy_drop k bytes old new drop = record {
  tables = drop.tables ∙ (λ i. keep_places (λ q. not (copy_range k q i)) (tables_now old));
  checkpoint = drop.checkpoint;
  staged = drop.staged;
  leaves = drop.leaves;
  states = drop.states;
  image = drop.image;
  running = drop.running;
}

pub row_drop : {D : Type 0} {d : Ghosts D} (id bytes : ℕ) (old new : Tables D d)
    → IsDroppedIn (keep_rows (λ x. not (is_in_range nat_cmp id (Some (id + 1)) x))) bytes (states_of old) old new
    → IsDroppedIn (without_row id) bytes (states_of old) old new
row_drop id bytes old new drop = record {
  tables = drop.tables ∙ (λ i. keep_rows (λ x. not (id_range id x i)) (tables_now old));
  checkpoint = drop.checkpoint;
  staged = drop.staged;
  leaves = drop.leaves;
  states = drop.states;
  image = drop.image;
  running = drop.running;
}

module _ {D : Type 0} {d : Ghosts D} (change : Typed → Typed) (bytes : ℕ) (old new : Tables D d)
    (drop : IsDroppedIn change bytes (states_of old) old new)
    (same : (q : Typed) → clusters_of (change q) ≡ clusters_of q) where
  counted_left : (stopped old ≡ false
      → free_in (states_of old) + deferred_in (states_of old) + length (clusters_of (tables_now old))
      ≡ data_clusters (clusters_in old))
      → stopped new ≡ false
      → free_in (states_of new) + deferred_in (states_of new) + length (clusters_of (tables_now new))
      ≡ data_clusters (clusters_in new)
  counted_left counted runs =
      let named : clusters_of (tables_now new) ≡ clusters_of (tables_now old) =
      ap (λ (x : Typed). clusters_of x) drop.tables ∙ same (tables_now old) in
      (λ i. free_in (drop.states i) + deferred_in (drop.states i) + length (named i))
      ∙ counted (sym drop.running ∙ runs) ∙ ap (λ (k : ℕ). data_clusters k) (sym drop.leaves.clusters)

  rules_left : (f : Typed → Typed) → RulesHold (clusters_in old) (f (change (tables_now old)))
      → RulesHold (clusters_in new) (f (tables_now new))
  rules_left f rules = subst (λ (x : ℕ × Typed). RulesHold x.0 (f x.1))
      (λ i. (sym drop.leaves.clusters i, sym drop.tables i)) rules

  -- where the disk tells still what it holds
  pub maps_told : (f : Typed → Typed)
      → (IsTrue (disk_of old).tells → MapsHold (inside_at (f (change (tables_now old))) (disk_of old).image))
      → IsTrue (disk_of new).tells → MapsHold (inside_at (f (tables_now new)) (disk_of new).image)
  maps_told f maps told =
      subst MapsHold (sym (λ i. inside_at (f (drop.tables i)) (drop.image i))) (maps (sym drop.leaves.tells ∙ told))

  pub sound_left : IsSound old → RulesHold (clusters_in old) (change (tables_now old))
      → (IsTrue (disk_of old).tells → MapsHold (inside_at (change (tables_now old)) (disk_of old).image)) → IsSound new
  sound_left sound rules maps = record {
    rules = rules_left (λ q. q) rules;
    maps = maps_told (λ q. q) maps;
    counted = counted_left sound.counted;
  }

  pub without_left : (id : ℕ) → IsSound old → RulesHold (clusters_in old) (without_copies id (change (tables_now old)))
      → (IsTrue (disk_of old).tells
      → MapsHold (inside_at (without_copies id (change (tables_now old))) (disk_of old).image)) → IsSoundWithout id new
  without_left id sound rules maps = record {
    rules = rules_left (without_copies id) rules;
    maps = maps_told (without_copies id) maps;
    counted = counted_left sound.counted;
  }

-- ---- one copy

module _ {D : Type 0} {d : Ghosts D} (k : CopyKey) (bytes : ℕ) (old new : Tables D d)
    (drop : IsDroppedIn (without_copy k) bytes (states_of old) old new) where
  pub second_left : IsSound old → k.1 ≡ 1 → IsSound new
  second_left sound second = sound_left (without_copy k) bytes old new drop (λ q. refl) sound
      (rules_without_second (clusters_in old) (tables_now old) k sound.rules (λ first. omega (arith, first, second)))
      (λ told. maps_without_second (clusters_in old) (tables_now old) k (disk_of old).image sound.rules second
      (sound.maps told))

  rules_gone : IsSoundWithout k.0 old → RulesHold (clusters_in old) (without_copies k.0 (without_copy k (tables_now old)))
  rules_gone sound =
      subst (λ (ps : List (CopyKey × Place)). RulesHold (clusters_in old)
      (record (tables_now old) { chunks = record (tables_now old).chunks { places = ps } }))
      (sym (all_gone k (tables_now old).chunks.places)) sound.rules

  maps_gone : IsSoundWithout k.0 old → IsTrue (disk_of old).tells
      → MapsHold (inside_at (without_copies k.0 (without_copy k (tables_now old))) (disk_of old).image)
  maps_gone sound told =
      subst (λ (ps : List (CopyKey × Place)). MapsHold (inside_at
      (record (tables_now old) { chunks = record (tables_now old).chunks { places = ps } }) (disk_of old).image))
      (sym (all_gone k (tables_now old).chunks.places)) (sound.maps told)

  pub still_without : IsSoundWithout k.0 old → IsSoundWithout k.0 new
  still_without sound = record {
    rules = rules_left (without_copy k) bytes old new drop (λ q. refl) (without_copies k.0) (rules_gone sound);
    maps = maps_told (without_copy k) bytes old new drop (λ q. refl) (without_copies k.0) (maps_gone sound);
    counted = counted_left (without_copy k) bytes old new drop (λ q. refl) sound.counted;
  }

  last_maps : IsSoundWithout k.0 old → AreOthersGone (tables_now old).chunks.places k → HasMaps new
  last_maps sound others = maps_told (without_copy k) bytes old new drop (λ q. refl) (λ q. q) (λ told.
      subst (λ (ps : List (CopyKey × Place)). MapsHold (inside_at
      (record (tables_now old) { chunks = record (tables_now old).chunks { places = ps } }) (disk_of old).image))
      (none_left k.0 (where_key pair_cmp (λ q. not (eq_by_cmp pair_cmp k q)) (tables_now old).chunks.places)
      (gone_copy k (tables_now old).chunks.places others))
      (maps_gone sound told))

  last_rules : IsSoundWithout k.0 old → AreOthersGone (tables_now old).chunks.places k
      → RulesHold (clusters_in new) (tables_now new)
  last_rules sound others = rules_left (without_copy k) bytes old new drop (λ q. refl) (λ q. q)
      (subst (λ (ps : List (CopyKey × Place)). RulesHold (clusters_in old)
      (record (tables_now old) { chunks = record (tables_now old).chunks { places = ps } }))
      (none_left k.0 (where_key pair_cmp (λ q. not (eq_by_cmp pair_cmp k q)) (tables_now old).chunks.places)
      (gone_copy k (tables_now old).chunks.places others))
      (rules_gone sound))

  pub last_left : IsSoundWithout k.0 old → AreOthersGone (tables_now old).chunks.places k → IsSound new
  last_left sound others = record {
    rules = last_rules sound others;
    maps = last_maps sound others;
    counted = counted_left (without_copy k) bytes old new drop (λ q. refl) sound.counted;
  }

-- ---- one row

module _ {D : Type 0} {d : Ghosts D} (id bytes : ℕ) (old new : Tables D d)
    (drop : IsDroppedIn (without_row id) bytes (states_of old) old new) (sound : IsSound old)
    (untargeted : IsUntargeted (tables_now old).chunks.rows id) (unmapped : IsUnmapped (tables_now old).files id)
    (out : IsOutOfMaps old id) where
  maps_out : IsTrue (disk_of old).tells
      → MapsHold (inside_at (without_copies id (without_row id (tables_now old))) (disk_of old).image)
  maps_out told = maps_without_row (clusters_in old) (tables_now old) id (disk_of old).image sound.rules untargeted unmapped
      (out told) (sound.maps told)

  pub row_gone : IsSoundWithout id new
  row_gone = without_left (without_row id) bytes old new drop (λ q. refl) id sound
      (rules_without_row (clusters_in old) (tables_now old) id sound.rules untargeted unmapped) maps_out

  pub row_alone : ((copy : ℕ) → find pair_cmp (id, copy) (tables_now old).chunks.places ≡ None) → IsSound new
  row_alone none = sound_left (without_row id) bytes old new drop (λ q. refl) sound
      (subst (λ (ps : List (CopyKey × Place)). RulesHold (clusters_in old)
      (let q = without_row id (tables_now old) in record q { chunks = record q.chunks { places = ps } }))
      (none_left id (tables_now old).chunks.places none)
      (rules_without_row (clusters_in old) (tables_now old) id sound.rules untargeted unmapped))
      (λ told. subst (λ (ps : List (CopyKey × Place)). MapsHold (inside_at
      (let q = without_row id (tables_now old) in record q { chunks = record q.chunks { places = ps } })
      (disk_of old).image))
      (none_left id (tables_now old).chunks.places none) (maps_out told))
