-- Rows and copies that are put, and redirects, keep the rules.
use Rattle.std.specs.Prelude.{◌≡◌, ◌≤◌, ◌<◌, ◌+◌, ◌==◌, ℕ, true, false, not, T, List, Option, Some, None, IsSome, IsSomeAnd, refl}
use Rattle.std.proofs.Common.{◌∙◌, ap, sym, subst, arith, ne_eqb, eq-eqb}
use Rattle.std.specs.Ordering.{nat_cmp}
use Rattle.std.specs.declared.cmp.Ordering.TheVariants.{Equal}
use Rattle.std.specs.Cmp.{nat_cmp_total}
use Rattle.std.specs.FinMap.{find, put, is_sorted}
use Rattle.std.specs.FinMap.Entries.{where_key}
use Rattle.std.proofs.lemmas.Map.Lookups.{exact_pairs, exact_unsigned}
use Rattle.groundwork.specs.declared.limits.TheConstants.{LAST_ID}
use Rattle.table_records.specs.Keys.{single_cmp, pair_cmp}
use Rattle.table_records.specs.Orders.{pair_total, single_total}
use Rattle.table_records.specs.declared.records.VolumeRecord.{VolumeRecord}
use Rattle.table_records.specs.declared.chunk_records.Row.{Row}
use Rattle.table_records.specs.declared.chunk_records.Place.{Place}
use Rattle.table_records.specs.declared.chunk_records.Container.{Container}
use Rattle.table_records.specs.Changes.{is_in_range}
use Rattle.volume_inside.specs.Changes.{with_row, with_place, keep_rows}
use Rattle.volume_inside.specs.ChunkRules.{IsMapRow, MapRowHolds, RowHolds, IsTarget, RedirectHolds, PlaceOfHolds, PlaceHolds, FirstCopyHolds}
use Rattle.volume_inside.specs.ChunkRules.{ContainerRecordHolds, ContainerHolds, ContainersHold, ChunksHold}
use Rattle.volume_inside.specs.declared.chunk_rules.TheConstants.{DATA_ROW}
use Rattle.volume_inside.specs.ChunkTables.{ChunkTables, CopyKey}
use Rattle.volume_inside.specs.Entries.{Each, each_put, each_found, each_weaker}
use Rattle.volume_inside.specs.Rules.{IsVolumeRecord, id_after, next_id_of, FileHolds, RulesHold}
use Rattle.volume_inside.specs.Typed.{Typed}
use Rattle.volume_tables.specs.Wants.{last_id}
use Rattle.chunk_container.specs.Rows.{IsNewRow, with_new_row, IsRedirectable, redirected}
use Rattle.chunk_container.proofs.Finds.{some_and, each_both, each_kept, found_put, found_other, there_put, found_kept}
use Rattle.chunk_container.proofs.Finds.{each_replaced}
use Rattle.chunk_container.proofs.Ranges.{taken_back}

pub exact_keys : (x y : ℕ × ℕ) → pair_cmp x y ≡ Equal → x ≡ y
exact_keys = exact_pairs nat_cmp nat_cmp exact_unsigned exact_unsigned

-- ---- a row that is there

module _ (next : ℕ) (t : ChunkTables) (rows : Each (RowHolds next) t.rows) where
  pub row_of : (id : ℕ) (row : Row) → find nat_cmp id t.rows ≡ Some row → RowHolds next id row
  row_of id row is = each_found nat_cmp exact_unsigned (RowHolds next) id row t.rows is rows

  row_there : (id : ℕ) → IsSome (find nat_cmp id t.rows) → (1 ≤ id) × (id < next)
  row_there id there = by (find nat_cmp id t.rows) refl there
    where
      by : (o : Option Row) → find nat_cmp id t.rows ≡ o → IsSome o → (1 ≤ id) × (id < next)
      by None is some = absurd (cc)
      by (Some row) is some = let holds = row_of id row is in (holds.some_id, holds.drawn)

  pub low_row : (id : ℕ) → IsSome (find nat_cmp id t.rows) → id < next
  low_row id there = (row_there id there).1

  pub some_row : (id : ℕ) → IsSome (find nat_cmp id t.rows) → 1 ≤ id
  some_row id there = (row_there id there).0

-- ---- once more ids are drawn

pub drawn_row : (low high id : ℕ) (row : Row) → low ≤ high → RowHolds low id row → RowHolds high id row
drawn_row low high id row le r = record {
  some_id = r.some_id;
  drawn = omega (arith, r.drawn, le);
  some_seen = r.some_seen;
  some_kind = r.some_kind;
  kind = r.kind;
  if_data = r.if_data;
  if_map = r.if_map;
}

pub drawn_container : (low high id : ℕ) (c : Container) → low ≤ high → ContainerRecordHolds low id c
    → ContainerRecordHolds high id c
drawn_container low high id c le r = record {
  some_id = r.some_id;
  drawn = omega (arith, r.drawn, le);
  some_kind = r.some_kind;
  kind = r.kind;
  some_bytes = r.some_bytes;
  few = r.few;
}

drawn_containers : (n low high : ℕ) (t : ChunkTables) → low ≤ high → ContainersHold n low t → ContainersHold n high t
drawn_containers n low high t le h = record {
  containers = each_weaker (ContainerHolds low t.clusters) (ContainerHolds high t.clusters) t.containers
      (λ id c r. record { own = drawn_container low high id c le r.own; whole = r.whole }) h.containers;
  clusters = h.clusters;
  in_data = h.in_data;
}

-- the record of a volume that is there
volume_next : (o : Option VolumeRecord) → IsSomeAnd o IsVolumeRecord → (1 ≤ id_after o) × (id_after o ≤ LAST_ID)
volume_next None none = absurd none
volume_next (Some v) holds = (holds.some_id, holds.last_id)

-- ---- a new row

module _ (n next : ℕ) (t : ChunkTables) (h : ChunksHold n next t) (row : Row) (p : Place) (new : IsNewRow row)
    (fits : PlaceOfHolds t.containers 0 p row) (some : 1 ≤ next) where
  abbrev more : ChunkTables
  more = record t { rows = put nat_cmp next row t.rows; places = put pair_cmp (next, 0) p t.places }

  -- a row that was there is the same
  pub row_same : (id : ℕ) → IsSome (find nat_cmp id t.rows)
      → find nat_cmp id (put nat_cmp next row t.rows) ≡ find nat_cmp id t.rows
  row_same id there =
      found_other nat_cmp nat_cmp_total id next row t.rows
      (λ tie. let low = low_row next t h.rows id there in omega (arith, low, exact_unsigned id next tie))

  some_same : (P : Row → Type 0) (id : ℕ) → IsSomeAnd (find nat_cmp id t.rows) P
      → IsSomeAnd (find nat_cmp id (put nat_cmp next row t.rows)) P
  some_same P id holds =
      subst (λ (o : Option Row). IsSomeAnd o P) (sym (row_same id (some_and P (find nat_cmp id t.rows) holds))) holds

  row_now : find nat_cmp next (put nat_cmp next row t.rows) ≡ Some row
  row_now = found_put nat_cmp nat_cmp_total next row t.rows

  first_copy_now : find pair_cmp (next, 0) (put pair_cmp (next, 0) p t.places) ≡ Some p
  first_copy_now = found_put pair_cmp pair_total (next, 0) p t.places

  pub chunks_new_row : ChunksHold n (next + 1) more
  chunks_new_row = record {
    rows = each_put nat_cmp exact_unsigned (RowHolds (next + 1)) next row t.rows
        (record {
          some_id = some;
          drawn = omega arith;
          some_seen = new.some_seen;
          some_kind = new.some_kind;
          kind = new.kind;
          if_data = new.if_data;
          if_map = new.if_map;
        })
        (each_weaker (RowHolds next) (RowHolds (next + 1)) t.rows
        (λ id r holds. drawn_row next (next + 1) id r (omega arith) holds) h.rows);
    redirects = each_put nat_cmp exact_unsigned (RedirectHolds more.rows) next row t.rows
        (λ other. absurd (other new.own))
        (each_weaker (RedirectHolds t.rows) (RedirectHolds more.rows) t.rows
        (λ id r holds other. some_same (IsTarget id r) r.redirect (holds other)) h.redirects);
    places = record {
      places = each_put pair_cmp exact_keys (PlaceHolds more.rows t.containers) (next, 0) p t.places
          (subst (λ (o : Option Row). IsSomeAnd o (PlaceOfHolds t.containers 0 p)) (sym row_now) fits)
          (each_weaker (PlaceHolds t.rows t.containers) (PlaceHolds more.rows t.containers) t.places
          (λ k q holds. some_same (PlaceOfHolds t.containers k.1 q) k.0 holds) h.places.places);
      first_copies = each_put nat_cmp exact_unsigned (FirstCopyHolds more.places) next row t.rows
          (λ own. subst IsSome (sym first_copy_now) refl)
          (each_weaker (FirstCopyHolds t.places) (FirstCopyHolds more.places) t.rows
          (λ id r holds own. there_put pair_cmp pair_total (id, 0) (next, 0) p t.places (holds own))
          h.places.first_copies);
    };
    containers =
        let kept = drawn_containers n next (next + 1) t (omega arith) h.containers in
        record { containers = kept.containers; clusters = kept.clusters; in_data = kept.in_data };
  }

module _ (n : ℕ) (t : Typed) (rules : RulesHold n t) where
  -- the tables as they were, once a new row is dropped
  pub row_taken_back : (id : ℕ) (row : Row) → id ≡ next_id_of t
      → keep_rows (λ x. not (is_in_range nat_cmp id (Some (id + 1)) x)) (with_row id row t) ≡ t
  row_taken_back id row next =
      ap (λ (rows : List (ℕ × Row)). record t { chunks = record t.chunks { rows = rows } })
      (taken_back id row t.chunks.rows (subst (λ (k : ℕ). Each (λ x r. x < k) t.chunks.rows) (sym next)
      (each_weaker (RowHolds (next_id_of t)) (λ x r. x < next_id_of t) t.chunks.rows (λ x r h. h.drawn)
      rules.chunks.rows)))

  pub next_bounds : (1 ≤ next_id_of t) × (next_id_of t ≤ LAST_ID)
  next_bounds = volume_next (find single_cmp tt t.volume) rules.records.volume

  -- A NEW ROW, whose id is drawn
  pub rules_new_row : (row : Row) (p : Place) → IsNewRow row → PlaceOfHolds t.chunks.containers 0 p row
      → (next_id_of t ≡ last_id → ⊥) → RulesHold n (with_new_row row p t)
  rules_new_row row p new fits ids = record {
    records = record {
      volume = subst (λ (o : Option VolumeRecord). IsSomeAnd o IsVolumeRecord) (sym volume_after)
          (record { version = refl; some_id = omega arith; last_id = let most = next_bounds.1 in omega (arith, ids, most) });
      settings = rules.records.settings;
      results = rules.records.results;
    };
    names = rules.names;
    files = subst (λ (next : ℕ). Each (FileHolds next) t.files) (sym (ap id_after volume_after))
        (each_weaker (FileHolds (next_id_of t)) (FileHolds (next_id_of t + 1)) t.files
        (λ x f h. record {
          some_id = h.some_id;
          drawn = omega (arith, h.drawn);
          short = h.short;
          cover = h.cover;
        }) rules.files);
    map_rows = each_weaker (MapRowHolds t.chunks.rows) (MapRowHolds (with_new_row row p t).chunks.rows) t.files
        (λ x f holds some. some_same n (next_id_of t) t.chunks rules.chunks row p new fits next_bounds.0 IsMapRow f.map_row
        (holds some)) rules.map_rows;
    extents = rules.extents;
    chunks = subst (λ (next : ℕ). ChunksHold n next (with_new_row row p t).chunks) (sym (ap id_after volume_after))
        (chunks_new_row n (next_id_of t) t.chunks rules.chunks row p new fits next_bounds.0);
    clusters = rules.clusters;
  }
    where
      volume_after : find single_cmp tt (with_new_row row p t).volume
          ≡ Some (record { version = 1; next_id = next_id_of t + 1 })
      volume_after =
          found_put single_cmp single_total tt (record { version = 1; next_id = next_id_of t + 1 }) t.volume

  -- an id of a row has six bytes
  pub id_fits : (id : ℕ) → IsSome (find nat_cmp id t.chunks.rows) → id ≤ LAST_ID
  id_fits id there =
      let low = low_row (next_id_of t) t.chunks rules.chunks.rows id there in
      let most = next_bounds.1 in
      omega (arith, low, most)

  -- A COPY of a row that is there
  pub rules_copy : (id copy : ℕ) (p : Place)
      → IsSomeAnd (find nat_cmp id t.chunks.rows) (PlaceOfHolds t.chunks.containers copy p)
      → RulesHold n (with_place (id, copy) p t)
  rules_copy id copy p fits = record {
    records = rules.records;
    names = rules.names;
    files = rules.files;
    map_rows = rules.map_rows;
    extents = rules.extents;
    chunks = record {
      rows = rules.chunks.rows;
      redirects = rules.chunks.redirects;
      places = record {
        places = each_put pair_cmp exact_keys (PlaceHolds t.chunks.rows t.chunks.containers) (id, copy) p
            t.chunks.places fits rules.chunks.places.places;
        first_copies = each_weaker (FirstCopyHolds t.chunks.places)
            (FirstCopyHolds (put pair_cmp (id, copy) p t.chunks.places)) t.chunks.rows
            (λ x r holds own. there_put pair_cmp pair_total (x, 0) (id, copy) p t.chunks.places (holds own))
            rules.chunks.places.first_copies;
      };
      containers = record {
        containers = rules.chunks.containers.containers;
        clusters = rules.chunks.containers.clusters;
        in_data = rules.chunks.containers.in_data;
      };
    };
    clusters = rules.clusters;
  }

-- ---- a redirect

module _ (n next : ℕ) (t : ChunkTables) (h : ChunksHold n next t) (id to : ℕ) (row : Row)
    (may : IsRedirectable t.rows id to row) (sorted : T (is_sorted nat_cmp t.rows)) where
  abbrev there_now : Row
  there_now = record row { redirect = to }

  abbrev rows_now : List (ℕ × Row)
  rows_now = put nat_cmp id there_now t.rows

  abbrev places_now : List (CopyKey × Place)
  places_now = where_key pair_cmp (λ k. not (k.0 == id)) t.places

  target_there : IsSome (find nat_cmp to t.rows)
  target_there = some_and (IsTarget id there_now) (find nat_cmp to t.rows) may.target

  pub target_lower : to < id
  target_lower = by (find nat_cmp to t.rows) may.target
    where
      by : (o : Option Row) → IsSomeAnd o (IsTarget id there_now) → to < id
      by None none = absurd none
      by (Some r) holds = holds.lower

  pub some_target : 1 ≤ to
  some_target = some_row next t h.rows to target_there

  pub row_other : (x : ℕ) → (x ≡ id → ⊥) → find nat_cmp x rows_now ≡ find nat_cmp x t.rows
  row_other x differ =
      found_other nat_cmp nat_cmp_total x id there_now t.rows (λ tie. differ (exact_unsigned x id tie))

  other_same : (P : Row → Type 0) (x : ℕ) → (x ≡ id → ⊥) → IsSomeAnd (find nat_cmp x t.rows) P
      → IsSomeAnd (find nat_cmp x rows_now) P
  other_same P x differ holds = subst (λ (o : Option Row). IsSomeAnd o P) (sym (row_other x differ)) holds

  other_test : (x : ℕ) → (x ≡ id → ⊥) → not (x == id) ≡ true
  other_test x differ = ap not (ne_eqb x id differ)

  test_other : (x : ℕ) → not (x == id) ≡ true → x ≡ id → ⊥
  test_other x is same =
      let clash : false ≡ true = sym (ap not (eq-eqb x id same)) ∙ is in
      cc

  pub place_other : (x copy : ℕ) → (x ≡ id → ⊥)
      → find pair_cmp (x, copy) places_now ≡ find pair_cmp (x, copy) t.places
  place_other x copy differ =
      found_kept pair_cmp exact_keys (λ k. not (k.0 == id)) (x, copy) t.places (other_test x differ)

  row_holds : RowHolds next id there_now
  row_holds =
      let was = row_of next t h.rows id row may.there in
      record {
        some_id = was.some_id;
        drawn = was.drawn;
        some_seen = was.some_seen;
        some_kind = was.some_kind;
        kind = was.kind;
        if_data = λ is. (let data_row = was.if_data is in record {
          some_bytes = data_row.some_bytes;
          short = data_row.short;
          part = data_row.part;
        });
        if_map = λ is. absurd (omega (arith, is, may.kind));
      }

  pub chunks_redirected : ChunksHold n next (record t { rows = rows_now; places = places_now })
  chunks_redirected = record {
    rows = each_put nat_cmp exact_unsigned (RowHolds next) id there_now t.rows row_holds h.rows;
    redirects = each_put nat_cmp exact_unsigned (RedirectHolds rows_now) id there_now t.rows
        (λ some. other_same (IsTarget id there_now) to (λ same. omega (arith, same, target_lower)) may.target)
        (each_both (RedirectHolds t.rows) (λ x r. r.redirect ≡ id → ⊥) (RedirectHolds rows_now) t.rows
        (λ x r holds never some. other_same (IsTarget x r) r.redirect never (holds some)) h.redirects may.untargeted);
    places = record {
      places = each_kept pair_cmp (PlaceHolds t.rows t.containers) (PlaceHolds rows_now t.containers)
          (λ k. not (k.0 == id)) t.places
          (λ k p is holds. other_same (PlaceOfHolds t.containers k.1 p) k.0 (test_other k.0 is) holds)
          h.places.places;
      first_copies = each_replaced nat_cmp nat_cmp_total exact_unsigned id (FirstCopyHolds places_now) there_now t.rows
          sorted (λ own. absurd (let some = some_target in omega (arith, own, some)))
          (each_weaker (FirstCopyHolds t.places) (λ x r. (x ≡ id → ⊥) → FirstCopyHolds places_now x r) t.rows
          (λ x r holds differ own. subst IsSome (sym (place_other x 0 differ)) (holds own)) h.places.first_copies);
    };
    containers = record {
      containers = h.containers.containers;
      clusters = h.containers.clusters;
      in_data = h.containers.in_data;
    };
  }

-- the row of a map is not that of a chunk
pub data_differs : (rows : List (ℕ × Row)) (m id : ℕ) (row : Row) → find nat_cmp id rows ≡ Some row
    → row.kind ≡ DATA_ROW → IsSomeAnd (find nat_cmp m rows) IsMapRow → m ≡ id → ⊥
data_differs rows m id row there kind is same =
    let here : find nat_cmp m rows ≡ Some row = ap (λ (x : ℕ). find nat_cmp x rows) same ∙ there in
    let map = subst (λ (o : Option Row). IsSomeAnd o IsMapRow) here is in
    omega (arith, kind, map)

-- A REDIRECT to a row that may stand for it
pub rules_redirected : (n : ℕ) (t : Typed) (id to : ℕ) (row : Row) → RulesHold n t
    → IsRedirectable t.chunks.rows id to row → T (is_sorted nat_cmp t.chunks.rows)
    → RulesHold n (redirected id to row t)
rules_redirected n t id to row rules may sorted = record {
  records = rules.records;
  names = rules.names;
  files = rules.files;
  map_rows = each_weaker (MapRowHolds t.chunks.rows) (MapRowHolds (redirected id to row t).chunks.rows) t.files
      (λ x f holds some. other_same n (next_id_of t) t.chunks rules.chunks id to row may sorted IsMapRow f.map_row
      (data_differs t.chunks.rows f.map_row id row may.there may.kind (holds some)) (holds some)) rules.map_rows;
  extents = rules.extents;
  chunks = chunks_redirected n (next_id_of t) t.chunks rules.chunks id to row may sorted;
  clusters = rules.clusters;
}
