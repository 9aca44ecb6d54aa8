-- A longer container keeps the rules.
use Rattle.std.specs.Prelude.{◌≡◌, ◌⊎◌, ◌≤◌, ◌<◌, ◌+◌, ◌*◌, ℕ, Bool, true, false, cond, T, List, [], ◌∷◌, ◌++◌, Option, Some, None, IsSome, IsSomeAnd, refl}
use Rattle.std.proofs.Common.{◌∙◌, ap, sym, subst, inl, inr, arith}
use Rattle.std.proofs.lemmas.Bool.{cases_eq, cases_lt}
use Rattle.std.specs.declared.cmp.Ordering.{Ordering}
use Rattle.std.specs.declared.cmp.Ordering.TheVariants.{Less, Equal, Greater}
use Rattle.std.specs.Ordering.{nat_cmp, is_eq, is_lt}
use Rattle.std.specs.Cmp.{IsTotalOrder, nat_cmp_total, tied_itself}
use Rattle.std.specs.FinMap.{find, put, is_sorted}
use Rattle.std.specs.FinMap.Entries.{below_all}
use Rattle.std.proofs.lemmas.Map.Lookups.{exact_unsigned}
use Rattle.groundwork.proofs.Orders.{is_less}
use Rattle.groundwork.proofs.Bools.{first_true, second_true}
use Rattle.table_records.specs.Keys.{single_cmp, pair_cmp}
use Rattle.table_records.specs.Orders.{single_total, pair_total}
use Rattle.table_records.specs.declared.records.VolumeRecord.{VolumeRecord}
use Rattle.table_records.specs.declared.records.Extent.{Extent}
use Rattle.table_records.specs.declared.chunk_records.Row.{Row}
use Rattle.table_records.specs.declared.chunk_records.Place.{Place}
use Rattle.table_records.specs.declared.chunk_records.Container.{Container}
use Rattle.volume_inside.specs.ChunkRules.{RowHolds, PlaceOfHolds, PlaceHolds, kind_of_copy, ContainerRecordHolds, ContainerHolds}
use Rattle.volume_inside.specs.ChunkRules.{ClusterHolds, ContainersHold, ChunksHold}
use Rattle.volume_inside.specs.ChunkTables.{ChunkTables, CopyKey, PageKey}
use Rattle.volume_inside.specs.Entries.{Each, each_put, each_found, each_weaker}
use Rattle.volume_inside.specs.Layout.{AreData}
use Rattle.volume_inside.specs.Lists.{IsOnce}
use Rattle.volume_inside.specs.Named.{extent_clusters, clusters_of}
use Rattle.volume_inside.specs.Pages.{used_of, used_or_none, pages_of, page_clusters}
use Rattle.volume_inside.specs.Rules.{IsVolumeRecord, id_after, next_id_of, FileHolds, RulesHold}
use Rattle.volume_inside.specs.Typed.{Typed, FileBlock}
use Rattle.volume_tables.specs.Wants.{last_id}
use Rattle.chunk_container.specs.declared.containers.Target.{Target}
use Rattle.chunk_container.specs.Appending.{more_pages, IsTargetIn, longer, with_longer, IsAppended}
use Rattle.chunk_container.specs.Pages.{IsAmong}
use Rattle.chunk_container.proofs.Finds.{found_put, found_other, there_put}
use Rattle.chunk_container.proofs.RowRules.{exact_keys, drawn_row, drawn_container, next_bounds}

-- ---- what holds of each entry that is found

module _ {K V : Type 0} (cmp : K → K → Ordering) (total : IsTotalOrder cmp) (P : K → V → Type 0) where
  -- a key above all others is found in none of them
  not_above : (k x : K) (v : V) (es : List (K × V)) → T (below_all cmp k es) → find cmp x es ≡ Some v → cmp x k ≡ Equal → ⊥
  not_above k x v [] above found tie = cc
  not_above k x v (e ∷ es) above found tie =
      by (cmp x e.0) refl found
      (λ at. not_above k x v es (second_true (is_lt (cmp k e.0)) (below_all cmp k es) above) at tie)
    where
      less : cmp k e.0 ≡ Less
      less = is_less (cmp k e.0) (first_true (is_lt (cmp k e.0)) (below_all cmp k es) above)

      by : (r : Ordering) → cmp x e.0 ≡ r → cond (is_eq r) (Some e.1) (find cmp x es) ≡ Some v
          → (find cmp x es ≡ Some v → ⊥) → ⊥
      by Less is at later = later at
      by Greater is at later = later at
      by Equal is at later =
          let clash : Less ≡ Equal = sym less ∙ sym (total.congr x k e.0 tie) ∙ is in
          cc

  each_by_find : (es : List (K × V)) → T (is_sorted cmp es) → ((k : K) (v : V) → find cmp k es ≡ Some v → P k v)
      → Each P es
  each_by_find [] sorted found = tt
  each_by_find (e ∷ es) sorted found = (
    found e.0 e.1 (ap (λ (r : Ordering). cond (is_eq r) (Some e.1) (find cmp e.0 es)) (tied_itself total e.0)),
    each_by_find es (second_true (below_all cmp e.0 es) (is_sorted cmp es) sorted)
        (λ k v at. found k v (by k v (cmp k e.0) at
        (not_above e.0 k v es (first_true (below_all cmp e.0 es) (is_sorted cmp es) sorted) at))),
  )
    where
      by : (k : K) (v : V) (r : Ordering) → find cmp k es ≡ Some v → (r ≡ Equal → ⊥)
          → cond (is_eq r) (Some e.1) (find cmp k es) ≡ Some v
      by k v Less at other = at
      by k v Equal at other = absurd (other refl)
      by k v Greater at other = at

-- ---- pages that are there

back_is_data : (n : ℕ) (xs : List (FileBlock × Extent)) (es : List (PageKey × ℕ))
    → AreData n (extent_clusters xs ++ page_clusters es) → AreData n (page_clusters es)
back_is_data n [] es in_data = in_data
back_is_data n (x ∷ xs) es in_data = back_is_data n xs es in_data.1

-- a page of what is used of a container
pub page_there : (n next : ℕ) (t : ChunkTables) (h : ContainersHold n next t) (id index : ℕ)
    → 4096 * index < used_of t.containers id → IsSome (find pair_cmp (id, index) t.clusters)
page_there n next t h id index low = by (find nat_cmp id t.containers) refl low
  where
    by : (o : Option Container) → find nat_cmp id t.containers ≡ o → 4096 * index < used_or_none o
        → IsSome (find pair_cmp (id, index) t.clusters)
    by None is few = absurd (omega (arith, few))
    by (Some c) is few =
        let holds = each_found nat_cmp exact_unsigned (ContainerHolds next t.clusters) id c t.containers is h.containers in
        holds.whole index few

-- no page stands behind what is used
pub page_bare : (n next : ℕ) (t : ChunkTables) (h : ContainersHold n next t) (id index : ℕ)
    → used_of t.containers id ≤ 4096 * index → find pair_cmp (id, index) t.clusters ≡ None
page_bare n next t h id index past = by (find pair_cmp (id, index) t.clusters) refl
  where
    by : (o : Option ℕ) → find pair_cmp (id, index) t.clusters ≡ o → o ≡ None
    by None is = refl
    by (Some cluster) is =
        let holds = each_found pair_cmp exact_keys (ClusterHolds t.containers) (id, index) cluster t.clusters is
        h.clusters in
        absurd (omega (arith, holds.within, past))

-- a page among others, or not
among_or_not : (key : PageKey) (count : ℕ) (k : PageKey) → IsAmong key count k ⊎ (IsAmong key count k → ⊥)
among_or_not key count k = elim (cases_eq k.0 key.0) [
  | inr other ↦ inr (λ among. other among.container)
  | inl same ↦ elim (cases_lt k.1 key.1) [
    | inl low ↦ inr (λ among. omega (arith, low, among.least))
    | inr from ↦ elim (cases_lt k.1 (key.1 + count)) [
      | inl under ↦ inl (record { container = same; least = from; most = under })
      | inr past ↦ inr (λ among. omega (arith, past, among.most))
    ]
  ]
]

-- ---- the tables of chunks

module _ (n next high : ℕ) (t : ChunkTables) (h : ChunksHold n next t) (le : next ≤ high) (id : ℕ) (c : Container)
    (clusters : List (PageKey × ℕ)) (from more : ℕ) (drawn : id < high) (some : 1 ≤ id)
    (record_holds : ContainerRecordHolds high id c) (grows : used_of t.containers id ≤ c.used)
    (kinds : (was : Container) → find nat_cmp id t.containers ≡ Some was → was.kind ≡ c.kind)
    (begins : from ≡ pages_of (used_of t.containers id)) (ends : from + more ≡ pages_of c.used)
    (others : (k : PageKey) → (IsAmong (id, from) more k → ⊥) → find pair_cmp k clusters ≡ find pair_cmp k t.clusters)
    (there : (k : PageKey) → IsAmong (id, from) more k → IsSome (find pair_cmp k clusters))
    (sorted : T (is_sorted pair_cmp clusters)) (in_data : AreData n (page_clusters clusters)) where
  abbrev containers_now : List (ℕ × Container)
  containers_now = put nat_cmp id c t.containers

  container_now : find nat_cmp id containers_now ≡ Some c
  container_now = found_put nat_cmp nat_cmp_total id c t.containers

  container_other : (x : ℕ) → (x ≡ id → ⊥) → find nat_cmp x containers_now ≡ find nat_cmp x t.containers
  container_other x differ =
      found_other nat_cmp nat_cmp_total x id c t.containers (λ tie. differ (exact_unsigned x id tie))

  used_now : (x : ℕ) → used_of t.containers x ≤ used_of containers_now x
  used_now x = elim (cases_eq x id) [
    | inl same ↦
        let one : used_of containers_now id ≡ c.used = ap used_or_none container_now in
        subst (λ (y : ℕ). used_of t.containers y ≤ used_of containers_now y) (sym same) (omega (arith, one, grows))
    | inr other ↦ let same = ap used_or_none (container_other x other) in omega (arith, same)
  ]

  still_there : (k : PageKey) → IsSome (find pair_cmp k t.clusters) → IsSome (find pair_cmp k clusters)
  still_there k was = elim (among_or_not (id, from) more k) [
    | inl among ↦ there k among
    | inr out ↦ subst (λ (o : Option ℕ). IsSome o) (sym (others k out)) was
  ]

  cluster_holds : (k : PageKey) (cluster : ℕ) → find pair_cmp k clusters ≡ Some cluster → ClusterHolds containers_now k cluster
  cluster_holds k cluster found = elim (among_or_not (id, from) more k) [
    | inl among ↦
        let is : find nat_cmp k.0 containers_now ≡ Some c =
        ap (λ (x : ℕ). find nat_cmp x containers_now) among.container ∙ container_now in
        let used : used_of containers_now k.0 ≡ c.used = ap used_or_none is in
        record {
          of_container = subst (λ (o : Option Container). IsSome o) (sym is) refl;
          within = (let most = among.most in omega (arith, used, most, ends));
        }
    | inr out ↦
        let was = each_found pair_cmp exact_keys (ClusterHolds t.containers) k cluster t.clusters (sym (others k out) ∙ found)
        h.containers.clusters in
        let more_used = used_now k.0 in
        record {
          of_container = there_put nat_cmp nat_cmp_total k.0 id c t.containers was.of_container;
          within = omega (arith, was.within, more_used);
        }
  ]

  whole_now : (index : ℕ) → 4096 * index < c.used → IsSome (find pair_cmp (id, index) clusters)
  whole_now index low = elim (cases_lt (4096 * index) (used_of t.containers id)) [
    | inl was ↦ still_there (id, index) (page_there n next t h.containers id index was)
    | inr new ↦ there (id, index) (record {
      container = refl;
      least = omega (arith, new, begins);
      most = omega (arith, low, ends);
    })
  ]

  place_holds : (k : CopyKey) (p : Place) → PlaceHolds t.rows t.containers k p → PlaceHolds t.rows containers_now k p
  place_holds k p holds = by (find nat_cmp k.0 t.rows) holds
    where
      kind_now : (row : Row) → IsSomeAnd (find nat_cmp p.container t.containers) (λ x. x.kind ≡ kind_of_copy row k.1)
          → IsSomeAnd (find nat_cmp p.container containers_now) (λ x. x.kind ≡ kind_of_copy row k.1)
      kind_now row is = elim (cases_eq p.container id) [
        | inr other ↦ subst (λ (o : Option Container). IsSomeAnd o (λ x. x.kind ≡ kind_of_copy row k.1))
            (sym (container_other p.container other)) is
        | inl same ↦
            let now : find nat_cmp p.container containers_now ≡ Some c =
            ap (λ (x : ℕ). find nat_cmp x containers_now) same ∙ container_now in
            subst (λ (o : Option Container). IsSomeAnd o (λ x. x.kind ≡ kind_of_copy row k.1)) (sym now)
            (of (find nat_cmp p.container t.containers)
            (ap (λ (x : ℕ). find nat_cmp x t.containers) (sym same)) is)
      ]
        where
          of : (o : Option Container) → find nat_cmp id t.containers ≡ o → IsSomeAnd o (λ x. x.kind ≡ kind_of_copy row k.1)
              → c.kind ≡ kind_of_copy row k.1
          of None at none = absurd none
          of (Some was) at same = sym (kinds was at) ∙ same

      by : (o : Option Row) → IsSomeAnd o (PlaceOfHolds t.containers k.1 p) → IsSomeAnd o (PlaceOfHolds containers_now k.1 p)
      by None none = absurd none
      by (Some row) fits = record {
        own = fits.own;
        few = fits.few;
        if_second = fits.if_second;
        kind = kind_now row fits.kind;
        within = (let more_used = used_now p.container in omega (arith, fits.within, more_used));
      }

  chunks_longer : ChunksHold n high (record t { containers = containers_now; clusters = clusters })
  chunks_longer = record {
    rows = each_weaker (RowHolds next) (RowHolds high) t.rows (λ x r holds. drawn_row next high x r le holds) h.rows;
    redirects = h.redirects;
    places = record {
      places = each_weaker (PlaceHolds t.rows t.containers) (PlaceHolds t.rows containers_now) t.places place_holds
          h.places.places;
      first_copies = h.places.first_copies;
    };
    containers = record {
      containers = each_put nat_cmp exact_unsigned (ContainerHolds high clusters) id c t.containers
          (record { own = record_holds; whole = whole_now })
          (each_weaker (ContainerHolds next t.clusters) (ContainerHolds high clusters) t.containers
          (λ x r holds. record {
            own = drawn_container next high x r le holds.own;
            whole = λ index low. still_there (x, index) (holds.whole index low);
          }) h.containers.containers);
      clusters = each_by_find pair_cmp pair_total (ClusterHolds containers_now) clusters sorted cluster_holds;
      in_data = in_data;
    };
  }

-- ---- all tables

module _ (n kind count : ℕ) (target : Target) (t : Typed) (rules : RulesHold n t) (is : IsTargetIn kind count target t)
    (some_kind : 1 ≤ kind) (least : kind ≤ 3) (some : 1 ≤ count) where
  -- a container that is there: its id, and its kind
  record_then : (high : ℕ) → next_id_of t ≤ high → (target.made ≡ true → target.container < high)
      → ContainerRecordHolds high target.container (longer target kind count)
  record_then high le made = by target.made refl
    where
      of : (o : Option Container) → find nat_cmp target.container t.chunks.containers ≡ o
          → IsSomeAnd o (λ c. c.kind ≡ kind) → (1 ≤ target.container) × (target.container < next_id_of t)
      of None at none = absurd none
      of (Some was) at same =
          let holds = each_found nat_cmp exact_unsigned (ContainerHolds (next_id_of t) t.chunks.clusters)
          target.container was t.chunks.containers at rules.chunks.containers.containers in
          (holds.own.some_id, holds.own.drawn)

      by : (b : Bool) → target.made ≡ b → ContainerRecordHolds high target.container (longer target kind count)
      by true at = record {
        some_id = (let bounds = next_bounds n t rules in let same = is.next at in omega (arith, bounds.0, same));
        drawn = made at;
        some_kind = some_kind;
        kind = least;
        some_bytes = omega (arith, some);
        few = is.fits;
      }
      by false at =
          let was = of (find nat_cmp target.container t.chunks.containers) refl (is.there at) in
          record {
            some_id = was.0;
            drawn = omega (arith, was.1, le);
            some_kind = some_kind;
            kind = least;
            some_bytes = omega (arith, some);
            few = is.fits;
          }

  kind_then : (was : Container) → find nat_cmp target.container t.chunks.containers ≡ Some was → was.kind ≡ kind
  kind_then was at = by target.made refl
    where
      by : (b : Bool) → target.made ≡ b → was.kind ≡ kind
      by true made = absurd (let clash : Some was ≡ None = sym at ∙ is.new made in cc)
      by false made = subst (λ (o : Option Container). IsSomeAnd o (λ c. c.kind ≡ kind)) at (is.there made)

  module _ (clusters : List (PageKey × ℕ))
      (others : (k : PageKey) → (IsAmong (target.container, pages_of target.offset) (more_pages target.offset count) k → ⊥)
      → find pair_cmp k clusters ≡ find pair_cmp k t.chunks.clusters)
      (there : (k : PageKey) → IsAmong (target.container, pages_of target.offset) (more_pages target.offset count) k
      → IsSome (find pair_cmp k clusters))
      (sorted : T (is_sorted pair_cmp clusters)) (in_data : AreData n (page_clusters clusters)) where
    chunks_then : (high : ℕ) → next_id_of t ≤ high → (target.made ≡ true → target.container < high)
        → ChunksHold n high (record t.chunks {
          containers = put nat_cmp target.container (longer target kind count) t.chunks.containers;
          clusters = clusters;
        })
    chunks_then high le made =
        let holds = record_then high le made in
        let used = is.used in
        chunks_longer n (next_id_of t) high t.chunks rules.chunks le target.container (longer target kind count) clusters
        (pages_of target.offset) (more_pages target.offset count) holds.drawn holds.some_id holds (omega (arith, used))
        kind_then (ap pages_of (sym used)) (omega arith) others there sorted in_data

    -- THE RULES HOLD, where no id is drawn
    rules_there : target.made ≡ false → IsOnce (extent_clusters t.extents ++ page_clusters clusters)
        → RulesHold n (record t {
          chunks = record t.chunks {
            containers = put nat_cmp target.container (longer target kind count) t.chunks.containers;
            clusters = clusters;
          };
        })
    rules_there made once = record {
      records = rules.records;
      names = rules.names;
      files = rules.files;
      map_rows = rules.map_rows;
      extents = rules.extents;
      chunks = chunks_then (next_id_of t) (omega arith)
          (λ new. absurd (let clash : true ≡ false = sym new ∙ made in cc));
      clusters = once;
    }

    rules_made : target.made ≡ true → (next_id_of t ≡ last_id → ⊥) → IsOnce (extent_clusters t.extents ++ page_clusters clusters)
        → RulesHold n (record t {
          volume = put single_cmp tt (record { version = 1; next_id = next_id_of t + 1 }) t.volume;
          chunks = record t.chunks {
            containers = put nat_cmp target.container (longer target kind count) t.chunks.containers;
            clusters = clusters;
          };
        })
    rules_made made ids once = record {
      records = record {
        volume = subst (λ (o : Option VolumeRecord). IsSomeAnd o IsVolumeRecord) (sym volume_after)
            (record { version = refl; some_id = omega arith; last_id = let most = (next_bounds n t rules).1 in omega (arith, ids, most) });
        settings = rules.records.settings;
        results = rules.records.results;
      };
      names = rules.names;
      files = subst (λ (next : ℕ). Each (FileHolds next) t.files) (sym (ap id_after volume_after))
          (each_weaker (FileHolds (next_id_of t)) (FileHolds (next_id_of t + 1)) t.files
          (λ x f h. record {
            some_id = h.some_id;
            drawn = omega (arith, h.drawn);
            short = h.short;
            cover = h.cover;
          }) rules.files);
      map_rows = rules.map_rows;
      extents = rules.extents;
      chunks = subst (λ (next : ℕ). ChunksHold n next (record t.chunks {
        containers = put nat_cmp target.container (longer target kind count) t.chunks.containers;
        clusters = clusters;
      })) (sym (ap id_after volume_after))
          (chunks_then (next_id_of t + 1) (omega arith) (λ new. let same = is.next new in omega (arith, same)));
      clusters = once;
    }
      where
        volume_after : find single_cmp tt (put single_cmp tt (record { version = 1; next_id = next_id_of t + 1 }) t.volume)
            ≡ Some (record { version = 1; next_id = next_id_of t + 1 })
        volume_after =
            found_put single_cmp single_total tt (record { version = 1; next_id = next_id_of t + 1 }) t.volume

    rules_longer : (target.made ≡ true → next_id_of t ≡ last_id → ⊥)
        → IsOnce (extent_clusters t.extents ++ page_clusters clusters)
        → RulesHold n (with_longer target kind count clusters t)
    rules_longer ids once = by target.made refl
      where
        by : (b : Bool) → target.made ≡ b → RulesHold n (with_longer (record target { made = b }) kind count clusters t)
        by true made = rules_made made (ids made) once
        by false made = rules_there made once

  -- AN APPEND KEEPS THE RULES
  pub rules_appended : (u : Typed) → IsAppended target kind count t u → (target.made ≡ true → next_id_of t ≡ last_id → ⊥)
      → T (is_sorted pair_cmp u.chunks.clusters) → AreData n (clusters_of u) → IsOnce (clusters_of u) → RulesHold n u
  rules_appended u appended ids sorted in_data once =
      let same : u.extents ≡ t.extents = ap (λ (q : Typed). q.extents) appended.rest ∙ extents_same target.made in
      subst (λ (q : Typed). RulesHold n q) (sym appended.rest)
      (rules_longer u.chunks.clusters appended.others appended.there sorted
      (back_is_data n u.extents u.chunks.clusters in_data) ids
      (subst (λ (xs : List (FileBlock × Extent)). IsOnce (extent_clusters xs ++ page_clusters u.chunks.clusters)) same once))
    where
      extents_same : (b : Bool)
          → (let q = with_longer (record target { made = b }) kind count u.chunks.clusters t in q.extents) ≡ t.extents
      extents_same true = refl
      extents_same false = refl
