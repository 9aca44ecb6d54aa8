-- Calls that make nothing durable, one after another.
use Rattle.std.specs.Prelude.{◌≡◌, ◌≢◌, ◌≤◌, ◌<◌, ◌+◌, ◌-◌, ◌*◌, ℕ, true, false, cond, nat_eq, if◌then◌else◌, List, []}
use Rattle.std.specs.Prelude.{◌∷◌, ◌++◌, length, slice_set, slice_index_or, Option, Some, None, Result}
use Rattle.std.proofs.Common.{sym, ◌∙◌, ap, subst, inl, inr, arith, length-set}
use Rattle.std.proofs.lemmas.Bool.{cases_eq}
use Rattle.std.proofs.lemmas.List.{get_or-set_same, get_or-set_other}
use Rattle.std.specs.Ordering.{eq_by_cmp}
use Rattle.std.specs.FinMap.{find}
use Rattle.vdisk.specs.Steps.{Keeps, keeps_start}
use Rattle.vdisk.specs.declared.disk.Disk.{Ghosts}
use Rattle.cluster_space.specs.declared.state.State.{State}
use Rattle.cluster_space.specs.declared.state.State.TheVariants.{Free, Used, Deferred}
use Rattle.cluster_space.specs.States.{IsIn}
use Rattle.meta_log.specs.declared.log.MetaLog.{MetaLog}
use Rattle.plain_volume.specs.declared.call.Fault.{Fault}
use Rattle.table_records.specs.Keys.{pair_cmp}
use Rattle.table_records.specs.declared.records.Extent.{Extent}
use Rattle.volume_inside.specs.Layout.{half_bytes, journal_at, first_data_cluster, data_clusters, IsDataCluster}
use Rattle.volume_inside.specs.Layout.{AreData}
use Rattle.volume_inside.specs.Typed.{Typed, FileBlock, typed_of}
use Rattle.volume_inside.specs.Ranges.{IsApart}
use Rattle.volume_inside.specs.Named.{named, clusters_of, extent_clusters}
use Rattle.volume_inside.specs.Bases.{base_clusters}
use Rattle.volume_inside.specs.Lists.{IsOut}
use Rattle.volume_inside.specs.Shows.{Shows}
use Rattle.volume_inside.specs.Tails.{AreTailsFree}
use Rattle.volume_inside.proofs.Spaces.{named_used, found_in}
use Rattle.volume_inside.proofs.Naming.{IsPutIn, put_stood, put_gone}
use Rattle.volume_tables.specs.Log.{log_state, log_now, log_place, log_epoch, IsLogOf}
use Rattle.volume_tables.specs.Clusters.{HasState, AreHeld, used_at, deferred_at, deferred_unless, with_other}
use Rattle.volume_tables.specs.Clusters.{with_spare}
use Rattle.volume_tables.specs.Staging.{IsQuiet}
use Rattle.volume_tables.specs.Tables.{disk_of, area_of, states_of, tables_now, IsTables, Leaves, IsSet, IsLogSet}
use Rattle.volume_tables.specs.declared.tables.Tables.{Tables}
pub use Rattle.volume_tables.specs.After.{area_same, leaves_then}
use Rattle.volume_tables.proofs.Tailed.{pages_of_tables, same_tails}

used_is_not_free : Used ≢ Free
used_is_not_free same = cc

pub deferred_is_not_free : Deferred ≢ Free
deferred_is_not_free same = cc

-- ---- states

-- a state that one cluster did not get is one that some cluster had
still : (states : List State) (k j : ℕ) (s r : State) → k < length states → s ≢ r → IsIn (slice_set states k s) j r
    → IsIn states j r
still states k j s r within differ is = elim (cases_eq j k) [
  | inl same ↦ absurd (differ (sym (get_or-set_same states k s Used within)
      ∙ ap (λ (i : ℕ). slice_index_or (slice_set states k s) i Used) (sym same) ∙ is.state))
  | inr other ↦ record {
    within = omega (arith, is.within, length-set states k s);
    state = sym
        (get_or-set_other states k j s Used other) ∙ is.state;
  }
]

-- each cluster that is free was free
abbrev pub IsNoFreer : List State → List State → Type 0
IsNoFreer old new = (k : ℕ) → IsIn new k Free → IsIn old k Free

pub set_no_freer : (states : List State) (k : ℕ) (s : State) → s ≢ Free → IsNoFreer states (slice_set states k s)
set_no_freer states k s differ j at = elim (cases_eq j k) [
  | inl same ↦
      let within : k < length states = omega (arith, same, at.within, length-set states k s) in
      still states k j s Free within differ at
  | inr other ↦ record {
    within = omega (arith, at.within, length-set states k s);
    state = sym
        (get_or-set_other states k j s Used other) ∙ at.state;
  }
]

pub used_no_freer : (n c : ℕ) (states : List State) → IsNoFreer states (used_at n c states)
used_no_freer n c states = set_no_freer states (c - first_data_cluster n) Used used_is_not_free

deferred_no_freer : (n c : ℕ) (states : List State) → IsNoFreer states (deferred_at n c states)
deferred_no_freer n c states = set_no_freer states (c - first_data_cluster n) Deferred deferred_is_not_free

unless_no_freer : (n c other : ℕ) (states : List State) → IsNoFreer states (deferred_unless n c other states)
unless_no_freer n c other states = elim (nat_eq c other)
    as (λ b. IsNoFreer states (if b then states else deferred_at n c states)) [
      | true ↦ λ k at. at
      | false ↦ deferred_no_freer n c states
    ]

pub other_no_freer : (n : ℕ) (stood : Option ℕ) (c : ℕ) (states : List State)
    → IsNoFreer states (with_other n stood c states)
other_no_freer n None c states = λ k at. at
other_no_freer n (Some o) c states = unless_no_freer n o c states

pub spare_no_freer : (n : ℕ) (stood : Option ℕ) (c : ℕ) (states : List State)
    → IsNoFreer states (with_spare n stood c states)
spare_no_freer n None c states = deferred_no_freer n c states
spare_no_freer n (Some o) c states = unless_no_freer n c o states

-- a cluster within, once it is used
pub now_used : (n c : ℕ) (s : State) (states new : List State) → HasState n states s c → new ≡ used_at n c states
    → HasState n new Used c
now_used n c s states new has is = subst (λ (xs : List State). HasState n xs Used c) (sym is) (record {
  from_first = has.from_first;
  is = record {
    within = omega (arith, has.is.within, length-set states (c - first_data_cluster n) Used);
    state = get_or-set_same states (c - first_data_cluster n) Used Used has.is.within;
  };
})

-- ---- clusters that extents name

module _ (n : ℕ) (k : FileBlock) (o : Extent) where
  pub data_found : (es : List (FileBlock × Extent)) (ss : List ℕ) → AreData n (extent_clusters es ++ ss)
      → find pair_cmp k es ≡ Some o → IsDataCluster n o.cluster
  data_found [] ss in_data found = absurd (cc)
  data_found (x ∷ es) ss in_data found =
      elim (eq_by_cmp pair_cmp k x.0) as (λ b. cond b (Some x.1) (find pair_cmp k es) ≡ Some o
      → IsDataCluster n o.cluster) [
        | true ↦ λ is. (let same : x.1 ≡ o = cc in subst (λ (e : Extent). IsDataCluster n e.cluster) same in_data.0)
        | false ↦ λ is. data_found es ss in_data.1 is
      ] found

  -- the cluster of an extent that stands is used
  pub found_used : (states : List State) (t : Typed) → AreHeld n states t → length states ≡ data_clusters n
      → find pair_cmp k t.extents ≡ Some o → HasState n states Used o.cluster
  found_used states t held size found =
      let one = data_found t.extents (base_clusters t) held.0 found in
      let place : first_data_cluster n + (o.cluster - first_data_cluster n) ≡ o.cluster = omega
      (arith, one.from_first) in
      record {
        from_first = one.from_first;
        is = named_used (first_data_cluster n) states t t held.1 (o.cluster - first_data_cluster n)
            (omega (arith, one.from_first, one.within, size))
            (λ out. found_in k (base_clusters t) o t.extents found
            (subst (λ (x : ℕ). IsOut x (clusters_of t)) place out));
      }

-- ---- clusters that tables name

named_in_data : (n c : ℕ) (cs : List ℕ) → AreData n cs → (IsOut c cs → ⊥) → IsDataCluster n c
named_in_data n c [] in_data named = absurd (named tt)
named_in_data n c (x ∷ cs) in_data named = elim (cases_eq x c) [
  | inl same ↦ subst (λ (y : ℕ). IsDataCluster n y) same in_data.0
  | inr other ↦ named_in_data n c cs in_data.1 (λ out. named (other, out))
]

-- each of them is used
pub named_state : (n : ℕ) (states : List State) (t : Typed) → AreHeld n states t → length states ≡ data_clusters n
    → (c : ℕ) → (IsOut c (clusters_of t) → ⊥) → HasState n states Used c
named_state n states t held size c named =
    let one = named_in_data n c (clusters_of t) held.0 named in
    let place : first_data_cluster n + (c - first_data_cluster n) ≡ c = omega (arith, one.from_first) in
    record {
      from_first = one.from_first;
      is = named_used (first_data_cluster n) states t t held.1 (c - first_data_cluster n)
          (omega (arith, one.from_first, one.within, size))
          (λ out. named (subst (λ (x : ℕ). IsOut x (clusters_of t)) place out));
    }

-- ---- calls

module _ {D : Type 0} {d : Ghosts D} where
  -- a call of the space alone
  pub space_leaves : (a b : Tables D d) → b.log ≡ a.log → b.clusters ≡ a.clusters → b.ends ≡ a.ends → b.worn ≡ a.worn
      → (new : List State) → states_of b ≡ new → IsNoFreer (states_of a) new → d.is_same a.log.disk a.log.disk → Leaves a b
  space_leaves a b log clusters ends worn new is_new fewer self = record {
    clusters = clusters;
    tables = λ stored is. record {
      map = is.map;
      log = subst (λ (l : MetaLog D d). IsLogOf l is.map) (sym log) is.log;
      is = is.is;
      stored_apart = subst (λ (n : ℕ). IsApart journal_at (2 * half_bytes n) (named stored))
          (sym clusters) is.stored_apart;
      free = λ k at. subst (λ (n : ℕ). IsOut (first_data_cluster n + k) (clusters_of stored)) (sym clusters)
          (is.free k (fewer k (subst (λ (xs : List State). IsIn xs k Free) is_new at)));
      tails = subst (λ (l : MetaLog D d). AreTailsFree stored (typed_of (log_now l)).chunks) (sym log) is.tails;
    };
    moments = λ stored w is kept. subst (λ (l : MetaLog D d). Keeps (disk_of a) (log_state l) (Shows (area_of a) w))
        (sym log) (keeps_start (disk_of a) (Shows (area_of a) w) kept);
    same = subst (λ (l : MetaLog D d). d.is_same a.log.disk l.disk) (sym log) self;
    later = subst (λ (l : MetaLog D d). (disk_of a).faults ≤ (log_state l).faults) (sym log) (omega arith);
    tells = ap (λ (l : MetaLog D d). (log_state l).tells) log;
    place = ap (λ (l : MetaLog D d). log_place l) log;
    epoch = ap (λ (l : MetaLog D d). log_epoch l) log;
    ends = ends;
    worn = worn;
  }

  -- a call that stages and frees no cluster, where the tails stay free
  pub staged_leaves : (t s : Tables D d) → IsQuiet t.log s.log → s.clusters ≡ t.clusters → IsNoFreer t.space s.space
      → s.worn ≡ t.worn → s.ends ≡ t.ends → d.is_same t.log.disk t.log.disk
      → ((stored : Typed) → IsTables t stored → AreTailsFree stored (tables_now s).chunks) → Leaves t s
  staged_leaves t s quiet clusters fewer worn ends self tails = record {
    clusters = clusters;
    tables = λ stored is. record {
      map = is.map;
      log = quiet.log is.map is.log;
      is = is.is;
      stored_apart = subst (λ (n : ℕ). IsApart journal_at (2 * half_bytes n) (named stored))
          (sym clusters) is.stored_apart;
      free = λ k at. subst (λ (n : ℕ). IsOut (first_data_cluster n + k) (clusters_of stored)) (sym clusters)
          (is.free k (fewer k at));
      tails = tails stored is;
    };
    moments = λ stored w is kept. subst (λ (x : D). Keeps (disk_of t) (d.state x) (Shows (area_of t) w))
        (sym quiet.disk) (keeps_start (disk_of t) (Shows (area_of t) w) kept);
    same = subst (λ (x : D). d.is_same t.log.disk x) (sym quiet.disk) self;
    later = subst (λ (x : D). (disk_of t).faults ≤ (d.state x).faults) (sym quiet.disk) (omega arith);
    tells = ap (λ (x : D). (d.state x).tells) quiet.disk;
    place = quiet.place.next;
    epoch = quiet.place.epoch;
    ends = ends;
    worn = worn;
  }

  -- and that leaves the containers and their pages
  pub drop_leaves : (t s : Tables D d) → IsQuiet t.log s.log → s.clusters ≡ t.clusters → IsNoFreer t.space s.space
      → s.worn ≡ t.worn → s.ends ≡ t.ends → d.is_same t.log.disk t.log.disk
      → pages_of_tables (typed_of (log_now s.log)) ≡ pages_of_tables (typed_of (log_now t.log)) → Leaves t s
  drop_leaves t s quiet clusters fewer worn ends self same =
      staged_leaves t s quiet clusters fewer worn ends self
      (λ stored is. same_tails stored (typed_of (log_now t.log)) (typed_of (log_now s.log)) same is.tails)

  -- and the states of the clusters
  pub quiet_leaves : (t s : Tables D d) → IsQuiet t.log s.log → s.clusters ≡ t.clusters → s.space ≡ t.space
      → s.worn ≡ t.worn → s.ends ≡ t.ends → d.is_same t.log.disk t.log.disk
      → pages_of_tables (typed_of (log_now s.log)) ≡ pages_of_tables (typed_of (log_now t.log)) → Leaves t s
  quiet_leaves t s quiet clusters space worn ends self same =
      drop_leaves t s quiet clusters (λ k at. subst (λ (xs : List State). IsIn xs k Free) space at) worn ends self same

  -- a cluster was put in the place of another
  pub replaced_ready : (t u : Tables D d) (o c : ℕ)
      → IsPutIn (clusters_of (tables_now t)) (clusters_of (tables_now u)) (Some o) c
      → states_of u ≡ states_of t → u.clusters ≡ t.clusters → (o ≡ c → ⊥)
      → HasState u.clusters (states_of u) Used o × IsOut o (clusters_of (tables_now u))
  replaced_ready t u o c p states clusters differ =
      let used = named_state t.clusters t.space (typed_of (log_now t.log)) t.held t.spaces o (put_stood p) in (
        subst (λ (p : ℕ × List State). HasState p.0 p.1 Used o) (λ i. (sym clusters i, sym states i)) used,
        put_gone p t.held.1.once (λ same. differ (sym same)),
      )

  -- what a setter does to the journal, between two calls of the space alone
  pub set_then : {V : Type 0} (was : Typed → Option V) (size : ℕ) (a b u c : Tables D d)
      (result : Result (Unit {0}) Fault)
      → tables_now b ≡ tables_now a → b.clusters ≡ a.clusters → b.log ≡ a.log → c.log ≡ u.log
      → IsSet (was (tables_now b)) size b u result → IsSet (was (tables_now a)) size a c result
  set_then was size a b u c result tables clusters before after set =
      subst (λ (x : (Typed × ℕ) × (MetaLog D d × MetaLog D d)). IsLogSet (was x.0.0) size x.0.1 x.1.0 x.1.1 result)
      (λ i. ((tables i, clusters i), (before i, sym after i))) set
