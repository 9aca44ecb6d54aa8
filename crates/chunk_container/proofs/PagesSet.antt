-- One page is written and named: what is known then, and what is once those behind it are put or refused.
use Rattle.std.specs.Prelude.{◌≡◌, ◌≤◌, ◌<◌, ◌+◌, ◌*◌, ℕ, List, drop, get_or, Option, Some, None, Ok}
use Rattle.std.proofs.Common.{sym, ◌∙◌, ap, subst, arith}
use Rattle.std.specs.Ordering.{nat_cmp}
use Rattle.std.specs.FinMap.{find}
use Rattle.vdisk.specs.declared.disk.Disk.{Ghosts}
use Rattle.cluster_space.specs.declared.run.Run.{Run}
use Rattle.cluster_space.specs.declared.state.State.{State}
use Rattle.cluster_space.specs.declared.state.State.TheVariants.{Free}
use Rattle.cluster_space.specs.States.{free_in}
use Rattle.table_records.specs.Keys.{pair_cmp}
use Rattle.table_records.specs.declared.chunk_records.Container.{Container}
use Rattle.volume_inside.specs.Changes.{with_cluster}
use Rattle.volume_inside.specs.ChunkTables.{PageKey}
use Rattle.volume_inside.specs.Inside.{inside_at, cluster_bytes}
use Rattle.volume_inside.specs.Layout.{half_bytes}
use Rattle.volume_inside.specs.Pages.{used_of}
use Rattle.volume_inside.specs.Typed.{Typed}
use Rattle.volume_tables.specs.Clusters.{HasState, used_at}
use Rattle.volume_tables.specs.Frames.{AreFree, NamesNoFree}
use Rattle.volume_tables.specs.Moves.{WritesData}
use Rattle.volume_tables.specs.Setters.{IsPageSet}
use Rattle.volume_tables.specs.Stages.{accounted}
use Rattle.volume_tables.specs.Tables.{tables_now, states_of, staged_of, checkpoint_of, disk_of, new_bytes}
use Rattle.volume_tables.specs.declared.tables.Tables.{Tables}
use Rattle.chunk_container.specs.Pages.{ArePagesPut, HasFront, HavePages, IsNoFreer, LosesNone, without_first}
use Rattle.chunk_container.proofs.PageBytes.{have_then, cluster_stays}
use Rattle.chunk_container.proofs.PagesPut.{bare_still, names_still, first_free, rest_free, first_page}
use Rattle.chunk_container.proofs.PageStates.{told, set_free, set_told, set_fewer, set_others, page_used, pages_sorted, held_now}

module _ {D : Type 0} {d : Ghosts D} (a m u : Tables D d) (key : PageKey) (ready : Run) (w : WritesData a m (Ok ready))
    (s : IsPageSet key ready.first m u (Ok tt)) (some : 0 < ready.count)
    (run_free : AreFree a.clusters (states_of a) ready)
    (none : find pair_cmp key (tables_now a).chunks.clusters ≡ None) where
  pub now_set : tables_now u ≡ with_cluster key ready.first (tables_now a)
  now_set = s.ok ∙ ap (λ (q : Typed). with_cluster key ready.first q) w.now

  pub clusters_set : u.clusters ≡ a.clusters
  clusters_set = s.leaves.clusters ∙ w.leaves.clusters

  states_set : states_of u ≡ used_at a.clusters ready.first (states_of a)
  states_set = s.used ∙ (λ i. used_at (w.leaves.clusters i) ready.first (w.states i))

  free_here : HasState a.clusters (states_of a) Free ready.first
  free_here = first_free a.clusters (states_of a) ready some run_free

  pub one_less : free_in (states_of u) + 1 ≡ free_in (states_of a)
  one_less =
      ap (λ (xs : List State). free_in xs + 1) states_set
      ∙ set_free a.clusters (states_of a) (tables_now a) (pages_sorted a) key ready.first free_here none

  pub told_set : accounted u ≡ accounted a
  told_set =
      (λ i. told (states_set i) (now_set i))
      ∙ set_told a.clusters (states_of a) (tables_now a) (pages_sorted a) key ready.first free_here none

  pub fewer_set : IsNoFreer (states_of a) (states_of u)
  fewer_set = subst (λ (xs : List State). IsNoFreer (states_of a) xs) (sym states_set)
      (set_fewer a.clusters (states_of a) (tables_now a) (pages_sorted a) key ready.first free_here none)

  pub run_left : AreFree u.clusters (states_of u) (without_first ready)
  run_left = rest_free a.clusters u.clusters (states_of a) (states_of u) ready clusters_set states_set
      (set_others a.clusters (states_of a) (tables_now a) (pages_sorted a) key ready.first free_here none) run_free

  pub staged_set : staged_of u ≡ staged_of a + 22
  staged_set = omega (arith, s.set.staged, w.numbers.0)

  checkpoint_set : checkpoint_of u ≡ checkpoint_of a + 22
  checkpoint_set =
      let new : new_bytes (find pair_cmp key (tables_now m).chunks.clusters) 22 ≡ 22 =
      ap (λ (q : Typed). new_bytes (find pair_cmp key q.chunks.clusters) 22) w.now
      ∙ ap (λ (o : Option ℕ). new_bytes o 22) none in
      omega (arith, new, s.set.checkpoint, w.numbers.1)

  pub bare_set : ((index : ℕ) → key.1 ≤ index → find pair_cmp (key.0, index) (tables_now a).chunks.clusters ≡ None)
      → (index : ℕ) → key.1 + 1 ≤ index → find pair_cmp (key.0, index) (tables_now u).chunks.clusters ≡ None
  bare_set bare = bare_still key ready.first (tables_now a) (tables_now u) now_set bare

  pub grows_set : (used : ℕ) → used_of (tables_now a).chunks.containers key.0 ≤ used
      → used_of (tables_now u).chunks.containers key.0 ≤ used
  grows_set used grows =
      subst (λ (q : Typed). used_of q.chunks.containers key.0 ≤ used) (sym now_set) grows

  pub fits_set : (p n : ℕ) → n + 1 ≡ p
      → checkpoint_of a + (22 * p + new_bytes (find nat_cmp key.0 (tables_now a).chunks.containers) 19)
      ≤ half_bytes a.clusters
      → checkpoint_of u + (22 * n + new_bytes (find nat_cmp key.0 (tables_now u).chunks.containers) 19)
      ≤ half_bytes u.clusters
  fits_set p n sum fits =
      let new = ap (λ (q : Typed). new_bytes (find nat_cmp key.0 q.chunks.containers) 19) now_set in
      let half = ap half_bytes clusters_set in
      omega (arith, new, half, fits, sum, checkpoint_set)

  module _ (frame : (t : Typed) → NamesNoFree a.clusters (states_of a) t
      → inside_at t (disk_of m).image ≡ inside_at t (disk_of a).image) where
    frame_set : (t : Typed) → NamesNoFree a.clusters (states_of a) t
        → inside_at t (disk_of u).image ≡ inside_at t (disk_of a).image
    frame_set t names = ap (λ (image : List ℕ). inside_at t image) s.set.image ∙ frame t names

    -- ---- the pages behind it

    module _ (v : Tables D d) (fewer : IsNoFreer (states_of u) (states_of v))
        (later : (t : Typed) → NamesNoFree u.clusters (states_of u) t
        → inside_at t (disk_of v).image ≡ inside_at t (disk_of u).image) where
      pub frame_all : (t : Typed) → NamesNoFree a.clusters (states_of a) t
          → inside_at t (disk_of v).image ≡ inside_at t (disk_of a).image
      frame_all t names =
          later t (names_still a.clusters u.clusters (states_of a) (states_of u) t clusters_set fewer_set names)
          ∙ frame_set t names

      pub have_all : (bytes : List ℕ) (count : ℕ) (container : Container)
          → ArePagesPut (key.0, key.1 + 1) count container (tables_now u) (tables_now v)
          → HasFront bytes ready.first (disk_of m).image
          → HavePages (key.0, key.1 + 1) (drop 4096 bytes) (tables_now v).chunks.clusters (disk_of v).image
          → HavePages key bytes (tables_now v).chunks.clusters (disk_of v).image
      have_all bytes count container put_rest front rest =
          let at = first_page key count container (tables_now a) (tables_now v) ready.first (tables_now u) now_set
          put_rest in
          let found : find pair_cmp key (tables_now u).chunks.clusters ≡ Some ready.first =
          sym (put_rest.others key (λ among. omega (arith, among.least))) ∙ at in
          let used = page_used u.clusters (states_of u) (tables_now u) (held_now u) u.spaces key ready.first found in
          let same = cluster_stays u.clusters (states_of u) (disk_of u).image (disk_of v).image later ready.first used
          ∙ ap (λ (image : List ℕ). cluster_bytes ready.first image) s.set.image in
          have_then key bytes (tables_now v).chunks.clusters (disk_of v).image ready.first at
          (λ o low within. ap (λ (xs : List ℕ). get_or xs o 0) same ∙ front o low within) rest

      pub loses_all : LosesNone u v → LosesNone a v
      loses_all inner runs = inner runs ∙ told_set
