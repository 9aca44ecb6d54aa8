-- Pages that are put one after another.
use Rattle.std.specs.Prelude.{◌≡◌, ◌≤◌, ◌<◌, ◌+◌, ℕ, List, Option, Some, None, IsSome, refl}
use Rattle.std.proofs.Common.{sym, ◌∙◌, ap, subst, inl, inr, arith}
use Rattle.std.proofs.lemmas.Bool.{cases_eq}
use Rattle.std.specs.FinMap.{find}
use Rattle.cluster_space.specs.declared.run.Run.{Run}
use Rattle.cluster_space.specs.declared.state.State.{State}
use Rattle.cluster_space.specs.declared.state.State.TheVariants.{Free}
use Rattle.table_records.specs.Keys.{pair_cmp}
use Rattle.table_records.specs.declared.chunk_records.Container.{Container}
use Rattle.volume_inside.specs.Changes.{with_cluster}
use Rattle.volume_inside.specs.ChunkTables.{PageKey}
use Rattle.volume_inside.specs.Layout.{first_data_cluster}
use Rattle.volume_inside.specs.Lists.{IsOut}
use Rattle.volume_inside.specs.Named.{clusters_of}
use Rattle.volume_inside.specs.Typed.{Typed}
use Rattle.volume_tables.specs.Clusters.{HasState, used_at}
use Rattle.volume_tables.specs.Frames.{AreFree, NamesNoFree}
use Rattle.chunk_container.specs.Pages.{ArePagesPut, IsNoFreer, without_first}
use Rattle.chunk_container.proofs.PageKeys.{page_put, page_beside}

module _ (key : PageKey) (count : ℕ) (container : Container) (a v : Typed) (c : ℕ) where
  abbrev next : PageKey
  next = (key.0, key.1 + 1)

  key_is : (k : PageKey) → k.0 ≡ key.0 → k.1 ≡ key.1 → k ≡ key
  key_is k one two = λ i. (one i, two i)

  pages_from_here : ArePagesPut next count container (with_cluster key c a) v → ArePagesPut key (count + 1) container a v
  pages_from_here put_next = record {
    rest = put_next.rest;
    others = λ k out.
        put_next.others k (λ among. out (record {
          container = among.container;
          least = omega (arith, among.least);
          most = omega (arith, among.most);
        }))
        ∙ page_beside k key c a.chunks.clusters (λ same. out (record {
          container = ap (λ (x : PageKey). x.0) same;
          least = (let one = ap (λ (x : PageKey). x.1) same in omega (arith, one));
          most = (let one = ap (λ (x : PageKey). x.1) same in omega (arith, one));
        }));
    there = λ k among. elim (cases_eq k.1 key.1) [
      | inl same ↦
          let is : find pair_cmp key v.chunks.clusters ≡ Some c =
          put_next.others key (λ later. omega (arith, later.least)) ∙ page_put key c a.chunks.clusters in
          subst (λ (x : PageKey). IsSome (find pair_cmp x v.chunks.clusters)) (sym (key_is k among.container same))
          (subst (λ (o : Option ℕ). IsSome o) (sym is) refl)
      | inr other ↦ put_next.there k (record {
        container = among.container;
        least = omega (arith, among.least, other);
        most = omega (arith, among.most);
      })
    ];
  }

  -- ONE PAGE MORE, before the others
  pub pages_then : (u : Typed) (all : ℕ) → u ≡ with_cluster key c a → count + 1 ≡ all → ArePagesPut next count container u v
      → ArePagesPut key all container a v
  pages_then u all is sum put_next =
      subst (λ (n : ℕ). ArePagesPut key n container a v) sum
      (pages_from_here (subst (λ (q : Typed). ArePagesPut next count container q v) is put_next))

  -- and it is found then
  pub first_page : (u : Typed) → u ≡ with_cluster key c a → ArePagesPut next count container u v
      → find pair_cmp key v.chunks.clusters ≡ Some c
  first_page u is put_next =
      put_next.others key (λ later. omega (arith, later.least))
      ∙ ap (λ (q : Typed). find pair_cmp key q.chunks.clusters) is ∙ page_put key c a.chunks.clusters

-- a page that was named is there
pub named_there : (key : PageKey) (c : ℕ) (a u : Typed) → u ≡ with_cluster key c a
    → IsSome (find pair_cmp key u.chunks.clusters)
named_there key c a u is =
    subst (λ (q : Typed). IsSome (find pair_cmp key q.chunks.clusters)) (sym is)
    (subst (λ (o : Option ℕ). IsSome o) (sym (page_put key c a.chunks.clusters)) refl)

-- pages behind one that is named are bare still
pub bare_still : (key : PageKey) (c : ℕ) (a u : Typed) → u ≡ with_cluster key c a
    → ((index : ℕ) → key.1 ≤ index → find pair_cmp (key.0, index) a.chunks.clusters ≡ None)
    → (index : ℕ) → key.1 + 1 ≤ index → find pair_cmp (key.0, index) u.chunks.clusters ≡ None
bare_still key c a u is bare index more =
    ap (λ (q : Typed). find pair_cmp (key.0, index) q.chunks.clusters) is
    ∙ page_beside (key.0, index) key c a.chunks.clusters
    (λ same. let one = ap (λ (x : PageKey). x.1) same in omega (arith, one, more))
    ∙ bare index (omega (arith, more))

-- ---- clusters

-- tables that name no free cluster name none still, where none became free
pub names_still : (n m : ℕ) (old new : List State) (t : Typed) → m ≡ n → IsNoFreer old new → NamesNoFree n old t
    → NamesNoFree m new t
names_still n m old new t same fewer names k free =
    subst (λ (x : ℕ). IsOut (first_data_cluster x + k) (clusters_of t)) (sym same) (names k (fewer k free))

pub first_free : (n : ℕ) (states : List State) (run : Run) → 0 < run.count → AreFree n states run
    → HasState n states Free run.first
first_free n states run some free =
    let one : run.first + 0 ≡ run.first = omega arith in
    subst (λ (c : ℕ). HasState n states Free c) one (free 0 some)

-- a cluster has its state in other tables with these states
pub state_still : (n m c : ℕ) (s : State) (old new : List State) → m ≡ n → new ≡ old → HasState n old s c → HasState m new s c
state_still n m c s old new same states has =
    subst (λ (p : ℕ × List State). HasState p.0 p.1 s c) (λ i. (sym same i, sym states i)) has

-- once the first of a run is used, the others are free
pub rest_free : (n m : ℕ) (states left : List State) (run : Run) → m ≡ n → left ≡ used_at n run.first states
    → ((x : ℕ) → (x ≡ run.first → ⊥) → HasState n states Free x → HasState n (used_at n run.first states) Free x)
    → AreFree n states run → AreFree m left (without_first run)
rest_free n m states left run same used others free k low =
    let one : run.first + (k + 1) ≡ run.first + 1 + k = omega arith in
    subst (λ (p : ℕ × List State). HasState p.0 p.1 Free (run.first + 1 + k)) (λ i. (sym same i, sym used i))
    (others (run.first + 1 + k) (λ is. omega (arith, is))
    (subst (λ (c : ℕ). HasState n states Free c) one (free (k + 1) (omega (arith, low)))))
