-- Tables of chunks that meet their rules can be read.
use Rattle.std.specs.Prelude.{◌≡◌, ◌≤◌, ◌<◌, ◌+◌, ◌*◌, ◌/◌, ℕ, List, length, Option, Some, None, IsSome, IsSomeAnd, refl}
use Rattle.std.proofs.Common.{subst, arith}
use Rattle.std.specs.Ordering.{nat_cmp}
use Rattle.std.specs.FinMap.{find}
use Rattle.std.proofs.lemmas.Map.Lookups.{exact_unsigned}
use Rattle.table_records.specs.Keys.{pair_cmp}
use Rattle.table_records.specs.declared.chunk_records.Row.{Row}
use Rattle.table_records.specs.declared.chunk_records.Place.{Place}
use Rattle.table_records.specs.declared.chunk_records.Container.{Container}
use Rattle.volume_inside.specs.ChunkTables.{ChunkTables, CopyKey}
use Rattle.volume_inside.specs.ChunkChanges.{HasPages}
use Rattle.volume_inside.specs.ChunkRules.{ChunksHold, ContainerHolds, PlaceHolds, PlaceOfHolds, RedirectHolds, IsTarget}
use Rattle.volume_inside.specs.Chunks.{length_of, length_or_none}
use Rattle.volume_inside.specs.Entries.{each_found, each_weaker}
use Rattle.volume_inside.specs.Layout.{AreData}
use Rattle.volume_inside.specs.Pages.{used_of, used_or_none, page_clusters}
use Rattle.row_reading.specs.Reading.{HasContent, IsReadable}
use Rattle.row_reading.proofs.Runs.{page_in_data}

found_of : {A : Type 0} (o : Option A) → IsSome o → (a : A) × (o ≡ Some a)
found_of None some = absurd (cc)
found_of (Some a) some = (a, refl)

module _ (n next : ℕ) (t : ChunkTables) (image : List ℕ) (size : length image ≡ 4096 * n) (rules : ChunksHold n next t) where
  container_holds : (c : ℕ) (one : Container) → find nat_cmp c t.containers ≡ Some one → ContainerHolds next t.clusters c one
  container_holds c one found =
      each_found nat_cmp exact_unsigned (ContainerHolds next t.clusters) c one t.containers found rules.containers.containers

  has_pages : (c : ℕ) → HasPages t c image
  has_pages c index low = by (find nat_cmp c t.containers) refl low
    where
      by : (o : Option Container) → find nat_cmp c t.containers ≡ o → 4096 * index < used_or_none o
          → (cluster : ℕ) × (find pair_cmp (c, index) t.clusters ≡ Some cluster) × (4096 * cluster + 4096 ≤ length image)
      by None is some = absurd (omega (arith, some))
      by (Some one) is some =
          let there = found_of (find pair_cmp (c, index) t.clusters) ((container_holds c one is).whole index some) in
          let in_data = page_in_data n (c, index) there.0 t.clusters rules.containers.in_data there.1 in
          let within = in_data.within in
          (there.0, there.1, omega (arith, within, size))

  few_bytes : (c : ℕ) → used_of t.containers c ≤ 16777216
  few_bytes c = by (find nat_cmp c t.containers) refl
    where
      by : (o : Option Container) → find nat_cmp c t.containers ≡ o → used_or_none o ≤ 16777216
      by None is = omega arith
      by (Some one) is = (container_holds c one is).own.few

  has_content : (c : ℕ) → HasContent t image c
  has_content c =
      let clusters : n ≡ length image / 4096 = omega (arith, size) in
      record {
        pages = has_pages c;
        in_data = subst (λ (m : ℕ). AreData m (page_clusters t.clusters)) clusters rules.containers.in_data;
        few = few_bytes c;
      }

  lies : (k : CopyKey) (p : Place) → PlaceHolds t.rows t.containers k p
      → p.offset + length_of t.rows k.0 ≤ used_of t.containers p.container
  lies k p holds = by (find nat_cmp k.0 t.rows) holds
    where
      by : (o : Option Row) → IsSomeAnd o (PlaceOfHolds t.containers k.1 p)
          → p.offset + length_or_none o ≤ used_of t.containers p.container
      by None one = absurd one
      by (Some row) one = one.within

  target : (id : ℕ) (row : Row) → find nat_cmp id t.rows ≡ Some row → (row.redirect ≡ 0 → ⊥)
      → IsSomeAnd (find nat_cmp row.redirect t.rows) (λ to. to.length ≡ row.length)
  target id row found some =
      by (find nat_cmp row.redirect t.rows) (each_found nat_cmp exact_unsigned (RedirectHolds t.rows) id row t.rows found rules.redirects some)
    where
      by : (o : Option Row) → IsSomeAnd o (IsTarget id row) → IsSomeAnd o (λ to. to.length ≡ row.length)
      by None one = absurd one
      by (Some to) one = one.length

  pub readable : IsReadable t image
  readable = record {
    content = has_content;
    places = each_weaker (PlaceHolds t.rows t.containers) (λ k p. p.offset + length_of t.rows k.0 ≤ used_of t.containers p.container)
        t.places lies rules.places.places;
    targets = target;
  }
