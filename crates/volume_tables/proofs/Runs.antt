-- Neighbouring free clusters are written at once.
use Rattle.std.specs.Prelude.{◌≡◌, ◌⊎◌, ◌≤◌, ◌<◌, ◌+◌, ◌*◌, ◌-◌, ℕ, List, [], ◌∷◌, ◌++◌, take}
use Rattle.std.proofs.Common.{sym, ◌∙◌, ap, subst, inl, inr, arith}
use Rattle.std.proofs.lemmas.Bool.{cases_lt}
use Rattle.vdisk.specs.Disk.{DiskState, ChangedWithin}
use Rattle.vdisk.specs.Ranges.{part, part_apart, part_part}
use Rattle.vdisk.specs.Steps.{Keeps, TornWithin}
use Rattle.vdisk.specs.declared.disk.Disk.{Ghosts}
use Rattle.cluster_space.specs.declared.run.Run.{Run}
use Rattle.meta_log.proofs.Lives.{meta_same}
use Rattle.plain_volume.specs.Volume.{Volume}
use Rattle.table_records.specs.declared.records.Extent.{Extent}
use Rattle.volume_inside.specs.Bases.{base_clusters, base_ranges}
use Rattle.volume_inside.specs.Crash.{data_keeps}
use Rattle.volume_inside.specs.Frame.{inside_apart}
use Rattle.volume_inside.specs.Inside.{cluster_bytes, inside_at}
use Rattle.volume_inside.specs.Layout.{half_bytes, journal_at, first_data_cluster}
use Rattle.volume_inside.specs.Lists.{IsOut}
use Rattle.volume_inside.specs.Named.{named, clusters_of, extent_clusters, extent_ranges}
use Rattle.volume_inside.specs.ChunkTables.{PageKey}
use Rattle.volume_inside.specs.Pages.{page_clusters, page_length, page_ranges}
use Rattle.volume_inside.specs.Ranges.{IsApart}
use Rattle.volume_inside.specs.Shows.{Shows, Kept}
use Rattle.volume_inside.specs.Typed.{Typed, FileBlock}
use Rattle.volume_tables.specs.Frames.{AreFree, NamesNoFree}
use Rattle.volume_tables.specs.Tables.{disk_of, area_of, states_of, tables_now, IsTables}
use Rattle.volume_tables.specs.declared.tables.Tables.{Tables}
use Rattle.volume_tables.proofs.Crashes.{area_spells}

-- tables name none of these clusters
abbrev AreOut : ℕ → ℕ → List ℕ → Type 0
AreOut first count named = (k : ℕ) → k < count → IsOut (first + k) named

cluster_apart : (c first count : ℕ) → ((k : ℕ) → k < count → c ≡ first + k → ⊥)
    → (4096 * c + 4096 ≤ 4096 * first) ⊎ (4096 * first + 4096 * count ≤ 4096 * c)
cluster_apart c first count never = elim (cases_lt c first) [
  | inl below ↦ inl (omega (arith, below))
  | inr from ↦ elim (cases_lt c (first + count)) [
    | inl inner ↦ absurd (never (c - first) (omega (arith, inner, from)) (omega (arith, from)))
    | inr behind ↦ inr (omega (arith, behind))
  ]
]

-- then they have no byte in a range named
run_apart : (first count : ℕ) (t : Typed) → 1 ≤ first → AreOut first count (clusters_of t)
    → IsApart (4096 * first) (4096 * count) (named t)
run_apart first count t some out = (inl (omega (arith, some)), extents t.extents out)
  where
    page : (e : PageKey × ℕ)
        → (4096 * e.1 + 4096 ≤ 4096 * first) ⊎ (4096 * first + 4096 * count ≤ 4096 * e.1)
        → (4096 * e.1 + page_length t.chunks.containers e.0 ≤ 4096 * first)
        ⊎ (4096 * first + 4096 * count ≤ 4096 * e.1)
    page e (inl below) = inl (omega (arith, below))
    page e (inr behind) = inr behind

    pages : (es : List (PageKey × ℕ)) → AreOut first count (page_clusters es)
        → IsApart (4096 * first) (4096 * count) (page_ranges t.chunks.containers es)
    pages [] out = tt
    pages (e ∷ es) out = (
      page e (cluster_apart e.1 first count (λ k low. (out k low).0)),
      pages es (λ k low. (out k low).1),
    )

    extents : (es : List (FileBlock × Extent)) → AreOut first count (extent_clusters es ++ base_clusters t)
        → IsApart (4096 * first) (4096 * count) (extent_ranges es ++ base_ranges t)
    extents [] out = pages t.chunks.clusters out
    extents (e ∷ es) out = (
      cluster_apart e.1.cluster first count (λ k low. (out k low).0),
      extents es (λ k low. (out k low).1),
    )

-- a cluster of a run that was written has its part of the bytes
pub run_read : (first count k : ℕ) (image bytes : List ℕ) → k < count
    → part (4096 * first) (4096 * count) image ≡ take (4096 * count) bytes
    → cluster_bytes (first + k) image ≡ part (4096 * k) 4096 bytes
run_read first count k image bytes low written =
    let place : 4096 * (first + k) ≡ 4096 * first + 4096 * k = omega arith in
    let within : 4096 * k + 4096 ≤ 4096 * count = omega (arith, low) in
    let zero : 0 + 4096 * k ≡ 4096 * k = omega arith in
    ap (λ (at : ℕ). part at 4096 image) place
    ∙ sym (part_part (4096 * first) (4096 * count) (4096 * k) 4096 image within)
    ∙ ap (λ (xs : List ℕ). part (4096 * k) 4096 xs) written
    ∙ part_part 0 (4096 * count) (4096 * k) 4096 bytes within
    ∙ ap (λ (at : ℕ). part at 4096 bytes) zero

-- the tables now name no free cluster
pub now_apart : {D : Type 0} {d : Ghosts D} (t : Tables D d) → NamesNoFree t.clusters (states_of t) (tables_now t)
now_apart t = t.held.1.free_now

module _ {D : Type 0} {d : Ghosts D} (t : Tables D d) (run : Run) (some : 0 < run.count)
    (free : AreFree t.clusters (states_of t) run) where
  pub run_first : first_data_cluster t.clusters ≤ run.first
  run_first = let low = (free 0 some).from_first in omega (arith, low)

  out_of : (q : Typed) → NamesNoFree t.clusters (states_of t) q → AreOut run.first run.count (clusters_of q)
  out_of q apart k low =
      let has = free k low in
      let from = has.from_first in
      let place : first_data_cluster t.clusters + (run.first + k - first_data_cluster t.clusters) ≡ run.first + k =
      omega (arith, from) in
      subst (λ (x : ℕ). IsOut x (clusters_of q)) place (apart (run.first + k - first_data_cluster t.clusters) has.is)

  apart_of : (q : Typed) → NamesNoFree t.clusters (states_of t) q
      → IsApart (4096 * run.first) (4096 * run.count) (named q)
  apart_of q apart = let low = run_first in run_apart run.first run.count q (omega (arith, low)) (out_of q apart)

  -- what tables hold that name no free cluster stays
  pub run_stays : (q : Typed) → NamesNoFree t.clusters (states_of t) q → (image : List ℕ)
      → ChangedWithin (4096 * run.first) (4096 * run.count) (disk_of t).image image
      → inside_at q image ≡ inside_at q (disk_of t).image
  run_stays q apart image change =
      inside_apart q (4096 * run.first) (4096 * run.count) (disk_of t).image image (apart_of q apart) change

  pub run_keeps : (stored : Typed) (w : Volume) (new : DiskState)
      → TornWithin (4096 * run.first) (4096 * run.count) (disk_of t) new → IsTables t stored
      → Kept (area_of t) (disk_of t) w → Keeps (disk_of t) new (Shows (area_of t) w)
  run_keeps stored w new torn is kept =
      let low = run_first in
      data_keeps (area_of t) (disk_of t) new (4096 * run.first) (4096 * run.count) is.map w torn
      (area_spells t stored is)
      (λ x y change. meta_same journal_at (half_bytes t.clusters) y x
      (part_apart (4096 * run.first) (4096 * run.count) journal_at (2 * half_bytes t.clusters) x y
      (inl (omega (arith, low))) change))
      (subst (λ (q : Typed). IsApart (4096 * run.first) (4096 * run.count) (named q)) (sym is.is)
      (apart_of stored is.free)) kept
