-- Tables whose clusters are data clusters name no byte of the journal.
use Rattle.std.specs.Prelude.{◌*◌, ℕ, Bool, true, false, cond, List, [], ◌∷◌, ◌++◌}
use Rattle.std.proofs.Common.{inl, inr, arith}
use Rattle.std.specs.declared.cmp.Ordering.TheVariants.{Less, Equal, Greater}
use Rattle.std.specs.FinMap.{put}
use Rattle.std.specs.FinMap.Entries.{by_order, where_key}
use Rattle.table_records.specs.Keys.{pair_cmp}
use Rattle.table_records.specs.declared.records.Extent.{Extent}
use Rattle.volume_inside.specs.Typed.{Typed, FileBlock}
use Rattle.volume_inside.specs.Changes.{with_extent, keep_extents}
use Rattle.volume_inside.specs.Layout.{half_bytes, journal_at, IsDataCluster, AreData}
use Rattle.volume_inside.specs.Ranges.{IsApart}
use Rattle.volume_inside.specs.Bases.{base_ranges, base_clusters, bases_apart}
use Rattle.volume_inside.specs.Named.{named, extent_ranges, extent_clusters, clusters_of}
use Rattle.volume_inside.specs.Rules.{ExtentsHold, RulesHold}

pub journal_apart : (n : ℕ) (t : Typed) → AreData n (clusters_of t) → IsApart journal_at (2 * half_bytes n) (named t)
journal_apart n t in_data = (inl (omega arith), extents t.extents in_data)
  where
    extents : (es : List (FileBlock × Extent)) → AreData n (extent_clusters es ++ base_clusters t)
        → IsApart journal_at (2 * half_bytes n) (extent_ranges es ++ base_ranges t)
    extents [] in_data = bases_apart n t in_data
    extents (e ∷ es) in_data = (inr (omega (arith, in_data.0.from_first)), extents es in_data.1)

module _ (n : ℕ) where
  -- tables that meet the rules name data clusters alone
  pub rules_data : (t : Typed) → RulesHold n t → AreData n (clusters_of t)
  rules_data t rules = extents t.extents rules.extents
    where
      extents : (es : List (FileBlock × Extent)) → ExtentsHold n t.files es → AreData n (extent_clusters es ++ base_clusters t)
      extents [] each = rules.chunks.containers.in_data
      extents (e ∷ es) each = (each.0.in_data, extents es each.1)

  -- so do they with an extent over one more data cluster, and with some of their extents
  pub data_put : (k : FileBlock) (e : Extent) (t : Typed) → IsDataCluster n e.cluster → AreData n (clusters_of t)
      → AreData n (clusters_of (with_extent k e t))
  data_put k e t one in_data = extents t.extents in_data
    where
      extents : (es : List (FileBlock × Extent)) → AreData n (extent_clusters es ++ base_clusters t)
          → AreData n (extent_clusters (put pair_cmp k e es) ++ base_clusters t)
      extents [] in_data = (one, in_data)
      extents (x ∷ es) in_data =
          elim (pair_cmp k x.0) as (λ r. AreData n (extent_clusters (by_order r ((k, e) ∷ x ∷ es) ((x.0, e) ∷ es) (x ∷ put pair_cmp k e es)) ++ base_clusters t)) [
            | Less ↦ (one, in_data)
            | Equal ↦ (one, in_data.1)
            | Greater ↦ (in_data.0, extents es in_data.1)
          ]

  pub data_kept : (test : FileBlock → Bool) (t : Typed) → AreData n (clusters_of t) → AreData n (clusters_of (keep_extents test t))
  data_kept test t in_data = extents t.extents in_data
    where
      extents : (es : List (FileBlock × Extent)) → AreData n (extent_clusters es ++ base_clusters t)
          → AreData n (extent_clusters (where_key pair_cmp test es) ++ base_clusters t)
      extents [] in_data = in_data
      extents (x ∷ es) in_data =
          let rest = extents es in_data.1 in
          elim (test x.0) as (λ b. AreData n (extent_clusters (cond b (x ∷ where_key pair_cmp test es) (where_key pair_cmp test es)) ++ base_clusters t)) [
            | true ↦ (in_data.0, rest)
            | false ↦ rest
          ]
