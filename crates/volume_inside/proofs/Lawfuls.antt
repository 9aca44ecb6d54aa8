-- Changes of tables that keep the rules.
use Rattle.std.specs.Prelude.{◌≡◌, ◌≤◌, ◌+◌, ◌*◌, ℕ, Bool, true, false, cond, List, [], ◌∷◌, Some, IsSome, refl}
use Rattle.std.proofs.Common.{◌∙◌, sym, subst, eqb-true}
use Rattle.std.specs.Ordering.{nat_cmp, eq_by_cmp}
use Rattle.std.specs.Cmp.{nat_cmp_total, unsigned_tied}
use Rattle.std.specs.FinMap.{find, put, nat_cmp-IsAntisymmetric}
use Rattle.std.specs.FinMap.Entries.{find-put}
use Rattle.std.proofs.lemmas.Map.Lookups.{exact_pairs, exact_unsigned}
use Rattle.table_records.specs.Keys.{pair_cmp}
use Rattle.table_records.specs.declared.records.FileRecord.{FileRecord}
use Rattle.table_records.specs.declared.records.Extent.{Extent}
use Rattle.volume_inside.specs.Typed.{Typed, FileBlock}
use Rattle.volume_inside.specs.Changes.{with_file, with_extent, keep_extents}
use Rattle.volume_inside.specs.Bases.{base_clusters}
use Rattle.volume_inside.specs.ChunkRules.{MapRowHolds}
use Rattle.volume_inside.specs.Named.{clusters_of}
use Rattle.volume_inside.specs.Lists.{IsOnce}
use Rattle.volume_inside.specs.Entries.{Each, each_put, each_found, each_weaker, each_where_key}
use Rattle.volume_inside.specs.Rules.{next_id_of, NameHolds, IsNamedOnce, FileHolds, LiesIn, ExtentHolds, ExtentsHold, RulesHold}
use Rattle.volume_inside.proofs.Spaces.{once_kept}

-- ---- a file that is put

-- a file is there after a put of any file, if it was there
pub there_after : (id x : ℕ) (file : FileRecord) (files : List (ℕ × FileRecord)) → IsSome (find nat_cmp x files)
    → IsSome (find nat_cmp x (put nat_cmp id file files))
there_after id x file files there =
    subst IsSome (sym (find-put nat_cmp nat_cmp_total x id file files)) (by (eq_by_cmp nat_cmp x id))
  where
    by : (t : Bool) → IsSome (cond t (Some file) (find nat_cmp x files))
    by true = refl
    by false = there

-- what lies in the files lies in them after a put of a file, if it lies in that file where it is its own
pub lies_after : (k : FileBlock) (e : Extent) (id : ℕ) (file : FileRecord) (files : List (ℕ × FileRecord))
    → LiesIn k e (find nat_cmp k.0 files) → (k.0 ≡ id → 4096 * k.1 + e.valid ≤ file.length)
    → LiesIn k e (find nat_cmp k.0 (put nat_cmp id file files))
lies_after k e id file files lies mine =
    subst (LiesIn k e) (sym (find-put nat_cmp nat_cmp_total k.0 id file files)) (by (eq_by_cmp nat_cmp k.0 id) refl)
  where
    by : (t : Bool) → eq_by_cmp nat_cmp k.0 id ≡ t → LiesIn k e (cond t (Some file) (find nat_cmp k.0 files))
    by true is = mine (eqb-true k.0 id (sym (unsigned_tied k.0 id) ∙ is))
    by false is = lies

-- ---- one change at a time

module _ (n : ℕ) (t : Typed) (rules : RulesHold n t) where
  -- an extent that meets its rule, over a cluster that is not named otherwise
  pub rules_with_extent : (k : FileBlock) (e : Extent) → ExtentHolds n t.files k e → IsOnce (clusters_of (with_extent k e t))
      → RulesHold n (with_extent k e t)
  rules_with_extent k e holds once = record {
    records = rules.records;
    names = rules.names;
    files = rules.files;
    map_rows = rules.map_rows;
    extents = each_put pair_cmp (exact_pairs nat_cmp nat_cmp exact_unsigned exact_unsigned) (ExtentHolds n t.files) k e t.extents holds rules.extents;
    chunks = rules.chunks;
    clusters = once;
  }

  -- some of the extents
  pub rules_keep_extents : (test : FileBlock → Bool) → RulesHold n (keep_extents test t)
  rules_keep_extents test = record {
    records = rules.records;
    names = rules.names;
    files = rules.files;
    map_rows = rules.map_rows;
    extents = each_where_key pair_cmp (ExtentHolds n t.files) test t.extents rules.extents;
    chunks = rules.chunks;
    clusters = once_kept (0, 0) (base_clusters t) test t.extents rules.clusters;
  }

  -- another record of a file that is there, in which its blocks lie
  pub rules_with_file : (id : ℕ) (old file : FileRecord) → find nat_cmp id t.files ≡ Some old → FileHolds (next_id_of t) id file
      → MapRowHolds t.chunks.rows id file
      → Each (λ k e. k.0 ≡ id → 4096 * k.1 + e.valid ≤ file.length) t.extents → RulesHold n (with_file id file t)
  rules_with_file id old file found holds map blocks =
      let one : IsNamedOnce t.names id file = each_found nat_cmp nat_cmp-IsAntisymmetric (IsNamedOnce t.names) id old t.files found rules.names.once in
      record {
        records = rules.records;
        names = record {
          names = each_weaker (NameHolds t.files) (NameHolds (with_file id file t).files) t.names
              (λ name x h. record { lawful = h.lawful; names_file = there_after id x file t.files h.names_file }) rules.names.names;
          once = each_put nat_cmp nat_cmp-IsAntisymmetric (IsNamedOnce t.names) id file t.files one rules.names.once;
          few = rules.names.few;
        };
        files = each_put nat_cmp nat_cmp-IsAntisymmetric (FileHolds (next_id_of t)) id file t.files holds rules.files;
        map_rows = each_put nat_cmp nat_cmp-IsAntisymmetric (MapRowHolds t.chunks.rows) id file t.files map rules.map_rows;
        extents = lie t.extents rules.extents blocks;
        chunks = rules.chunks;
        clusters = rules.clusters;
      }
    where
      lie : (es : List (FileBlock × Extent)) → ExtentsHold n t.files es
          → Each (λ k e. k.0 ≡ id → 4096 * k.1 + e.valid ≤ file.length) es → ExtentsHold n (with_file id file t).files es
      lie [] each blocks = tt
      lie (e ∷ es) each blocks = (
        record {
          in_file = lies_after e.0 e.1 id file t.files each.0.in_file blocks.0;
          some_bytes = each.0.some_bytes;
          in_cluster = each.0.in_cluster;
          in_data = each.0.in_data;
        },
        lie es each.1 blocks.1,
      )
