-- A block that was made anew, in the rules and in the inside.
use Rattle.std.specs.Prelude.{◌≡◌, ◌≤◌, ◌+◌, ◌*◌, ℕ, Bool, cond, List, Option, Some, None, IfSome, Result, Ok, Err}
use Rattle.std.specs.Prelude.{IfOk, OnErr, refl}
use Rattle.std.proofs.Common.{sym, ◌∙◌, ap, subst, arith}
use Rattle.std.specs.Ordering.{nat_cmp}
use Rattle.std.specs.Cmp.{nat_cmp_total, unsigned_tied}
use Rattle.std.proofs.Common.{eq-eqb}
use Rattle.std.specs.FinMap.{find, put}
use Rattle.std.specs.FinMap.Entries.{find-put}
use Rattle.vdisk.specs.declared.disk.Disk.{Ghosts}
use Rattle.plain_volume.specs.declared.call.Fault.{Fault}
use Rattle.table_records.specs.Keys.{pair_cmp}
use Rattle.table_records.specs.declared.records.Extent.{Extent}
use Rattle.table_records.specs.declared.records.FileRecord.{FileRecord}
use Rattle.volume_inside.specs.Bases.{base_clusters}
use Rattle.volume_inside.specs.Entries.{each_found}
use Rattle.volume_inside.specs.Inside.{Inside, inside_at, block_of}
use Rattle.volume_inside.specs.Layout.{IsDataCluster}
use Rattle.volume_inside.specs.Lists.{IsOnce}
use Rattle.volume_inside.specs.Named.{clusters_of}
use Rattle.volume_inside.specs.Typed.{Typed, FileBlock}
use Rattle.volume_inside.specs.Changes.{with_extent, with_file, with_block}
use Rattle.volume_inside.specs.Rules.{RulesHold, ExtentsHold, ExtentHolds, LiesIn}
use Rattle.volume_inside.proofs.Blocks.{inside-with_extent}
use Rattle.volume_inside.proofs.Lawfuls.{rules_with_extent}
use Rattle.volume_tables.specs.Tables.{tables_now, inside_now, disk_of}
use Rattle.volume_tables.specs.declared.tables.Tables.{Tables}
use Rattle.volume_tables.proofs.Leaving.{data_found}
use Rattle.volume_files.specs.Writing.{IsReadable}
use Rattle.volume_files.proofs.Extents.{exact, found_put}

-- an extent that meets its rule can be read
pub readable : (n : ℕ) (t : Typed) (k : FileBlock) (was : Option Extent) → ExtentsHold n t.files t.extents
    → was ≡ find pair_cmp k t.extents → IfSome was (IsReadable n)
readable n t k None each is = tt
readable n t k (Some e) each is =
    let holds = each_found pair_cmp exact (ExtentHolds n t.files) k e t.extents (sym is) each in
    record { in_cluster = holds.in_cluster; in_data = holds.in_data }

-- a file that was put is found
pub found_file : (id : ℕ) (file : FileRecord) (files : List (ℕ × FileRecord))
    → find nat_cmp id (put nat_cmp id file files) ≡ Some file
found_file id file files =
    find-put nat_cmp nat_cmp_total id id file files
    ∙ ap (λ (t : Bool). cond t (Some file) (find nat_cmp id files)) (unsigned_tied id id ∙ eq-eqb id id refl)

module _ {D : Type 0} {d : Ghosts D} (t s : Tables D d) (k : FileBlock) (grown : FileRecord)
    (clusters : s.clusters ≡ t.clusters)
    (rules : RulesHold t.clusters (with_file k.0 grown (tables_now t))) where
  pub rules_same : tables_now s ≡ tables_now t → RulesHold s.clusters (with_file k.0 grown (tables_now s))
  rules_same same = subst (λ (p : ℕ × Typed). RulesHold p.0 (with_file k.0 grown p.1))
      (λ i. (sym clusters i, sym same i)) rules

  pub rules_block : (e : Extent) → tables_now s ≡ with_extent k e (tables_now t) → 1 ≤ e.valid → e.valid ≤ 4096
      → 4096 * k.1 + e.valid ≤ grown.length → RulesHold s.clusters (with_file k.0 grown (tables_now s))
  rules_block e set some whole reach =
      let q = with_file k.0 grown (tables_now t) in
      let once : IsOnce (clusters_of (with_extent k e q)) = subst (λ (x : Typed). IsOnce (clusters_of x)) set
      s.held.1.once in
      let found : find pair_cmp k (tables_now s).extents ≡ Some e = ap (λ (x : Typed). find pair_cmp k x.extents) set
      ∙ found_put k e (tables_now t).extents in
      let in_data = data_found s.clusters k e (tables_now s).extents (base_clusters (tables_now s)) s.held.0 found in
      let holds : ExtentHolds t.clusters q.files k e = record {
        in_file = subst (LiesIn k e) (sym (found_file k.0 grown (tables_now t).files)) reach;
        some_bytes = some;
        in_cluster = whole;
        in_data = subst (λ (n : ℕ). IsDataCluster n e.cluster) clusters in_data;
      } in
      subst (λ (p : ℕ × Typed). RulesHold p.0 (with_file k.0 grown p.1)) (λ i. (sym clusters i, sym set i))
      (rules_with_extent t.clusters q rules k e holds once)

-- with the block where the rest stays
pub inside_set : {D : Type 0} {d : Ghosts D} (t s : Tables D d) (k : FileBlock) (e : Extent)
    → tables_now s ≡ with_extent k e (tables_now t)
    → inside_at (tables_now t) (disk_of s).image ≡ inside_now t
    → inside_now s ≡ with_block k (block_of e (disk_of s).image) (inside_now t)
inside_set t s k e set stays =
    ap (λ (q : Typed). inside_at q (disk_of s).image) set ∙ inside-with_extent k e (tables_now t) (disk_of s).image
    ∙ ap (λ (i : Inside). with_block k (block_of e (disk_of s).image) i) stays

module _ {D : Type 0} {d : Ghosts D} (t s : Tables D d) (k : FileBlock) (grown : FileRecord)
    (clusters : s.clusters ≡ t.clusters)
    (rules : RulesHold t.clusters (with_file k.0 grown (tables_now t))) (valid : ℕ) where
  -- the rules hold whatever was answered
  pub rules_of : (r : Result Extent Fault) → IfOk r (λ e. tables_now s ≡ with_extent k e (tables_now t))
      → OnErr r (tables_now s ≡ tables_now t)
      → IfOk r (λ e. e.valid ≡ valid) → 1 ≤ valid → valid ≤ 4096 → 4096 * k.1 + valid ≤ grown.length
      → RulesHold s.clusters (with_file k.0 grown (tables_now s))
  rules_of (Ok e) set same is some whole reach =
      rules_block t s k grown clusters rules e set (omega (arith, is, some)) (omega (arith, is, whole))
      (omega (arith, is, reach))
  rules_of (Err fault) set same is some whole reach = rules_same t s k grown clusters rules same

-- a block was set after a call that changed nothing
pub inside_then : {D : Type 0} {d : Ghosts D} (t b s : Tables D d) (k : FileBlock) (e : Extent)
    → tables_now s ≡ with_extent k e (tables_now b)
    → inside_at (tables_now b) (disk_of s).image ≡ inside_now b → tables_now b ≡ tables_now t
    → (disk_of b).image ≡ (disk_of t).image
    → inside_now s ≡ with_block k (block_of e (disk_of s).image) (inside_now t)
inside_then t b s k e set stays now image =
    inside_set b s k e set stays ∙ ap (λ (i : Inside). with_block k (block_of e (disk_of s).image) i)
    (λ i. inside_at (now i) (image i))
