-- What was found in the tables of an image makes the tables in memory.
use Rattle.std.specs.Prelude.{◌≡◌, ◌≢◌, ◌+◌, ◌-◌, ℕ, Bool, true, false, T, List, [], ◌∷◌, Option, Some}
use Rattle.std.specs.Prelude.{IsSomeAnd, IsTrue, Err, refl}
use Rattle.std.proofs.Common.{sym, ◌∙◌, ap, subst, arith}
use Rattle.std.specs.declared.cmp.Ordering.TheVariants.{Less, Equal, Greater}
use Rattle.std.specs.FinMap.Entries.{find, is_sorted, same_entries}
use Rattle.byte_map.specs.Words.{Map, bytes_cmp}
use Rattle.cluster_space.specs.declared.state.State.{State}
use Rattle.cluster_space.specs.declared.state.State.TheVariants.{Free, Used, Deferred}
use Rattle.cluster_space.specs.States.{IsIn}
use Rattle.table_records.specs.Codecs.{typed}
use Rattle.table_records.specs.Keys.{single_cmp, kind_cmp}
use Rattle.table_records.specs.Next.{sorted_typed}
use Rattle.table_records.specs.Orders.{single_total, kind_total}
use Rattle.table_records.specs.Tables.{volume_codec, settings_codec, result_codec}
use Rattle.table_records.specs.declared.jobs.JobKind.{JobKind}
use Rattle.table_records.specs.declared.jobs.JobKind.TheVariants.{Optimization, GarbageCollection, Scrubbing}
use Rattle.table_records.specs.declared.jobs.JobKind.TheVariants.{Unoptimization}
use Rattle.table_records.specs.declared.records.ResultRecord.{ResultRecord}
use Rattle.table_rules.specs.Found.{volume_record, AreRecordsOf, result_of}
use Rattle.table_rules.specs.Marks.{AllUsed, IsFilled}
use Rattle.table_rules.specs.declared.records.Records.{Records}
use Rattle.volume_inside.specs.Layout.{first_data_cluster}
use Rattle.volume_inside.specs.Lists.{IsOut}
use Rattle.volume_inside.specs.Named.{clusters_of}
use Rattle.volume_inside.specs.Rules.{IsVolume, IsVolumeRecord, RulesHold}
use Rattle.volume_inside.specs.Typed.{Typed, typed_of}
use Rattle.volume_inside.proofs.Journals.{rules_data}
use Rattle.volume_tables.specs.Clusters.{AreHeld}
use Rattle.volume_tables.specs.Contents.{HasContents}
use Rattle.volume_tables.specs.Ends.{all_settled, four_results, staged_results}
use Rattle.volume_tables.specs.Tables.{with_ends}
use Rattle.table_records.specs.declared.records.VolumeRecord.{VolumeRecord}
use Rattle.vdisk.specs.Disk.{DiskState}
use Rattle.vdisk.specs.Causes.{Rose}
use Rattle.meta_log.specs.declared.fault.MetaFault.{MetaFault}
use Rattle.meta_log.specs.declared.fault.MetaFault.TheVariants.{GroupFull, TableFull, Worn, Damaged}
use Rattle.meta_log.specs.declared.fault.MetaFault.TheVariants.{Failed as MetaFailed, Memory as MetaMemory}
use Rattle.volume_tables.specs.Mount.{read_meta, IsLogFault, mount_fault_of}
use Rattle.volume_tables.proofs.Keyed.{test_of_all}

holds_true : (b : Bool) → T b → b ≡ true
holds_true true t = refl
holds_true false t = absurd t

-- ---- tables of one key, and of the four kinds

single_entry : {V : Type 0} (es : List (Unit {0} × V)) (v : V) → T (is_sorted single_cmp es)
    → find single_cmp tt es ≡ Some v → es ≡ (tt, v) ∷ []
single_entry es v sorted found = same_entries single_cmp single_total (λ x y is. refl) es ((tt, v) ∷ []) sorted tt
    (λ q. found)

less_is_not : Less ≡ Equal → ⊥
less_is_not is = cc

greater_is_not : Greater ≡ Equal → ⊥
greater_is_not is = cc

kind_exact : (x y : JobKind) → kind_cmp x y ≡ Equal → x ≡ y
kind_exact Optimization Optimization is = refl
kind_exact Optimization GarbageCollection is = absurd (less_is_not is)
kind_exact Optimization Scrubbing is = absurd (less_is_not is)
kind_exact Optimization Unoptimization is = absurd (less_is_not is)
kind_exact GarbageCollection Optimization is = absurd (greater_is_not is)
kind_exact GarbageCollection GarbageCollection is = refl
kind_exact GarbageCollection Scrubbing is = absurd (less_is_not is)
kind_exact GarbageCollection Unoptimization is = absurd (less_is_not is)
kind_exact Scrubbing Optimization is = absurd (greater_is_not is)
kind_exact Scrubbing GarbageCollection is = absurd (greater_is_not is)
kind_exact Scrubbing Scrubbing is = refl
kind_exact Scrubbing Unoptimization is = absurd (less_is_not is)
kind_exact Unoptimization Optimization is = absurd (greater_is_not is)
kind_exact Unoptimization GarbageCollection is = absurd (greater_is_not is)
kind_exact Unoptimization Scrubbing is = absurd (greater_is_not is)
kind_exact Unoptimization Unoptimization is = refl

four_entries : (es : List (JobKind × ResultRecord)) (f : JobKind → ResultRecord) → T (is_sorted kind_cmp es)
    → ((kind : JobKind) → find kind_cmp kind es ≡ Some (f kind)) → es ≡ four_results f
four_entries es f sorted found = same_entries kind_cmp kind_total kind_exact es (four_results f) sorted tt by
  where
    by : (kind : JobKind) → find kind_cmp kind es ≡ find kind_cmp kind (four_results f)
    by Optimization = found Optimization
    by GarbageCollection = found GarbageCollection
    by Scrubbing = found Scrubbing
    by Unoptimization = found Unoptimization

pub contents_found : (n : ℕ) (m : Map) (r : Records) → T (is_sorted bytes_cmp m) → IsVolume n m
    → AreRecordsOf (typed_of m) r
    → HasContents m r.next_id r.settings (all_settled r.results)
contents_found n m r sorted volume are = record {
  sorted = holds_true (is_sorted bytes_cmp m) sorted;
  spelled = test_of_all m volume.spelled;
  volume = single_entry (typed volume_codec m) (volume_record r.next_id)
      (sorted_typed volume_codec m sorted) are.volume;
  settings_there = single_entry (typed settings_codec m) r.settings (sorted_typed settings_codec m sorted) are.settings;
  ends_there = four_entries (typed result_codec m) (λ kind. result_of kind r.results)
      (sorted_typed result_codec m sorted) are.results;
}

-- ---- what is not used is not named

pub out_unless_used : (first : ℕ) (states : List State) (cs : List ℕ) (k : ℕ) (s : State) → s ≢ Used
    → AllUsed first states cs → IsIn states k s
    → IsOut (first + k) cs
out_unless_used first states [] k s differs used is = tt
out_unless_used first states (c ∷ cs) k s differs used is = (
  λ same.
      let place : c - first ≡ k = omega (arith, same) in
      let here : IsIn states k Used = subst (λ (j : ℕ). IsIn states j Used) place used.0 in
      differs (sym is.state ∙ here.state),
  out_unless_used first states cs k s differs used.1 is,
)

pub free_differs : Free ≢ Used
free_differs is = cc

deferred_differs : Deferred ≢ Used
deferred_differs is = cc

pub held_found : (n : ℕ) (m : Map) (states : List State) → IsVolume n m → IsFilled n (clusters_of (typed_of m)) states
    → AreHeld n states (typed_of m)
held_found n m states volume filled =
    let first = first_data_cluster n in
    let cs = clusters_of (typed_of m) in
    let free : (k : ℕ) → IsIn states k Free → IsOut (first + k) cs =
    λ k is. out_unless_used first states cs k Free free_differs filled.used is in (
      rules_data n (typed_of m) volume.rules,
      record {
        free_stored = free;
        free_now = free;
        deferred_now = λ k is. out_unless_used first states cs k Deferred deferred_differs filled.used is;
        once = volume.rules.clusters;
      },
    )

pub lawful_found : (n : ℕ) (m : Map) (r : Records) → IsVolume n m → AreRecordsOf (typed_of m) r
    → IsVolumeRecord (volume_record r.next_id)
lawful_found n m r volume are = subst (λ (o : Option VolumeRecord). IsSomeAnd o IsVolumeRecord) are.volume
    volume.rules.records.volume

-- the results of the tables are those in memory
pub results_found : (n : ℕ) (m : Map) (r : Records) → T (is_sorted bytes_cmp m) → IsVolume n m
    → AreRecordsOf (typed_of m) r
    → with_ends (all_settled r.results) (typed_of m) ≡ typed_of m
results_found n m r sorted volume are =
    let there : typed result_codec m ≡ staged_results (all_settled r.results) =
    (contents_found n m r sorted volume are).ends_there in
    ap (λ (es : List (JobKind × ResultRecord)). record (typed_of m) { results = es }) (sym there)

pub rules_found : (n : ℕ) (m : Map) (r : Records) → T (is_sorted bytes_cmp m) → IsVolume n m
    → AreRecordsOf (typed_of m) r
    → RulesHold n (with_ends (all_settled r.results) (typed_of m))
rules_found n m r sorted volume are = subst (λ (t : Typed). RulesHold n t)
    (sym (results_found n m r sorted volume are)) volume.rules

-- ---- the journal's refusals

pub log_refused : (n : ℕ) (old new : DiskState) (fault : MetaFault)
    → ((h : ℕ) → fault ≡ Damaged h → IsTrue old.tells → read_meta n old.image ≡ Err h)
    → (fault ≡ MetaFailed → Rose old.faults new.faults) → IsLogFault n old new (mount_fault_of fault)
log_refused n old new GroupFull damaged failed = tt
log_refused n old new TableFull damaged failed = tt
log_refused n old new Worn damaged failed = tt
log_refused n old new (Damaged h) damaged failed = damaged h refl
log_refused n old new MetaFailed damaged failed = failed refl
log_refused n old new MetaMemory damaged failed = tt
