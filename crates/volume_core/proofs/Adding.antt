-- What a call adds to what a volume has spent.
use Rattle.std.specs.Prelude.{◌≡◌, ◌≤◌, ◌+◌, ◌&&◌, ◌||◌, ℕ, Bool, true, false, nat_eq}
use Rattle.std.specs.Prelude.{IsTrue, length}
use Rattle.std.proofs.Common.{ap, sym, ◌∙◌, subst, arith}
use Rattle.vdisk.specs.declared.disk.Disk.{Ghosts}
use Rattle.meta_log.specs.Log.{passes_half}
use Rattle.meta_log.specs.Meta.{last_epoch}
use Rattle.plain_volume.specs.declared.call.Call.{Call}
use Rattle.volume_inside.specs.Fresh.{fresh_tables}
use Rattle.volume_inside.specs.Layout.{half_bytes}
use Rattle.volume_inside.specs.Named.{clusters_of}
use Rattle.volume_inside.specs.Rules.{next_id_of}
use Rattle.volume_inside.specs.Typed.{Typed}
use Rattle.volume_tables.specs.Log.{log_epoch, log_place}
use Rattle.volume_tables.specs.Tables.{tables_now, due_of, would_wear}
use Rattle.volume_tables.specs.declared.tables.Tables.{Tables}
use Rattle.volume_tables.specs.Reads.{ReadsOnly}
use Rattle.volume_tables.specs.Spending.{Spends, aside}
use Rattle.volume_core.specs.Bounds.{touched_by, changed_by, HasSpent, AddsToSpent}
use Rattle.volume_core.specs.Volumes.{tables_of, clusters_in, stopped, Endures}
use Rattle.volume_core.specs.declared.volume.Volume.{Volume as Mounted}
use Rattle.volume_core.proofs.Bounds.{worn_late}

module _ {D : Type 0} {d : Ghosts D} where
  -- a fresh volume has spent nothing
  pub fresh_spent : (v : Mounted D d) → tables_now (tables_of v) ≡ fresh_tables → (tables_of v).worn ≡ false
      → log_epoch (tables_of v).log ≡ 1 → HasSpent v 0 0
  fresh_spent v now fresh epoch = record {
    clusters = let none = ap (λ (t : Typed). length (clusters_of t)) now in omega (arith, none);
    ids = let first = ap next_id_of now in omega (arith, first);
    epochs = omega (arith, epoch);
    worn = λ is. absurd (let clash : true ≡ false = sym is ∙ fresh in cc);
    same = ap aside now;
  }

  module _ (v w : Mounted D d) (call : Call) where
    -- it names and draws no more than it may, and takes no epoch more than it may
    pub adds : length (clusters_of (tables_now (tables_of w)))
        ≤ length (clusters_of (tables_now (tables_of v))) + touched_by call
        → next_id_of (tables_now (tables_of w)) ≤ next_id_of (tables_now (tables_of v)) + changed_by call
        → aside (tables_now (tables_of w)) ≡ aside (tables_now (tables_of v))
        → (stopped w ≡ false → log_epoch (tables_of w).log ≤ log_epoch (tables_of v).log + changed_by call)
        → (stopped w ≡ false → (tables_of w).worn ≡ true → IsTrue (would_wear (tables_of v))) → AddsToSpent call v w
    adds named drawn same epoch worn b i has runs = record {
      clusters = omega (arith, named, has.clusters);
      ids = omega (arith, drawn, has.ids);
      epochs = let taken = epoch runs in omega (arith, taken, has.epochs);
      worn = λ is. let late = worn_late v b i has (worn runs is) in omega (arith, late);
      same = same ∙ has.same;
    }

    -- a call that left the tables and the journal as they were
    stays_add : tables_now (tables_of w) ≡ tables_now (tables_of v) → log_epoch (tables_of w).log ≡ log_epoch (tables_of v).log
        → (tables_of w).worn ≡ (tables_of v).worn → AddsToSpent call v w
    stays_add now epoch worn =
        adds
        (let same = ap (λ (t : Typed). length (clusters_of t)) now in omega (arith, same))
        (let same = ap next_id_of now in omega (arith, same))
        (ap aside now)
        (λ runs. omega (arith, epoch))
        (λ runs is. wears (sym worn ∙ is))
      where
        wears : (tables_of v).worn ≡ true → IsTrue (would_wear (tables_of v))
        wears was =
            ap (λ (b : Bool). b || (passes_half (half_bytes (clusters_in v)) (log_place (tables_of v).log) (due_of (tables_of v))
            && nat_eq (log_epoch (tables_of v).log) last_epoch)) was

    -- a call that only reads
    pub reads_add : ReadsOnly (tables_of v) (tables_of w) → AddsToSpent call v w
    reads_add reads = let l = reads.leaves in stays_add reads.now l.epoch l.worn

    -- a call that did nothing
    pub nothing_adds : (tables_of w) ≡ (tables_of v) → AddsToSpent call v w
    nothing_adds same =
        stays_add (ap (λ (t : Tables D d). tables_now t) same) (ap (λ (t : Tables D d). log_epoch t.log) same)
        (ap (λ (t : Tables D d). t.worn) same)

    -- a call that may draw an id and take an epoch
    pub changes_add : (ids : ℕ) → ids ≤ changed_by call → changed_by call ≡ 1
        → Spends (touched_by call) ids (tables_of v) (tables_of w) → Endures v w → AddsToSpent call v w
    changes_add ids few one spends endures =
        adds spends.named (let drawn = spends.drawn in omega (arith, drawn, few)) spends.same
        (λ runs. let epoch = endures.epoch runs in omega (arith, epoch, one)) endures.worn

    committed_adds : changed_by call ≡ 1 → tables_now (tables_of w) ≡ tables_now (tables_of v)
        → (stopped w ≡ false → log_epoch (tables_of w).log ≤ log_epoch (tables_of v).log + 1)
        → (stopped w ≡ false → (tables_of w).worn ≡ true → IsTrue (would_wear (tables_of v))) → AddsToSpent call v w
    committed_adds one now epoch tires =
        adds (let same = ap (λ (t : Typed). length (clusters_of t)) now in omega (arith, same))
        (let same = ap next_id_of now in omega (arith, same)) (ap aside now)
        (λ runs. let taken = epoch runs in omega (arith, taken, one)) tires

    -- a commit of the tables, which were lent
    pub commit_adds : (a : Tables D d) → a ≡ tables_of v → changed_by call ≡ 1
        → tables_now (tables_of w) ≡ tables_now a
        → (stopped w ≡ false → log_epoch (tables_of w).log ≤ log_epoch a.log + 1)
        → (stopped w ≡ false → (tables_of w).worn ≡ true → IsTrue (would_wear a)) → AddsToSpent call v w
    commit_adds a same one =
        subst (λ (x : Tables D d). tables_now (tables_of w) ≡ tables_now x
        → (stopped w ≡ false → log_epoch (tables_of w).log ≤ log_epoch x.log + 1)
        → (stopped w ≡ false → (tables_of w).worn ≡ true → IsTrue (would_wear x)) → AddsToSpent call v w) (sym same)
        (committed_adds one)
