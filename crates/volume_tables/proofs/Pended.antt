-- What waits for a commit, as commits leave it.
use Rattle.std.specs.Prelude.{◌≡◌, ◌≤◌, ◌<◌, ◌+◌, ◌&&◌, if◌then◌else◌, ℕ, Bool, true, false, nat_eq, nat_lt, map, List}
use Rattle.std.specs.Prelude.{refl}
use Rattle.std.proofs.Common.{sym, ◌∙◌, ap, arith}
use Rattle.std.proofs.lemmas.Bool.{eq-eqb, eqb-true, le-ltb}
use Rattle.vdisk.specs.declared.disk.Disk.{Ghosts}
use Rattle.cluster_space.specs.declared.state.State.{State}
use Rattle.cluster_space.specs.States.{free_in, released}
use Rattle.meta_log.specs.Log.{epochs_taken, next_place, epochs_for, passes_half, checkpoint_length}
use Rattle.meta_log.specs.declared.log.MetaLog.{MetaLog}
use Rattle.table_records.specs.declared.records.ResultRecord.{ResultRecord}
use Rattle.table_rules.specs.declared.records.LastResults.{LastResults}
use Rattle.volume_inside.specs.Layout.{half_bytes}
use Rattle.volume_tables.specs.Ends.{unstaged_in, one_unless, same_result, all_settled, all_staged}
use Rattle.volume_tables.specs.Log.{log_now, log_staged, log_place, log_epoch}
use Rattle.volume_tables.specs.Pending.{Pending, due_in, place_after, worn_out, pending_of, after_commit}
use Rattle.volume_tables.specs.Staging.{IsQuiet}
use Rattle.volume_tables.specs.Tables.{states_of, checkpoint_of, due_of}
use Rattle.volume_tables.specs.declared.ends.JobEnds.{JobEnds}
use Rattle.volume_tables.specs.declared.tables.Tables.{Tables}
use Rattle.volume_tables.proofs.Freed.{released_free}

-- ---- a group that fits

pub group_behind : (half place bytes checkpoint : ℕ) → 0 < bytes → place + (37 + bytes) ≤ half
    → place_after half checkpoint place bytes ≡ place + (37 + bytes)
group_behind half place bytes checkpoint some fits =
    ap (λ (b : Bool). if b then place else (if passes_half half place bytes then checkpoint else place + (37 + bytes))) (by (nat_eq bytes 0) refl)
    ∙ ap (λ (b : Bool). if (nat_lt 0 bytes && b) then checkpoint else place + (37 + bytes)) (le-ltb half (place + (37 + bytes)) fits)
    ∙ neither (nat_lt 0 bytes)
  where
    by : (b : Bool) → nat_eq bytes 0 ≡ b → b ≡ false
    by true is = absurd (let none = eqb-true bytes 0 is in omega (arith, some, none))
    by false is = refl

    neither : (b : Bool) → (if (b && false) then checkpoint else place + (37 + bytes)) ≡ place + (37 + bytes)
    neither true = refl
    neither false = refl

-- ---- ends of jobs

same_itself : (r : ResultRecord) → one_unless (same_result r r) ≡ 0
same_itself r = λ i. one_unless (eq-eqb r.second r.second refl i && eq-eqb r.result r.result refl i)

pub none_left : (last : LastResults) → unstaged_in (all_settled last) ≡ 0
none_left last = λ i. same_itself last.optimization i + (same_itself last.garbage_collection i
    + (same_itself last.scrubbing i + same_itself last.unoptimization i))

-- ---- a commit was refused as worn

module _ (p : Pending) where
  abbrev worn_where : Bool → Pending
  worn_where b = if b then p else record p { staged = due_in p; unstaged = 0; worn = true }

  pub worn_already : p.worn ≡ true → p ≡ worn_out p
  worn_already worn = sym (ap worn_where worn)

  pub worn_now : p.worn ≡ false → record p { staged = due_in p; unstaged = 0; worn = true } ≡ worn_out p
  worn_now fresh = sym (ap worn_where fresh)

  abbrev epoch_where : Pending → ℕ
  epoch_where q = q.epoch

  pub worn_epoch : (q : Pending) → q ≡ worn_out p → q.epoch ≡ p.epoch
  worn_epoch q is = ap epoch_where is ∙ by p.worn
    where
      by : (b : Bool) → epoch_where (worn_where b) ≡ p.epoch
      by true = refl
      by false = refl

-- ---- the journal is committed once the ends of jobs are staged

module _ {D : Type 0} {d : Ghosts D} (t : Tables D d) (l after : MetaLog D d) (quiet : IsQuiet t.log l)
    (due : log_staged l ≡ due_of t) (size : checkpoint_length (log_now l) ≡ checkpoint_of t) (ends : JobEnds)
    (all : ends ≡ all_staged t.ends) where
  -- what waits then, with so many free clusters
  abbrev left : ℕ → Bool → Pending
  left free worn = record {
    epoch = log_epoch after;
    place = log_place after;
    staged = log_staged after;
    unstaged = unstaged_in ends;
    free = free;
    worn = worn;
  }

  half : l.half ≡ half_bytes t.clusters
  half = quiet.place.half ∙ t.half

  -- it was done, and what was deferred is free
  pub log_committed : (states : List State) → states ≡ map released (states_of t) → t.worn ≡ false
      → (log_epoch after ≡ l.epoch + epochs_taken l) × ((log_place after ≡ next_place l) × (log_staged after ≡ 0))
      → left (free_in states) t.worn ≡ after_commit t
  log_committed states freed fresh is = λ i. record {
    epoch = (is.0 ∙ (λ j. quiet.place.epoch j + epochs_for (half j) (quiet.place.next j) (due j))) i;
    place = (is.1.0 ∙ (λ j. place_after (half j) (size j) (quiet.place.next j) (due j))) i;
    staged = is.1.1 i;
    unstaged = (ap unstaged_in all ∙ none_left t.ends.last) i;
    free = (ap (λ (xs : List State). free_in xs) freed ∙ released_free (states_of t)) i;
    worn = fresh i;
  }

  -- it was refused as worn
  pub log_worn : (worn : Bool) → worn ≡ true → t.worn ≡ false → after ≡ l
      → left (free_in (states_of t)) worn ≡ worn_out (pending_of t)
  log_worn worn is fresh same =
      (λ i. record {
        epoch = (ap (λ (x : MetaLog D d). log_epoch x) same ∙ quiet.place.epoch) i;
        place = (ap (λ (x : MetaLog D d). log_place x) same ∙ quiet.place.next) i;
        staged = (ap (λ (x : MetaLog D d). log_staged x) same ∙ due) i;
        unstaged = (ap unstaged_in all ∙ none_left t.ends.last) i;
        free = free_in (states_of t);
        worn = is i;
      }) ∙ worn_now (pending_of t) fresh
