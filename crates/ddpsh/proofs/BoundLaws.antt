-- What lines add to what a run has spent.
use Rattle.std.proofs.Common.{◌≡◌, ◌≤◌, ◌<◌, ◌+◌, ◌-◌, ◌^◌, ℕ, Bool, true, false, cond, List, [], ◌∷◌, ◌++◌, length}
use Rattle.std.proofs.Common.{Some, None, Result, Ok, Err, IfOk, refl, sym, ◌∙◌, ap, subst, arith, length-append}
use Rattle.vdisk.specs.declared.disk.Disk.{Ghosts}
use Rattle.plain_volume.specs.Volume.{Volume}
use Rattle.plain_volume.specs.declared.call.Call.{Call}
use Rattle.plain_volume.specs.declared.call.Call.TheVariants as call
use Rattle.plain_volume.specs.declared.call.Reply.{Reply}
use Rattle.plain_volume.specs.declared.call.Fault.{Fault}
use Rattle.plain_volume.specs.declared.call.Fault.TheVariants as fault
use Rattle.volume_core.specs.States.{wears_at}
use Rattle.volume_core.specs.Bounds.{changed_by, HasSpent, IsSpentIn}
use Rattle.volume_core.specs.Volumes.{clusters_in, view_now, stopped}
use Rattle.volume_core.specs.Wants.{wants_of}
use Rattle.volume_core.specs.declared.volume.Volume.{Volume as Engine}
use Rattle.ddpsh.specs.States.{State}
use Rattle.ddpsh.specs.Bounds.{touched_by_all, AreSpent, Bounded, IsFresh, WantsAreSpent}
use Rattle.ddpsh.specs.Crashes.{Carries}
use Rattle.ddpsh.specs.Runs.{Entry, calls_of}
use Rattle.ddpsh.specs.Served.{volume_state}
use Rattle.ddpsh.specs.Sessions.{state_of}
use Rattle.ddpsh.specs.Steps.{Spending}
use Rattle.ddpsh.specs.declared.commands.Command.TheVariants.{Mount, Format}
use Rattle.ddpsh.specs.declared.session.Session.{Session}
use Rattle.ddpsh.proofs.RunLaws.{calls_more}

touched_more : (first second : List (Call × Reply))
    → touched_by_all (first ++ second) ≡ touched_by_all first + touched_by_all second
touched_more [] second = omega arith
touched_more (pair ∷ first) second = omega (arith, touched_more first second)

pub changed_once : (call : Call) → changed_by call ≤ 1
changed_once (call.Create name) = omega arith
changed_once (call.Write name at bytes) = omega arith
changed_once (call.SetLength name len) = omega arith
changed_once (call.Rename from to) = omega arith
changed_once (call.Delete name) = omega arith
changed_once (call.Read name at count) = omega arith
changed_once (call.Digest name) = omega arith
changed_once (call.Stat name) = omega arith
changed_once (call.Next after) = omega arith
changed_once call.Flush = omega arith

pub not_made : (n : ℕ) → Mount ≡ Format n → ⊥
not_made n same = let no : ⊥ = cc in no

-- what is wanting is spent, where ids and epochs are not
never_worn : (worn : Type 0) (n b : ℕ) (files : Volume) (call : Call) (want : Fault) → (worn → ⊥)
    → IsSpentIn worn n files b call want → IsSpentIn ⊥ n files b call want
never_worn worn n b files call fault.Worn never is = never is
never_worn worn n b files call fault.TableFull never is = is
never_worn worn n b files call (fault.Full need free) never is = is
never_worn worn n b files call fault.BadName never is = is
never_worn worn n b files call fault.NoFile never is = is
never_worn worn n b files call fault.Exists never is = is
never_worn worn n b files call (fault.OutsideFile size) never is = is
never_worn worn n b files call (fault.TooLarge most) never is = is
never_worn worn n b files call fault.Failed never is = is
never_worn worn n b files call (fault.Damaged place) never is = is
never_worn worn n b files call fault.Memory never is = is

bounded_more : (n b total : ℕ) (before : State) (es : List Entry) (e : Entry)
    → total ≡ b + touched_by_all (calls_of (es ++ e ∷ [])) → Bounded n b before es → AreSpent n total e.after
    → Bounded n b before (es ++ e ∷ [])
bounded_more n b total before [] e same so last =
    let whole : total ≡ b + touched_by_all e.calls = omega (arith, same, touched_more e.calls []) in
    (so, subst (λ (k : ℕ). AreSpent n k e.after) whole last)
bounded_more n b total before (d ∷ es) e same so last =
    let rest : total ≡ (b + touched_by_all d.calls) + touched_by_all (calls_of (es ++ e ∷ [])) =
    omega (arith, same, touched_more d.calls (calls_of (es ++ e ∷ []))) in
    (so.0, bounded_more n (b + touched_by_all d.calls) total d.after es e rest so.1 last)

module _ {D : Type 0} {d : Ghosts D} where
  -- at most so much was spent, and so at most more
  pub spent_more : (v : Engine D d) (b i c j : ℕ) → HasSpent v b i → b ≤ c → i ≤ j → HasSpent v c j
  spent_more v b i c j has clusters changes = record {
    clusters = omega (arith, has.clusters, clusters);
    ids = omega (arith, has.ids, changes);
    epochs = omega (arith, has.epochs, changes);
    worn = λ h. omega (arith, has.worn h, changes);
    same = has.same;
  }

  are_spent : (n b i : ℕ) (v : Engine D d) → WantsAreSpent v → clusters_in v ≡ n → i < 2 ^ 48 - 2 → HasSpent v b i
      → AreSpent n b (volume_state v)
  are_spent n b i v law same few has = record {
    spent = λ call want wants.
        never_worn (2 ^ 48 - 2 ≤ i) n b (view_now v) call want (λ worn. omega (arith, worn, few))
        (subst (λ (k : ℕ). IsSpentIn (2 ^ 48 - 2 ≤ i) k (view_now v) b call want) same (law b i call want has wants));
    flushes = by (wears_at (volume_state v)) refl;
  }
    where
      by : (wears : Bool) → wears_at (volume_state v) ≡ wears → wants_of v call.Flush ≡ None
      by true is =
          let worn : 2 ^ 48 - 2 ≤ i =
          law b i call.Flush fault.Worn has (ap (λ (w : Bool). cond w (Some fault.Worn) None) is) in
          absurd (omega (arith, worn, few))
      by false is = ap (λ (w : Bool). cond w (Some fault.Worn) None) is

  -- a volume of so many clusters was made
  pub fresh_made : {E : Type 0} (clusters n : ℕ) (r : Result (Engine D d) E) → IfOk r (λ v. clusters_in v ≡ clusters)
      → IfOk r (λ v. HasSpent v 0 0) → Format clusters ≡ Format n → IfOk r (λ v. IsFresh n v)
  fresh_made clusters n (Ok v) is spent same =
      let as_many : clusters ≡ n = cc in
      record { clusters = is ∙ as_many; spent = spent }
  fresh_made clusters n (Err e) is spent same = tt

  pub spending_start : (n : ℕ) (v : Session D d) → WantsAreSpent v.volume → IsFresh n v.volume → Spending n v v []
  spending_start n v law fresh = record {
    clusters = fresh.clusters;
    spent = fresh.spent;
    bounded = are_spent n 0 0 v.volume law fresh.clusters (omega arith) fresh.spent;
  }

  pub spending_more : (n : ℕ) (first old new : Session D d) (es : List Entry) (e : Entry) → e.after ≡ state_of new
      → Carries old.volume new.volume e.calls → stopped new.volume ≡ false → WantsAreSpent new.volume
      → length es + 1 < 2 ^ 48 - 2 → Spending n first old es → Spending n first new (es ++ e ∷ [])
  spending_more n first old new es e left carries runs law few so =
      let b : ℕ = touched_by_all (calls_of es) in
      let total : touched_by_all (calls_of (es ++ e ∷ [])) ≡ b + touched_by_all e.calls =
      ap touched_by_all (calls_more es e) ∙ touched_more (calls_of es) e.calls in
      let spent : HasSpent new.volume (b + touched_by_all e.calls) (length es + 1) =
      carries.spends b (length es) so.spent runs in
      let same : clusters_in new.volume ≡ n = carries.clusters ∙ so.clusters in
      record {
        clusters = same;
        spent = spent_more new.volume (b + touched_by_all e.calls) (length es + 1)
            (touched_by_all (calls_of (es ++ e ∷ []))) (length (es ++ e ∷ [])) spent (omega (arith, total))
            (omega (arith, length-append es (e ∷ [])));
        bounded = bounded_more n 0 (b + touched_by_all e.calls) (state_of first) es e (omega (arith, total)) so.bounded
            (subst (λ (s : State). AreSpent n (b + touched_by_all e.calls) s) (sym left)
            (are_spent n (b + touched_by_all e.calls) (length es + 1) new.volume law same few spent));
      }
