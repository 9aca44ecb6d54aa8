-- Calls that stage records, one after another.
use Rattle.std.specs.Prelude.{◌≡◌, ◌+◌, ℕ, length, Result, Ok, Err, OnOk}
use Rattle.std.proofs.Common.{◌∙◌, ap, subst, arith}
use Rattle.vdisk.specs.declared.disk.Disk.{Ghosts}
use Rattle.cluster_space.specs.States.{free_in, deferred_in}
use Rattle.volume_inside.specs.Named.{clusters_of}
use Rattle.volume_inside.specs.Typed.{Typed}
use Rattle.volume_tables.specs.Tables.{tables_now, disk_of, states_of, staged_of, stopped, Leaves}
use Rattle.volume_tables.specs.declared.tables.Tables.{Tables}
use Rattle.volume_tables.proofs.Leaving.{leaves_then}
use Rattle.volume_tables.specs.Stages.{if_ok, Stages}

-- what holds anyway
pub on_ok_any : {A E P : Type 0} (r : Result A E) → P → OnOk r P
on_ok_any (Ok a) holds = holds
on_ok_any (Err e) holds = tt

-- what holds where a result is Ok
pub as_ok : {A E : Type 0} (P : Type 0) (r : Result A E) (a : A) → r ≡ Ok a → OnOk r P → P
as_ok P r a is p = subst (λ q. OnOk q P) is p

module _ {D : Type 0} {d : Ghosts D} where
  pub stages_then : (next : (x y z : D) → d.is_same x y → d.is_same y z → d.is_same x z) (m n bytes : ℕ)
      (a b c : Tables D d)
      → Stages m a b → Stages n b c → m + n ≡ bytes → Stages bytes a c
  stages_then next m n bytes a b c first second sum = record {
    leaves = leaves_then next a b c first.leaves second.leaves;
    image = second.image ∙ first.image;
    running = second.running ∙ first.running;
    staged = omega (arith, first.staged, second.staged, sum);
    free = second.free ∙ first.free;
    counts = second.counts ∙ first.counts;
  }

  -- the same bytes, spelled otherwise
  pub stages_as : (m bytes : ℕ) (a b : Tables D d) → Stages m a b → m ≡ bytes → Stages bytes a b
  stages_as m bytes a b stages same = subst (λ (n : ℕ). Stages n a b) same stages

  -- what is staged where the call was answered Ok
  pub staged_ok : {A E : Type 0} (r : Result A E) (bytes n : ℕ) (a b : Tables D d) → Stages (if_ok r bytes) a b
      → bytes ≡ n → OnOk r (staged_of b ≡ staged_of a + n)
  staged_ok (Ok x) bytes n a b stages same = omega (arith, stages.staged, same)
  staged_ok (Err e) bytes n a b stages same = tt

  -- a call that leaves the extents
  pub quiet_stages : (bytes : ℕ) (a b : Tables D d) → Leaves a b → (disk_of b).image ≡ (disk_of a).image
      → stopped b ≡ stopped a → staged_of b ≡ staged_of a + bytes → states_of b ≡ states_of a
      → (q : Typed) → tables_now b ≡ q → clusters_of q ≡ clusters_of (tables_now a)
      → Stages bytes a b
  quiet_stages bytes a b leaves image running staged states q is same = record {
    leaves = leaves;
    image = image;
    running = running;
    staged = staged;
    free = λ i. free_in (states i);
    counts =
        let named = ap (λ (x : Typed). clusters_of x) is ∙ same in
        (λ i. free_in (states i) + deferred_in (states i) + length (named i));
  }
