-- What a commit of the tables is for a volume.
use Rattle.std.specs.Prelude.{◌≡◌, ◌⊎◌, ◌↔◌, ◌+◌, ℕ, Bool, true, false, cond, IsTrue, length}
use Rattle.std.specs.Prelude.{Some, None, Result, Ok, Err, OnOk, OnErr, IsErrOf, refl}
use Rattle.std.proofs.Common.{inl, inr, sym, ap, ◌∙◌, subst, ⊎_elim, arith}
use Rattle.vdisk.specs.Causes.{Rose}
use Rattle.vdisk.specs.declared.disk.Disk.{Ghosts}
use Rattle.plain_volume.specs.Volume.{Volume}
use Rattle.plain_volume.specs.Step.{plain, after}
use Rattle.plain_volume.specs.Replies.{done_reply}
use Rattle.plain_volume.specs.declared.call.Call.TheVariants.{Flush}
use Rattle.plain_volume.specs.declared.call.Fault.{Fault}
use Rattle.plain_volume.specs.declared.call.Fault.TheVariants.{Worn, Failed, Damaged}
use Rattle.volume_inside.specs.Named.{clusters_of}
use Rattle.volume_inside.specs.Layout.{data_clusters}
use Rattle.volume_inside.specs.Rules.{RulesHold}
use Rattle.volume_inside.specs.Shows.{Area, Kept}
use Rattle.volume_inside.specs.Typed.{Typed}
use Rattle.volume_tables.specs.Wants.{IsReplied, reply_of}
use Rattle.cluster_space.specs.States.{free_in, deferred_in}
use Rattle.volume_tables.specs.Tables.{tables_now, inside_now, states_of, disk_of, area_of, clusters_in, stopped}
use Rattle.volume_tables.specs.Tables.{IsTables}
use Rattle.volume_tables.specs.declared.tables.Tables.{Tables}
use Rattle.volume_tables.proofs.Leaving.{area_same}
use Rattle.volume_tables.specs.Sound.{IsSound, IsKept}
use Rattle.volume_core.specs.Wants.{IsWant}
use Rattle.volume_tables.proofs.Mapped.{maps_same}

-- the reply to a flush, where it is known when a commit is refused
pub flush_reply : (v : Volume) (wears : Bool) (before now : ℕ) (r : Result (Unit {0}) Fault)
    → (IsErrOf r Worn ↔ IsTrue wears) → OnErr r (IsErrOf r Worn ⊎ IsErrOf r Failed)
    → (IsErrOf r Failed → Rose before now)
    → IsReplied (plain v Flush) (cond wears (Some Worn) None) before now (done_reply r)
flush_reply v true before now (Ok done) worn refused rose = absurd (let e : Ok done ≡ Err Worn = worn.1 refl in cc)
flush_reply v false before now (Ok done) worn refused rose = inl refl
flush_reply v wears before now (Err fault) worn refused rose = ⊎_elim
    (λ is. inl (by wears is (worn.0 is)))
    (λ is. inr (let e : fault ≡ Failed = cc in ap (λ (f : Fault). done_reply (Err f)) e, refl, rose is))
    refused
  where
    by : (b : Bool) → IsErrOf {T = Unit {0}} (Err fault) Worn → IsTrue b
        → done_reply (Err fault) ≡ reply_of (plain v Flush) (cond b (Some Worn) None)
    by true is wears = let e : fault ≡ Worn = cc in ap (λ (f : Fault). done_reply (Err f)) e
    by false is wears = absurd (cc)

pub flush_leaves : (v w : Volume) (r : Result (Unit {0}) Fault) → w ≡ v → w ≡ after v Flush (done_reply r)
flush_leaves v w (Ok done) same = same
flush_leaves v w (Err fault) same = same

-- a commit meets no lost cell
pub flush_undamaged : (r : Result (Unit {0}) Fault) → OnErr r (IsErrOf r Worn ⊎ IsErrOf r Failed) → (place : ℕ)
    → IsErrOf r (Damaged place) → ⊥
flush_undamaged (Ok done) refused place is = absurd (let clash : Ok done ≡ Err (Damaged place) = is in cc)
flush_undamaged (Err fault) refused place is = ⊎_elim
    (λ worn. absurd (let clash : Err (Damaged place) ≡ Err Worn = sym is ∙ worn in cc))
    (λ failed. absurd (let clash : Err (Damaged place) ≡ Err Failed = sym is ∙ failed in cc))
    refused

-- what is so whatever was answered
pub ok_known : (r : Result (Unit {0}) Fault) (P : Type 0) → P → OnOk r P
ok_known (Ok done) P known = known
ok_known (Err fault) P known = tt

pub err_known : (r : Result (Unit {0}) Fault) (P : Type 0) → P → OnErr r P
err_known (Ok done) P known = tt
err_known (Err fault) P known = known

-- only a commit that failed stops the tables
pub flush_stops : (b : Bool) (r : Result (Unit {0}) Fault) → OnOk r (b ≡ false)
    → OnErr r (IsErrOf r Worn ⊎ IsErrOf r Failed) → (IsErrOf r Worn → b ≡ false) → b ≡ true → IsErrOf r Failed
flush_stops b (Ok done) runs refused still is = absurd (let clash : true ≡ false = sym is ∙ runs in cc)
flush_stops b (Err fault) runs refused still is = ⊎_elim
    (λ worn. absurd (let clash : true ≡ false = sym is ∙ still worn in cc))
    (λ failed. failed)
    refused

pub flush_want : (wears : Bool) → IsWant Flush (cond wears (Some Worn) None)
flush_want true = refl
flush_want false = tt

module _ {D : Type 0} {d : Ghosts D} (a b : Tables D d) where
  -- the tables now are kept
  pub kept_now : (w : Volume) → clusters_in b ≡ clusters_in a → IsTables b (tables_now a)
      → Kept (area_of a) (disk_of b) w → IsKept b w
  kept_now w clusters is kept = record {
    stored = tables_now a;
    tables = is;
    kept = subst (λ (x : Area). Kept x (disk_of b) w) (sym (area_same a b clusters)) kept;
  }

  -- tables that are the same are as sound
  pub sound_still : IsSound a → clusters_in b ≡ clusters_in a → tables_now b ≡ tables_now a
      → inside_now b ≡ inside_now a → (disk_of b).tells ≡ (disk_of a).tells
      → (stopped b ≡ false → free_in (states_of b) + deferred_in (states_of b)
      ≡ free_in (states_of a) + deferred_in (states_of a)) → (stopped b ≡ false → stopped a ≡ false) → IsSound b
  sound_still sound clusters now inside tells counts ran =
      let rules : RulesHold (clusters_in b) (tables_now b) =
      subst (λ (p : ℕ × Typed). RulesHold p.0 p.1) (λ i. (sym clusters i, sym now i)) sound.rules in
      record {
        rules = rules;
        maps = maps_same a b tells inside sound.maps;
        counted = λ runs. subst
            (λ (p : ℕ × Typed). free_in (states_of b) + deferred_in (states_of b) + length (clusters_of p.1)
            ≡ data_clusters p.0)
            (λ i. (sym clusters i, sym now i))
            (let was = sound.counted (ran runs) in omega (arith, was, counts runs));
      }
