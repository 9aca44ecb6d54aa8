-- How what every call keeps goes on from step to step.
use Rattle.std.specs.Prelude.{◌≡◌, ◌≤◌, ◌+◌, true, false, IsTrue, refl}
use Rattle.std.proofs.Common.{inl, inr, sym, ◌∙◌, subst, ⊎_elim, arith}
use Rattle.vdisk.specs.Steps.{Keeps, keeps_as, keeps_then, keeps_start}
use Rattle.vdisk.specs.declared.disk.Disk.{Ghosts}
use Rattle.plain_volume.specs.Volume.{Volume}
use Rattle.volume_inside.specs.Shows.{Area, Shows, Kept, ShowsEither}
use Rattle.volume_inside.specs.Typed.{Typed}
use Rattle.volume_tables.specs.Log.{log_epoch, IsSameLog}
use Rattle.volume_tables.specs.Tables.{tables_now, view_now, disk_of, area_of, stopped, would_wear}
use Rattle.volume_tables.specs.Tables.{IsTables, Leaves, GoesOn}
use Rattle.volume_tables.specs.declared.tables.Tables.{Tables}
use Rattle.volume_tables.proofs.Committing.{worn_wears}
use Rattle.volume_tables.proofs.Leaving.{area_same}
use Rattle.volume_tables.specs.Sound.{IsKept, Endures}

module _ {D : Type 0} {d : Ghosts D} where
  -- nothing was done
  pub endures_start : ((x : D) → d.is_same x x) → (a : Tables D d) → Endures a a
  endures_start self a = record {
    clusters = refl;
    moments = λ w kept. keeps_start (disk_of a) (ShowsEither (area_of a) w (view_now a))
        (λ image left. inl (kept.kept image left));
    kept = λ w kept runs. inl kept;
    later = omega arith;
    same = self a.log.disk;
    stands = omega arith;
    epoch = λ runs. omega arith;
    worn = λ runs worn. worn_wears a worn;
  }

  -- room was made, or refused
  pub endures_room : (a b : Tables D d) → b.clusters ≡ a.clusters
      → ((stored : Typed) (w : Volume) → IsTables a stored → Kept (area_of a) (disk_of a) w
      → Keeps (disk_of a) (disk_of b) (ShowsEither (area_of a) w (view_now a)))
      → ((stored : Typed) (w : Volume) → IsTables a stored → Kept (area_of a) (disk_of a) w → stopped b ≡ false
      → GoesOn a b stored w)
      → (disk_of a).faults ≤ (disk_of b).faults → IsSameLog a.log b.log → log_epoch a.log ≤ log_epoch b.log
      → (stopped b ≡ false → log_epoch b.log ≤ log_epoch a.log + 1) → (stopped b ≡ false → b.worn ≡ true → IsTrue (would_wear a))
      → Endures a b
  endures_room a b clusters moments goes_on later same stands epoch tires = record {
    clusters = clusters;
    moments = λ w kept. moments kept.stored w kept.tables kept.kept;
    kept = λ w kept runs.
        ⊎_elim
        (λ was. inl (by w kept.stored was.0 was.1))
        (λ now. inr (by (view_now a) (tables_now a) now.0 now.1))
        (goes_on kept.stored w kept.tables kept.kept runs);
    later = later;
    same = same;
    stands = stands;
    epoch = epoch;
    worn = tires;
  }
    where
      by : (w : Volume) (stored : Typed) → IsTables b stored → Kept (area_of a) (disk_of b) w → IsKept b w
      by w stored is kept = record {
        stored = stored;
        tables = is;
        kept = subst (λ (x : Area). Kept x (disk_of b) w) (sym (area_same a b clusters)) kept;
      }

  -- after that come calls that make nothing durable
  pub endures_leaves : ((x y z : D) → d.is_same x y → d.is_same y z → d.is_same x z) → (a b c : Tables D d)
      → Endures a b → stopped b ≡ false → Leaves b c → Endures a c
  endures_leaves next a b c first runs second = record {
    clusters = second.clusters ∙ first.clusters;
    moments = λ w kept.
        let one = first.moments w kept in
        let two = ⊎_elim
        (λ (was : IsKept b w). keeps_as (disk_of b) (disk_of c) (Shows (area_of b) w)
        (ShowsEither (area_of b) w (view_now a)) (λ image shows. inl shows) (leaves_kept w was).0)
        (λ (now : IsKept b (view_now a)). keeps_as (disk_of b) (disk_of c) (Shows (area_of b) (view_now a))
        (ShowsEither (area_of b) w (view_now a)) (λ image shows. inr shows) (leaves_kept (view_now a) now).0)
        (first.kept w kept runs) in
        keeps_then (disk_of a) (disk_of b) (disk_of c) (ShowsEither (area_of a) w (view_now a)) one
        (subst (λ (x : Area). Keeps (disk_of b) (disk_of c) (ShowsEither x w (view_now a)))
        (area_same a b first.clusters) two);
    kept = λ w kept run.
        ⊎_elim (λ was. inl (leaves_kept w was).1) (λ now. inr (leaves_kept (view_now a) now).1)
        (first.kept w kept runs);
    later = omega (arith, first.later, second.later);
    same = next a.log.disk b.log.disk c.log.disk first.same second.same;
    stands = omega (arith, first.stands, second.epoch);
    epoch = λ run. let one = first.epoch runs in omega (arith, one, second.epoch);
    worn = λ run worn. first.worn runs (sym second.worn ∙ worn);
  }
    where
      leaves_kept : (w : Volume) → IsKept b w → Keeps (disk_of b) (disk_of c) (Shows (area_of b) w) × IsKept c w
      leaves_kept w kept =
          let run = second.moments kept.stored w kept.tables kept.kept in (
            run,
            record {
              stored = kept.stored;
              tables = second.tables kept.stored kept.tables;
              kept = subst (λ (x : Area). Kept x (disk_of c) w) (sym (area_same b c second.clusters)) run.now;
            },
          )
