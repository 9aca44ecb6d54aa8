-- A call of a disk in memory that changed neither its bytes nor its record.
use Rattle.std.proofs.Common.{◌≡◌, ℕ, ◌≤◌, ◌<◌, ◌^◌, List, length, reverse, get_or, Err, sym, ap, subst, arith, refl}
use Rattle.std.proofs.lemmas.List.{take_all}
use Rattle.vdisk.specs.Causes.{HasCause}
use Rattle.vdisk.specs.Disk.{ChangedWithin, GrownTo, Follows}
use Rattle.vdisk.specs.Faults.{counted_on}
use Rattle.vdisk.specs.Past.{LeftByCrash, byte_at_sync}
use Rattle.vdisk.specs.declared.record.Event.{Event}
use Rattle.vdisk.proofs.Past.{GoesOn, same_past}

-- a refusal counts one more fault
pub counted_cause : {T E : Type 0} (before now : ℕ) (e : E) → before < 2 ^ 64 → now ≡ counted_on before
    → HasCause {T = T} before now (Err e)
counted_cause before now e fits is = record { later = omega (arith, fits, is); failed = omega (arith, is) }

pub unchanged : (at n : ℕ) (x : List ℕ) → ChangedWithin at n x x
unchanged at n x = record { before = refl; after = refl; size = refl }

pub grown_same : (to : ℕ) (x : List ℕ) → length x ≤ to → GrownTo to x x
grown_same to x fits = record { front = take_all (length x) x (omega arith); no_shorter = omega arith; no_longer = fits }

module _ (x y : List ℕ) (events events' : List Event) (is : y ≡ x) (same : events' ≡ events) where
  pub still_on : (m : ℕ) → GoesOn m x (reverse events) y (reverse events')
  still_on m = same_past m x (reverse events) y (reverse events') is (ap reverse same)

  pub still_left : (c : List ℕ) → LeftByCrash y (reverse events') c → LeftByCrash x (reverse events) c
  still_left c left = subst (λ (p : List ℕ × List Event). LeftByCrash p.0 (reverse p.1) c) (λ i. (is i, same i)) left

  pub left_still : (c : List ℕ) → LeftByCrash x (reverse events) c → LeftByCrash y (reverse events') c
  left_still c left =
      subst (λ (p : List ℕ × List Event). LeftByCrash p.0 (reverse p.1) c) (λ i. (sym is i, sym same i)) left

  pub still_synced : (k : ℕ)
      → byte_at_sync (reverse events') k (get_or y k 0) ≡ byte_at_sync (reverse events) k (get_or x k 0)
  still_synced k = λ i. byte_at_sync (reverse (same i)) k (get_or (is i) k 0)

  pub still_grown : (to : ℕ) → length x ≤ to → GrownTo to x y
  still_grown to fits = subst (λ (l : List ℕ). GrownTo to x l) (sym is) (grown_same to x fits)

  pub still_grows : (to : ℕ) → length x ≤ to
      → Follows (GrownTo to) (LeftByCrash x (reverse events)) (LeftByCrash y (reverse events'))
  still_grows to fits c left =
      let was = still_left c left in (c, was, grown_same to c (omega (arith, was.size, fits)))

  pub still_changed : (at n : ℕ) → ChangedWithin at n x y
  still_changed at n = subst (λ (l : List ℕ). ChangedWithin at n x l) (sym is) (unchanged at n x)

  pub still_changes : (at n : ℕ)
      → Follows (ChangedWithin at n) (LeftByCrash x (reverse events)) (LeftByCrash y (reverse events'))
  still_changes at n c left = (c, still_left c left, unchanged at n c)
