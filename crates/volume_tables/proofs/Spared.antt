-- What a refused call leaves of the journal and the clusters, beside the tables.
use Rattle.std.specs.Prelude.{◌≡◌, ◌⊎◌, ◌≤◌, ◌<◌, ◌+◌, ℕ, Result, Ok, Err, OnOk, OnErr, IsErrOf, refl}
use Rattle.std.proofs.Common.{inl, inr, ap, subst, arith}
use Rattle.std.proofs.lemmas.Bool.{cases_lt}
use Rattle.vdisk.specs.declared.disk.Disk.{Ghosts}
use Rattle.plain_volume.specs.declared.call.Fault.{Fault}
use Rattle.plain_volume.specs.declared.call.Fault.TheVariants.{BadName, NoFile, Exists, OutsideFile, TooLarge, Worn}
use Rattle.plain_volume.specs.declared.call.Fault.TheVariants.{TableFull, Full, Failed, Damaged, Memory}
use Rattle.volume_tables.specs.Log.{log_epoch}
use Rattle.volume_tables.specs.declared.tables.Tables.{Tables}
use Rattle.volume_tables.specs.Sound.{IsSpared, Spares}

-- an epoch that rises where a call is done, and stands where it is refused
pub rises : (r : Result (Unit {0}) Fault) (old new more : ℕ) → OnOk r (new ≡ old + more) → OnErr r (new ≡ old)
    → old ≤ new
rises (Ok done) old new more ok err = omega (arith, ok)
rises (Err fault) old new more ok err = omega (arith, err)

pub spared_same : {S : Type 0} (epoch : S → ℕ) (fault : Fault) (s t : S) → t ≡ s → IsSpared epoch fault s t
spared_same epoch Worn s t same = ap epoch same
spared_same epoch BadName s t same = same
spared_same epoch NoFile s t same = same
spared_same epoch Exists s t same = same
spared_same epoch (OutsideFile length) s t same = same
spared_same epoch (TooLarge most) s t same = same
spared_same epoch TableFull s t same = same
spared_same epoch (Full asked left) s t same = same
spared_same epoch Failed s t same = tt
spared_same epoch (Damaged place) s t same = tt
spared_same epoch Memory s t same = tt

module _ {D : Type 0} {d : Ghosts D} where
  abbrev epoch_of : Tables D d → ℕ
  epoch_of t = log_epoch t.log

  -- nothing was done
  pub spares_start : (t : Tables D d) (r : Result (Unit {0}) Fault) → Spares t t r
  spares_start t r fault is = spared_same epoch_of fault t t refl

  module _ (t u : Tables D d) (r : Result (Unit {0}) Fault) where
    -- a commit was refused as worn, or the device failed
    pub spares_commit : OnErr r (IsErrOf r Worn ⊎ IsErrOf r Failed) → OnErr r (log_epoch u.log ≡ log_epoch t.log)
        → Spares t u r
    spares_commit refused same fault is = by r is refused same
      where
        by : (q : Result (Unit {0}) Fault) → q ≡ Err fault → OnErr q (IsErrOf q Worn ⊎ IsErrOf q Failed)
            → OnErr q (log_epoch u.log ≡ log_epoch t.log) → IsSpared epoch_of fault t u
        by (Ok done) is refused same = absurd (cc)
        by (Err f) is (inl worn) same =
            let at : Worn ≡ fault = cc in subst (λ (x : Fault). IsSpared epoch_of x t u) at same
        by (Err f) is (inr failed) same =
            let at : Failed ≡ fault = cc in subst (λ (x : Fault). IsSpared epoch_of x t u) at tt

    -- room was made, or refused
    pub spares_room : (free clusters : ℕ) → (free < clusters → u ≡ t)
        → (clusters ≤ free → OnErr r (IsErrOf r Worn ⊎ IsErrOf r Failed)) → OnErr r (log_epoch u.log ≡ log_epoch t.log)
        → Spares t u r
    spares_room free clusters untouched fits same fault is = elim (cases_lt free clusters) [
      | inl few ↦ spared_same epoch_of fault t u (untouched few)
      | inr enough ↦ spares_commit (fits enough) same fault is
    ]
