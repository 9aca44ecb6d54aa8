-- A commit of the journal, as one of the tables.
use Rattle.std.specs.Prelude.{◌≡◌, ◌≤◌, ◌↔◌, ◌+◌, ◌&&◌, ◌||◌, if◌then◌else◌, ℕ, Bool, nat_lt, nat_eq, IsTrue}
use Rattle.std.specs.Prelude.{true, false, Result, Ok, Err, IsErrOf, refl}
use Rattle.std.proofs.Common.{sym, ◌∙◌, ap, subst, arith, eqb-true, eq-eqb}
use Rattle.meta_log.specs.Log.{needs_checkpoint}
use Rattle.meta_log.specs.Meta.{last_epoch}
use Rattle.meta_log.specs.declared.log.MetaLog.{MetaLog}
use Rattle.volume_tables.specs.Staging.{IsQuiet}
use Rattle.vdisk.specs.declared.disk.Disk.{Ghosts}
use Rattle.byte_map.specs.Words.{Map}
use Rattle.meta_log.specs.declared.fault.MetaFault.{MetaFault}
use Rattle.meta_log.specs.declared.fault.MetaFault.TheVariants.{GroupFull, TableFull, Worn, Damaged, Failed, Memory}
use Rattle.plain_volume.specs.declared.call.Fault.TheVariants as fault
use Rattle.volume_inside.specs.Layout.{half_bytes}
use Rattle.volume_inside.specs.Typed.{Typed, typed_of}
use Rattle.volume_inside.specs.Rules.{RulesHold, IsVolume}
use Rattle.volume_tables.specs.Log.{log_staged}
use Rattle.volume_tables.specs.Faults.{answer_of}
use Rattle.volume_tables.specs.Spelled.{are_well_formed}
use Rattle.volume_tables.specs.Tables.{due_of, would_wear}
use Rattle.volume_tables.specs.declared.tables.Tables.{Tables}
use Rattle.volume_tables.proofs.Keyed.{all_of_test, first_is, second_is, both_are}
use Rattle.volume_tables.proofs.WellFormed.{or_right}

-- the map of a journal whose ends of jobs are all staged
pub now_volume : (n : ℕ) (m : Map) (q : Typed) → typed_of m ≡ q → are_well_formed m ≡ true → RulesHold n q
    → IsVolume n m
now_volume n m q all spelled rules = record {
  spelled = all_of_test m spelled;
  rules = subst (λ (r : Typed). RulesHold n r) (sym all) rules;
}

-- where a commit was refused as worn, the next one is
pub worn_wears : {D : Type 0} {d : Ghosts D} (t : Tables D d) → t.worn ≡ true → IsTrue (would_wear t)
worn_wears t worn = ap (λ (w : Bool). w || later) worn
  where
    later : Bool
    later = (nat_lt 0 (due_of t) && nat_lt (half_bytes t.clusters) (t.log.place + (37 + due_of t)))
        && nat_eq t.log.epoch last_epoch

-- whether it is worn
module _ {D : Type 0} {d : Ghosts D} (t : Tables D d) (l : MetaLog D d) (quiet : IsQuiet t.log l)
    (due : log_staged l ≡ due_of t) where
  abbrev tight : ℕ → ℕ → ℕ → Bool
  tight due half place = nat_lt 0 due && nat_lt half (place + (37 + due))

  needs_same : needs_checkpoint l ≡ tight (due_of t) (half_bytes t.clusters) t.log.place
  needs_same =
      let half : l.half ≡ half_bytes t.clusters = quiet.place.half ∙ t.half in
      λ i. tight (due i) (half i) (quiet.place.next i)

  pub would_wear_by : t.worn ≡ false → (IsTrue (needs_checkpoint l) × (l.epoch ≡ last_epoch)) ↔ IsTrue (would_wear t)
  would_wear_by fresh =
      let needs = tight (due_of t) (half_bytes t.clusters) t.log.place in
      let last = nat_eq t.log.epoch last_epoch in
      let alone : would_wear t ≡ (needs && last) = ap (λ (w : Bool). w || (needs && last)) fresh in (
        λ both. or_right t.worn (needs && last) (both_are needs last (sym needs_same ∙ both.0)
            (eq-eqb t.log.epoch last_epoch (sym quiet.place.epoch ∙ both.1))),
        λ wears.
            let both : (needs && last) ≡ true = sym alone ∙ wears in (
              needs_same ∙ first_is needs last both,
              quiet.place.epoch
                  ∙ eqb-true t.log.epoch last_epoch (second_is needs last both),
            ),
      )

-- ---- what a commit answers

pub worn_back : (r : Result (Unit {0}) MetaFault) → IsErrOf (answer_of r) fault.Worn → IsErrOf r Worn
worn_back (Ok u) is = absurd (cc)
worn_back (Err GroupFull) is = absurd (cc)
worn_back (Err TableFull) is = absurd (cc)
worn_back (Err Worn) is = refl
worn_back (Err (Damaged h)) is = absurd (cc)
worn_back (Err Failed) is = absurd (cc)
worn_back (Err Memory) is = absurd (cc)

pub one_or_none : (b : Bool) → (if b then 1 else 0) ≤ 1
one_or_none true = omega arith
one_or_none false = omega arith
