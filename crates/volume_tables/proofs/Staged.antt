-- Answers of the journal, as the tables hand them on.
use Rattle.std.specs.Prelude.{◌≡◌, ◌⊎◌, ◌↔◌, ◌≤◌, ◌<◌, ℕ, Result, Ok, Err, IsOk, IsErrOf, OnOk, OnErr, refl}
use Rattle.std.proofs.Common.{inl, inr, sym, ap, subst, arith}
use Rattle.plain_volume.specs.declared.call.Fault.{Fault}
use Rattle.plain_volume.specs.declared.call.Fault.TheVariants as fault
use Rattle.meta_log.specs.declared.fault.MetaFault.{MetaFault}
use Rattle.meta_log.specs.declared.fault.MetaFault.TheVariants.{GroupFull, TableFull, Worn, Damaged, Failed, Memory}
use Rattle.volume_tables.specs.Faults.{IsHandedOn, answer_of}

-- a range that fits is dropped
pub drop_fits : {n : ℕ} (r : Result (Unit {0}) MetaFault) → (IsErrOf r GroupFull ↔ (65536 < n))
    → OnErr r (IsErrOf r GroupFull) → n ≤ 65536 → IsOk r
drop_fits (Ok u) full refused fits = refl
drop_fits (Err e) full refused fits = absurd (let past = full.0 refused in omega (arith, past, fits))

-- ---- answers that are handed on

-- a put that fits the group
pub put_handed : {n : ℕ} (r : Result (Unit {0}) MetaFault) → (IsErrOf r GroupFull ↔ (65536 < n)) → n ≤ 65536
    → OnErr r (IsErrOf r GroupFull ⊎ (IsErrOf r TableFull ⊎ IsErrOf r Memory)) → IsHandedOn r
put_handed (Ok u) full fits refused = tt
put_handed (Err GroupFull) full fits refused = absurd (let past = full.0 refl in omega (arith, past, fits))
put_handed (Err TableFull) full fits refused = tt
put_handed (Err Worn) full fits refused = tt
put_handed (Err (Damaged h)) full fits (inl clash) = absurd (cc)
put_handed (Err (Damaged h)) full fits (inr (inl clash)) = absurd (cc)
put_handed (Err (Damaged h)) full fits (inr (inr clash)) = absurd (cc)
put_handed (Err Failed) full fits refused = tt
put_handed (Err Memory) full fits refused = tt

-- a commit
pub commit_handed : (r : Result (Unit {0}) MetaFault) → OnErr r (IsErrOf r Worn ⊎ IsErrOf r Failed) → IsHandedOn r
commit_handed (Ok u) refused = tt
commit_handed (Err GroupFull) (inl clash) = absurd (cc)
commit_handed (Err GroupFull) (inr clash) = absurd (cc)
commit_handed (Err TableFull) refused = tt
commit_handed (Err Worn) refused = tt
commit_handed (Err (Damaged h)) (inl clash) = absurd (cc)
commit_handed (Err (Damaged h)) (inr clash) = absurd (cc)
commit_handed (Err Failed) refused = tt
commit_handed (Err Memory) refused = tt

-- bytes that are read or written
pub data_handed : (P : Type 0) (r : Result (Unit {0}) MetaFault) → OnErr r (IsErrOf r Failed × P) → IsHandedOn r
data_handed P (Ok u) failed = tt
data_handed P (Err GroupFull) failed = absurd (let clash = failed.0 in cc)
data_handed P (Err TableFull) failed = tt
data_handed P (Err Worn) failed = tt
data_handed P (Err (Damaged h)) failed = absurd (let clash = failed.0 in cc)
data_handed P (Err Failed) failed = tt
data_handed P (Err Memory) failed = tt

pub answer_ok : (P : Type 0) (r : Result (Unit {0}) MetaFault) → OnOk r P → OnOk (answer_of r) P
answer_ok P (Ok u) p = p
answer_ok P (Err e) p = tt

pub answer_err : (P : Type 0) (r : Result (Unit {0}) MetaFault) → OnErr r P → OnErr (answer_of r) P
answer_err P (Ok u) p = tt
answer_err P (Err e) p = p

pub answer_is_ok : (r : Result (Unit {0}) MetaFault) → IsOk r → IsOk (answer_of r)
answer_is_ok (Ok u) is = refl
answer_is_ok (Err e) is = absurd (cc)

pub answer_full : {P : Type 0} (r : Result (Unit {0}) MetaFault) → (IsErrOf r TableFull ↔ P)
    → IsErrOf (answer_of r) fault.TableFull ↔ P
answer_full {P} r full = (λ is. full.0 (back r is), λ p. ap answer_of (full.1 p))
  where
    back : (r : Result (Unit {0}) MetaFault) → IsErrOf (answer_of r) fault.TableFull → IsErrOf r TableFull
    back (Ok u) is = absurd (cc)
    back (Err GroupFull) is = absurd (cc)
    back (Err TableFull) is = refl
    back (Err Worn) is = absurd (cc)
    back (Err (Damaged h)) is = absurd (cc)
    back (Err Failed) is = absurd (cc)
    back (Err Memory) is = absurd (cc)

-- a put that fits the group
pub put_refused : {n : ℕ} (r : Result (Unit {0}) MetaFault) → (IsErrOf r GroupFull ↔ (65536 < n)) → n ≤ 65536
    → OnErr r (IsErrOf r GroupFull ⊎ (IsErrOf r TableFull ⊎ IsErrOf r Memory))
    → OnErr (answer_of r) (IsErrOf (answer_of r) fault.TableFull ⊎ IsErrOf (answer_of r) fault.Memory)
put_refused (Ok u) full fits refused = tt
put_refused (Err e) full fits (inl group) = absurd (let past = full.0 group in omega (arith, past, fits))
put_refused (Err e) full fits (inr (inl table)) = inl (ap answer_of table)
put_refused (Err e) full fits (inr (inr memory)) = inr (ap answer_of memory)

pub answer_failed : (P : Type 0) (r : Result (Unit {0}) MetaFault) → OnErr r (IsErrOf r Failed × P)
    → OnErr (answer_of r) (IsErrOf (answer_of r) fault.Failed × P)
answer_failed P (Ok u) failed = tt
answer_failed P (Err e) failed = (ap answer_of failed.0, failed.1)

-- what the journal promises of an Ok, the tables do
pub handed_ok : (P : Type 0) (r : Result (Unit {0}) MetaFault) (result : Result (Unit {0}) Fault) → result ≡ answer_of r
    → OnOk r P → OnOk result P
handed_ok P r result is p = subst (λ (a : Result (Unit {0}) Fault). OnOk a P) (sym is) (answer_ok P r p)

pub handed_err : (P : Type 0) (r : Result (Unit {0}) MetaFault) (result : Result (Unit {0}) Fault)
    → result ≡ answer_of r → OnErr r P → OnErr result P
handed_err P r result is p = subst (λ (a : Result (Unit {0}) Fault). OnErr a P) (sym is) (answer_err P r p)

-- and where the tables answered Ok, the journal did
pub handed_back : (P : Type 0) (r : Result (Unit {0}) MetaFault) (u : Unit {0}) → Ok u ≡ answer_of r → OnOk r P → P
handed_back P (Ok v) u is p = p
handed_back P (Err e) u is p = absurd (cc)
