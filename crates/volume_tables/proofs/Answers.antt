-- Answers that are Ok or Err.
use Rattle.std.specs.Prelude.{◌≡◌, ◌⊎◌, Bool, true, false, T, Result, Ok, Err, OnOk, OnErr, IsOk, refl}
use Rattle.std.proofs.Common.{inl, inr, sym, subst}

pub ok_or_err : {A E P Q : Type 0} (r : Result A E) → OnOk r P → OnErr r Q → P ⊎ Q
ok_or_err (Ok a) p q = inl p
ok_or_err (Err e) p q = inr q

-- what an answer promises, where it is Ok
pub on_ok : {A E P : Type 0} (r : Result A E) → IsOk r → OnOk r P → P
on_ok (Ok a) is p = p
on_ok (Err e) is p = absurd (cc)

pub as_true : {b : Bool} → b ≡ true → T b
as_true is = subst (λ (c : Bool). T c) (sym is) tt

pub true_as : {b : Bool} → T b → b ≡ true
true_as {b} is = by b is
  where
    by : (c : Bool) → T c → c ≡ true
    by true p = refl
    by false p = absurd p
