-- Truth values that hold.
use Rattle.std.specs.Prelude.{◌≡◌, Bool, true, false, ◌&&◌, T, refl}

pub first_true : (a b : Bool) → T (a && b) → T a
first_true true b h = tt
first_true false b h = h

pub second_true : (a b : Bool) → T (a && b) → T b
second_true true b h = h
second_true false b h = absurd h

pub both_true : (a b : Bool) → T a → T b → T (a && b)
both_true true b p q = q
both_true false b p q = p

pub true_from : (b : Bool) → T b → b ≡ true
true_from true h = refl
true_from false h = absurd h

pub false_from : (b : Bool) → ¬ (T b) → b ≡ false
false_from true never = absurd (never tt)
false_from false never = refl
