use Rattle.std.specs.Prelude.{ℕ}
use Rattle.regression_chunker.specs.declared.cuts.Cut.{Cut}
use Rattle.regression_chunker.specs.declared.cuts.Cut.TheVariants.{At, NeedMore}

abbrev pub IfAt : Cut → (ℕ → Type 0) → Type 0
IfAt (At p) P = P p
IfAt NeedMore P = Unit {0}

abbrev pub IsNeedMore : Cut → Type 0
IsNeedMore (At p) = ⊥
IsNeedMore NeedMore = Unit {0}
