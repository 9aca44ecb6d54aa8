-- The empty name is below all others.
use Rattle.std.specs.Prelude.{◌≡◌, ℕ, List, [], ◌∷◌, Option, Some, None, T, refl}
use Rattle.std.proofs.Common.{sym, ◌∙◌, ap}
use Rattle.std.specs.Ordering.{is_lt}
use Rattle.std.specs.FinMap.Entries.{find, is_sorted, below_all}
use Rattle.byte_map.specs.Words.{bytes_cmp, first_of}
use Rattle.groundwork.proofs.Bools.{first_true, second_true}

none_empty : (a : List ℕ) (es : List (List ℕ × ℕ)) → T (below_all bytes_cmp a es) → find bytes_cmp [] es ≡ None
none_empty a [] low = refl
none_empty [] (([], v) ∷ es) low = absurd low
none_empty (x ∷ a) (([], v) ∷ es) low = absurd low
none_empty a ((y ∷ b, v) ∷ es) low = none_empty a es (second_true (is_lt (bytes_cmp a (y ∷ b))) _ low)

-- where it is a name it is the first one
pub first_empty : (es : List (List ℕ × ℕ)) (v : ℕ) → T (is_sorted bytes_cmp es) → find bytes_cmp [] es ≡ Some v
    → first_of es ≡ Some ([], v)
first_empty [] v sorted found = absurd (cc)
first_empty (([], w) ∷ es) v sorted found = ap (λ (o : Option ℕ). entry o) found
  where
    entry : Option ℕ → Option (List ℕ × ℕ)
    entry None = None
    entry (Some x) = Some ([], x)
first_empty ((y ∷ b, w) ∷ es) v sorted found = absurd
    (let none = none_empty (y ∷ b) es (first_true _ _ sorted) in let clash : Some v ≡ None = sym found ∙ none in cc)
